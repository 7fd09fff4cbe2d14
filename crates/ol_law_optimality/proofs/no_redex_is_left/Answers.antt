use Rattle.ol_law_optimality.proofs.no_redex_is_left.Goals as goal
use Rattle.ol_law_optimality.proofs.Nothing as nothing

pub returns : goal.returns
returns g c = nothing.no_redex_is_left
