use Rattle.ol_law_levels.proofs.Stuck as stuck
use Rattle.ol_law_levels.proofs.stuck_pairs_are_of_sharing.Goals as goal

pub returns : goal.returns
returns t c = λ N L f g s. stuck.stuck_of_sharing N L f g s
