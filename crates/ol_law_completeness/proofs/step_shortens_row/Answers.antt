use Rattle.ol_law_completeness.proofs.step_shortens_row.Goals as goal
use Rattle.ol_law_completeness.proofs.Costs.{step_shortens}

pub returns : goal.returns
returns g c = step_shortens
