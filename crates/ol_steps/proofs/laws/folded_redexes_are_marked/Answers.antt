use Rattle.ol_steps.proofs.Marked.{folded_redex_is_marked, unfolds_to_next}
use Rattle.ol_steps.proofs.laws.folded_redexes_are_marked.Goals as goal

pub returns-clause-marked : goal.returns-clause-marked
returns-clause-marked c = folded_redex_is_marked

pub returns-clause-unfolded : goal.returns-clause-unfolded
returns-clause-unfolded c = unfolds_to_next
