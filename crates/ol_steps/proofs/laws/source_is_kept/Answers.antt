use Rattle.ol_steps.proofs.SourceNames.{source_is_kept}
use Rattle.ol_steps.proofs.laws.source_is_kept.Goals as goal

pub returns : goal.returns
returns c = source_is_kept
