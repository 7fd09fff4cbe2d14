-- The law of what is told of sources.
use Rattle.ol_cli.proofs.SourceTrees.{comparison_tells_sources, lost_tells_sources}
use Rattle.ol_cli.proofs.VerdictTexts.{certify_never_differs, certify_tells_verdict}
use Rattle.ol_cli.proofs.laws.sources_are_told.Goals as goal

pub returns-clause-equal : goal.returns-clause-equal
returns-clause-equal c = comparison_tells_sources

pub returns-clause-lost : goal.returns-clause-lost
returns-clause-lost c = lost_tells_sources

pub returns-clause-certify : goal.returns-clause-certify
returns-clause-certify c = certify_never_differs

pub returns-clause-verdict : goal.returns-clause-verdict
returns-clause-verdict c = certify_tells_verdict
