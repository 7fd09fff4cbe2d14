use Rattle.ol_law_completeness.proofs.chain_is_on_path.Goals as goal
use Rattle.ol_law_completeness.proofs.Tracing.{chain_is_on_path, chains_meet_alike}

pub returns-clause-path : goal.returns-clause-path
returns-clause-path g c = chain_is_on_path

pub returns-clause-alike : goal.returns-clause-alike
returns-clause-alike g c = chains_meet_alike
