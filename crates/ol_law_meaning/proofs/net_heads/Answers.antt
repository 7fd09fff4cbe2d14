-- The law of heads over a term's net.
use Rattle.ol_law_meaning.proofs.net_heads.Goals as goal
use Rattle.ol_law_meaning.proofs.Rooted.{path_finds, head_has_path}

pub returns-clause-found : goal.returns-clause-found
returns-clause-found g = λ τ t names h q n c d e r. path_finds τ t names h q n c d e r

pub returns-clause-reached : goal.returns-clause-reached
returns-clause-reached g = λ τ t names h u m s q a j k c e. head_has_path τ t names h u m s q a j k c e
