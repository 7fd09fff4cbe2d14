-- The law of a term's net and its spots.
use Rattle.ol_law_meaning.proofs.net_and_spots.Goals as goal
use Rattle.ol_law_meaning.proofs.Followed.{net_and_spots, path_is_trail}

pub returns-clause-same : goal.returns-clause-same
returns-clause-same g = λ τ t names h p q c d. net_and_spots τ t names h p q c d

pub returns-clause-weight : goal.returns-clause-weight
returns-clause-weight g = λ τ t names h p q c d r. path_is_trail τ t names h p q c d r
