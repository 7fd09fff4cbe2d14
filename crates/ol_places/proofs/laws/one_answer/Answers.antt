use Rattle.ol_places.proofs.Unique as unique
use Rattle.ol_places.proofs.laws.one_answer.Goals as goal

pub returns : goal.returns
returns c = unique.one_answer
