use Rattle.ol_derivations.proofs.Unique as proof
use Rattle.ol_derivations.proofs.laws.one_answer.Goals as goal

pub returns : goal.returns
returns c = proof.one_answer
