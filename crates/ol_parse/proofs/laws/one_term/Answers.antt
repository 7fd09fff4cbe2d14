use Rattle.ol_parse.proofs.Whole.{one_term}
use Rattle.ol_parse.proofs.laws.one_term.Goals as goal

pub returns : goal.returns
returns c = one_term
