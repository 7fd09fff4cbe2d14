use Rattle.ol_parse.proofs.Exact.{one_file}
use Rattle.ol_parse.proofs.laws.one_file.Goals as goal

pub returns : goal.returns
returns c = one_file
