use Rattle.ol_decoding.proofs.Heads.{heads_are_of_source}
use Rattle.ol_decoding.proofs.laws.parts_have_source_heads.Goals as goal

pub returns : goal.returns
returns c = heads_are_of_source
