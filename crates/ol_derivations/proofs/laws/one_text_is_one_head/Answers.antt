use Rattle.ol_derivations.proofs.OneTextOneHead.{one_text_is_one_head}
use Rattle.ol_derivations.proofs.laws.one_text_is_one_head.Goals as goal

pub returns : goal.returns
returns c = one_text_is_one_head
