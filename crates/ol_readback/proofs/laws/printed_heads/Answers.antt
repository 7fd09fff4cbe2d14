use Rattle.ol_readback.proofs.Sources.{printed}
use Rattle.ol_readback.proofs.laws.printed_heads.Goals as goal

pub returns : goal.returns
returns g c = printed
