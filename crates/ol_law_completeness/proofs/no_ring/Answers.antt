use Rattle.ol_law_completeness.proofs.NoRing as rings
use Rattle.ol_law_completeness.proofs.no_ring.Goals as goal

pub returns : goal.returns
returns c = rings.no_ring
