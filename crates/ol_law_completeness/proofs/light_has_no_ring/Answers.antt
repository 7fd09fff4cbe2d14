use Rattle.ol_law_completeness.proofs.Rings as rings
use Rattle.ol_law_completeness.proofs.light_has_no_ring.Goals as goal

pub returns : goal.returns
returns t c = λ N m net w p ring. rings.light_has_no_ring N m net w p ring
