use Rattle.std.proofs.Common.{refl, sym, subst}
use Rattle.ol_places.specs.Wanted.{IsStopAt}
use Rattle.ol_places.proofs.Stops.{text_begins, end_begins, begins_end}
use Rattle.ol_places.proofs.stopping.begins.Goals as goal

pub returns-in-None : goal.returns-in-None
returns-in-None c =
    let (t, i) = subst (IsStopAt c.args.bytes.now) c.in-None.is c.in_ok-dead_place.ensures in
    (λ _. text_begins c.args.bytes.now t i, λ _. refl)
