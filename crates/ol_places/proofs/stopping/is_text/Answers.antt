use Rattle.std.proofs.Common.{refl, sym, subst}
use Rattle.ol_places.specs.Wanted.{IsStopAt}
use Rattle.ol_places.proofs.stopping.is_text.Goals as goal

pub returns-in-None : goal.returns-in-None
returns-in-None c = (λ _. subst (IsStopAt c.args.bytes.now) c.in-None.is c.in_ok-dead_place.ensures, λ _. refl)

pub returns-in-Some : goal.returns-in-Some
returns-in-Some c = (
  λ e. absurd (cc),
  λ t. let stop = subst (IsStopAt c.args.bytes.now) c.in-Some.is c.in_ok-dead_place.ensures in
      absurd (stop.0 t.0 t.1),
)
