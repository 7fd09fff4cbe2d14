use Rattle.std.proofs.Common.{◌≡◌, length, sym, ap, ◌∙◌, subst, arith}
use Rattle.ol_wire.specs.declared.layout.Parts.{Parts}
use Rattle.ol_wire.specs.declared.view.View.{View}
use Rattle.ol_wire.specs.Moments.{Moment}
use Rattle.ol_wire.specs.Stand.{SeatState, TableState}
use Rattle.ol_wire.proofs.Steps.Sight.{entries_below, entries_above}
use Rattle.ol_wire.proofs.shared.Shared.events.Goals as goal
use Rattle.ol_wire.proofs.shared.Shared.events.Goals.{then-drawn-self, else-drawn-self}

pub returns-clause-moment : goal.returns-clause-moment
returns-clause-moment c =
    let p = c.args.self.now.plan in
    let v : View = c.seat.inside.token.me.0 in
    let parts : c.self.inside.parts ≡ p.parts = sym c.self.invariant.0
    ∙ ap (λ (b : TableState). b.plan.parts) c.self.view_is in
    let fuel : c.self.inside.parts.fuel ≡ p.parts.fuel = ap (λ (z : Parts). z.fuel) parts in
    let m = c.read_tickets-drawn.ensures.moment in
    let all : length m.0.kept.log ≡ c.if-drawn-self.result = elim c.if-drawn-self.branch [
      | then-drawn-self w ↦ entries_below p v c.read_tickets-drawn.result m.0 m.1
          (omega (arith, w.if-drawn-self.true, fuel)) ∙ sym w.result-is
      | else-drawn-self w ↦ entries_above p v c.read_tickets-drawn.result m.0 m.1
          (omega (arith, w.if-drawn-self.false, fuel)) ∙ sym fuel ∙ sym w.result-is
    ] in
    subst (λ (u : View). (n : Moment p u) × (length n.kept.log ≡ c.if-drawn-self.result))
    (ap (λ (s : SeatState). s.view) c.seat.view_is) (m.0, all)
