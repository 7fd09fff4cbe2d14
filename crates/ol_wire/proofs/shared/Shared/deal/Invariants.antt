use Rattle.std.proofs.Common.{◌≡◌, ◌+◌, ◌-◌, All, vec_len}
use Rattle.ol_wire.specs.Views.{fresh}
use Rattle.ol_wire.specs.Stand.{IsNewSeat}
use Rattle.ol_wire.proofs.shared.Shared.deal.Given as goal

abbrev pub invariant-loop : goal.invariant-loop
invariant-loop l = (l.seat.table ≡ l.fn.self.table)
    × (l.seat.view ≡ fresh l.fn.self.plan.parts l.fn.self.plan.start.value l.fn.self.plan.seats
    (l.fn.count + 1 - l.counter)) × (vec_len l.seats + 1 ≡ l.counter) × All (IsNewSeat l.fn.self) l.seats.items
