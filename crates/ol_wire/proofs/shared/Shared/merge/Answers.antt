use Rattle.std.proofs.Common.{◌<◌, sym, ap, ◌∙◌, arith}
use Rattle.atomic_table.specs.Table.{Me}
use Rattle.ol_wire.specs.declared.view.View.{View}
use Rattle.ol_wire.specs.Stand.{TableState}
use Rattle.ol_wire.proofs.Steps.Join.{join_allowed}
use Rattle.ol_wire.proofs.LinkSteps.Allowed.{reads_tickets_joined_allowed}
use Rattle.ol_wire.proofs.shared.Shared.merge.Goals as goal

pub join_seat-requires : goal.join_seat-requires
join_seat-requires c =
    let t = c.self.inside.table.shared in
    let into = c.args.into.now in
    let from = c.args.from in
    let table = ap (λ (b : TableState). b.table) c.self.view_is in (
      c.requires.into.0 ∙ sym table,
      c.requires.from.0 ∙ sym table,
      c.requires.from.1,
      omega (arith, c.self.invariant.2),
      join_allowed t.key into.id into.me.0 from.id from.me.0
          c.requires.idle.0 c.requires.idle.1 c.requires.into.1.2,
    )

pub load-requires : goal.load-requires
load-requires c =
    let t = c.self.inside.table.shared in
    let me = c.join_seat.new.seat in
    let e = c.join_seat.ensures in
    let held : 0 < me.me.0.holds = omega (arith, c.requires.into.1.2, ap (λ (x : Me (Unit {0}) View). x.0.holds) e.2) in (
      e.0 ∙ c.requires.into.0 ∙ sym (ap (λ (b : TableState). b.table) c.self.view_is),
      omega (arith, c.self.invariant.2),
      reads_tickets_joined_allowed t.key t.table_id.slots me.id me.me held,
    )

pub returns-clause-few : goal.returns-clause-few
returns-clause-few c =
    let e = c.join_seat.ensures.2 in
    omega (
      arith,
      c.load.ensures.2.2,
      ap (λ (x : Me (Unit {0}) View). x.0.holds) e,
      ap (λ (x : Me (Unit {0}) View). x.0.seats) e,
      c.requires.into.1.1,
      c.self.invariant.5,
      ap (λ (b : TableState). b.plan.seats) c.self.view_is,
      c.self.invariant.1,
    )
