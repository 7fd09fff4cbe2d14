use Rattle.std.proofs.Common.{◌≡◌, sym, ap, ◌∙◌, arith}
use Rattle.ol_wire.specs.Stand.{SeatState, TableState}
use Rattle.ol_wire.specs.declared.view.View.{View}
use Rattle.ol_wire.proofs.Steps.Cut.{cut_allowed}
use Rattle.ol_wire.proofs.shared.Shared.cut.Goals as goal

pub split_seat-token-requires : goal.split_seat-token-requires
split_seat-token-requires c =
    let t = c.self.inside.table.shared in
    let me = c.seat.inside.token in
    let of : me.table_id ≡ t.table_id = ap (λ (x : SeatState). x.table) c.seat.view_is
    ∙ c.requires.table ∙ sym (ap (λ (b : TableState). b.table) c.self.view_is) in
    let view : me.me.0 ≡ c.args.seat.now.view = ap (λ (x : SeatState). x.view) c.seat.view_is in (
      of,
      omega (arith, c.self.invariant.2),
      cut_allowed t.key me.id me.me.0 (omega
          (arith, c.requires.holds.0, ap (λ (v : View). v.holds) view))
          (ap (λ (v : View). v.over) view ∙ c.requires.holds.1)
          (ap (λ (v : View). v.swept) view ∙ c.requires.unswept) c.seat.invariant.1,
    )
