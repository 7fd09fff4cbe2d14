use Rattle.std.proofs.Common.{◌≡◌, sym, ap, ◌∙◌, arith}
use Rattle.ol_wire.specs.Stand.{TableState}
use Rattle.ol_wire.proofs.Steps.LiveAllowed.{owes_allowed}
use Rattle.ol_wire.proofs.shared.Shared.owe.Goals as goal

pub fetch_add-requires : goal.fetch_add-requires
fetch_add-requires c =
    let t = c.self.inside.table.shared in
    let me = c.args.token.now in
    let of : me.table_id ≡ t.table_id = c.requires.token.0 ∙ sym (ap (λ (b : TableState). b.table) c.self.view_is) in (
      of,
      omega (arith, c.self.invariant.2),
      owes_allowed t.key t.table_id.slots me.id me.me c.requires.token.1.2 c.requires.pair.0
          c.args.links c.requires.links c.requires.pair.1 c.requires.active c.requires.nothing.0 c.requires.nothing.1,
    )
