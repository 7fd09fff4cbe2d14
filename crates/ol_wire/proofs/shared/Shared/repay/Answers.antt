use Rattle.std.proofs.Common.{◌≡◌, sym, ap, ◌∙◌, arith}
use Rattle.ol_wire.specs.Stand.{TableState}
use Rattle.ol_wire.proofs.Steps.LiveAllowed.{repays_allowed}
use Rattle.ol_wire.proofs.shared.Shared.repay.Goals as goal

pub fetch_sub-requires : goal.fetch_sub-requires
fetch_sub-requires c =
    let t = c.self.inside.table.shared in
    let me = c.args.token.now in
    let of : me.table_id ≡ t.table_id = c.requires.token.0 ∙ sym (ap (λ (b : TableState). b.table) c.self.view_is) in (
      of,
      omega (arith, c.self.invariant.2),
      repays_allowed t.key t.table_id.slots me.id me.me c.requires.token.1.2 c.args.owed
          c.requires.owed c.requires.linked,
    )
