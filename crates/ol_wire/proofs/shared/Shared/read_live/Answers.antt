use Rattle.std.proofs.Common.{◌≡◌, sym, ap, ◌∙◌, arith}
use Rattle.ol_wire.specs.Stand.{TableState}
use Rattle.ol_wire.proofs.Steps.LiveAllowed.{reads_live_allowed}
use Rattle.ol_wire.proofs.shared.Shared.read_live.Goals as goal

pub load-requires : goal.load-requires
load-requires c =
    let t = c.self.inside.table.shared in
    let me = c.args.token.now in
    let of : me.table_id ≡ t.table_id = c.requires.token.0 ∙ sym (ap (λ (b : TableState). b.table) c.self.view_is) in
    (of, omega (arith, c.self.invariant.2), reads_live_allowed t.key t.table_id.slots me.id me.me c.requires.token.1.2)
