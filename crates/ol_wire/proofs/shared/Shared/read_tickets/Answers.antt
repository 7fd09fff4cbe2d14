use Rattle.std.proofs.Common.{sym, ap, ◌∙◌, arith}
use Rattle.ol_wire.specs.Stand.{TableState}
use Rattle.ol_wire.proofs.Steps.Sight.{reads_tickets_allowed}
use Rattle.ol_wire.proofs.shared.Shared.read_tickets.Goals as goal

pub load-requires : goal.load-requires
load-requires c =
    let t = c.self.inside.table.shared in
    let me = c.args.token.now in (
      c.requires.token.0 ∙ sym (ap (λ (b : TableState). b.table) c.self.view_is),
      omega (arith, c.self.invariant.2),
      reads_tickets_allowed t.key t.table_id.slots me.id me.me
          c.requires.token.1.2,
    )
