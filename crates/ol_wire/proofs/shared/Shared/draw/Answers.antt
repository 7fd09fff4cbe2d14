use Rattle.std.proofs.Common.{◌≡◌, ◌<◌, sym, ap, ◌∙◌, arith}
use Rattle.ol_wire.specs.declared.layout.Parts.{Parts}
use Rattle.ol_wire.specs.declared.view.View.{View}
use Rattle.ol_wire.specs.Stand.{TableState}
use Rattle.ol_wire.proofs.Steps.Allowed.{draws_allowed}
use Rattle.ol_wire.proofs.shared.Shared.draw.Goals as goal

pub fetch_add-ticket-requires : goal.fetch_add-ticket-requires
fetch_add-ticket-requires c =
    let t = c.self.inside.table.shared in
    let me = c.args.token.now in
    let of : me.table_id ≡ t.table_id = c.requires.token.0 ∙ sym (ap (λ (b : TableState). b.table) c.self.view_is) in (
      of,
      omega (arith, c.self.invariant.2),
      draws_allowed t.key t.table_id.slots me.id me.me c.requires.pair.0 c.requires.pair.1,
    )

pub returns-then-ticket-self-clause-moment : goal.returns-then-ticket-self-clause-moment
returns-then-ticket-self-clause-moment c =
    let v : View = c.args.token.now.me.0 in
    let u = c.requires.token.1 in
    let parts : v.parts ≡ c.self.inside.parts = u.0
    ∙ sym (ap (λ (b : TableState). b.plan.parts) c.self.view_is) ∙ c.self.invariant.0 in
    let low : c.fetch_add-ticket.result < v.parts.fuel = omega
    (arith, c.if-ticket-self.true, ap (λ (z : Parts). z.fuel) parts) in
    (c.fetch_add-ticket.ensures.2.1 low).1 c.args.self.now.plan (u.0, u.1, u.3)
