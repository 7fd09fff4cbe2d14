use Rattle.std.proofs.Common.{◌≡◌, sym, ap, ◌∙◌, arith}
use Rattle.ol_wire.specs.declared.layout.Parts.{Parts}
use Rattle.ol_wire.specs.Layout.{table_size}
use Rattle.ol_wire.specs.StepPlays.{rest}
use Rattle.ol_wire.specs.Stand.{TableState}
use Rattle.ol_wire.proofs.LinkSteps.Allowed.{links_allowed}
use Rattle.ol_wire.proofs.shared.Shared.exchange.Goals as goal

pub swap-found-requires : goal.swap-found-requires
swap-found-requires c =
    let t = c.self.inside.table.shared in
    let me = c.args.token.now in
    let of : me.table_id ≡ t.table_id = c.requires.token.0 ∙ sym (ap (λ (b : TableState). b.table) c.self.view_is) in
    let parts : c.self.inside.parts ≡ c.args.self.now.plan.parts = sym c.self.invariant.0
    ∙ ap (λ (b : TableState). b.plan.parts) c.self.view_is in
    let next = c.requires.next in (
      of,
      omega (
        arith,
        c.word_of-place.ensures,
        c.requires.wire.1,
        c.self.invariant.2,
        ap (λ (z : Parts). table_size z) parts,
      ),
      links_allowed t.key t.table_id.slots me.id me.me c.requires.token.1.2 next.link
          (rest me.me.0.pending) next.due next.pending c.word_of-place.result c.args.wire
          c.args.other next.between c.requires.wire.0 c.word_of-place.ensures,
    )
