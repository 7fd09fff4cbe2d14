use Rattle.std.proofs.Common.{◌≡◌, sym, ap, ◌∙◌, arith}
use Rattle.ol_wire.specs.declared.layout.Parts.{Parts}
use Rattle.ol_wire.specs.Layout.{table_size}
use Rattle.ol_wire.specs.StepPlays.{rest}
use Rattle.ol_wire.specs.Stand.{TableState}
use Rattle.ol_wire.proofs.Steps.Allowed.{writes_allowed}
use Rattle.ol_wire.proofs.shared.Shared.write.Goals as goal

pub store-requires : goal.store-requires
store-requires c =
    let t = c.self.inside.table.shared in
    let me = c.args.token.now in
    let of : me.table_id ≡ t.table_id = c.requires.token.0 ∙ sym (ap (λ (b : TableState). b.table) c.self.view_is) in
    let parts : c.self.inside.parts ≡ c.args.self.now.plan.parts = sym c.self.invariant.0
    ∙ ap (λ (b : TableState). b.plan.parts) c.self.view_is in (
      of,
      omega (
        arith,
        c.requires.within,
        c.self.invariant.2,
        ap (λ (z : Parts). table_size z) parts,
      ),
      writes_allowed t.key t.table_id.slots me.id me.me c.requires.token.1.2 c.args.at c.args.word
          (rest me.me.0.due) c.requires.due,
    )
