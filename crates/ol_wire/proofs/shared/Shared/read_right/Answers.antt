use Rattle.std.proofs.Common.{◌≡◌, ◌+◌, ℕ, sym, ap, ◌∙◌, arith}
use Rattle.ol_wire.specs.declared.layout.Parts.{Parts}
use Rattle.ol_wire.specs.Layout.{left_word, table_size}
use Rattle.ol_wire.specs.Stand.{TableState}
use Rattle.ol_wire.proofs.InWords.Places.{part_cell}
use Rattle.ol_wire.proofs.Steps.Allowed.{reads_right_allowed_at}
use Rattle.ol_wire.proofs.shared.Shared.read_right.Goals as goal

pub load-requires : goal.load-requires
load-requires c =
    let t = c.self.inside.table.shared in
    let me = c.args.token.now in
    let of : me.table_id ≡ t.table_id = c.requires.token.0 ∙ sym (ap (λ (b : TableState). b.table) c.self.view_is) in
    let z : Parts = c.args.self.now.plan.parts in
    let parts : c.self.inside.parts ≡ z = sym c.self.invariant.0
    ∙ ap (λ (b : TableState). b.plan.parts) c.self.view_is in
    let w : ℕ = left_word z c.args.cell in
    let word : c.args.word ≡ w = c.requires.word in (
      of,
      omega (
        arith,
        word,
        (part_cell z c.args.cell c.requires.cell).2,
        c.self.invariant.2,
        ap (λ (z : Parts). table_size z) parts,
      ),
      reads_right_allowed_at t.key t.table_id.slots me.id me.me c.requires.token.1.2 w
          me.me.0.last.0 c.requires.taken (c.args.word + 1) (omega (arith, word)),
    )
