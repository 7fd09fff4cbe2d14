use Rattle.std.proofs.Common.{◌≡◌, ◌<◌, ℕ, sym, ap, ◌∙◌, subst, arith}
use Rattle.ol_wire.specs.declared.layout.Parts.{Parts}
use Rattle.ol_wire.specs.Layout.{left_word, cells_of, table_size}
use Rattle.ol_wire.specs.Moments.{MomentEmpty}
use Rattle.ol_wire.specs.Stand.{TableState}
use Rattle.ol_wire.proofs.InWords.Places.{part_cell}
use Rattle.ol_wire.proofs.Steps.Allowed.{claims_allowed}
use Rattle.ol_wire.proofs.shared.Shared.claim.Goals as goal

pub swap-requires : goal.swap-requires
swap-requires c =
    let t = c.self.inside.table.shared in
    let me = c.args.token.now in
    let of : me.table_id ≡ t.table_id = c.requires.token.0 ∙ sym (ap (λ (b : TableState). b.table) c.self.view_is) in
    let parts : t.key.parts ≡ c.args.self.now.plan.parts = ap (λ (b : TableState). b.plan.parts) c.self.view_is in
    let cell : c.args.cell < cells_of t.key.parts = subst (λ (z : Parts). c.args.cell < cells_of z)
    (sym parts) c.requires.cell in
    let word : c.args.word ≡ left_word t.key.parts c.args.cell = c.requires.word
    ∙ ap (λ (z : Parts). left_word z c.args.cell) (sym parts) in
    let place = part_cell t.key.parts c.args.cell cell in (
      of,
      omega (
        arith,
        word,
        place.2,
        c.self.invariant.2,
        ap (λ (z : Parts). table_size z) c.self.invariant.0,
      ),
      claims_allowed t.key t.table_id.slots me.id me.me c.requires.token.1.2 c.args.cell
          c.args.word cell word c.requires.idle,
    )

pub returns-clause-empty : goal.returns-clause-empty
returns-clause-empty c = λ none.
    let p = c.args.self.now.plan in
    let u = c.requires.token.1 in
    subst (λ (w : ℕ). MomentEmpty p w c.swap.new.seat.me.0) c.requires.word ((c.swap.ensures.2.1 none).1 p (u.0, u.1, u.3))
