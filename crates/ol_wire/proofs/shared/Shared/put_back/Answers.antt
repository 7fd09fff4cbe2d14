use Rattle.std.proofs.Common.{◌≡◌, ◌<◌, ℕ, sym, refl, ap, ◌∙◌, subst, arith}
use Rattle.ol_wire.specs.declared.layout.Parts.{Parts}
use Rattle.ol_wire.specs.Layout.{left_word, cells_of, table_size}
use Rattle.ol_wire.specs.InHand.{IsInHand}
use Rattle.ol_wire.specs.Moments.{MomentHolding}
use Rattle.ol_wire.specs.Stand.{TableState}
use Rattle.ol_wire.proofs.InWords.Places.{part_cell}
use Rattle.ol_wire.proofs.Steps.Allowed.{returns_allowed}
use Rattle.ol_wire.proofs.shared.Shared.put_back.Goals as goal

pub store-requires : goal.store-requires
store-requires c =
    let t = c.self.inside.table.shared in
    let me = c.args.token.now in
    let of : me.table_id ≡ t.table_id = c.requires.token.0 ∙ sym (ap (λ (b : TableState). b.table) c.self.view_is) in
    let parts : t.key.parts ≡ c.args.self.now.plan.parts = ap (λ (b : TableState). b.plan.parts) c.self.view_is in
    let cell : c.args.cell < cells_of t.key.parts = subst (λ (z : Parts). c.args.cell < cells_of z)
    (sym parts) c.requires.cell in
    let w : ℕ = left_word t.key.parts c.args.cell in
    let word : c.args.word ≡ w = c.requires.word ∙ ap (λ (z : Parts). left_word z c.args.cell) (sym parts) in
    let hand : IsInHand me.me.0 w = subst
    (λ (z : Parts). IsInHand me.me.0 (left_word z c.args.cell)) (sym parts) c.requires.pair in (
      of,
      omega (
        arith,
        word,
        (part_cell t.key.parts c.args.cell cell).2,
        c.self.invariant.2,
        ap (λ (z : Parts). table_size z) c.self.invariant.0,
      ),
      returns_allowed t.key t.table_id.slots me.id me.me c.requires.token.1.2 c.args.cell w
          c.args.left c.args.word cell refl word c.requires.left hand.taken hand.right c.requires.nothing,
    )

pub returns-clause-moment : goal.returns-clause-moment
returns-clause-moment c =
    let p = c.args.self.now.plan in
    let u = c.requires.token.1 in
    subst (λ (w : ℕ). MomentHolding p w c.store.new.seat.me.0) c.requires.word (c.store.ensures.2.2 p (u.0, u.1, u.3))
