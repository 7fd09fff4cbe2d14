use Rattle.std.proofs.Common.{◌≡◌, ◌+◌, ◌*◌, ℕ, List, [], append-nil, sym, ap, ◌∙◌, arith}
use Rattle.ol_wire.specs.declared.layout.Parts.{Parts}
use Rattle.ol_wire.specs.declared.view.View.{View}
use Rattle.ol_wire.specs.Layout.{block}
use Rattle.ol_wire.specs.Blocks.{copies_of_f, copies_of_g}
use Rattle.ol_wire.specs.Copies.{born_wires, copies_due}
use Rattle.ol_wire.specs.Rewrites.{event_for}
use Rattle.ol_wire.specs.Stand.{TableState}
use Rattle.ol_wire.proofs.Ticket.Block.{both_due, both_same, copies_are_due, some_written, all_written}
use Rattle.ol_wire.proofs.shared.Shared.write_block.Goals as goal

-- what is due by the definition, and what the code has
both : (z y : Parts) (t e f first c d : ℕ) (x : (ℕ × ℕ) × (ℕ × ℕ)) → z ≡ y → first ≡ block y t → e ≡ c →
    f ≡ d → x ≡ born_wires y t → both_due (block z t + 2) c d (born_wires z t) ≡ both_due (first + 2) e f x
both z y t e f first c d x at is of_f of_g wires = both_same (block z t + 2) (first + 2) c e d f (born_wires z t) x
    (omega (arith, is, ap (λ (p : Parts). block p t) at)) (sym of_f) (sym of_g)
    (ap (λ (p : Parts). born_wires p t) at ∙ sym wires)

pub write_copies-requires-clause-due : goal.write_copies-requires-clause-due
write_copies-requires-clause-due c =
    let z : Parts = c.args.self.now.plan.parts in
    let r = c.args.rewrite in
    let of_f : ℕ = c.copies_of_f-of_f.result in
    let of_g : ℕ = c.copies_of_g-of_g.result in
    let first : ℕ = c.block-first.result in
    let x : (ℕ × ℕ) × (ℕ × ℕ) = c.born_wires.result in
    let parts : z ≡ c.self.inside.parts = sym (ap (λ (b : TableState). b.plan.parts) c.self.view_is)
    ∙ c.self.invariant.0 in (
      copies_due (first + 2 + 2 * of_f) of_g of_f (x.0.0, x.1.0) (x.0.1, x.1.1),
      copies_are_due z r c.args.ticket c.args.token.now.me.0 c.write.new.token.me.0
          c.write-2.new.token.me.0 c.requires.nodes.0 c.requires.nodes.1 c.requires.due
          c.write.ensures.view c.write-2.ensures.view
          ∙ both z c.self.inside.parts c.args.ticket of_f of_g first (copies_of_f (event_for r)) (copies_of_g (event_for r)) x
          parts c.block-first.ensures c.copies_of_f-of_f.ensures c.copies_of_g-of_g.ensures c.born_wires.ensures,
    )

pub write_copies-requires-2-clause-due : goal.write_copies-requires-2-clause-due
write_copies-requires-2-clause-due c =
    let z : Parts = c.args.self.now.plan.parts in
    let r = c.args.rewrite in
    let of_f : ℕ = c.copies_of_f-of_f.result in
    let of_g : ℕ = c.copies_of_g-of_g.result in
    let first : ℕ = c.block-first.result in
    let x : (ℕ × ℕ) × (ℕ × ℕ) = c.born_wires.result in
    let ys : List (ℕ × ℕ) = copies_due (first + 2 + 2 * of_f) of_g of_f (x.0.0, x.1.0) (x.0.1, x.1.1) in
    let parts : z ≡ c.self.inside.parts = sym (ap (λ (b : TableState). b.plan.parts) c.self.view_is)
    ∙ c.self.invariant.0 in (
      [],
      ap (λ (u : View). u.due) (some_written z r c.args.ticket c.args.token.now.me.0
          c.write.new.token.me.0 c.write-2.new.token.me.0 c.requires.nodes.0 c.requires.nodes.1
          c.requires.due c.write.ensures.view c.write-2.ensures.view c.write_copies.new.token.me.0
          c.write_copies.new.token.me.0 (copies_due (first + 2) of_f of_g x.0 x.1) ys
          (both z c.self.inside.parts c.args.ticket of_f of_g first (copies_of_f (event_for r)) (copies_of_g (event_for r)) x
          parts c.block-first.ensures c.copies_of_f-of_f.ensures c.copies_of_g-of_g.ensures c.born_wires.ensures)
          c.write_copies.ensures.view) ∙ sym (append-nil ys),
    )

pub returns-clause-view : goal.returns-clause-view
returns-clause-view c =
    let z : Parts = c.args.self.now.plan.parts in
    let r = c.args.rewrite in
    let of_f : ℕ = c.copies_of_f-of_f.result in
    let of_g : ℕ = c.copies_of_g-of_g.result in
    let first : ℕ = c.block-first.result in
    let x : (ℕ × ℕ) × (ℕ × ℕ) = c.born_wires.result in
    let parts : z ≡ c.self.inside.parts = sym (ap (λ (b : TableState). b.plan.parts) c.self.view_is)
    ∙ c.self.invariant.0 in
    all_written z r c.args.ticket c.args.token.now.me.0 c.write.new.token.me.0
    c.write-2.new.token.me.0 c.requires.nodes.0 c.requires.nodes.1 c.requires.due c.write.ensures.view
    c.write-2.ensures.view c.write_copies.new.token.me.0 c.write_copies-2.new.token.me.0
    (copies_due (first + 2) of_f of_g x.0 x.1)
    (copies_due (first + 2 + 2 * of_f) of_g of_f (x.0.0, x.1.0) (x.0.1, x.1.1))
    (both z c.self.inside.parts c.args.ticket of_f of_g first (copies_of_f (event_for r)) (copies_of_g (event_for r)) x
    parts c.block-first.ensures c.copies_of_f-of_f.ensures c.copies_of_g-of_g.ensures c.born_wires.ensures)
    c.write_copies.ensures.view c.write_copies-2.ensures.view
