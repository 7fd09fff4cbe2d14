use Rattle.std.proofs.Common.{◌≡◌, ℕ, suc, ◌+◌, ◌*◌, List, ◌++◌, sym, ap, ◌∙◌, subst, arith}
use Rattle.ol_wire.specs.declared.layout.Parts.{Parts}
use Rattle.ol_wire.specs.Closed.{ClosedTable, filled_row, filled_below}
use Rattle.ol_wire.proofs.closed.Words.note_block.Goals as goal

pub loop-j-preserved : goal.loop-j-preserved
loop-j-preserved c =
    let w : ClosedTable = c.args.self.now in
    let n = w.plan.parts.cells + 4 * c.args.k + c.loop-j.j in
    let parts : c.self.inside.parts ≡ w.plan.parts = sym c.self.invariant.1
    ∙ ap (λ (w : ClosedTable). w.plan.parts) c.self.view_is in
    let row : filled_row w (c.self.inside.parts.cells + 4 * c.args.k + c.loop-j.j) ≡ filled_row w
    n = ap (λ (z : Parts). filled_row w (z.cells + 4 * c.args.k + c.loop-j.j)) parts in
    let e : suc n ≡ w.plan.parts.cells + 4 * c.args.k + (c.loop-j.j + 1) = omega arith in
    let more : c.note.new.cells.items ≡ filled_below w (suc n) = c.in_ok-note.ensures
    ∙ ap (λ (l : List ℕ). l ++ filled_row w
    (c.self.inside.parts.cells + 4 * c.args.k + c.loop-j.j)) c.loop-j.invariant
    ∙ ap (λ l. filled_below w n ++ l) row in
    subst (λ m. c.note.new.cells.items ≡ filled_below w m) e more
