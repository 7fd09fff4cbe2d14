use Rattle.std.proofs.Common.{◌≡◌, ◌+◌, ◌*◌, ◌<◌, sym, ap, ◌∙◌, subst, arith}
use Rattle.ol_wire.specs.declared.layout.Parts.{Parts}
use Rattle.ol_wire.specs.declared.plan.Plan.{Plan}
use Rattle.ol_wire.specs.declared.view.View.{View}
use Rattle.ol_wire.specs.Stand.{SeatState, TableState}
use Rattle.ol_wire.specs.Turns.{TurnRewrites, LinksJoins}
use Rattle.ol_wire.specs.Layout.{cells_of}
use Rattle.ol_wire.proofs.Steps.Turn.{swept_stays, links_pending, turn_rewrites, joins_told, ended_rests}
use Rattle.ol_wire.proofs.shared.Shared.turn.Goals as goal

pub link_all-mask-requires-clause-begun : goal.link_all-mask-requires-clause-begun
link_all-mask-requires-clause-begun c =
    let z : Parts = c.args.self.now.plan.parts in
    let v : View = c.seat.inside.token.me.0 in
    let parts : v.parts ≡ z = ap (λ (s : SeatState). s.view.parts) c.seat.view_is ∙ c.requires.seat.1.0 in
    links_pending z v c.begin.new.token.me.0 c.args.cell c.in-Ok.begun parts c.seat.invariant.1 c.in-Ok.ensures.begun

pub invariant_of-seat-2 : goal.invariant_of-seat-2
invariant_of-seat-2 c =
    let z : Parts = c.args.self.now.plan.parts in
    let v : View = c.seat.inside.token.me.0 in
    let n : View = c.link_all-mask.new.token.me.0 in
    let i = c.seat.invariant in
    let parts : v.parts ≡ z = ap (λ (s : SeatState). s.view.parts) c.seat.view_is ∙ c.requires.seat.1.0 in
    let e = c.link_all-mask.ensures.view.view in
    let f = c.in-Ok.ensures.begun.rewrote.view in
    let done = (turn_rewrites z v c.begin.new.token.me.0 n c.args.cell c.link_all-mask.result
    c.in-Ok.begun parts c.requires.cell i.1 c.in-Ok.ensures.begun c.link_all-mask.ensures.view).1.view in
    let low : c.args.cell < cells_of v.parts = subst (λ (y : Parts). c.args.cell < cells_of y)
    (sym parts) c.requires.cell in (
      c.link_all-mask.ensures.token.1 ∙ c.begin.ensures.token.1 ∙ i.0,
      (
        ap (λ (u : View). u.taken) e ∙ ap (λ (u : View). u.taken) f,
        ap (λ (u : View). u.due) e
            ∙ ap (λ (u : View). u.due) f ∙ i.1.1,
        ap (λ (u : View). u.pending) e,
        ap (λ (u : View). u.owed) e,
      ),
      ap (λ (u : View). u.over) e ∙ ap (λ (u : View). u.over) f ∙ i.2,
      ap (λ (u : View). u.holds) e ∙ ap (λ (u : View). u.holds) f ∙ i.3,
      i.4,
      omega (
        arith,
        ap (λ (u : View). u.swept) done,
        ap (λ (u : View). cells_of u.parts) done,
        swept_stays v c.args.cell (cells_of v.parts) i.5 low,
      ),
    )

pub invariant_of-seat-in-Err : goal.invariant_of-seat-in-Err
invariant_of-seat-in-Err c =
    let z : Parts = c.args.self.now.plan.parts in
    let v : View = c.seat.inside.token.me.0 in
    let i = c.seat.invariant in
    let parts : v.parts ≡ z = ap (λ (s : SeatState). s.view.parts) c.seat.view_is ∙ c.requires.seat.1.0 in
    let low : c.args.cell < cells_of v.parts = subst (λ (y : Parts). c.args.cell < cells_of y)
    (sym parts) c.requires.cell in
    let t = ended_rests z v c.begin.new.token.me.0 c.args.cell c.in-Err.ended c.seat.inside.over
    c.seat.inside.holds low i.1 i.2 i.3 i.4 i.5 c.in_default.not-Spent c.in-Err.ensures.ended.1 in
    (c.begin.ensures.token.1 ∙ i.0, t.0, t.1, t.2, t.3, t.4)

pub returns-clause-view : goal.returns-clause-view
returns-clause-view c =
    let z : Parts = c.args.self.now.plan.parts in
    let v : View = c.seat.inside.token.me.0 in
    let n : View = c.link_all-mask.new.token.me.0 in
    let b = c.in-Ok.begun in
    let parts : v.parts ≡ z = ap (λ (s : SeatState). s.view.parts) c.seat.view_is ∙ c.requires.seat.1.0 in
    let inside : z ≡ c.self.inside.parts = sym
    (ap (λ (x : TableState). x.plan.parts) c.self.view_is) ∙ c.self.invariant.0 in
    let done : TurnRewrites z v c.args.cell b.ticket b.rewrite.rule (z.cells + 4 * b.ticket) c.link_all-mask.result n =
    (turn_rewrites z v c.begin.new.token.me.0 n c.args.cell c.link_all-mask.result b parts
    c.requires.cell c.seat.invariant.1 c.in-Ok.ensures.begun c.link_all-mask.ensures.view).1 in
    subst (λ (u : View). TurnRewrites z u c.args.cell b.ticket b.rewrite.rule
    (c.self.inside.parts.cells + 4 * b.ticket) c.link_all-mask.result n)
    (ap (λ (s : SeatState). s.view) c.seat.view_is)
    (subst (λ (y : Parts). TurnRewrites z v c.args.cell b.ticket b.rewrite.rule
    (y.cells + 4 * b.ticket) c.link_all-mask.result n) inside done)

pub returns-clause-links : goal.returns-clause-links
returns-clause-links c =
    let p : Plan = c.args.self.now.plan in
    let z : Parts = p.parts in
    let v : View = c.seat.inside.token.me.0 in
    let m : View = c.begin.new.token.me.0 in
    let n : View = c.link_all-mask.new.token.me.0 in
    let b = c.in-Ok.begun in
    let parts : v.parts ≡ z = ap (λ (s : SeatState). s.view.parts) c.seat.view_is ∙ c.requires.seat.1.0 in
    let inside : z ≡ c.self.inside.parts = sym
    (ap (λ (x : TableState). x.plan.parts) c.self.view_is) ∙ c.self.invariant.0 in
    let done = (turn_rewrites z v m n c.args.cell c.link_all-mask.result b parts c.requires.cell
    c.seat.invariant.1 c.in-Ok.ensures.begun c.link_all-mask.ensures.view).1 in
    let told : LinksJoins p v b.ticket (z.cells + 4 * b.ticket) c.link_all-mask.result n =
    joins_told p v m n c.args.cell c.link_all-mask.result b parts c.seat.invariant.1
    c.in-Ok.ensures.begun c.link_all-mask.ensures.view c.in-Ok.ensures.drawn
    (ap (λ (u : View). u.published) done.view) in
    subst (λ (u : View). LinksJoins p u b.ticket
    (c.self.inside.parts.cells + 4 * b.ticket) c.link_all-mask.result n)
    (ap (λ (s : SeatState). s.view) c.seat.view_is)
    (subst (λ (y : Parts). LinksJoins p v b.ticket (y.cells + 4 * b.ticket) c.link_all-mask.result n) inside told)
