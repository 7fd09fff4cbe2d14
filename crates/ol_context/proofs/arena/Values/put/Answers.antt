use Rattle.std.proofs.Common.{length, arith, subst, sym, ap, ◌∙◌}
use Rattle.ol_context.specs.Shapes.{IsBelow}
use Rattle.ol_context.proofs.Shapes.{trees_length}
use Rattle.ol_context.proofs.Once.{row_put, extends_put, few_put, once_put, new_put}
use Rattle.ol_context.proofs.arena.Values.put.Goals as goal

pub invariant_of-self-2 : goal.invariant_of-self-2
invariant_of-self-2 c =
    let ks = c.self.inside.shapes.keys in
    let js = c.insert_full.new.self.keys in
    let b = subst (λ m. IsBelow m c.args.shape) (ap length (sym c.self.view_is) ∙ trees_length ks) c.requires.below in
    let f = few_put ks js c.args.shape c.in_ok-at.ensures.keys in (
      row_put ks js c.args.shape c.self.invariant.0 b c.in_ok-at.ensures.keys,
      once_put ks js c.args.shape c.self.invariant.1 c.requires.full c.in_ok-at.ensures.keys,
      omega (arith, f, c.len-count.ensures.len, c.if-count-ge4294967294.false),
    )

pub returns-clause-extends : goal.returns-clause-extends
returns-clause-extends c = rw (← c.self.view_is)
    (extends_put c.self.inside.shapes.keys c.insert_full.new.self.keys c.args.shape c.in_ok-at.ensures.keys)

pub returns-clause-new : goal.returns-clause-new
returns-clause-new c =
    let ks = c.self.inside.shapes.keys in
    let b = subst (λ m. IsBelow m c.args.shape) (ap length (sym c.self.view_is) ∙ trees_length ks) c.requires.below in
    let t = c.in_ok-at.ensures.stored in
    rw (← c.self.view_is) (new_put ks c.insert_full.new.self.keys c.args.shape t.0 c.in_ok-at.at
    c.self.invariant.0 b c.in_ok-at.ensures.keys t.1 t.2)
