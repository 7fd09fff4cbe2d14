use Rattle.std.proofs.Common.{◌+◌, ◌-◌, sym, ap, ◌∙◌, subst, length, replicate, arith}
use Rattle.ol_context.specs.Shapes.{AreHeld, context_of}
use Rattle.ol_context.proofs.ValueLists.{held_insert, held_set, held_append, held_replicate, insert_is}
use Rattle.ol_context.proofs.LeafMoves.{put_past}
use Rattle.ol_context.proofs.leaf_changes.put_in.Goals as goal

pub returns-then-i-len-clause-held : goal.returns-then-i-len-clause-held
returns-then-i-len-clause-held c = λ vs b e h.
    subst (AreHeld vs) (sym c.in_ok-insert.ensures.ok) (held_insert vs c.args.levels.now.items c.args.i c.args.v h b)

pub returns-then-i-len-clause-ok : goal.returns-then-i-len-clause-ok
returns-then-i-len-clause-ok c = λ vs e. ap (context_of vs) c.in_ok-insert.ensures.ok
    ∙ insert_is vs c.args.levels.now.items c.args.i c.args.v
    (omega (arith, c.args.levels.now.ok.0, c.len.ensures, c.if-i-len.true))

pub returns-clause-held : goal.returns-clause-held
returns-clause-held c =
    let ns = c.args.levels.now.items in
    λ vs b e h. rw c.in_ok-reach.ensures.ok
    (held_set vs _ c.args.i c.args.v (held_append vs ns
    (replicate (c.args.i + 1 - length ns) c.args.none) h
    (held_replicate vs (c.args.i + 1 - length ns) c.args.none e)) b)

pub returns-clause-ok : goal.returns-clause-ok
returns-clause-ok c = λ vs e. rw c.in_ok-reach.ensures.ok
    (put_past vs c.args.levels.now.items c.args.i c.args.v c.args.none
    (omega (arith, c.args.levels.now.ok.0, c.len.ensures, c.if-i-len.false)) e)
