use Rattle.ol_context.proofs.ValueLists.{held_at}
use Rattle.ol_context.proofs.Marks.{mark_rises}
use Rattle.ol_context.proofs.changes.mark_up.Goals as goal

pub put_marked-requires : goal.put_marked-requires
put_marked-requires c = rw c.level_or-at.ensures
    (held_at c.args.values.now c.args.levels.now.items c.args.i c.empty-none.result c.requires.held
    c.empty-none.ensures.held)

pub returns-clause-ok : goal.returns-clause-ok
returns-clause-ok c = rw c.in_ok-reach.ensures.ok
    (mark_rises c.args.values.now c.put_marked.new.values c.args.levels.now.items c.args.i c.args.s
    c.empty-none.result c.in_ok-w.w
    c.put_marked.ensures.extends c.requires.held c.empty-none.ensures.is c.empty-none.ensures.held
    (rw c.level_or-at.ensures at c.in_ok-w.ensures.new))
