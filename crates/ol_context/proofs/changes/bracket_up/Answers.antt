use Rattle.std.proofs.Common.{◌+◌}
use Rattle.ol_context.proofs.ValueLists.{held_at}
use Rattle.ol_context.proofs.Marks.{pack_rises}
use Rattle.ol_context.proofs.changes.bracket_up.Goals as goal

pub put_pair-requires-clause-first : goal.put_pair-requires-clause-first
put_pair-requires-clause-first c = rw c.level_or-high.ensures
    (held_at c.args.values.now c.args.levels.now.items
    (c.args.i + 1) c.empty-none.result c.requires.held c.empty-none.ensures.held)

pub put_pair-requires-clause-second : goal.put_pair-requires-clause-second
put_pair-requires-clause-second c = rw c.level_or-low.ensures
    (held_at c.args.values.now c.args.levels.now.items c.args.i c.empty-none.result c.requires.held
    c.empty-none.ensures.held)

pub returns-clause-ok : goal.returns-clause-ok
returns-clause-ok c = rw (c.remove-old.ensures.items, c.in_ok-reach.ensures.ok)
    (pack_rises c.args.values.now c.put_pair.new.self c.args.levels.now.items c.args.i c.empty-none.result c.in_ok-w.w
    c.put_pair.ensures.extends c.requires.held c.empty-none.ensures.is c.empty-none.ensures.held
    (rw (c.level_or-high.ensures, c.level_or-low.ensures) at c.in_ok-w.ensures.new))
