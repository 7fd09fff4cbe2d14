use Rattle.std.proofs.Common.{arith}
use Rattle.ol_context.proofs.Marks.{put_rises, put_past}
use Rattle.ol_context.proofs.changes.croissant_up.Goals as goal

pub returns-then-i-len-clause-ok : goal.returns-then-i-len-clause-ok
returns-then-i-len-clause-ok c = rw c.in_ok-insert.ensures.ok
    (put_rises c.args.values.now c.args.levels.now.items c.args.i c.empty-none.result c.requires
    (omega (arith, c.args.levels.now.ok.0, c.len.ensures)) c.empty-none.ensures.held c.empty-none.ensures.is)

pub returns-clause-ok : goal.returns-clause-ok
returns-clause-ok c = put_past c.args.values.now c.args.levels.now.items c.args.i c.requires
    (omega (arith, c.args.levels.now.ok.0, c.len.ensures))
