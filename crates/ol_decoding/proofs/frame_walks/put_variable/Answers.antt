use Rattle.std.proofs.Common.{sym}
use Rattle.ol_decoding.proofs.HeadLines.{free_put}
use Rattle.ol_decoding.proofs.frame_walks.put_variable.Goals as goal

pub returns-in_ok-put-in-Free-2 : goal.returns-in_ok-put-in-Free-2
returns-in_ok-put-in-Free-2 c = free_put c.args.names.now c.args.tree.now c.args.variable c.in-Free.port
    c.args.text.now.items c.put-in-Free.new.text.items c.put-in-Free-2.new.text.items c.in-Some.name.now c.in-Free.is
    (sym c.in-Some.ensures.name) c.in_ok-put-in-Free.ensures c.in_ok-put-in-Free-2.ensures
