use Rattle.ol_readback.proofs.GroupLists.{group_is}
use Rattle.ol_readback.proofs.groups.group_of.Goals as goal

pub returns-clause-group : goal.returns-clause-group
returns-clause-group c =
    group_is c.args.values.now c.put_star.new.self c.args.parent c.args.port c.args.args c.args.at
    c.empty-empty.result c.in_ok-mark.mark c.put_star.ensures.extends c.requires
    c.if-args-eq0.false c.empty-empty.ensures c.in_ok-mark.ensures.new
