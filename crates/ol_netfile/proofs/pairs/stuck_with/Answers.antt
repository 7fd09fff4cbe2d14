use Rattle.ol_netfile.proofs.StuckBelow.{above-is}
use Rattle.ol_netfile.proofs.pairs.stuck_with.Goals as goal

pub returns-in-Some-Of : goal.returns-in-Some-Of
returns-in-Some-Of c =
    let linked = rw c.in-Some-Of.field-0-is at c.in-Some-Of.ensures.linked in
    above-is c.args.net.now c.args.number c.in-Some-Of.node _ c.above.result c.is_net.ensures.net
    (c.facing.ensures.stuck.0 c.in-Stuck.is) linked c.above.ensures
