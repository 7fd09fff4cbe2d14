use Rattle.std.proofs.Common.{rules}
use Rattle.ol_readback.proofs.GroupLists.{next_last, next_more, mark_held}
use Rattle.ol_readback.proofs.groups.next.Goals as goal

pub overflow_add-done : goal.overflow_add-done
overflow_add-done c =
    let h = mark_held c.args.values.now c.args.pending.now.items c.pop-last.new.self.items
    c.in-Some.group c.in-Some.ensures.items c.requires in
    let b = h.left in
    search rules

pub returns-then-done-group-clause-next : goal.returns-then-done-group-clause-next
returns-then-done-group-clause-next c =
    next_last c.args.values.now c.args.pending.now.items c.pop-last.new.self.items c.in-Some.group
    c.in_ok-levels-in-Some.levels c.in-Some.ensures.items c.requires
    c.in_ok-levels-in-Some.ensures c.if-done-group.true

pub put_o-requires : goal.put_o-requires
put_o-requires c = (mark_held c.args.values.now c.args.pending.now.items c.pop-last.new.self.items
    c.in-Some.group c.in-Some.ensures.items c.requires).mark.held

pub returns-in_ok-push-in-Some-clause-next : goal.returns-in_ok-push-in-Some-clause-next
returns-in_ok-push-in-Some-clause-next c =
    next_more c.args.values.now c.args.pending.now.items c.pop-last.new.self.items c.in-Some.group
    c.in_ok-levels-in-Some.levels c.in-Some.ensures.items c.requires c.in_ok-levels-in-Some.ensures
    c.put_o.new.self c.in_ok-group-in-Some.field-0 c.push.new.self.items c.put_o.ensures.extends
    c.if-done-group.false c.in_ok-group-in-Some.ensures.new c.in_ok-push-in-Some.ensures.items
