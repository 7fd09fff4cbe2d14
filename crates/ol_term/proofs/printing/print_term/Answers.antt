use Rattle.std.proofs.Common.{◌<◌, length, ◌∙◌}
use Rattle.ol_term.specs.Trees.{tree_of}
use Rattle.ol_term.specs.Texts.{text_of_term}
use Rattle.ol_term.specs.Printing.{weights}
use Rattle.ol_term.proofs.Items.{are_pop, weights_pop, text_pop}
use Rattle.ol_term.proofs.printing.print_term.Goals as goal

pub print_next-requires-clause-item : goal.print_next-requires-clause-item
print_next-requires-clause-item c = (are_pop
    (length c.args.names.now) c.items.todo.items c.pop.new.self.items c.in-Some.next
    c.in-Some.ensures.items c.items.invariant.1).1

pub print_next-requires-clause-items : goal.print_next-requires-clause-items
print_next-requires-clause-items c = (are_pop
    (length c.args.names.now) c.items.todo.items c.pop.new.self.items c.in-Some.next
    c.in-Some.ensures.items c.items.invariant.1).0

pub items-smaller : goal.items-smaller
items-smaller c =
    let h : weights c.print_next.new.todo.items < weights c.items.todo.items = weights_pop
    c.items.todo.items c.pop.new.self.items c.print_next.new.todo.items c.in-Some.next
    c.in-Some.ensures.items c.in_ok-print_next.ensures.step.less in
    h

pub items-preserved : goal.items-preserved
items-preserved c =
    let s = c.in_ok-print_next.ensures.step in (
      text_pop c.args.names.now c.items.text.items c.print_next.new.text.items
          (text_of_term c.args.names.now (tree_of c.args.term.now)) c.items.todo.items
          c.pop.new.self.items c.print_next.new.todo.items c.in-Some.next c.in-Some.ensures.items c.items.invariant.0 s,
      s.whole,
      c.print_next.ensures.binders ∙ c.items.invariant.2,
    )
