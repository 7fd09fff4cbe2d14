use Rattle.std.proofs.Common.{◌+◌, ◌*◌}
use Rattle.ol_reduce.specs.Left.{AreLeft}
use Rattle.ol_reduce.proofs.live.Live.find.Given as goal

abbrev pub invariant-loop-node : goal.invariant-loop-node
invariant-loop-node l = AreLeft l.words l.node l.live.places.items l.live.numbers.items

abbrev pub invariant-loop-ticket : goal.invariant-loop-ticket
invariant-loop-ticket l = AreLeft l.words
    (l.words.plan.parts.nodes + 4 * l.ticket) l.live.places.items l.live.numbers.items
