use Rattle.std.proofs.Common.{◌+◌, ◌*◌}
use Rattle.ol_reduce.specs.Left.{AreLeft}
use Rattle.ol_reduce.proofs.live.Live.add_born.Given as goal

abbrev pub invariant-loop-place : goal.invariant-loop-place
invariant-loop-place l = AreLeft l.words
    (l.words.plan.parts.nodes + 4 * l.ticket + l.place) l.self.places.items l.self.numbers.items
