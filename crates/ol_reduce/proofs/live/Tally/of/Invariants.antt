use Rattle.std.proofs.Common.{◌≡◌}
use Rattle.std.specs.Prelude.{take}
use Rattle.ol_rules.specs.Counting.{counts_of}
use Rattle.ol_wire.specs.Closed.{journal_drawn}
use Rattle.ol_reduce.specs.Left.{AreMarked, births_before}
use Rattle.ol_reduce.proofs.live.Tally.of.Given as goal

abbrev pub invariant-loop-ticket : goal.invariant-loop-ticket
invariant-loop-ticket l = AreMarked l.words l.ticket l.marks.items
    × (l.made.items ≡ births_before l.words l.ticket)
    × (l.counts ≡ counts_of (take l.ticket (journal_drawn l.words)))
