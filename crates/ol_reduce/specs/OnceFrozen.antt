-- Private: what the closed words tell where no active pair is left, before the last net is made of them.
use Rattle.std.specs.Prelude.{ℕ}
use Rattle.ol_net.specs.Graph.{Graph}
use Rattle.ol_wire.specs.Closed.{ClosedTable, EachAfter, journal_drawn}
use Rattle.ol_reduce.specs.Frozen.{IsFrozen}
use Rattle.ol_reduce.specs.Reduced.{IsDone}

-- each table that stands for the net after the journal is the last net of work that is done
abbrev pub IsDoneOnceFrozen : Graph → (fuel seats : ℕ) → ClosedTable → Type 0
IsDoneOnceFrozen net fuel seats w = (last : Graph) → EachAfter w (λ after. IsFrozen after last) →
    IsDone net fuel seats last (journal_drawn w) w
