-- What the work of all workers comes to, for a caller who doesn't read the journal.
use Rattle.std.specs.Prelude.{◌≡◌, ℕ}
use Rattle.ol_net.specs.Graph.{Graph}
use Rattle.ol_rules.specs.Counting.{counts_of}
use Rattle.ol_wire.specs.Closed.{journal_drawn}
use Rattle.ol_reduce.specs.Reduced.{IsDone, IsSpent}
use Rattle.ol_reduce.specs.declared.counting.Counted.{Counted}
use Rattle.ol_reduce.specs.declared.counting.Counted.TheVariants.{Done, Spent}

-- Of the net, of the words and of their journal the same is said as where the journal is handed over. The counts are
-- those of this journal.
abbrev pub ReducesCounted : Graph → (fuel seats : ℕ) → Counted → Type 0
ReducesCounted net fuel seats (Done last counts words) =
    IsDone net fuel seats last (journal_drawn words) words × (counts ≡ counts_of (journal_drawn words))
ReducesCounted net fuel seats (Spent words) = IsSpent net fuel seats (journal_drawn words) words

abbrev pub IsDoneCounted : Counted → Type 0
IsDoneCounted (Done last counts words) = Unit {0}
IsDoneCounted (Spent words) = ⊥
