-- What the work of all workers comes to.
use Rattle.std.specs.Prelude.{◌≡◌, ◌≤◌, ℕ, List, length}
use Rattle.ol_net.specs.Graph.{Graph}
use Rattle.ol_net.specs.Nets.{NamedNet, net_under}
use Rattle.ol_net.specs.Numbered.{net_of}
use Rattle.ol_rules.specs.declared.journal.NodeName.{NodeName}
use Rattle.ol_rules.specs.declared.journal.NodeName.TheVariants.{Init}
use Rattle.ol_rules.specs.declared.journal.Entry.{Entry}
use Rattle.ol_rules.specs.Runs.{IsOneThread}
use Rattle.ol_net.specs.Pairs.{IsComplete, HasActive}
use Rattle.ol_wire.specs.Starts.{AreParts}
use Rattle.ol_wire.specs.Closed.{ClosedTable, journal_in, IsAfter}
use Rattle.ol_reduce.specs.Frozen.{IsFrozen}
use Rattle.ol_reduce.specs.declared.reduced.Reduced.{Reduced}
use Rattle.ol_reduce.specs.declared.reduced.Reduced.TheVariants.{Done, Spent}

-- the words are those of a table that was made from this net, with this fuel and so many seats
abbrev pub IsTableOf : Graph → ℕ → ℕ → ClosedTable → Type 0
IsTableOf net fuel seats w = AreParts net fuel w.plan.parts × (w.plan.start.value ≡ net) × (w.plan.seats ≡ seats)

-- the one-thread run from the net has at most so many steps: it ends. There is one such run for each fuel.
abbrev pub EndsWithin : Graph → ℕ → Type 0
EndsWithin net fuel = (journal : List Entry) (P : NamedNet NodeName)
    → IsOneThread (net_under Init (net_of net)) fuel journal P → IsComplete P

-- The one-thread run from the net has as many steps as this journal. There is such a run for each fuel.
abbrev pub IsAsLong : Graph → ℕ → List Entry → Type 0
IsAsLong net fuel journal = (one_thread : List Entry) (P : NamedNet NodeName)
    → IsOneThread (net_under Init (net_of net)) fuel one_thread P
    → length one_thread ≡ length journal

-- The journal of these words is within the fuel and leads to a net without an active pair, and `last` is this net.
pub record IsDone (net : Graph) (fuel seats : ℕ) (last : Graph) (journal : List Entry) (w : ClosedTable) : Type 0 where
  pub table : IsTableOf net fuel seats w
  pub read : journal ≡ journal_in w.plan.parts w.words
  pub last_net : NamedNet NodeName
  pub after : IsAfter w last_net
  pub complete : IsComplete last_net
  pub frozen : IsFrozen last_net last
  pub within : length journal ≤ fuel
  pub steps : IsAsLong net fuel journal

-- The journal has as many entries as the fuel, and leads to a net with an active pair.
pub record IsSpent (net : Graph) (fuel seats : ℕ) (journal : List Entry) (w : ClosedTable) : Type 0 where
  pub table : IsTableOf net fuel seats w
  pub read : journal ≡ journal_in w.plan.parts w.words
  pub last_net : NamedNet NodeName
  pub after : IsAfter w last_net
  pub active : HasActive last_net
  pub steps : length journal ≡ fuel

abbrev pub Reduces : Graph → ℕ → ℕ → Reduced → Type 0
Reduces net fuel seats (Done last journal words) = IsDone net fuel seats last journal words
Reduces net fuel seats (Spent journal words) = IsSpent net fuel seats journal words

abbrev pub IsDoneAnswer : Reduced → Type 0
IsDoneAnswer (Done last journal words) = Unit {0}
IsDoneAnswer (Spent journal words) = ⊥
