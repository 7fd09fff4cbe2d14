-- Runs in rounds: a round rewrites, once each, the pairs that are active when it begins, and no others.
use Rattle.std.specs.Prelude.{◌≡◌, ℕ, suc, ◌+◌, ◌≤◌, List, [], ◌∷◌, ◌++◌, length, replicate, ◌↔◌}
use Rattle.ol_law_edges.specs.Edges.{IsIn}
use Rattle.ol_net.specs.Graph.{Graph}
use Rattle.ol_net.specs.Nets.{NamedNet}
use Rattle.ol_net.specs.Pairs.{IsActive, IsComplete}
use Rattle.ol_rules.specs.declared.journal.NodeName.{NodeName}
use Rattle.ol_rules.specs.declared.journal.Entry.{Entry}
use Rattle.ol_rules.specs.Names.{IsNamed}
use Rattle.ol_rules.specs.Runs.{IsRun}
use Rattle.ol_view.specs.Checks.{start_net_of_graph}
use Rattle.ol_orders.specs.Replays.{AreRising}

-- the entry is that of an active pair
pub record IsActiveEntry (N : NamedNet NodeName) (e : Entry) : Type 0 where
  pub f : NodeName
  pub g : NodeName
  pub named : IsNamed e f g
  pub active : IsActive N f g e.rule

-- the entries of the active pairs, all of them and each once, in the order of their smaller names
pub record AreActivePairs (N : NamedNet NodeName) (es : List Entry) : Type 0 where
  pub all : (e : Entry) → IsIn e es ↔ IsActiveEntry N e
  pub rising : AreRising es

-- M is N after whole rounds, which rewrote these entries; the first one has this ticket
pub data IsInRounds : NamedNet NodeName → ℕ → List Entry → NamedNet NodeName → Type 0 where
  end : {N : NamedNet NodeName} {t : ℕ} → IsInRounds N t [] N
  then : {N M P : NamedNet NodeName} {t : ℕ} {es later : List Entry} → AreActivePairs N es →
      IsRun N t es M → IsInRounds M (t + length es) later P → IsInRounds N t (es ++ later) P

-- the number of its round for each entry, where so many rounds were before
abbrev pub round_numbers : {N M : NamedNet NodeName} {t : ℕ} {es : List Entry} → IsInRounds N t es M →
    ℕ → List ℕ
round_numbers end before = []
round_numbers (then {es = es} pairs run more) before =
    replicate (length es) (suc before) ++ round_numbers more (suc before)

-- The run in rounds ends within the fuel, and this is its journal.
pub record EndsInRounds (g : Graph) (fuel : ℕ) (journal : List Entry) : Type 0 where
  pub last : NamedNet NodeName
  pub rounds : IsInRounds (start_net_of_graph g) 0 journal last
  pub ended : IsComplete last
  pub within : length journal ≤ fuel

-- The run in rounds goes on beyond the fuel, and the journal has its first entries, as many as the
-- fuel: those of whole rounds, and the first ones of a round that has more.
pub record GoesOnInRounds (g : Graph) (fuel : ℕ) (journal : List Entry) : Type 0 where
  pub whole : List Entry
  pub begun : List Entry
  pub next : Entry
  pub later : List Entry
  pub middle : NamedNet NodeName
  pub last : NamedNet NodeName
  pub rounds : IsInRounds (start_net_of_graph g) 0 whole middle
  pub pairs : AreActivePairs middle (begun ++ next ∷ later)
  pub run : IsRun middle (length whole) begun last
  pub journal_is : journal ≡ whole ++ begun
  pub spent : length journal ≡ fuel
