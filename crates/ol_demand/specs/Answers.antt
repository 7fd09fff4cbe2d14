-- What a demand run of a graph answers.
use Rattle.std.specs.Prelude.{◌≡◌, ℕ, ◌<◌, ◌≤◌, true, List, length}
use Rattle.ol_net.specs.Graph.{Graph}
use Rattle.ol_net.specs.Nets.{NamedNet, net_under}
use Rattle.ol_net.specs.Pairs.{IsComplete}
use Rattle.ol_net.specs.Numbered.{net_of}
use Rattle.ol_rules.specs.declared.journal.NodeName.{NodeName}
use Rattle.ol_rules.specs.declared.journal.NodeName.TheVariants.{Init}
use Rattle.ol_rules.specs.declared.journal.Entry.{Entry}
use Rattle.ol_rules.specs.Names.{comes_before}
use Rattle.ol_rules.specs.Runs.{IsRun}
use Rattle.ol_diamond.specs.Laws.{RunByBirths}
use Rattle.ol_readback.specs.declared.answers.ReadNode.{ReadNode}
use Rattle.ol_demand.specs.Demands.{Asking, Turns, IsDemandRun, GoesOn}
use Rattle.ol_demand.specs.Laws.{ArePairsOf}
use Rattle.ol_demand.specs.declared.answers.Demanded.{Demanded}
use Rattle.ol_demand.specs.declared.answers.Demanded.TheVariants as answer

-- the graph's net, its nodes named as those of the start
abbrev pub start_of : Graph → NamedNet NodeName
start_of g = net_under Init (net_of g)

-- Names of numbers: a start node is named by its number, and a greater number has a later name.
pub record AreNames (start next : ℕ) (names : ℕ → NodeName) : Type 0 where
  pub initial : (k : ℕ) → k < start → names k ≡ Init k
  pub rising : (j k : ℕ) → j < k → k < next → comes_before (names j) (names k) ≡ true

-- Graph new stands, under names of its numbers, for a net of which P holds. Old is the graph before.
pub record StandsFor (old new : Graph) (P : NamedNet NodeName → Type 0) : Type 0 where
  pub names : ℕ → NodeName
  pub are_names : AreNames (length old.nodes) (length new.nodes) names
  pub is : P (net_under names (net_of new))

-- Done: the tree and the journal are those of the whole demand run, which has no more steps than
-- the fuel, and the net is the
-- one after it. Spent: the journal has the first pairs that it rewrites, as many as the fuel, and it meets one more.
abbrev pub IsAnswer : Graph → ℕ → ℕ → Graph → Demanded → Type 0
IsAnswer old heads fuel new (answer.Done tree journal) = StandsFor old new
    (λ M. IsDemandRun (start_of old) heads journal tree M) × (length journal ≤ fuel)
IsAnswer old heads fuel new (answer.Spent journal) = StandsFor old new
    (λ M. GoesOn (start_of old) heads journal M) × (length journal ≡ fuel)

-- the answer is Spent
abbrev pub IsSpent : Demanded → Type 0
IsSpent (answer.Done tree journal) = ⊥
IsSpent (answer.Spent journal) = Unit {0}

-- the entries that were written down
abbrev pub journal_of : Demanded → List Entry
journal_of (answer.Done tree journal) = journal
journal_of (answer.Spent journal) = journal

-- what holds of the tree, if there is one
abbrev pub IfDone : Demanded → (List ReadNode → Type 0) → Type 0
IfDone (answer.Done tree journal) P = P tree
IfDone (answer.Spent journal) P = Unit {0}

-- The net is what a front part of the demand run leaves, of no more steps than the fuel.
pub record IsFront (N : NamedNet NodeName) (heads fuel : ℕ) (M : NamedNet NodeName) : Type 0 where
  pub turns : ℕ
  pub journal : List Entry
  pub places : List ReadNode
  pub next : Asking
  pub run : Turns N heads turns journal places M next
  pub within : length journal ≤ fuel

abbrev pub StopsOnTheWay : Graph → ℕ → ℕ → Graph → Type 0
StopsOnTheWay old heads fuel new = StandsFor old new (λ M. IsFront (start_of old) heads fuel M)

-- Each pair of the journal is, by birth names, in every complete run from this net.
pub record IsNeeded (N : NamedNet NodeName) (journal : List Entry) : Type 0 where
  pub net : NamedNet NodeName
  pub run : IsRun N 0 journal net
  pub births : RunByBirths N journal net
  pub needed : (complete : List Entry) (P : NamedNet NodeName) → IsRun N 0 complete P → IsComplete P →
      (s : RunByBirths N complete P) → ArePairsOf births s
