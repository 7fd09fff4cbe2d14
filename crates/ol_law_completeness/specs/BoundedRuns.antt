-- Where the walks over a net are bounded, every run of it ends.
use Rattle.std.specs.Prelude.{ℕ, suc, ◌+◌, ◌*◌, ◌<◌, ◌≤◌, Bool, List, length}
use Rattle.ol_law_edges.specs.Edges.{IsTest}
use Rattle.ol_net.specs.Graph.{Graph}
use Rattle.ol_net.specs.Nets.{NamedNet, IsNet, SameNet, net_under}
use Rattle.ol_net.specs.Numbered.{net_of}
use Rattle.ol_net.specs.Pairs.{IsComplete}
use Rattle.ol_net.specs.declared.parts.Rule.{Rule}
use Rattle.ol_rules.specs.Laws.{IsFresh, AreNamedBefore}
use Rattle.ol_rules.specs.Rewriting.{IsStep}
use Rattle.ol_rules.specs.Runs.{IsRun, IsOneThread}
use Rattle.ol_rules.specs.declared.journal.Entry.{Entry}
use Rattle.ol_rules.specs.declared.journal.NodeName.{NodeName}
use Rattle.ol_rules.specs.declared.journal.NodeName.TheVariants.{Init}
use Rattle.ol_law_completeness.specs.Rings.{HasNoRing}
use Rattle.ol_law_completeness.specs.Walks.{AreBounded}
use Rattle.ol_law_completeness.specs.Weights.{weight, WeighsAtMost}

-- A step of any active pair makes a net lighter.
abbrev pub StepLightens : Type 0 → Type 0
StepLightens A = (same : A → A → Bool) → IsTest same →
    (born : ℕ → A) (N M : NamedNet A) (f g : A) (r : Rule) →
    IsNet N → IsFresh N born → IsStep born N f g r M →
    (m : ℕ) → WeighsAtMost N m → (n : ℕ) × (n < m) × WeighsAtMost M n

-- So a run, of any pairs in any order, is no longer than the net weighs.
abbrev pub RunsAreShort : Type 0
RunsAreShort = (N M : NamedNet NodeName) (ticket : ℕ) (journal : List Entry) (m : ℕ) →
    IsNet N → AreNamedBefore N ticket → IsRun N ticket journal M → WeighsAtMost N m →
    (n : ℕ) × (n + length journal ≤ m) × WeighsAtMost M n

-- Where no walk makes more than b crossings, the net weighs no more than this.
abbrev pub BoundedIsLight : Type 0 → Type 0
BoundedIsLight A = (N : NamedNet A) (b : ℕ) → IsNet N → AreBounded N b →
    WeighsAtMost N (length N.nodes * weight (suc b))

-- So no run is longer than this.
abbrev pub BoundedRunsAreShort : Type 0
BoundedRunsAreShort = (N M : NamedNet NodeName) (ticket : ℕ) (journal : List Entry) (b : ℕ) →
    IsNet N → AreNamedBefore N ticket → AreBounded N b → IsRun N ticket journal M →
    length journal ≤ length N.nodes * weight (suc b)

-- And with more fuel the one-thread run ends: its last net has no active pair.
abbrev pub BoundedRunEnds : Type 0
BoundedRunEnds = (N M : NamedNet NodeName) (fuel : ℕ) (journal : List Entry) (b : ℕ) →
    IsNet N → AreNamedBefore N 0 → AreBounded N b → length N.nodes * weight (suc b) < fuel →
    IsOneThread N fuel journal M → IsComplete M

-- So there is a complete run.
abbrev pub BoundedHasComplete : Type 0
BoundedHasComplete = (N : NamedNet NodeName) (b : ℕ) → IsNet N → AreNamedBefore N 0 →
    AreBounded N b →
    (journal : List Entry) × (M : NamedNet NodeName) × IsRun N 0 journal M × IsComplete M

-- no run from the start net of a graph is longer than n, and with more fuel the one-thread run ends
pub record RunsEndWithin (g : Graph) (n : ℕ) : Type 0 where
  pub short : (journal : List Entry) (M : NamedNet NodeName) →
      IsRun (net_under Init (net_of g)) 0 journal M → length journal ≤ n
  pub ends : (fuel : ℕ) (journal : List Entry) (M : NamedNet NodeName) → n < fuel →
      IsOneThread (net_under Init (net_of g)) fuel journal M → IsComplete M

-- So it is with each graph that has the net, in whatever order its lists are: a net of a term is of
-- numbered nodes.
abbrev pub BoundedGraphRunsEnd : Type 0
BoundedGraphRunsEnd = (N : NamedNet ℕ) (b : ℕ) → IsNet N → AreBounded N b →
    (g : Graph) → IsNet (net_of g) → SameNet (net_of g) N →
    RunsEndWithin g (length N.nodes * weight (suc b))

-- A net that has a weight has no ring of principal ports: a walk that rises into one never ends.
abbrev pub LightHasNoRing : Type 0 → Type 0
LightHasNoRing A = (N : NamedNet A) (m : ℕ) → IsNet N → WeighsAtMost N m → HasNoRing N
