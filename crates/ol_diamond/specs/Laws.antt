-- Strong confluence (Lafont, Interaction Nets, 1990): over birth names a step depends on its pair
-- alone, and so the order of steps doesn't matter.
use Rattle.std.specs.Prelude.{◌≡◌, ◌≢◌, ℕ, ◌≤◌, ◌↔◌, List, ◌∷◌, ◌++◌, length, count_by, Bool}
use Rattle.ol_law_edges.specs.Edges.{IsIn}
use Rattle.ol_net.specs.declared.parts.Kind.{Kind}
use Rattle.ol_net.specs.declared.parts.Rule.{Rule}
use Rattle.ol_net.specs.Nets.{NamedNet, HasNode, IsNet, SameNet, net_under}
use Rattle.ol_rules.specs.declared.journal.NodeName.{NodeName}
use Rattle.ol_rules.specs.declared.journal.NodeName.TheVariants.{Init}
use Rattle.ol_rules.specs.declared.journal.Entry.{Entry}
use Rattle.ol_rules.specs.Counting.{is_rule}
use Rattle.ol_rules.specs.Laws.{AreNamedBefore, IsFresh}
use Rattle.ol_rules.specs.Runs.{IsRun}
use Rattle.ol_net.specs.Pairs.{IsComplete}
use Rattle.ol_diamond.specs.Births.{BirthName, init, born, IsBirthNet}
use Rattle.ol_diamond.specs.Runs.{BirthPair, IsSamePair, IsOfPairs, IsPairStep, IsPairRun, AreBirths}

-- Each name of a net of start nodes is no part of another, each step keeps this, and so does each run.
abbrev pub StartIsBirthNet : Type 0
StartIsBirthNet = (N : NamedNet ℕ) → IsNet N → IsBirthNet (net_under init N)

abbrev pub StepKeepsBirthNet : Type 0
StepKeepsBirthNet = (N M : NamedNet BirthName) (p : BirthPair) → IsBirthNet N → IsPairStep N p M → IsBirthNet M

abbrev pub RunKeepsBirthNet : Type 0
RunKeepsBirthNet = (N M : NamedNet BirthName) (ps : List BirthPair) → IsBirthNet N → IsPairRun N ps M → IsBirthNet M

-- No node of such a net has a name that a rewrite of two of its nodes would give.
abbrev pub BornIsFresh : Type 0
BornIsFresh = (N : NamedNet BirthName) (f g : BirthName) (k l : Kind) (i j : ℕ) → IsBirthNet N →
    HasNode N f k i → HasNode N g l j → IsFresh N (born f g)

-- Two different active pairs share no node, each is active after the other, and both orders leave one net.
abbrev pub PairsCommute : Type 0
PairsCommute = (N M P : NamedNet BirthName) (p q : BirthPair) → IsBirthNet N → IsPairStep N p M →
    IsPairStep N q P → (IsSamePair p q → ⊥) →
    ((p.f ≢ q.f) × (p.f ≢ q.g) × (p.g ≢ q.f) × (p.g ≢ q.g))
    × ((M' : NamedNet BirthName) × (P' : NamedNet BirthName) × IsPairStep M q M' × IsPairStep P p P' × SameNet M' P')

-- A net is complete exactly where it has no step.
abbrev pub DoneMeansDone : Type 0
DoneMeansDone = (N : NamedNet BirthName) → IsBirthNet N →
    IsComplete N ↔ ((p : BirthPair) (M : NamedNet BirthName) → IsPairStep N p M → ⊥)

-- A pair that is active now stands in each complete run, and the run with this pair moved to its
-- front is complete and leaves the same net.
abbrev pub PairToFront : Type 0
PairToFront = (N K M : NamedNet BirthName) (p : BirthPair) (ps : List BirthPair) → IsBirthNet N →
    IsPairStep N p K → IsPairRun N ps M → IsComplete M →
    (before : List BirthPair) × (q : BirthPair) × (after : List BirthPair) × (P : NamedNet BirthName) × IsSamePair p q
    × (ps ≡ before ++ (q ∷ after)) × IsPairRun N (p ∷ (before ++ after)) P × IsComplete P × SameNet M P

-- Each pair of a run is among the pairs of a complete run,
abbrev pub EachPairIsAmong : Type 0
EachPairIsAmong = (N M P : NamedNet BirthName) (ps qs : List BirthPair) → IsBirthNet N →
    IsPairRun N ps M → IsComplete M →
    IsPairRun N qs P →
    (q : BirthPair) → IsIn q qs → (p : BirthPair) × IsIn p ps × IsSamePair p q

-- and stands there at least as often,
abbrev pub NoRunHasMore : Type 0
NoRunHasMore = (N M P : NamedNet BirthName) (ps qs : List BirthPair) → IsBirthNet N → IsPairRun N ps M → IsComplete M →
    IsPairRun N qs P →
    (test : BirthPair → Bool) → IsOfPairs test → count_by test qs ≤ count_by test ps

-- and so none is longer.
abbrev pub NoRunIsLonger : Type 0
NoRunIsLonger = (N M P : NamedNet BirthName) (ps qs : List BirthPair) → IsBirthNet N → IsPairRun N ps M → IsComplete M →
    IsPairRun N qs P → length qs ≤ length ps

-- Complete runs have the same pairs, each as often,
abbrev pub CompleteRunsHaveOnePairs : Type 0
CompleteRunsHaveOnePairs = (N M P : NamedNet BirthName) (ps qs : List BirthPair) → IsBirthNet N →
    IsPairRun N ps M → IsComplete M →
    IsPairRun N qs P → IsComplete P →
    (test : BirthPair → Bool) → IsOfPairs test → count_by test ps ≡ count_by test qs

-- so each rule as often,
abbrev pub CompleteRunsHaveOneCounts : Type 0
CompleteRunsHaveOneCounts = (N M P : NamedNet BirthName) (ps qs : List BirthPair) → IsBirthNet N →
    IsPairRun N ps M → IsComplete M →
    IsPairRun N qs P → IsComplete P →
    (r : Rule) → count_by (λ (p : BirthPair). is_rule p.rule r) ps ≡ count_by (λ (p : BirthPair). is_rule p.rule r) qs

-- and leave one net.
abbrev pub CompleteRunsLeaveOneNet : Type 0
CompleteRunsLeaveOneNet = (N M P : NamedNet BirthName) (ps qs : List BirthPair) → IsBirthNet N →
    IsPairRun N ps M → IsComplete M →
    IsPairRun N qs P → IsComplete P → SameNet M P

-- The run along a journal from N to M as a run by birth names.
pub record RunByBirths (N : NamedNet NodeName) (journal : List Entry) (M : NamedNet NodeName) : Type 0 where
  pub birth : NodeName → BirthName
  pub initial : (k : ℕ) → birth (Init k) ≡ init k
  pub pairs : List BirthPair
  pub births : AreBirths birth 0 journal pairs
  pub start : IsBirthNet (net_under birth N)
  pub after : NamedNet BirthName
  pub run : IsPairRun (net_under birth N) pairs after
  pub same : SameNet after (net_under birth M)
  pub apart : (x y : NodeName) (k l : Kind) (i j : ℕ) → HasNode M x k i → HasNode M y l j → birth x ≡ birth y → x ≡ y

-- A run along a journal from a net of start nodes is, entry by entry, a run by birth names, and its
-- net is that run's net under these names.
abbrev pub BirthFollows : Type 0
BirthFollows = (N M : NamedNet NodeName) (journal : List Entry) → IsNet N → AreNamedBefore N 0 →
    IsRun N 0 journal M → RunByBirths N journal M

-- The journal's net is complete exactly where the run's is.
abbrev pub CompleteFollows : Type 0
CompleteFollows = (N M : NamedNet NodeName) (journal : List Entry) → IsNet N → AreNamedBefore N 0 →
    IsRun N 0 journal M →
    (r : RunByBirths N journal M) → IsComplete M ↔ IsComplete r.after

-- Two namings of one journal's run name each node of its net alike.
abbrev pub BirthNamesAreOne : Type 0
BirthNamesAreOne = (N M : NamedNet NodeName) (journal : List Entry) → IsNet N → AreNamedBefore N 0 →
    IsRun N 0 journal M →
    (r s : RunByBirths N journal M) → (x : NodeName) (k : Kind) (i : ℕ) → HasNode M x k i → r.birth x ≡ s.birth x
