-- Waves: the round in which a pair would be rewritten if each round rewrote all pairs that are there.
use Rattle.std.specs.Prelude.{◌≡◌, ℕ, suc, ◌≤◌, ◌↔◌, Bool, List, [], ◌∷◌, map}
use Rattle.ol_law_edges.specs.Edges.{Edge, Contracted}
use Rattle.ol_net.specs.declared.parts.Kind.{Kind}
use Rattle.ol_net.specs.declared.parts.Rule.{Rule}
use Rattle.ol_net.specs.Nets.{NamedPort, slot, NamedNet, Linked, SameNet, net_under, IsPrincipalOf, IsSlotOf}
use Rattle.ol_rules.specs.Rewriting.{Action, action_of, JoinOf, IsStep}
use Rattle.ol_net.specs.Graph.{Graph}
use Rattle.ol_net.specs.Numbered.{net_of}
use Rattle.ol_rules.specs.declared.journal.NodeName.{NodeName}
use Rattle.ol_rules.specs.declared.journal.NodeName.TheVariants.{Init}
use Rattle.ol_rules.specs.Runs.{IsRun}
use Rattle.ol_rules.specs.declared.journal.Entry.{Entry}
use Rattle.ol_diamond.specs.Births.{BirthName, born}
use Rattle.ol_diamond.specs.Runs.{BirthPair, IsSamePair}
use Rattle.ol_diamond.specs.Laws.{RunByBirths}

-- a net whose links have weights
pub record WeightedNet (A : Type 0) : Type 0 where
  pub net : NamedNet A
  pub weight : NamedPort A → NamedPort A → ℕ

-- each link of the first net weighs nothing
abbrev pub weightless : {A : Type 0} → NamedNet A → WeightedNet A
weightless N = record { net = N; weight = λ u v. 0 }

-- a link of weight n at most
abbrev pub LinkedWithin : {A : Type 0} → WeightedNet A → ℕ → NamedPort A → NamedPort A → Type 0
LinkedWithin N n u v = Linked N.net u v × (N.weight u v ≤ n)

module _ {A : Type 0} (names : ℕ → A) (f g : A) (k l : Kind) (a : Action) (wave : ℕ) where
  -- the joins that a step makes, where they weigh n at most: each weighs as much as the step's wave
  abbrev pub JoinWithin : ℕ → NamedPort A → NamedPort A → Type 0
  JoinWithin n u v = JoinOf names f g k l a u v × (wave ≤ n)

  -- what links within n become in the step: ports joined by way of such links and such joins
  abbrev pub LeftWithin : (ℕ → NamedPort A → NamedPort A → Type 0) → ℕ → NamedPort A → NamedPort A → Type 0
  LeftWithin within n = Contracted (Edge (within n) (IsPrincipalOf f g) (JoinWithin n)) (IsSlotOf f g)

-- The step of an active pair between nets with weights. Its wave is one more than the weight of the
-- link of its two nodes. Of two edges that become one the greater weight stays: a link weighs n at
-- most exactly where its ports were joined by edges that weigh n at most.
pub record IsWaveStep {A : Type 0} (names : ℕ → A) (N : WeightedNet A) (f g : A) (r : Rule)
    (wave : ℕ) (M : WeightedNet A) : Type 0 where
  pub step : IsStep names N.net f g r M.net
  pub wave_is : wave ≡ suc (N.weight (slot f 0) (slot g 0))
  pub weights : (n : ℕ) (u v : NamedPort A) →
      LinkedWithin M n u v ↔ LeftWithin names f g step.active.k step.active.l
      (action_of r step.active.j) wave (LinkedWithin N) n u v

-- M is N after the rewrite of the active pair p.0, in wave p.1
abbrev pub IsPairWave : WeightedNet BirthName → BirthPair × ℕ → WeightedNet BirthName → Type 0
IsPairWave N p M = IsWaveStep (born p.0.f p.0.g) N p.0.f p.0.g p.0.rule p.1 M

-- M is N after these pairs, in order, each with its wave
pub data IsWaveRun : WeightedNet BirthName → List (BirthPair × ℕ) → WeightedNet BirthName → Type 0 where
  end : {N : WeightedNet BirthName} → IsWaveRun N [] N
  then : {N M P : WeightedNet BirthName} {p : BirthPair × ℕ} {ps : List (BirthPair × ℕ)} →
      IsPairWave N p M → IsWaveRun M ps P → IsWaveRun N (p ∷ ps) P

-- one pair and one wave
abbrev pub IsSameWave : BirthPair × ℕ → BirthPair × ℕ → Type 0
IsSameWave p q = IsSamePair p.0 q.0 × (p.1 ≡ q.1)

-- a test of pairs with waves that doesn't look at which node is written first
abbrev pub IsOfWaves : (BirthPair × ℕ → Bool) → Type 0
IsOfWaves test = (p q : BirthPair × ℕ) → IsSameWave p q → test p ≡ test q

-- these are the waves of the entries of a journal from N to M: those of their pairs, by birth names
pub record AreWaves (N : NamedNet NodeName) (journal : List Entry) (M : NamedNet NodeName)
    (waves : List ℕ) : Type 0 where
  pub births : RunByBirths N journal M
  pub pairs : List (BirthPair × ℕ)
  pub of_births : map (λ (p : BirthPair × ℕ). p.0) pairs ≡ births.pairs
  pub waves_are : map (λ (p : BirthPair × ℕ). p.1) pairs ≡ waves
  pub after : WeightedNet BirthName
  pub run : IsWaveRun (weightless (net_under births.birth N)) pairs after
  pub same : SameNet births.after after.net

-- these are the waves of the entries of a journal of some run from the graph, whose nodes are named by their numbers
pub record IsWavesOf (g : Graph) (journal : List Entry) (waves : List ℕ) : Type 0 where
  pub last : NamedNet NodeName
  pub run : IsRun (net_under Init (net_of g)) 0 journal last
  pub waves_are : AreWaves (net_under Init (net_of g)) journal last waves
