-- The laws of demand order.
use Rattle.std.specs.Prelude.{◌≡◌, ℕ, ◌≤◌, List, length, false}
use Rattle.ol_law_edges.specs.Edges.{IsIn}
use Rattle.ol_net.specs.Nets.{NamedNet, IsNet, SameNet}
use Rattle.ol_net.specs.Pairs.{IsComplete}
use Rattle.ol_context.specs.Paths.{HaveSamePaths}
use Rattle.ol_context.specs.Short.{IsOnce}
use Rattle.ol_rules.specs.declared.journal.NodeName.{NodeName}
use Rattle.ol_rules.specs.declared.journal.Entry.{Entry}
use Rattle.ol_rules.specs.Laws.{AreNamedBefore}
use Rattle.ol_rules.specs.Runs.{IsRun}
use Rattle.ol_diamond.specs.Laws.{RunByBirths}
use Rattle.ol_diamond.specs.Runs.{BirthPair, IsSamePair}
use Rattle.ol_readback.specs.Sources.{HasHeadsOf}
use Rattle.ol_readback.specs.declared.answers.ReadNode.{ReadNode}
use Rattle.ol_demand.specs.Demands.{Asking, Turns, IsDemandRun, GoesOn, HasMoreSteps}

-- a net of start nodes, each listed once
pub record IsStart (N : NamedNet NodeName) : Type 0 where
  pub net : IsNet N
  pub named : AreNamedBefore N 0
  pub once : IsOnce N.nodes

-- The turns from a net of start nodes rewrite along their journal, so they keep each path between free ports.
abbrev pub TurnsAreRun : Type 0
TurnsAreRun = (N M : NamedNet NodeName) (heads turns : ℕ) (journal : List Entry) (places : List ReadNode) (a : Asking) →
    IsStart N → Turns N heads turns journal places M a → IsRun N 0 journal M × HaveSamePaths N M

-- Each pair of the first run is among the pairs of the second, by birth names.
abbrev pub ArePairsOf : {N M P : NamedNet NodeName} {journal complete : List Entry} →
    RunByBirths N journal M → RunByBirths N complete P → Type 0
ArePairsOf r s = (q : BirthPair) → IsIn q r.pairs → (p : BirthPair) × IsIn p s.pairs × IsSamePair p q

-- Each pair that is rewritten is, by birth names, rewritten in every complete run.
abbrev pub EachPairIsNeeded : Type 0
EachPairIsNeeded = (N M P : NamedNet NodeName) (heads turns : ℕ) (journal complete : List Entry)
    (places : List ReadNode) (a : Asking) →
    IsStart N → Turns N heads turns journal places M a → IsRun N 0 complete P → IsComplete P →
    (r : RunByBirths N journal M) (s : RunByBirths N complete P) → ArePairsOf r s

-- Each head that is found is that of the net before the run, by paths of any length.
abbrev pub HeadsAreOfSource : Type 0
HeadsAreOfSource = (N M : NamedNet NodeName) (heads : ℕ) (journal : List Entry) (places : List ReadNode) →
    IsStart N → IsDemandRun N heads journal places M → HasHeadsOf N false places

-- A net of start nodes has one demand run, however its lists are ordered: one journal and one list
-- of places, and one net.
abbrev pub DemandRunIsOne : Type 0
DemandRunIsOne = (N N' M M' : NamedNet NodeName) (heads : ℕ) (journal journal' : List Entry)
    (places places' : List ReadNode) →
    IsStart N → IsOnce N'.nodes → SameNet N N' → IsDemandRun N heads journal places M →
    IsDemandRun N' heads journal' places' M' →
    (journal ≡ journal') × (places ≡ places') × SameNet M M'

-- The first pairs that it rewrites, as many as the fuel, are one journal, where it has more steps.
abbrev pub FrontIsOne : Type 0
FrontIsOne = (N N' M M' : NamedNet NodeName) (heads fuel : ℕ) (journal journal' : List Entry) →
    IsStart N → IsOnce N'.nodes → SameNet N N' → GoesOn N heads journal M →
    GoesOn N' heads journal' M' → length journal ≡ fuel → length journal' ≡ fuel →
    (journal ≡ journal') × SameNet M M'

-- It has more steps than its journal has entries never.
abbrev pub EndsOrGoesOn : Type 0
EndsOrGoesOn = (N N' M : NamedNet NodeName) (heads fuel : ℕ) (journal : List Entry) (places : List ReadNode) →
    IsStart N → IsOnce N'.nodes → SameNet N N' → IsDemandRun N heads journal places M →
    length journal ≤ fuel → HasMoreSteps N' heads fuel → ⊥
