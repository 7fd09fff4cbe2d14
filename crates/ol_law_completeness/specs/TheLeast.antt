-- Demand order is one of the runs that it is compared with. So it is the least of them: a run
-- serves to read the same places exactly where it has rewritten all that demand order rewrites.
use Rattle.std.specs.Prelude.{◌≡◌, ℕ, ◌<◌, ◌≤◌, ◌↔◌, List, [], ◌∷◌, ◌++◌, length}
use Rattle.ol_law_edges.specs.Edges.{IsIn}
use Rattle.ol_net.specs.Nets.{NamedNet, SameNet}
use Rattle.ol_rules.specs.declared.journal.NodeName.{NodeName}
use Rattle.ol_rules.specs.declared.journal.Entry.{Entry}
use Rattle.ol_rules.specs.Runs.{IsEntryStep, IsRun}
use Rattle.ol_diamond.specs.Laws.{RunByBirths}
use Rattle.ol_diamond.specs.Runs.{BirthPair, IsSamePair}
use Rattle.ol_readback.specs.declared.answers.ReadNode.{ReadNode}
use Rattle.ol_demand.specs.Demands.{Asking, Turns, IsDemandRun, GoesOn}
use Rattle.ol_demand.specs.Laws.{IsStart, ArePairsOf}
use Rattle.ol_law_completeness.specs.Complete.{StaysClear}
use Rattle.ol_law_completeness.specs.Least.{CanBeRead, IsLeast}

-- What can be read from a net by walks that meet no active pair can be read so from each net that
-- it is rewritten to, whatever pairs are rewritten.
abbrev pub EnoughIsKept : Type 0
EnoughIsKept = (N M P : NamedNet NodeName) (heads : ℕ) (journal more : List Entry) → IsStart N →
    StaysClear N → IsRun N 0 journal M → IsRun M (length journal) more P → CanBeRead M heads →
    CanBeRead P heads

-- The places that a demand run was asked for can be read from the net that it leaves, by walks that
-- meet no active pair.
abbrev pub DemandedIsEnough : Type 0
DemandedIsEnough = (N M : NamedNet NodeName) (heads : ℕ) (journal : List Entry)
    (places : List ReadNode) → IsStart N → StaysClear N → IsDemandRun N heads journal places M →
    CanBeRead M heads

-- The journal of a run from net N is the least for so many places. These places can be read from
-- the net that the run leaves, by walks that meet no active pair. Each run from net N, of any pairs
-- in any order, that leads to such a net has rewritten, by birth names, each pair of the journal,
-- and is no shorter. And each run that has rewritten these pairs, and maybe more, leads to such a
-- net.
pub record IsTheLeast (N : NamedNet NodeName) (heads : ℕ) (journal : List Entry) : Type 0 where
  pub least : IsLeast N heads journal
  pub enough : CanBeRead least.net heads
  pub serves : (other : List Entry) (P : NamedNet NodeName) → IsRun N 0 other P →
      (s : RunByBirths N other P) → ArePairsOf least.births s → CanBeRead P heads

-- So is the journal of each demand run that has an end.
abbrev pub DemandIsTheLeast : Type 0
DemandIsTheLeast = (N M : NamedNet NodeName) (heads : ℕ) (journal : List Entry)
    (places : List ReadNode) → IsStart N → StaysClear N → IsDemandRun N heads journal places M →
    IsTheLeast N heads journal

-- The pair is, by birth names, rewritten in each run from net N that serves for these places.
abbrev pub IsInEach : NamedNet NodeName → ℕ → BirthPair → Type 0
IsInEach N heads q = (other : List Entry) (P : NamedNet NodeName) → IsRun N 0 other P →
    CanBeRead P heads → (s : RunByBirths N other P) →
    (p : BirthPair) × IsIn p s.pairs × IsSamePair p q

-- The pairs of the least journal are those that all these runs have in common.
abbrev pub LeastIsInCommon : Type 0
LeastIsInCommon = (N : NamedNet NodeName) (heads : ℕ) (journal : List Entry) →
    (l : IsTheLeast N heads journal) (q : BirthPair) →
    IsInEach N heads q ↔ ((p : BirthPair) × IsIn p l.least.births.pairs × IsSamePair p q)

-- There is but one, up to the order of its pairs: two of them have the same pairs and one length,
-- and lead to one net, by birth names.
abbrev pub TheLeastIsOne : Type 0
TheLeastIsOne = (N : NamedNet NodeName) (heads : ℕ) (journal journal' : List Entry) → IsStart N →
    StaysClear N → (l : IsTheLeast N heads journal) (l' : IsTheLeast N heads journal') →
    ArePairsOf l.least.births l'.least.births × ArePairsOf l'.least.births l.least.births
    × (length journal ≡ length journal') × SameNet l.least.births.after l'.least.births.after

-- And where some run from a net with a root serves for these places, the demand run has an end.
abbrev pub EndsWhereOneServes : Type 0
EndsWhereOneServes = (N P : NamedNet NodeName) (heads : ℕ) (other : List Entry) → IsStart N →
    StaysClear N → 0 < N.free_ports → IsRun N 0 other P → CanBeRead P heads →
    (journal : List Entry) × (places : List ReadNode) × (M : NamedNet NodeName)
    × IsDemandRun N heads journal places M

-- ---- wrong demands

-- A run that rewrites one pair more than the demand run leads to a net from which the places can be
-- read by walks that meet no active pair, but its journal isn't least.
abbrev pub OneMoreIsNotLeast : Type 0
OneMoreIsNotLeast = (N M P : NamedNet NodeName) (heads : ℕ) (journal : List Entry)
    (places : List ReadNode) (e : Entry) → IsStart N → StaysClear N →
    IsDemandRun N heads journal places M → IsEntryStep M (length journal) e P →
    CanBeRead P heads × (IsLeast N heads (journal ++ e ∷ []) → ⊥)

-- Nor is any other that is longer than the demand run.
abbrev pub LongerIsNotLeast : Type 0
LongerIsNotLeast = (N M : NamedNet NodeName) (heads : ℕ) (journal other : List Entry)
    (places : List ReadNode) → IsStart N → StaysClear N → IsDemandRun N heads journal places M →
    length journal < length other → IsLeast N heads other → ⊥

-- A run that stops where demand order would meet one pair more, or any other that is no longer,
-- leads to a net from which the places can't be read by walks that meet no active pair.
abbrev pub StoppedIsNotEnough : Type 0
StoppedIsNotEnough = (N M P : NamedNet NodeName) (heads : ℕ) (journal other : List Entry) →
    IsStart N → StaysClear N → GoesOn N heads journal M → IsRun N 0 other P →
    length other ≤ length journal → CanBeRead P heads → ⊥

-- Nor does a run that leaves out a pair of the demand run, or of a front part of it, however long
-- it is and whatever it rewrites in its place.
abbrev pub MissingIsNotEnough : Type 0
MissingIsNotEnough = (N M P : NamedNet NodeName) (heads turns : ℕ) (journal other : List Entry)
    (places : List ReadNode) (a : Asking) → IsStart N → StaysClear N →
    Turns N heads turns journal places M a → IsRun N 0 other P →
    (r : RunByBirths N journal M) (s : RunByBirths N other P) (q : BirthPair) → IsIn q r.pairs →
    ((p : BirthPair) → IsIn p s.pairs → IsSamePair p q → ⊥) → CanBeRead P heads → ⊥
