-- Demand order is least: each pair that it rewrites is rewritten in every run that is enough for
-- the places that are read.
use Rattle.std.specs.Prelude.{ℕ, suc, ◌<◌, ◌≤◌, ◌↔◌, List, [], ◌∷◌, ◌++◌, length}
use Rattle.ol_net.specs.declared.parts.Kind.{Kind}
use Rattle.ol_net.specs.declared.parts.Rule.{Rule}
use Rattle.ol_net.specs.Nets.{NamedNet, NamedPort, free, slot, HasNode, Linked, IsNet}
use Rattle.ol_net.specs.Pairs.{IsComplete}
use Rattle.ol_context.specs.Paths.{Crosses}
use Rattle.ol_context.specs.Contexts.{Level, Context}
use Rattle.ol_rules.specs.declared.journal.NodeName.{NodeName}
use Rattle.ol_rules.specs.declared.journal.Entry.{Entry}
use Rattle.ol_rules.specs.Runs.{IsRun}
use Rattle.ol_diamond.specs.Laws.{RunByBirths}
use Rattle.ol_readback.specs.Frames.{Frame, asked}
use Rattle.ol_readback.specs.Heads.{NoPath}
use Rattle.ol_readback.specs.Matching.{Matches, MatchesNothing}
use Rattle.ol_readback.specs.ReadTrees.{Subterm, whole_term, framed, port_of, arguments}
use Rattle.ol_readback.specs.Terms.{HasAllHeads}
use Rattle.ol_readback.specs.declared.answers.HeadVar.{HeadVar}
use Rattle.ol_readback.specs.declared.answers.ReadNode.{ReadNode}
use Rattle.ol_demand.specs.Chains.{IsAtPair, IsAtNoPair, Ends, left}
use Rattle.ol_demand.specs.Demands.{Asking, Turns, IsDemandRun}
use Rattle.ol_demand.specs.Laws.{IsStart, ArePairsOf}
use Rattle.ol_law_levels.specs.Levels.{IsLevelled}
use Rattle.ol_law_completeness.specs.Laws.{CrossesNoStuck}
use Rattle.ol_law_completeness.specs.Complete.{StaysClear}

-- From the free port p with context c, n crossings were made, and no active pair was met before: a
-- chain of any length.
pub data Clean {A : Type 0} (N : NamedNet A) (p : ℕ) (c : Context) : ℕ → NamedPort A → Context →
    Type 0 where
  starts : Clean N p c 0 (free p) c
  crosses : {n : ℕ} {u : NamedPort A} {d e : Context} {x : A} {k : Kind} {i s t : ℕ} →
      Clean N p c n u d → IsAtNoPair N u → Linked N u (slot x s) → HasNode N x k i →
      Crosses k i s d t e → Clean N p c (suc n) (slot x t) e

-- it comes to the link of an active pair
pub record Meets {A : Type 0} (N : NamedNet A) (p : ℕ) (c : Context) (f g : A) (r : Rule) : Type 0
  where
    pub made : ℕ
    pub port : NamedPort A
    pub context : Context
    pub clean : Clean N p c made port context
    pub at : IsAtPair N port f g r

abbrev pub MeetsNone : {A : Type 0} → NamedNet A → ℕ → Context → Type 0
MeetsNone {A} N p c = (f g : A) (r : Rule) → Meets N p c f g r → ⊥

-- The subterms still to be read, in preorder, can be read from the net by walks that meet no active
-- pair, where these frames are those of the places before. A place with a head: the chain of its
-- frame, for the least number of abstractions for which a path leaves, meets no pair and leaves. A
-- place without a head: the chains of its frame, for any number of abstractions, meet no pair.
-- Where the chain leaves by an exit that is no variable, the place has no head either. Of places
-- from number most on nothing is said.
pub data IsEnough (P : NamedNet NodeName) (most : ℕ) : List Frame → List Subterm → Type 0 where
  done : {frames : List Frame} → IsEnough P most frames []
  past : {frames : List Frame} {ss : List Subterm} → most ≤ length frames →
      IsEnough P most frames ss
  place : {frames : List Frame} {s : Subterm} {ss : List Subterm} {n q k : ℕ} {X : Context}
      {v : HeadVar} {ls : List Level} →
      ((j : ℕ) → j < n → NoPath P s.port (asked s.levels j)) →
      Ends P s.port (asked s.levels n) (left q X) →
      Matches (frames ++ framed s 0 ∷ []) q X (length frames) n v k ls →
      IsEnough P most (frames ++ framed s n ∷ []) (arguments (length frames)
      (port_of (frames ++ framed s n ∷ []) v) ls 0 k ++ ss) →
      IsEnough P most frames (s ∷ ss)
  unknown : {frames : List Frame} {s : Subterm} {ss : List Subterm} {n q : ℕ} {X : Context} →
      ((j : ℕ) → j < n → NoPath P s.port (asked s.levels j)) →
      Ends P s.port (asked s.levels n) (left q X) →
      MatchesNothing (frames ++ framed s 0 ∷ []) q X (length frames) n →
      IsEnough P most (frames ++ framed s 0 ∷ []) ss → IsEnough P most frames (s ∷ ss)
  headless : {frames : List Frame} {s : Subterm} {ss : List Subterm} →
      ((n : ℕ) → NoPath P s.port (asked s.levels n)) → ((n : ℕ) →
      MeetsNone P s.port (asked s.levels n)) →
      IsEnough P most (frames ++ framed s 0 ∷ []) ss → IsEnough P most frames (s ∷ ss)

-- The whole term's first places, as many as heads, can be read from net P by walks that meet no
-- active pair.
abbrev pub CanBeRead : NamedNet NodeName → ℕ → Type 0
CanBeRead P heads = IsEnough P heads [] (whole_term ∷ [])

-- A run, of any pairs in any order, leads to a net from which the first places can be read by walks
-- that meet no active pair. Then it rewrites, by birth names, each pair that demand order rewrites
-- for these places, and makes no fewer steps.
abbrev pub DemandIsLeast : Type 0
DemandIsLeast =
    (N M P : NamedNet NodeName) (most heads turns : ℕ) (journal other : List Entry)
    (places : List ReadNode) (a : Asking) →
    IsStart N → StaysClear N → heads ≤ most → Turns N heads turns journal places M a →
    IsRun N 0 other P → CanBeRead P most →
    ((r : RunByBirths N journal M) (s : RunByBirths N other P) →
    ArePairsOf r s) × (length journal ≤ length other)

-- So it is where demand order makes no step from net P, and reads a head at each place that it
-- asks.
abbrev pub EnoughAsItIs : Type 0
EnoughAsItIs = (P M : NamedNet NodeName) (heads : ℕ) (places : List ReadNode) → IsNet P →
    (d : IsDemandRun P heads [] places M) → HasAllHeads d.asked_places →
    CanBeRead P heads

-- And so it is whatever demand order finds at these places, if no walk of net P crosses a stuck
-- pair: where it asks a place in vain for some number of abstractions, and for no more, the chains
-- for more meet no pair either.
abbrev pub EnoughWithoutHeads : Type 0
EnoughWithoutHeads = (P M : NamedNet NodeName) (heads : ℕ) (places : List ReadNode) → IsNet P →
    CrossesNoStuck P → IsDemandRun P heads [] places M → CanBeRead P heads

-- Where no walk of a net with a root crosses a stuck pair, that is the whole meaning of the word:
-- so many places can be read from it by walks that meet no active pair exactly where the demand run
-- that asks for them makes no step and has an end.
abbrev pub ReadAsItIs : Type 0
ReadAsItIs = (P : NamedNet NodeName) (heads : ℕ) → IsNet P → CrossesNoStuck P → 0 < P.free_ports →
    CanBeRead P heads ↔ ((places : List ReadNode) × IsDemandRun P heads [] places P)

-- Each complete run from net N leads to a net from which so many places can be read by walks that
-- meet no active pair.
abbrev pub CompleteRunsAreEnough : NamedNet NodeName → ℕ → Type 0
CompleteRunsAreEnough N heads = (other : List Entry) (P : NamedNet NodeName) →
    IsRun N 0 other P → IsComplete P → CanBeRead P heads

-- That is so where the demand run for these places has an end, whatever it finds there.
abbrev pub CompleteIsEnough : Type 0
CompleteIsEnough = (N M : NamedNet NodeName) (heads : ℕ) (journal : List Entry)
    (places : List ReadNode) →
    IsStart N → StaysClear N → IsDemandRun N heads journal places M →
    CompleteRunsAreEnough N heads

-- The journal of a run from net N is least for so many places: each run, of any pairs in any order,
-- that leads to a net from which these places can be read by walks that meet no active pair has
-- rewritten, by birth names, each pair of the journal, and is no shorter.
pub record IsLeast (N : NamedNet NodeName) (heads : ℕ) (journal : List Entry) : Type 0 where
  pub net : NamedNet NodeName
  pub run : IsRun N 0 journal net
  pub births : RunByBirths N journal net
  pub needed : (other : List Entry) (P : NamedNet NodeName) → IsRun N 0 other P →
      CanBeRead P heads → (s : RunByBirths N other P) → ArePairsOf births s
  pub no_shorter : (other : List Entry) (P : NamedNet NodeName) → IsRun N 0 other P →
      CanBeRead P heads → length journal ≤ length other

-- So is the journal of each demand run from a levelled net, and of each front part of one.
abbrev pub DemandedIsLeast : Type 0
DemandedIsLeast = (N M : NamedNet NodeName) (heads turns : ℕ) (journal : List Entry)
    (places : List ReadNode) (a : Asking) → IsStart N → IsLevelled N →
    Turns N heads turns journal places M a → IsLeast N heads journal
