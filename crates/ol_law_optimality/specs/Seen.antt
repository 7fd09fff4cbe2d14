-- Virtual redexes on the walks of a net, and which of them a run contracts: the laws.
use Rattle.std.specs.Prelude.{◌≡◌, ℕ, suc, ◌<◌, ◌≤◌, Bool, List, ◌∷◌, ◌⊎◌, length}
use Rattle.ol_context.specs.Contexts.{Context, up}
use Rattle.ol_demand.specs.Answers.{start_of}
use Rattle.ol_demand.specs.Demands.{IsDemandRun, Asking, asks, Turn, rewrites, one_more, finds, Turns, begins}
use Rattle.ol_net.specs.Graph.{Graph}
use Rattle.ol_net.specs.Numbered.{net_of}
use Rattle.ol_net.specs.Nets.{SameNet, NamedNet, NamedPort, free, slot, HasNode, Linked, IsNet}
use Rattle.ol_term.specs.Trees.{Tree}
use Rattle.ol_term.specs.declared.translations.Translation.{Translation}
use Rattle.ol_translate.specs.Names.{HasNames}
use Rattle.ol_translate.specs.Translation.{translation_of}
use Rattle.ol_demand.specs.Chains.{Ends, left, undefined}
use Rattle.ol_demand.specs.Demands.{and_then}
use Rattle.ol_demand.specs.Laws.{IsStart}
use Rattle.ol_law_edges.specs.Edges.{IsTest, Joined}
use Rattle.ol_law_levels.specs.Levels.{IsLevelled}
use Rattle.ol_net.specs.Parts.{arity}
use Rattle.ol_net.specs.declared.parts.Kind.{Kind}
use Rattle.ol_net.specs.declared.parts.Rule.{Rule}
use Rattle.ol_net.specs.declared.parts.Rule.TheVariants as rule
use Rattle.ol_readback.specs.Frames.{Frame, asked}
use Rattle.ol_readback.specs.ReadTrees.{Subterm}
use Rattle.ol_readback.specs.declared.answers.ReadNode.{ReadNode}
use Rattle.ol_rules.specs.Counting.{times_applied}
use Rattle.ol_rules.specs.Laws.{IsFresh, AreNamedBefore}
use Rattle.ol_rules.specs.Rewriting.{IsStep}
use Rattle.ol_rules.specs.Runs.{IsRun}
use Rattle.ol_rules.specs.declared.journal.Entry.{Entry}
use Rattle.ol_rules.specs.declared.journal.NodeName.{NodeName}
use Rattle.ol_law_optimality.specs.Routes.{Route, IsResidueOf, IsLinkOf, IsBetaOf}
use Rattle.ol_law_optimality.specs.Redexes.{put, IsVirtualRedex}

-- One move of a walk: along a link, or through a node, from its slot 0 or back to it.
pub data Move {A : Type 0} (N : NamedNet A) : NamedPort A × Context → NamedPort A × Context →
    Type 0 where
  link : {p q : NamedPort A} {c : Context} → Linked N p q → Move N (p, c) (q, c)
  node : {x : A} {s : ℕ} {c d : Context} (k : Kind) (i : ℕ) → HasNode N x k i → s < arity k →
      up k i s c ≡ d → Move N (slot x 0, d) (slot x (suc s), c)

-- The walk from the free port p with context c passes port u with context d. A free port has one
-- move, and each other port has with one context at most two: so what moves lead to, taken either
-- way, is on the walk.
abbrev pub IsOnWalk : {A : Type 0} → NamedNet A → ℕ → Context → NamedPort A → Context → Type 0
IsOnWalk N p c u d = Joined (Move N) (free p, c) (u, d)

-- The walk passes a virtual redex: it comes to the principal port of its application, from either
-- side, with a context that the route leads on.
pub record IsSeen {A : Type 0} (N : NamedNet A) (p : ℕ) (c : Context) (s : Route A) : Type 0 where
  pub redex : IsVirtualRedex N s
  pub rest : Context
  pub on_walk : IsOnWalk N p c (slot s.from 0) (put redex.begin rest)

-- The chain of the walk meets no active pair: it leaves, or its next crossing isn't defined.
abbrev pub MeetsNone : {A : Type 0} → NamedNet A → ℕ → Context → Type 0
MeetsNone N p c = ((q : ℕ) × (X : Context) × Ends N p c (left q X)) ⊎ Ends N p c undefined

-- A step keeps the virtual redexes on each walk, but for the link of its own pair, and brings no
-- other there.
abbrev pub SeenHasResidue : Type 0 → Type 0
SeenHasResidue A = (same : A → A → Bool) → IsTest same →
    (born : ℕ → A) (N M : NamedNet A) (f g : A) (r : Rule) → IsNet N → IsFresh N born →
    (h : IsStep born N f g r M) (p : ℕ) (c : Context) (s : Route A) → IsSeen N p c s →
    IsLinkOf f g s ⊎ ((t : Route A) × IsSeen M p c t × IsResidueOf h s t)

abbrev pub SeenHasSource : Type 0 → Type 0
SeenHasSource A = (same : A → A → Bool) → IsTest same →
    (born : ℕ → A) (N M : NamedNet A) (f g : A) (r : Rule) → IsNet N → IsFresh N born →
    (h : IsStep born N f g r M) (p : ℕ) (c : Context) (t : Route A) → IsSeen M p c t →
    (s : Route A) × IsSeen N p c s × IsResidueOf h s t

-- On a walk of a levelled net that meets no active pair there is none.
abbrev pub NoneIsSeen : Type 0 → Type 0
NoneIsSeen A = (N : NamedNet A) → IsNet N → IsLevelled N → (p : ℕ) (c : Context) →
    MeetsNone N p c → (s : Route A) → IsSeen N p c s → ⊥

-- So a run, of any pairs in any order, after which a walk meets no active pair, contracts each
-- virtual redex that is on this walk in the first net.
abbrev pub SeenAreContracted : Type 0
SeenAreContracted = (N M : NamedNet NodeName) (t : ℕ) (es : List Entry) →
    IsNet N → AreNamedBefore N t → IsLevelled N → (r : IsRun N t es M) →
    (p : ℕ) (c : Context) → MeetsNone M p c → (s : Route NodeName) → IsSeen N p c s →
    (n : ℕ) × IsBetaOf r n s

-- Turns from N ask this: the walk from port p with context c. Fewer places than are asked for were
-- found before.
pub record IsQuestion (N : NamedNet NodeName) (heads p : ℕ) (c : Context) : Type 0 where
  pub turns : ℕ
  pub journal : List Entry
  pub places : List ReadNode
  pub net : NamedNet NodeName
  pub frames : List Frame
  pub subterm : Subterm
  pub later : List Subterm
  pub lams : ℕ
  pub below : length frames < heads
  pub made : Turns N heads turns journal places net (asks frames (subterm ∷ later) lams)
  pub port_is : p ≡ subterm.port
  pub context_is : c ≡ asked subterm.levels lams

-- And demand order contracts no other: each of its beta steps comes from a virtual redex that is,
-- in the first net, on the walk of a question which it asks.
abbrev pub DemandContractsTheSeen : Type 0
DemandContractsTheSeen = (N M : NamedNet NodeName) (heads turns : ℕ) (journal : List Entry)
    (places : List ReadNode) (a : Asking) →
    IsStart N → Turns N heads turns journal places M a →
    (r : IsRun N 0 journal M)
    × ((n : ℕ) (s : Route NodeName) → IsBetaOf r n s →
    (p : ℕ) × (c : Context) × IsQuestion N heads p c × IsSeen N p c s)

-- One of the turns asks this, and the walk meets no active pair.
abbrev pub AnswersNow : {heads ticket : ℕ} {M P : NamedNet NodeName} {a b : Asking}
    {es : List Entry} {ns : List ReadNode} → Turn heads M ticket a es ns P b → ℕ → Context → Type 0
AnswersNow (rewrites m) p c = ⊥
AnswersNow (one_more {s = s} {n = n} h l) p c = (p ≡ s.port) × (c ≡ asked s.levels n)
AnswersNow {M = M} (finds {s = s} {n = n} h f) p c =
    (p ≡ s.port) × (c ≡ asked s.levels n) × MeetsNone M p c

abbrev pub IsAnswered : {N : NamedNet NodeName} {heads : ℕ} {M : NamedNet NodeName} {turns : ℕ}
    {journal : List Entry} {places : List ReadNode} {a : Asking} →
    Turns N heads turns journal places M a → ℕ → Context → Type 0
IsAnswered begins p c = ⊥
IsAnswered (and_then r t) p c = IsAnswered r p c ⊎ AnswersNow t p c

-- So the beta steps of demand order are those of the virtual redexes that are, in the first net, on
-- the walks of its questions: it contracts no other, and on each walk that is answered all.
abbrev pub BetasOfDemand : Type 0
BetasOfDemand = (N M : NamedNet NodeName) (heads turns : ℕ) (journal : List Entry)
    (places : List ReadNode) (a : Asking) →
    IsStart N → IsLevelled N → (t : Turns N heads turns journal places M a) →
    (r : IsRun N 0 journal M)
    × ((n : ℕ) (s : Route NodeName) → IsBetaOf r n s →
    (p : ℕ) × (c : Context) × IsQuestion N heads p c × IsSeen N p c s)
    × ((p : ℕ) (c : Context) → IsAnswered t p c → (s : Route NodeName) → IsSeen N p c s →
    (n : ℕ) × IsBetaOf r n s)

-- So it is with the net of a term, by either translation.
abbrev pub BetasOfATermOnDemand : Type 0
BetasOfATermOnDemand = (τ : Translation) (t : Tree) (names : ℕ) → HasNames t names →
    (g : Graph) → IsNet (net_of g) → SameNet (net_of g) (translation_of τ t names) →
    (heads : ℕ) (journal : List Entry) (places : List ReadNode) (M : NamedNet NodeName) →
    (d : IsDemandRun (start_of g) heads journal places M) →
    (r : IsRun (start_of g) 0 journal M)
    × ((n : ℕ) (s : Route NodeName) → IsBetaOf r n s →
    (p : ℕ) × (c : Context) × IsQuestion (start_of g) heads p c × IsSeen (start_of g) p c s)
    × ((p : ℕ) (c : Context) → IsAnswered d.run p c → (s : Route NodeName) →
    IsSeen (start_of g) p c s → (n : ℕ) × IsBetaOf r n s)

-- So it contracts the fewest. In a run of any pairs in any order, after which each of its questions
-- meets no active pair, each virtual redex that it contracts is contracted too, and so there are no
-- fewer beta steps.
abbrev pub DemandContractsTheFewest : Type 0
DemandContractsTheFewest =
    (N M P : NamedNet NodeName) (heads turns : ℕ) (journal other : List Entry)
    (places : List ReadNode) (a : Asking) →
    IsStart N → IsLevelled N → Turns N heads turns journal places M a →
    (r' : IsRun N 0 other P) →
    ((p : ℕ) (c : Context) → IsQuestion N heads p c → MeetsNone P p c) →
    (r : IsRun N 0 journal M)
    × ((n : ℕ) (s : Route NodeName) → IsBetaOf r n s → (m : ℕ) × IsBetaOf r' m s)
    × (times_applied rule.Beta journal ≤ times_applied rule.Beta other)
