-- Demand order reads the normal form of each term that leftmost reduction brings to one, from the
-- term's own net.
use Rattle.std.specs.Prelude.{◌≡◌, ℕ, suc, ◌<◌, ◌≤◌, ◌↔◌, List, [], ◌∷◌, length, true}
use Rattle.ol_net.specs.Graph.{Graph}
use Rattle.ol_net.specs.Nets.{IsNet, SameNet, NamedNet}
use Rattle.ol_net.specs.Numbered.{net_of}
use Rattle.ol_rules.specs.declared.journal.Entry.{Entry}
use Rattle.ol_rules.specs.declared.journal.NodeName.{NodeName}
use Rattle.ol_rules.specs.Runs.{IsRun}
use Rattle.ol_diamond.specs.Laws.{RunByBirths}
use Rattle.ol_term.specs.Trees.{Tree}
use Rattle.ol_term.specs.declared.translations.Translation.{Translation}
use Rattle.ol_translate.specs.Names.{HasNames}
use Rattle.ol_translate.specs.Translation.{translation_of}
use Rattle.ol_beta.specs.Leftmost.{IsNormal}
use Rattle.ol_readback.specs.Sources.{HasHeadsOf}
use Rattle.ol_readback.specs.Terms.{HasAllHeads, term_of, abstracted, variable_of}
use Rattle.ol_readback.specs.Whole.{Part, preorder}
use Rattle.ol_readback.specs.declared.answers.HeadVar.{HeadVar}
use Rattle.ol_readback.specs.declared.answers.ReadNode.{ReadNode}
use Rattle.ol_readback.specs.declared.answers.ReadNode.TheVariants as node
use Rattle.ol_demand.specs.Answers.{start_of}
use Rattle.ol_demand.specs.Demands.{Asking, Turns, IsDemandRun}
use Rattle.ol_demand.specs.Laws.{IsStart, ArePairsOf}
use Rattle.ol_law_levels.specs.Levels.{IsLevelled}
use Rattle.ol_law_meaning.specs.Shows.{LeftmostReduces, HeadReduces, IsHeadNormal, applied}
use Rattle.ol_law_completeness.specs.Laws.{CrossesNoStuck}
use Rattle.ol_law_completeness.specs.Complete.{HaveInversions, IsReadWithin, StaysClear}
use Rattle.ol_law_completeness.specs.Least.{CanBeRead, IsLeast, CompleteRunsAreEnough}
use Rattle.ol_law_completeness.specs.TheLeast.{IsTheLeast}

-- In a levelled net no walk crosses a stuck pair.
abbrev pub LevelledCrossesNoStuck : Type 0 → Type 0
LevelledCrossesNoStuck A = (N : NamedNet A) → IsNet N → IsLevelled N → CrossesNoStuck N

-- Leftmost reduction of a term ends in the normal form v. Then there is a tree whose term is v, and
-- at each of its places the term's own net, by this translation, has a head. The rows of the paths
-- to these heads have m inversions in all: a number of the source alone. The demand run of the
-- term's own net, however its lists are ordered, ends within m steps, whatever number of heads is
-- asked for. Its first places are those of the tree, and it reads the whole tree where as many
-- heads are asked for as this has places.
abbrev pub NormalFormIsRead : Type 0
NormalFormIsRead = (τ : Translation) (t : Tree) (names : ℕ) → HasNames t names → (v : Tree) →
    LeftmostReduces t v → IsNormal v →
    (T : Part true) × HasAllHeads (preorder T) × (term_of T ≡ v) × (m : ℕ)
    × HaveInversions (translation_of τ t names) (suc (length (preorder T))) (preorder T) m
    × ((g : Graph) → IsNet (net_of g) → SameNet (net_of g) (translation_of τ t names) →
    (heads : ℕ) → IsReadWithin (start_of g) heads m (preorder T)
    × (length (preorder T) ≤ heads →
    (journal : List Entry) (places : List ReadNode) (M : NamedNet NodeName) →
    IsDemandRun (start_of g) heads journal places M → places ≡ preorder T))

-- Where head reduction of a term ends, the term's own net has the head of the term's head normal
-- form, by a path whose row has m inversions. The demand run that is asked for one head ends within
-- m steps, and reads this head. By Wadsworth's theorem (law `heads` of `ol_law_confluence`) these are
-- the terms that have a head normal form.
abbrev pub HeadNormalFormIsRead : Type 0
HeadNormalFormIsRead = (τ : Translation) (t : Tree) (names : ℕ) → HasNames t names → (u : Tree) →
    HeadReduces t u → IsHeadNormal u →
    (n k : ℕ) × (v : HeadVar) × (Ps : List Tree) × (length Ps ≡ k)
    × HeadReduces t (abstracted n (applied (variable_of ((0, n) ∷ []) v) Ps))
    × (m : ℕ) × HaveInversions (translation_of τ t names) 1 (node.Head n v k ∷ []) m
    × ((g : Graph) → IsNet (net_of g) → SameNet (net_of g) (translation_of τ t names) →
    IsReadWithin (start_of g) 1 m (node.Head n v k ∷ []))

-- Each place of a demand run of a term's own net has just the head that the net gives for it, and
-- where it has none, the net gives none.
abbrev pub PlacesAreOfTerm : Type 0
PlacesAreOfTerm = (τ : Translation) (t : Tree) (names : ℕ) → HasNames t names → (g : Graph) →
    IsNet (net_of g) → SameNet (net_of g) (translation_of τ t names) →
    (heads : ℕ) (journal : List Entry) (places : List ReadNode) (M : NamedNet NodeName) →
    IsDemandRun (start_of g) heads journal places M →
    HasHeadsOf (translation_of τ t names) true places

-- Leftmost reduction of a term ends in a normal form exactly where the demand run of the term's own
-- net, for some number of heads, has a head at each place.
abbrev pub ReadsExactlyNormalForms : Type 0
ReadsExactlyNormalForms = (τ : Translation) (t : Tree) (names : ℕ) → HasNames t names →
    (g : Graph) → IsNet (net_of g) → SameNet (net_of g) (translation_of τ t names) →
    ((v : Tree) × LeftmostReduces t v × IsNormal v)
    ↔ ((heads : ℕ) × (journal : List Entry) × (places : List ReadNode) × (M : NamedNet NodeName)
    × IsDemandRun (start_of g) heads journal places M × HasAllHeads places)

-- Whatever run leads from a term's own net to a net from which the places can be read by walks that
-- meet no active pair, it rewrites each pair that demand order rewrites for these places, by birth
-- names, and makes no fewer steps.
abbrev pub TermIsReadLeast : Type 0
TermIsReadLeast = (τ : Translation) (t : Tree) (names : ℕ) → HasNames t names → (g : Graph) →
    IsNet (net_of g) → SameNet (net_of g) (translation_of τ t names) →
    (M P : NamedNet NodeName) (most heads turns : ℕ) (journal other : List Entry)
    (places : List ReadNode) (a : Asking) →
    heads ≤ most → Turns (start_of g) heads turns journal places M a →
    IsRun (start_of g) 0 other P → CanBeRead P most →
    ((r : RunByBirths (start_of g) journal M) (s : RunByBirths (start_of g) other P) →
    ArePairsOf r s) × (length journal ≤ length other)

-- In particular for as many places as the demand run itself was asked for, or a front part of it.
abbrev pub TermIsDemandedLeast : Type 0
TermIsDemandedLeast = (τ : Translation) (t : Tree) (names : ℕ) → HasNames t names → (g : Graph) →
    IsNet (net_of g) → SameNet (net_of g) (translation_of τ t names) →
    (M : NamedNet NodeName) (heads turns : ℕ) (journal : List Entry) (places : List ReadNode)
    (a : Asking) →
    Turns (start_of g) heads turns journal places M a → IsLeast (start_of g) heads journal

-- What the laws of nets ask of a net: it is one of start nodes, its ports have depths and
-- orientations, no walk of a net that it is rewritten to crosses a stuck pair, and it has a root.
pub record IsFit (N : NamedNet NodeName) : Type 0 where
  pub start : IsStart N
  pub levelled : IsLevelled N
  pub clear : StaysClear N
  pub root : 0 < N.free_ports

-- So it is with the net of each term, by either translation.
abbrev pub TermNetIsFit : Type 0
TermNetIsFit = (τ : Translation) (t : Tree) (names : ℕ) → HasNames t names → (g : Graph) →
    IsNet (net_of g) → SameNet (net_of g) (translation_of τ t names) →
    IsFit (start_of g)

-- Where the demand run has an end, its journal is the least for the places that it was asked for.
abbrev pub TermIsReadByTheLeast : Type 0
TermIsReadByTheLeast = (τ : Translation) (t : Tree) (names : ℕ) → HasNames t names → (g : Graph) →
    IsNet (net_of g) → SameNet (net_of g) (translation_of τ t names) →
    (M : NamedNet NodeName) (heads : ℕ) (journal : List Entry) (places : List ReadNode) →
    IsDemandRun (start_of g) heads journal places M → IsTheLeast (start_of g) heads journal

-- It has one where any run from the term's own net serves for these places.
abbrev pub TermIsReadWhereOneServes : Type 0
TermIsReadWhereOneServes = (τ : Translation) (t : Tree) (names : ℕ) → HasNames t names →
    (g : Graph) → IsNet (net_of g) → SameNet (net_of g) (translation_of τ t names) →
    (P : NamedNet NodeName) (heads : ℕ) (other : List Entry) →
    IsRun (start_of g) 0 other P → CanBeRead P heads →
    (journal : List Entry) × (places : List ReadNode) × (M : NamedNet NodeName)
    × IsDemandRun (start_of g) heads journal places M

-- Where the demand run for these places has an end, each complete run leads to such a net too.
abbrev pub CompleteRunIsEnough : Type 0
CompleteRunIsEnough = (τ : Translation) (t : Tree) (names : ℕ) → HasNames t names → (g : Graph) →
    IsNet (net_of g) → SameNet (net_of g) (translation_of τ t names) →
    (M : NamedNet NodeName) (heads : ℕ) (journal : List Entry) (places : List ReadNode) →
    IsDemandRun (start_of g) heads journal places M → CompleteRunsAreEnough (start_of g) heads
