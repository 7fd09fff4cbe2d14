-- Places that were asked: where a walk used up its crossings, as in a place without a head, there
-- is none.
use Rattle.std.specs.Prelude.{ℕ, ◌*◌, ◌≤◌, ◌<◌, List, [], ◌∷◌, ◌++◌, length, map, true}
use Rattle.ol_net.specs.Nets.{NamedNet, free, IsNet, net_under}
use Rattle.ol_net.specs.Pairs.{IsComplete}
use Rattle.ol_context.specs.Contexts.{Level}
use Rattle.ol_context.specs.Paths.{HaveSamePaths}
use Rattle.ol_context.specs.Short.{live}
use Rattle.ol_context.specs.Ways.{WalkStands}
use Rattle.ol_rules.specs.Runs.{IsRun}
use Rattle.ol_rules.specs.declared.journal.Entry.{Entry}
use Rattle.ol_rules.specs.declared.journal.NodeName.{NodeName}
use Rattle.ol_rules.specs.declared.journal.NodeName.TheVariants.{Init}
use Rattle.ol_term.specs.Trees.{Tree}
use Rattle.ol_term.specs.declared.translations.Translation.{Translation}
use Rattle.ol_translate.specs.Names.{HasNames}
use Rattle.ol_translate.specs.Translation.{translation_of}
use Rattle.ol_readback.specs.Frames.{Frame, asked}
use Rattle.ol_readback.specs.Heads.{head, no_head, budget, NoPath, IsHead, IsHeadWithin}
use Rattle.ol_readback.specs.ReadTrees.{Subterm, whole_term, framed, port_of, arguments, IsTree}
use Rattle.ol_readback.specs.Sources.{HasHeadsOf}
use Rattle.ol_readback.specs.declared.answers.HeadVar.{HeadVar}
use Rattle.ol_readback.specs.declared.answers.ReadNode.{ReadNode}
use Rattle.ol_readback.specs.declared.answers.ReadNode.TheVariants as node
use Rattle.ol_demand.specs.Chains as chains
use Rattle.ol_demand.specs.Chains.{Ends}
use Rattle.ol_demand.specs.Demands.{IsDemandRun}
use Rattle.ol_demand.specs.Laws.{IsStart}
use Rattle.ol_law_levels.specs.Levels.{IsLevelled}

-- In a levelled net without an active pair: where the walk that asks for n abstractions has made
-- twice as many crossings as there are nodes, and stands at a node, no path leaves for n
-- abstractions or more.
abbrev pub StandingIsLost : Type 0 → Type 0
StandingIsLost A = (N : NamedNet A) → IsNet N → IsLevelled N → IsComplete N →
    (p : ℕ) (ls : List Level) (n edges : ℕ) → 2 * live N ≤ edges →
    WalkStands N (free p) (asked ls n) edges → (m : ℕ) → n ≤ m → NoPath N p (asked ls m)

-- So a frame that met a budget of at least so many crossings has no head.
abbrev pub BudgetIsNoHead : Type 0 → Type 0
BudgetIsNoHead A = (N : NamedNet A) → IsNet N → IsLevelled N → IsComplete N →
    (frames : List Frame) (i edges : ℕ) → 2 * live N ≤ edges →
    IsHeadWithin N frames i edges budget → IsHead N frames i no_head

-- In demand order active pairs may be left, but where the chain for n abstractions ends with its
-- budget it met none: then too no path leaves for n abstractions or more.
abbrev pub SpentIsLost : Type 0 → Type 0
SpentIsLost A = (N : NamedNet A) → IsNet N → IsLevelled N → (p : ℕ) (ls : List Level) (n : ℕ) →
    Ends N p (asked ls n) chains.budget → (m : ℕ) → n ≤ m → NoPath N p (asked ls m)

-- The subterms still to be read, in preorder, have these places, where these frames are those of
-- the places before, and the first so many places are asked. What is asked tells net N: a head is
-- the one that N gives for its frame, by paths of any length; and in a place without a head, or
-- that was cut all the same, N has none. Each place after those is Cut, and nothing is said of it.
pub data HaveAskedHeadsOf {A : Type 0} (N : NamedNet A) (heads : ℕ) : List Frame → List Subterm →
    List ReadNode → Type 0 where
  end : {frames : List Frame} → HaveAskedHeadsOf N heads frames [] []
  past : {frames : List Frame} {ss : List Subterm} → heads ≤ length frames →
      HaveAskedHeadsOf N heads frames ss (map (λ s. node.Cut) ss)
  cut : {frames : List Frame} {s : Subterm} {ss : List Subterm} {ns : List ReadNode} →
      length frames < heads → IsHead N (frames ++ framed s 0 ∷ []) (length frames) no_head →
      HaveAskedHeadsOf N heads (frames ++ framed s 0 ∷ []) ss ns →
      HaveAskedHeadsOf N heads frames (s ∷ ss) (node.Cut ∷ ns)
  lost : {frames : List Frame} {s : Subterm} {ss : List Subterm} {ns : List ReadNode} →
      length frames < heads → IsHead N (frames ++ framed s 0 ∷ []) (length frames) no_head →
      HaveAskedHeadsOf N heads (frames ++ framed s 0 ∷ []) ss ns →
      HaveAskedHeadsOf N heads frames (s ∷ ss) (node.NoHead ∷ ns)
  found : {frames : List Frame} {s : Subterm} {ss : List Subterm} {ns : List ReadNode} {n k : ℕ}
      {v : HeadVar} {ls : List Level} → length frames < heads →
      IsHead N (frames ++ framed s 0 ∷ []) (length frames) (head n v k ls) →
      HaveAskedHeadsOf N heads (frames ++ framed s n ∷ [])
      (arguments (length frames) (port_of (frames ++ framed s n ∷ []) v) ls 0 k ++ ss) ns →
      HaveAskedHeadsOf N heads frames (s ∷ ss) (node.Head n v k ∷ ns)

-- the same of a whole tree, read from the root's frame
abbrev pub HasAskedHeadsOf : {A : Type 0} → NamedNet A → ℕ → List ReadNode → Type 0
HasAskedHeadsOf N heads ns = HaveAskedHeadsOf N heads [] (whole_term ∷ []) ns

-- So its heads, and its places without a head, are those of N.
abbrev pub AskedHeadsAreHeads : Type 0 → Type 0
AskedHeadsAreHeads A = (N : NamedNet A) (heads : ℕ) (ns : List ReadNode) →
    HasAskedHeadsOf N heads ns → HasHeadsOf N true ns

-- It is said of each net with the same paths.
abbrev pub AskedHeadsAreKept : Type 0 → Type 0 → Type 0
AskedHeadsAreKept A B = (N : NamedNet A) (M : NamedNet B) → HaveSamePaths N M →
    (heads : ℕ) (ns : List ReadNode) → HasAskedHeadsOf N heads ns → HasAskedHeadsOf M heads ns

-- A tree that was read from a levelled net without an active pair, with at least twice as many
-- crossings as nodes for each walk, tells each net with the same paths so.
abbrev pub TreeTellsAsked : Type 0 → Type 0 → Type 0
TreeTellsAsked A B = (N : NamedNet A) (M : NamedNet B) → HaveSamePaths N M → IsNet M →
    IsLevelled M → IsComplete M → (heads edges : ℕ) (ns : List ReadNode) → 2 * live M ≤ edges →
    IsTree M heads edges ns → HasAskedHeadsOf N heads ns

-- So it tells the net of a term, where a run from that net leaves no active pair.
abbrev pub LastTreeTellsAsked : Type 0
LastTreeTellsAsked = (w : Translation) (t : Tree) (names : ℕ) → HasNames t names →
    (journal : List Entry) (M : NamedNet NodeName) →
    IsRun (net_under Init (translation_of w t names)) 0 journal M → IsComplete M →
    (heads edges : ℕ) (ns : List ReadNode) → 2 * live M ≤ edges → IsTree M heads edges ns →
    HasAskedHeadsOf (translation_of w t names) heads ns

-- And so a demand run tells the levelled net before it.
abbrev pub DemandTellsAsked : Type 0
DemandTellsAsked = (N M : NamedNet NodeName) (heads : ℕ) (journal : List Entry)
    (places : List ReadNode) →
    IsStart N → IsLevelled N → IsDemandRun N heads journal places M →
    HasAskedHeadsOf N heads places
