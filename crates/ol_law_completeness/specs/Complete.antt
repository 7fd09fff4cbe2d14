-- Demand order is complete: how many steps it makes where each place has a head, and that it reads
-- a normal form wherever there is one.
use Rattle.std.specs.Prelude.{◌≡◌, ℕ, suc, ◌+◌, ◌<◌, ◌≤◌, List, [], ◌∷◌, ◌++◌, length, map, take, true}
use Rattle.ol_net.specs.Nets.{NamedNet, IsNet, free}
use Rattle.ol_context.specs.Contexts.{Level, Context}
use Rattle.ol_context.specs.Paths.{Path, HaveSamePaths}
use Rattle.ol_rules.specs.declared.journal.NodeName.{NodeName}
use Rattle.ol_rules.specs.declared.journal.Entry.{Entry}
use Rattle.ol_rules.specs.Runs.{IsRun}
use Rattle.ol_term.specs.Trees.{Tree}
use Rattle.ol_term.specs.declared.translations.Translation.{Translation}
use Rattle.ol_translate.specs.Names.{HasNames}
use Rattle.ol_translate.specs.Translation.{translation_of}
use Rattle.ol_beta.specs.Leftmost.{IsNormal}
use Rattle.ol_readback.specs.Frames.{Frame, asked}
use Rattle.ol_readback.specs.Heads.{NoPath}
use Rattle.ol_readback.specs.Matching.{Matches}
use Rattle.ol_readback.specs.ReadTrees.{Subterm, whole_term, framed, port_of, arguments}
use Rattle.ol_readback.specs.Sources.{HasHeadsOf}
use Rattle.ol_readback.specs.Terms.{HasAllHeads, term_of, abstracted, variable_of}
use Rattle.ol_readback.specs.Whole.{Part, preorder}
use Rattle.ol_readback.specs.declared.answers.HeadVar.{HeadVar}
use Rattle.ol_readback.specs.declared.answers.ReadNode.{ReadNode}
use Rattle.ol_readback.specs.declared.answers.ReadNode.TheVariants as node
use Rattle.ol_demand.specs.Demands.{IsDemandRun, HasMoreSteps}
use Rattle.ol_demand.specs.Laws.{IsStart}
use Rattle.ol_law_meaning.specs.Shows.{LeftmostReduces, HeadReduces, IsHeadNormal, applied}
use Rattle.ol_law_completeness.specs.Rows.{row, inversions}
use Rattle.ol_law_completeness.specs.Laws.{CrossesNoStuck}

-- The subterms still to be read, in preorder, have these places in the net, where these frames are
-- those of the places before. Each place has a head, by a path of its frame for the least number of
-- abstractions. Of places from number most on nothing is said. The rows of the paths have so many
-- inversions in all.
pub data AreRead {A : Type 0} (N : NamedNet A) (most : ℕ) : List Frame → List Subterm →
    List ReadNode → ℕ → Type 0 where
  done : {frames : List Frame} → AreRead N most frames [] [] 0
  enough : {frames : List Frame} {ss : List Subterm} → most ≤ length frames →
      AreRead N most frames ss [] 0
  place : {frames : List Frame} {s : Subterm} {ss : List Subterm} {ns : List ReadNode} {n q k m : ℕ}
      {X : Context} {v : HeadVar} {ls : List Level} →
      ((j : ℕ) → j < n → NoPath N s.port (asked s.levels j)) →
      (t : Path N (free s.port) (asked s.levels n) q X) →
      Matches (frames ++ framed s 0 ∷ []) q X (length frames) n v k ls →
      AreRead N most (frames ++ framed s n ∷ []) (arguments (length frames)
      (port_of (frames ++ framed s n ∷ []) v) ls 0 k ++ ss) ns m →
      AreRead N most frames (s ∷ ss) (node.Head n v k ∷ ns) (inversions (row t) + m)

-- Of the whole term: these are its first places in net N, no fewer than most, or all. Each has a
-- head, and the rows of the paths to these heads have m inversions in all. They are all its places
-- where they are fewer than most.
abbrev pub HaveInversions : {A : Type 0} → NamedNet A → ℕ → List ReadNode → ℕ → Type 0
HaveInversions N most ns m = AreRead N most [] (whole_term ∷ []) ns m

-- The net alone tells them: no more than so many first places are one list, and their inversions
-- are one number.
abbrev pub InversionsAreOne : Type 0 → Type 0
InversionsAreOne A = (N : NamedNet A) → IsNet N → (most m m' : ℕ) (ns ns' : List ReadNode) →
    length ns ≤ most → length ns' ≤ most →
    HaveInversions N most ns m → HaveInversions N most ns' m' → (ns ≡ ns') × (m ≡ m')

-- So are all places, and the number of their inversions.
abbrev pub AllInversionsAreOne : Type 0 → Type 0
AllInversionsAreOne A = (N : NamedNet A) → IsNet N → (m m' : ℕ) (ns ns' : List ReadNode) →
    HaveInversions N (suc (length ns)) ns m → HaveInversions N (suc (length ns')) ns' m' →
    (ns ≡ ns') × (m ≡ m')

-- No net to which a run leads has a walk that crosses a stuck pair.
abbrev pub StaysClear : NamedNet NodeName → Type 0
StaysClear N = (journal : List Entry) (M : NamedNet NodeName) → IsRun N 0 journal M →
    CrossesNoStuck M

-- the first places, as many as heads, are those of ns, and each later one is cut
pub record ReadsFirst (heads : ℕ) (ns places : List ReadNode) : Type 0 where
  pub later : List Subterm
  pub is : places ≡ take heads ns ++ map (λ s. node.Cut) later

-- The demand run of so many heads ends. It has at most m steps, and its first places are these.
pub record IsReadWithin (N : NamedNet NodeName) (heads m : ℕ) (ns : List ReadNode) : Type 0 where
  pub run : (journal : List Entry) × (places : List ReadNode) × (M : NamedNet NodeName)
      × IsDemandRun N heads journal places M
  pub ends : (fuel : ℕ) → m ≤ fuel → HasMoreSteps N heads fuel → ⊥
  pub few : (journal : List Entry) (places : List ReadNode) (M : NamedNet NodeName) →
      IsDemandRun N heads journal places M → length journal ≤ m
  pub places : (journal : List Entry) (places : List ReadNode) (M : NamedNet NodeName) →
      IsDemandRun N heads journal places M → ReadsFirst heads ns places

-- Where each of the source's first places, as many as heads, has a head, demand order makes no more
-- steps than there are inversions, and reads these heads. It reads the whole tree where that has
-- fewer places.
abbrev pub HeadsAreRead : Type 0
HeadsAreRead = (N : NamedNet NodeName) (most m : ℕ) (ns : List ReadNode) → IsStart N →
    StaysClear N → HaveInversions N most ns m →
    (heads : ℕ) → heads ≤ most →
    IsReadWithin N heads m ns
    × (length ns < most → length ns ≤ heads →
    (journal : List Entry) (places : List ReadNode) (M : NamedNet NodeName) →
    IsDemandRun N heads journal places M → places ≡ ns)

-- Where leftmost reduction of a term ends in a normal form, the term's own net has a head at each
-- place of a tree, and this tree's term is the normal form.
abbrev pub NormalFormHasHeads : Type 0
NormalFormHasHeads = (τ : Translation) (t : Tree) (names : ℕ) → HasNames t names → (v : Tree) →
    LeftmostReduces t v → IsNormal v →
    (T : Part true) × HasHeadsOf (translation_of τ t names) true (preorder T)
    × HasAllHeads (preorder T) × (term_of T ≡ v)

-- And demand order reads it, from the term's own net or any net of start nodes with the same paths.
abbrev pub DemandIsComplete : Type 0
DemandIsComplete = (τ : Translation) (t : Tree) (names : ℕ) → HasNames t names → (v : Tree) →
    LeftmostReduces t v → IsNormal v →
    (N : NamedNet NodeName) → IsStart N → HaveSamePaths (translation_of τ t names) N →
    StaysClear N →
    (T : Part true) × HasAllHeads (preorder T) × (term_of T ≡ v) × (m : ℕ)
    × ((heads : ℕ) → IsReadWithin N heads m (preorder T)
    × (length (preorder T) ≤ heads →
    (journal : List Entry) (places : List ReadNode) (M : NamedNet NodeName) →
    IsDemandRun N heads journal places M → places ≡ preorder T))

-- Where head reduction of a term ends, demand order that is asked for one head reads that of its
-- head normal form. By Wadsworth's theorem (law `heads` of `ol_law_confluence`) these are the terms
-- that have a head normal form.
abbrev pub HeadIsRead : Type 0
HeadIsRead = (τ : Translation) (t : Tree) (names : ℕ) → HasNames t names → (u : Tree) →
    HeadReduces t u → IsHeadNormal u →
    (N : NamedNet NodeName) → IsStart N → HaveSamePaths (translation_of τ t names) N →
    StaysClear N →
    (n k : ℕ) × (v : HeadVar) × (Ps : List Tree) × (length Ps ≡ k)
    × HeadReduces t (abstracted n (applied (variable_of ((0, n) ∷ []) v) Ps))
    × (m : ℕ) × IsReadWithin N 1 m (node.Head n v k ∷ [])
