-- No way of contracting families at once comes to so many heads by fewer steps than demand order makes beta steps: the
-- laws. The heads are the first ones, in preorder, of the term's Böhm tree (Barendregt, The Lambda Calculus, 1984,
-- chapters 10 and 14).
use Rattle.std.specs.Prelude.{◌≡◌, ℕ, zero, suc, ◌≤◌, Bool, true, false, List, [], ◌∷◌, length, ◌↔◌}
use Rattle.ol_beta.specs.Leftmost.{IsNormal}
use Rattle.ol_demand.specs.Answers.{start_of}
use Rattle.ol_demand.specs.Demands.{Asking, Turns, IsDemandRun}
use Rattle.ol_law_optimality.specs.Steps.{steps_of}
use Rattle.ol_law_meaning.specs.Shows.{BetaReduces, IsHeadNormal, Fills}
use Rattle.ol_net.specs.Graph.{Graph}
use Rattle.ol_net.specs.Nets.{NamedNet, IsNet, SameNet}
use Rattle.ol_net.specs.Numbered.{net_of}
use Rattle.ol_net.specs.declared.parts.Rule.TheVariants as rule
use Rattle.ol_law_optimality.specs.Labels.{Label, Labelled, erased}
use Rattle.ol_readback.specs.Terms.{IsNoLam}
use Rattle.ol_readback.specs.Whole.{Part, preorder}
use Rattle.ol_readback.specs.declared.answers.ReadNode.{ReadNode}
use Rattle.ol_readback.specs.declared.answers.ReadNode.TheVariants as node
use Rattle.ol_rules.specs.Counting.{times_applied}
use Rattle.ol_rules.specs.declared.journal.Entry.{Entry}
use Rattle.ol_rules.specs.declared.journal.NodeName.{NodeName}
use Rattle.ol_term.specs.Trees.{Tree, var, free, lam, app}
use Rattle.ol_term.specs.declared.translations.Translation.{Translation}
use Rattle.ol_translate.specs.Names.{HasNames}
use Rattle.ol_translate.specs.Translation.{translation_of}
use Rattle.ol_law_edges.specs.Edges.{IsIn}
use Rattle.ol_law_optimality.specs.Families.{labels_in, IsLetter, HaveOwnLetters}
use Rattle.ol_law_optimality.specs.Readings.{AreDifferent}
use Rattle.ol_law_optimality.specs.Demand.{AreSoManyOf}
use Rattle.ol_law_optimality.specs.LevysTheorem.{IsNeededFor}
use Rattle.ol_law_optimality.specs.Reductions.{Contracts, FamilyReduces, LeftmostFamilies}

-- A term shows the first n heads of its Böhm tree, in preorder, or all of them where there are fewer: each of these
-- places is a head normal form. Of n heads that are asked for, m are left when all of its places have been passed. (So its
-- approximant, with a hole for each part that isn't a head normal form, has no hole among its first n places.)
pub data ShowsHeads : ℕ → Tree → ℕ → Type 0 where
  not_asked : {t : Tree} → ShowsHeads 0 t 0
  at_var : {n k : ℕ} → ShowsHeads (suc n) (var k) n
  at_free : {n f : ℕ} → ShowsHeads (suc n) (free f) n
  at_lam : {n m : ℕ} {b : Tree} → ShowsHeads (suc n) b m → ShowsHeads (suc n) (lam b) m
  -- the function's head and arguments, and then the argument
  at_app : {n k m : ℕ} {f a : Tree} → IsNoLam f → ShowsHeads (suc n) f k → ShowsHeads k a m →
      ShowsHeads (suc n) (app f a) m

abbrev pub HasFirstHeads : ℕ → Tree → Type 0
HasFirstHeads n t = (m : ℕ) × ShowsHeads n t m

-- beta reduction leads to a term that shows so many
abbrev pub ReducesToHeads : ℕ → Tree → Type 0
ReducesToHeads n t = (v : Tree) × BetaReduces t v × HasFirstHeads n v

-- the first n of these places have heads, or all of them where there are fewer
abbrev pub HaveHeads : ℕ → List ReadNode → Type 0
HaveHeads zero ns = Unit {0}
HaveHeads (suc n) [] = Unit {0}
HaveHeads (suc n) (node.Head l v k ∷ ns) = HaveHeads n ns
HaveHeads (suc n) (node.NoHead ∷ ns) = ⊥
HaveHeads (suc n) (node.Cut ∷ ns) = ⊥

-- So it is with the term that fills a tree whose first n places, in preorder, have heads, whatever stands in the holes:
-- where a place was cut, or has no head.
abbrev pub FilledHasHeads : Type 0
FilledHasHeads = (lost_too : Bool) (P : Part true) (t : Tree) → Fills lost_too [] 0 P t →
    (n : ℕ) → HaveHeads n (preorder P) → HasFirstHeads n t

-- A normal form has as many first heads as one likes; and a head normal form is what has one.
abbrev pub NormalHasHeads : Type 0
NormalHasHeads = (t : Tree) → IsNormal t → (n : ℕ) → HasFirstHeads n t

abbrev pub OneHeadIsHeadNormal : Type 0
OneHeadIsHeadNormal = (t : Tree) → IsHeadNormal t ↔ HasFirstHeads 1 t

-- ---- reductions of labelled terms

-- Let each label of a term be a letter. Where some reduction of it leads to a term that shows its first heads, whole
-- families, each time that of the leftmost redex, lead to such a term too: no family twice, and each of
-- them needed: each reduction to a term that shows so many heads contracts it.
abbrev pub FewestForHeads : Type 0
FewestForHeads = (heads : ℕ) (T V : Labelled) (us : List Label) → Contracts T us V → HasFirstHeads heads (erased V) →
    ((w : Label) → IsIn w (labels_in T) → IsLetter w) →
    (ds : List Label) × (W : Labelled) × LeftmostFamilies T ds W × HasFirstHeads heads (erased W)
    × AreDifferent ds × ((d : Label) → IsIn d ds → IsNeededFor (HasFirstHeads heads) T d)

-- So no way of contracting families at once comes to so many heads by fewer steps (Lévy).
abbrev pub NoneIsShorterThanNeeded : Type 0
NoneIsShorterThanNeeded = (heads : ℕ) (T W : Labelled) (ds cs : List Label) → AreDifferent ds →
    ((d : Label) → IsIn d ds → IsNeededFor (HasFirstHeads heads) T d) →
    FamilyReduces T cs W → HasFirstHeads heads (erased W) → length ds ≤ length cs

-- ---- demand order

-- Let each subterm of a term have a letter of its own. Any reduction of it to a term that shows its first heads, by labelled
-- beta steps in whatever order, contracts at least as many different degrees as a demand run of the term's net that asks
-- for so many heads makes beta steps: by either translation, and also where the run stops on the way.
abbrev pub BetasAreOfEachReductionForHeads : Type 0
BetasAreOfEachReductionForHeads = (τ : Translation) (heads : ℕ) (T V : Labelled) (us : List Label) →
    Contracts T us V → HasFirstHeads heads (erased V) →
    HaveOwnLetters T → (names : ℕ) → HasNames (erased T) names →
    (g : Graph) → IsNet (net_of g) → SameNet (net_of g) (translation_of τ (erased T) names) →
    (turns : ℕ) (journal : List Entry) (places : List ReadNode) (M : NamedNet NodeName)
    (a : Asking) → Turns (start_of g) heads turns journal places M a →
    AreSoManyOf (times_applied rule.Beta journal) us

-- So no way of contracting families at once comes to so many heads by fewer steps.
abbrev pub NoneIsShorterForHeads : Type 0
NoneIsShorterForHeads = (τ : Translation) (heads : ℕ) (T V : Labelled) (ds : List Label) →
    FamilyReduces T ds V → HasFirstHeads heads (erased V) →
    HaveOwnLetters T → (names : ℕ) → HasNames (erased T) names →
    (g : Graph) → IsNet (net_of g) → SameNet (net_of g) (translation_of τ (erased T) names) →
    (turns : ℕ) (journal : List Entry) (places : List ReadNode) (M : NamedNet NodeName)
    (a : Asking) → Turns (start_of g) heads turns journal places M a →
    times_applied rule.Beta journal ≤ length ds

-- And where there is such a reduction, and the run ends, whole families, each time that of the leftmost redex, lead to a
-- term that shows so many heads by just as many steps.
abbrev pub DemandIsAsShortForHeads : Type 0
DemandIsAsShortForHeads = (τ : Translation) (heads : ℕ) (T V : Labelled) (us : List Label) →
    Contracts T us V → HasFirstHeads heads (erased V) →
    HaveOwnLetters T → (names : ℕ) → HasNames (erased T) names →
    (g : Graph) → IsNet (net_of g) → SameNet (net_of g) (translation_of τ (erased T) names) →
    (journal : List Entry) (places : List ReadNode) (M : NamedNet NodeName) →
    IsDemandRun (start_of g) heads journal places M →
    (ds : List Label) × (W : Labelled) × LeftmostFamilies T ds W × HasFirstHeads heads (erased W)
    × (times_applied rule.Beta journal ≡ length ds)

-- So it is where the run ends and each of the first places, as many as were asked for, has a head: whole families lead to
-- a term that fills the printed tree, with some term where a place was cut.
abbrev pub PrintedHeadsAreAsShort : Type 0
PrintedHeadsAreAsShort = (τ : Translation) (T : Labelled) →
    HaveOwnLetters T → (names : ℕ) → HasNames (erased T) names →
    (g : Graph) → IsNet (net_of g) → SameNet (net_of g) (translation_of τ (erased T) names) →
    (heads : ℕ) (journal : List Entry) (places : List ReadNode) (M : NamedNet NodeName) →
    IsDemandRun (start_of g) heads journal places M → HaveHeads heads places →
    (ds : List Label) × (W : Labelled) × LeftmostFamilies T ds W × HasFirstHeads heads (erased W)
    × ((P : Part true) × (preorder P ≡ places) × Fills false [] 0 P (erased W))
    × (times_applied rule.Beta journal ≡ length ds)

-- It has, where the term reduces to one that shows so many heads, whichever redexes it contracts first.
abbrev pub HeadsAreFound : Type 0
HeadsAreFound = (τ : Translation) (heads : ℕ) (t v : Tree) → BetaReduces t v → HasFirstHeads heads v →
    (names : ℕ) → HasNames t names →
    (g : Graph) → IsNet (net_of g) → SameNet (net_of g) (translation_of τ t names) →
    (journal : List Entry) (places : List ReadNode) (M : NamedNet NodeName) →
    IsDemandRun (start_of g) heads journal places M → HaveHeads heads places

-- And in the words of plain terms: no reduction of a term to one that shows so many heads, of whatever redexes in whatever
-- order, has fewer steps than a demand run of the term's net that asks for so many makes beta steps.
abbrev pub NoReductionToHeadsIsShorter : Type 0
NoReductionToHeadsIsShorter = (τ : Translation) (heads : ℕ) (t v : Tree) (r : BetaReduces t v) →
    HasFirstHeads heads v → (names : ℕ) → HasNames t names →
    (g : Graph) → IsNet (net_of g) → SameNet (net_of g) (translation_of τ t names) →
    (turns : ℕ) (journal : List Entry) (places : List ReadNode) (M : NamedNet NodeName)
    (a : Asking) → Turns (start_of g) heads turns journal places M a →
    times_applied rule.Beta journal ≤ steps_of r
