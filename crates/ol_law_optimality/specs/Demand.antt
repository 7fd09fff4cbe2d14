-- No reduction by families is shorter than demand order makes beta steps: the laws.
use Rattle.std.specs.Prelude.{◌≡◌, ℕ, ◌≤◌, true, List, length}
use Rattle.ol_beta.specs.Leftmost.{IsNormal}
use Rattle.ol_demand.specs.Answers.{start_of}
use Rattle.ol_demand.specs.Demands.{Asking, Turns, IsDemandRun}
use Rattle.ol_law_edges.specs.Edges.{IsIn}
use Rattle.ol_law_optimality.specs.Steps.{steps_of}
use Rattle.ol_law_meaning.specs.Shows.{BetaReduces, IsHeadNormal}
use Rattle.ol_net.specs.Graph.{Graph}
use Rattle.ol_net.specs.Nets.{NamedNet, IsNet, SameNet}
use Rattle.ol_net.specs.Numbered.{net_of}
use Rattle.ol_net.specs.declared.parts.Rule.TheVariants as rule
use Rattle.ol_law_optimality.specs.Labels.{Label, Labelled, erased}
use Rattle.ol_readback.specs.Terms.{HasAllHeads, term_of}
use Rattle.ol_readback.specs.Whole.{Part, preorder}
use Rattle.ol_readback.specs.declared.answers.ReadNode.{ReadNode}
use Rattle.ol_rules.specs.Counting.{times_applied}
use Rattle.ol_rules.specs.declared.journal.Entry.{Entry}
use Rattle.ol_rules.specs.declared.journal.NodeName.{NodeName}
use Rattle.ol_term.specs.Trees.{Tree}
use Rattle.ol_term.specs.declared.translations.Translation.{Translation}
use Rattle.ol_translate.specs.Names.{HasNames}
use Rattle.ol_translate.specs.Translation.{translation_of}
use Rattle.ol_law_optimality.specs.Families.{HaveOwnLetters}
use Rattle.ol_law_optimality.specs.Readings.{AreDifferent}
use Rattle.ol_law_optimality.specs.Reductions.{Contracts, FamilyReduces, LeftmostFamilies, HeadFamilies}

-- so many are some different ones of these degrees
abbrev pub AreSoManyOf : ℕ → List Label → Type 0
AreSoManyOf n ds =
    (es : List Label) × AreDifferent es × ((e : Label) → IsIn e es → IsIn e ds) × (n ≡ length es)

-- Let each subterm of a term have a letter of its own. Any reduction of it to a normal form, by
-- labelled beta steps in whatever order, contracts at least as many different degrees as a demand
-- run of the term's net makes beta steps: by either translation, for whatever number of heads, and
-- also where the run stops on the way.
abbrev pub BetasAreOfEachReduction : Type 0
BetasAreOfEachReduction = (τ : Translation) (T V : Labelled) (us : List Label) →
    Contracts T us V → IsNormal (erased V) →
    HaveOwnLetters T → (names : ℕ) → HasNames (erased T) names →
    (g : Graph) → IsNet (net_of g) → SameNet (net_of g) (translation_of τ (erased T) names) →
    (heads turns : ℕ) (journal : List Entry) (places : List ReadNode) (M : NamedNet NodeName)
    (a : Asking) → Turns (start_of g) heads turns journal places M a →
    AreSoManyOf (times_applied rule.Beta journal) us

-- So no way of contracting families at once leads to a normal form by fewer steps.
abbrev pub NoneIsShorterThanDemand : Type 0
NoneIsShorterThanDemand = (τ : Translation) (T V : Labelled) (ds : List Label) →
    FamilyReduces T ds V → IsNormal (erased V) →
    HaveOwnLetters T → (names : ℕ) → HasNames (erased T) names →
    (g : Graph) → IsNet (net_of g) → SameNet (net_of g) (translation_of τ (erased T) names) →
    (heads turns : ℕ) (journal : List Entry) (places : List ReadNode) (M : NamedNet NodeName)
    (a : Asking) → Turns (start_of g) heads turns journal places M a →
    times_applied rule.Beta journal ≤ length ds

-- And where a demand run has a head at each place, and so prints a term, one way leads there by just
-- as many steps: whole families, each time that of the leftmost redex.
abbrev pub DemandIsAsShort : Type 0
DemandIsAsShort = (τ : Translation) (T : Labelled) →
    HaveOwnLetters T → (names : ℕ) → HasNames (erased T) names →
    (g : Graph) → IsNet (net_of g) → SameNet (net_of g) (translation_of τ (erased T) names) →
    (heads : ℕ) (journal : List Entry) (places : List ReadNode) (M : NamedNet NodeName) →
    IsDemandRun (start_of g) heads journal places M → HasAllHeads places →
    (ds : List Label) × (V : Labelled) × LeftmostFamilies T ds V × IsNormal (erased V)
    × ((P : Part true) × (preorder P ≡ places) × (erased V ≡ term_of P))
    × (times_applied rule.Beta journal ≡ length ds)

-- For one head it is so with each reduction to a head normal form.
abbrev pub BetasAreOfEachHeadReduction : Type 0
BetasAreOfEachHeadReduction = (τ : Translation) (T V : Labelled) (us : List Label) →
    Contracts T us V → IsHeadNormal (erased V) →
    HaveOwnLetters T → (names : ℕ) → HasNames (erased T) names →
    (g : Graph) → IsNet (net_of g) → SameNet (net_of g) (translation_of τ (erased T) names) →
    (turns : ℕ) (journal : List Entry) (places : List ReadNode) (M : NamedNet NodeName)
    (a : Asking) → Turns (start_of g) 1 turns journal places M a →
    AreSoManyOf (times_applied rule.Beta journal) us

abbrev pub NoneIsShorterForAHead : Type 0
NoneIsShorterForAHead = (τ : Translation) (T V : Labelled) (ds : List Label) →
    FamilyReduces T ds V → IsHeadNormal (erased V) →
    HaveOwnLetters T → (names : ℕ) → HasNames (erased T) names →
    (g : Graph) → IsNet (net_of g) → SameNet (net_of g) (translation_of τ (erased T) names) →
    (turns : ℕ) (journal : List Entry) (places : List ReadNode) (M : NamedNet NodeName)
    (a : Asking) → Turns (start_of g) 1 turns journal places M a →
    times_applied rule.Beta journal ≤ length ds

-- And where the term has a head normal form, and the run ends, whole families, each time that of the
-- head redex, lead to one by just as many steps.
abbrev pub DemandIsAsShortForAHead : Type 0
DemandIsAsShortForAHead = (τ : Translation) (T V : Labelled) (us : List Label) →
    Contracts T us V → IsHeadNormal (erased V) →
    HaveOwnLetters T → (names : ℕ) → HasNames (erased T) names →
    (g : Graph) → IsNet (net_of g) → SameNet (net_of g) (translation_of τ (erased T) names) →
    (journal : List Entry) (places : List ReadNode) (M : NamedNet NodeName) →
    IsDemandRun (start_of g) 1 journal places M →
    (ds : List Label) × (W : Labelled) × HeadFamilies T ds W × IsHeadNormal (erased W)
    × (times_applied rule.Beta journal ≡ length ds)

-- In the words of plain terms: no reduction of a term to a normal form, of whatever redexes in whatever order, has fewer
-- steps than a demand run of the term's net makes beta steps.
abbrev pub NeverMoreThanAnyReduction : Type 0
NeverMoreThanAnyReduction = (τ : Translation) (t v : Tree) (r : BetaReduces t v) → IsNormal v →
    (names : ℕ) → HasNames t names →
    (g : Graph) → IsNet (net_of g) → SameNet (net_of g) (translation_of τ t names) →
    (heads turns : ℕ) (journal : List Entry) (places : List ReadNode) (M : NamedNet NodeName)
    (a : Asking) → Turns (start_of g) heads turns journal places M a →
    times_applied rule.Beta journal ≤ steps_of r
