-- Beta steps are families: what is read along routes tells them, and their labels.
use Rattle.std.specs.Prelude.{◌≡◌, ℕ, List, [], ◌∷◌, ◌++◌, length}
use Rattle.ol_beta.specs.Leftmost.{IsNormal}
use Rattle.ol_demand.specs.Answers.{start_of}
use Rattle.ol_demand.specs.Demands.{Asking, Turns}
use Rattle.ol_law_edges.specs.Edges.{IsIn}
use Rattle.ol_law_meaning.specs.Shows.{IsHeadNormal}
use Rattle.ol_net.specs.Graph.{Graph}
use Rattle.ol_net.specs.Nets.{NamedNet, IsNet, SameNet}
use Rattle.ol_net.specs.Numbered.{net_of}
use Rattle.ol_net.specs.declared.parts.Rule.TheVariants as rule
use Rattle.ol_readback.specs.declared.answers.ReadNode.{ReadNode}
use Rattle.ol_rules.specs.Counting.{times_applied}
use Rattle.ol_rules.specs.declared.journal.Entry.{Entry}
use Rattle.ol_rules.specs.declared.journal.NodeName.{NodeName}
use Rattle.ol_law_optimality.specs.Labels.{Label, none, atom, Labelled, erased, LeftmostContracts}
use Rattle.ol_law_optimality.specs.Labels as labels
use Rattle.ol_law_optimality.specs.Routes.{Route, HasRoute}
use Rattle.ol_term.specs.Trees.{Tree}
use Rattle.ol_term.specs.declared.translations.Translation.{Translation}
use Rattle.ol_translate.specs.Names.{HasNames}
use Rattle.ol_translate.specs.Translation.{translation_of}
use Rattle.ol_law_optimality.specs.Readings.{AreAlike, HeadReduces, AreDifferent}
use Rattle.ol_law_optimality.specs.Signs.{letter_of, Signs, onward, signs_of, Signed}
use Rattle.ol_law_optimality.specs.Words.{AreAtoms}

-- A label is told by its signs, also where neighbours that cancel are left out.
abbrev pub LabelsHaveTheirSigns : Type 0
LabelsHaveTheirSigns = (v w : Label) → AreAlike (signs_of v) (signs_of w) → v ≡ w

-- In a term's net whose edges have different letters, routes along which alike words are read are
-- one, from the letter of the application's function on.
abbrev pub SignsTellRoutes : Type 0
SignsTellRoutes = (τ : Translation) (t : Tree) (names : ℕ) → HasNames t names →
    (letter : ℕ → ℕ → ℕ) → AreAtoms letter → (s u : Route ℕ) →
    HasRoute (translation_of τ t names) s → HasRoute (translation_of τ t names) u → (a b : Signs) →
    Signed (translation_of τ t names) letter s.row a →
    Signed (translation_of τ t names) letter u.row b →
    AreAlike (onward (letter_of (letter s.from 0)) ∷ a) (onward (letter_of (letter u.from 0)) ∷ b) →
    s ≡ u

-- the labels of all subterms
abbrev pub labels_in : Labelled → List Label
labels_in (labels.var k w) = w ∷ []
labels_in (labels.free k w) = w ∷ []
labels_in (labels.lam b w) = w ∷ labels_in b
labels_in (labels.app f a w) = w ∷ (labels_in f ++ labels_in a)

abbrev pub IsLetter : Label → Type 0
IsLetter v = (n : ℕ) × (v ≡ atom n none)

-- each subterm has a letter as its label, and no two have the same
abbrev pub HaveOwnLetters : Labelled → Type 0
HaveOwnLetters T = AreDifferent (labels_in T) × ((v : Label) → IsIn v (labels_in T) → IsLetter v)

-- Where labelled head steps lead from a term, each of whose subterms has its own letter, to a
-- head normal form, a demand run of its net, by either translation, that asks for one head makes no
-- more beta steps than there are families that head reduction contracts: than different degrees.
abbrev pub NoMoreBetasThanFamilies : Type 0
NoMoreBetasThanFamilies = (τ : Translation) (T V : Labelled) (ds : List Label) →
    HeadReduces T ds V → IsHeadNormal (erased V) →
    HaveOwnLetters T → (names : ℕ) → HasNames (erased T) names →
    (g : Graph) → IsNet (net_of g) → SameNet (net_of g) (translation_of τ (erased T) names) →
    (turns : ℕ) (journal : List Entry) (places : List ReadNode) (M : NamedNet NodeName)
    (a : Asking) → Turns (start_of g) 1 turns journal places M a →
    (es : List Label) × AreDifferent es × ((e : Label) → IsIn e es → IsIn e ds)
    × (times_applied rule.Beta journal ≡ length es)

-- And where leftmost reduction leads to a normal form, no demand run of its net, whatever number of
-- heads it asks for, whether it stops on the way or ends, makes more beta steps than there are
-- families that leftmost reduction contracts.
abbrev pub BetasAreNoMoreThanFamilies : Type 0
BetasAreNoMoreThanFamilies = (τ : Translation) (T v : Labelled) (ws : List Label) →
    LeftmostContracts T ws v → IsNormal (erased v) →
    HaveOwnLetters T → (names : ℕ) → HasNames (erased T) names →
    (g : Graph) → IsNet (net_of g) → SameNet (net_of g) (translation_of τ (erased T) names) →
    (heads turns : ℕ) (journal : List Entry) (places : List ReadNode) (M : NamedNet NodeName)
    (a : Asking) → Turns (start_of g) heads turns journal places M a →
    (es : List Label) × AreDifferent es × ((e : Label) → IsIn e es → IsIn e ws)
    × (times_applied rule.Beta journal ≡ length es)
