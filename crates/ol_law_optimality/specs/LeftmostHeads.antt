-- Leftmost reduction up to the first heads of a term's Böhm tree, and the beta steps of demand order.
use Rattle.std.specs.Prelude.{◌≡◌, ℕ, List, [], ◌∷◌, Some}
use Rattle.ol_beta.specs.Leftmost.{leftmost}
use Rattle.ol_demand.specs.Answers.{start_of}
use Rattle.ol_demand.specs.Demands.{IsDemandRun}
use Rattle.ol_net.specs.Graph.{Graph}
use Rattle.ol_net.specs.Nets.{NamedNet, IsNet, SameNet}
use Rattle.ol_net.specs.Numbered.{net_of}
use Rattle.ol_net.specs.declared.parts.Rule.TheVariants as rule
use Rattle.ol_law_optimality.specs.Labels.{Label, Labelled, erased, contracted, degree}
use Rattle.ol_readback.specs.declared.answers.ReadNode.{ReadNode}
use Rattle.ol_rules.specs.Counting.{times_applied}
use Rattle.ol_rules.specs.declared.journal.Entry.{Entry}
use Rattle.ol_rules.specs.declared.journal.NodeName.{NodeName}
use Rattle.ol_term.specs.declared.translations.Translation.{Translation}
use Rattle.ol_translate.specs.Names.{HasNames}
use Rattle.ol_translate.specs.Translation.{translation_of}
use Rattle.ol_law_optimality.specs.Families.{HaveOwnLetters}
use Rattle.ol_law_optimality.specs.HeadFamilies.{HasSoManyDifferent}
use Rattle.ol_law_optimality.specs.FirstHeads.{HasFirstHeads}

-- Leftmost reduction of a labelled term to the first term that shows so many heads, with its degrees.
pub data LeftmostToHeads (heads : ℕ) : Labelled → List Label → Labelled → Type 0 where
  ready : {t : Labelled} → HasFirstHeads heads (erased t) → LeftmostToHeads heads t [] t
  contract : {t u v : Labelled} {w : Label} {ws : List Label} (at : List ℕ) →
      (HasFirstHeads heads (erased t) → ⊥) → leftmost (erased t) ≡ Some at → degree t at ≡ Some w →
      contracted t at ≡ Some u → LeftmostToHeads heads u ws v → LeftmostToHeads heads t (w ∷ ws) v

-- Let each subterm of a term have a letter of its own. A demand run that asks for so many heads, and ends, makes as many
-- beta steps as this reduction contracts different degrees: as there are families.
abbrev pub BetasAreFamiliesForHeads : Type 0
BetasAreFamiliesForHeads = (τ : Translation) (heads : ℕ) (T v : Labelled) (ws : List Label) → LeftmostToHeads heads T ws v →
    HaveOwnLetters T → (names : ℕ) → HasNames (erased T) names →
    (g : Graph) → IsNet (net_of g) → SameNet (net_of g) (translation_of τ (erased T) names) →
    (journal : List Entry) (places : List ReadNode) (M : NamedNet NodeName) →
    IsDemandRun (start_of g) heads journal places M →
    HasSoManyDifferent ws (times_applied rule.Beta journal)
