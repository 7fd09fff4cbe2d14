-- Which family each beta step of demand order contracts.
use Rattle.std.specs.Prelude.{◌≡◌, ℕ, List, [], ◌∷◌}
use Rattle.ol_beta.specs.Leftmost.{IsNormal}
use Rattle.ol_demand.specs.Answers.{start_of}
use Rattle.ol_demand.specs.Demands.{IsDemandRun}
use Rattle.ol_law_edges.specs.Edges.{IsIn}
use Rattle.ol_law_optimality.specs.Labels.{Label, Labelled, erased, LeftmostContracts}
use Rattle.ol_law_optimality.specs.Routes.{Crossing, rise, fall, Route, HasRoute, IsBetaOf}
use Rattle.ol_net.specs.Graph.{Graph}
use Rattle.ol_net.specs.Nets.{NamedNet, IsNet, SameNet}
use Rattle.ol_net.specs.Numbered.{net_of}
use Rattle.ol_readback.specs.Terms.{HasAllHeads}
use Rattle.ol_readback.specs.declared.answers.ReadNode.{ReadNode}
use Rattle.ol_rules.specs.Runs.{IsRun}
use Rattle.ol_rules.specs.declared.journal.Entry.{Entry}
use Rattle.ol_rules.specs.declared.journal.NodeName.{NodeName}
use Rattle.ol_rules.specs.declared.journal.NodeName.TheVariants.{Init}
use Rattle.ol_term.specs.declared.translations.Translation.{Translation}
use Rattle.ol_translate.specs.Names.{HasNames}
use Rattle.ol_translate.specs.Translation.{translation_of}
use Rattle.ol_law_optimality.specs.Families.{HaveOwnLetters}
use Rattle.ol_law_optimality.specs.Readings.{AreAlike}
use Rattle.ol_law_optimality.specs.Signs.{letter_of, Signs, onward, signs_of, Signed}

-- the same crossings where nodes are named as those of the start
abbrev pub start_row : List (Crossing ℕ) → List (Crossing NodeName)
start_row [] = []
start_row (rise x s ∷ w) = rise (Init x) s ∷ start_row w
start_row (fall x s ∷ w) = fall (Init x) s ∷ start_row w

abbrev pub start_route : Route ℕ → Route NodeName
start_route s = record { from = Init s.from; row = start_row s.row; to = Init s.to }

-- A route of the start spells a label: what a walk reads along it, where each edge has its letter,
-- is this label, where neighbours that cancel are left out.
pub record SpellsLabel (N : NamedNet ℕ) (letter : ℕ → ℕ → ℕ) (s : Route NodeName) (d : Label) : Type 0 where
  pub route : Route ℕ
  pub is : s ≡ start_route route
  pub has : HasRoute N route
  pub signs : Signs
  pub signed : Signed N letter route.row signs
  pub alike : AreAlike (onward (letter_of (letter route.from 0)) ∷ signs) (signs_of d)

-- Each beta step of the run contracts one of these families, no two the same one, and each of them
-- is contracted by one.
pub record ContractsEachFamilyOnce (N : NamedNet ℕ) (letter : ℕ → ℕ → ℕ) {S M : NamedNet NodeName}
    {journal : List Entry} (r : IsRun S 0 journal M) (ds : List Label) : Type 0 where
  pub each : (n : ℕ) (s : Route NodeName) → IsBetaOf r n s →
      (d : Label) × IsIn d ds × SpellsLabel N letter s d
  pub one : (s : Route NodeName) (d e : Label) → SpellsLabel N letter s d → SpellsLabel N letter s e → d ≡ e
  pub apart : (s u : Route NodeName) (d : Label) → SpellsLabel N letter s d → SpellsLabel N letter u d → s ≡ u
  pub all : (d : Label) → IsIn d ds →
      (n : ℕ) × (s : Route NodeName) × IsBetaOf r n s × SpellsLabel N letter s d

-- Where leftmost reduction leads from a term, each of whose subterms has its own letter, to a normal
-- form, the beta steps of a demand run that has a head at each place are the families that leftmost
-- reduction contracts, one by one: each comes from a route that spells its degree.
abbrev pub BetasSpellFamilies : Type 0
BetasSpellFamilies = (τ : Translation) (T v : Labelled) (ws : List Label) →
    LeftmostContracts T ws v → IsNormal (erased v) →
    HaveOwnLetters T → (names : ℕ) → HasNames (erased T) names →
    (g : Graph) → IsNet (net_of g) → SameNet (net_of g) (translation_of τ (erased T) names) →
    (heads : ℕ) (journal : List Entry) (places : List ReadNode) (M : NamedNet NodeName) →
    IsDemandRun (start_of g) heads journal places M → HasAllHeads places →
    (letter : ℕ → ℕ → ℕ) × (r : IsRun (start_of g) 0 journal M)
    × ContractsEachFamilyOnce (translation_of τ (erased T) names) letter r ws
