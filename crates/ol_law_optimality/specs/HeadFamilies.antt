-- Demand order makes as many beta steps for a head as there are families.
use Rattle.std.specs.Prelude.{◌≡◌, ℕ, ◌≤◌, List, [], length, ◌↔◌}
use Rattle.ol_demand.specs.Answers.{start_of}
use Rattle.ol_demand.specs.Demands.{IsDemandRun}
use Rattle.ol_law_edges.specs.Edges.{IsIn}
use Rattle.ol_law_meaning.specs.Shows.{IsHeadNormal}
use Rattle.ol_net.specs.Graph.{Graph}
use Rattle.ol_net.specs.Nets.{free, NamedNet, IsNet, SameNet}
use Rattle.ol_net.specs.Numbered.{net_of}
use Rattle.ol_net.specs.declared.parts.Rule.TheVariants as rule
use Rattle.ol_law_optimality.specs.Labels.{Label, Labelled, erased}
use Rattle.ol_law_optimality.specs.Routes.{Route}
use Rattle.ol_law_optimality.specs.Seen.{IsSeen}
use Rattle.ol_context.specs.Asked.{asked}
use Rattle.ol_context.specs.Paths.{Path}
use Rattle.ol_context.specs.Contexts.{Context}
use Rattle.ol_law_levels.specs.Levels.{IsLevelled}
use Rattle.ol_readback.specs.declared.answers.ReadNode.{ReadNode}
use Rattle.ol_rules.specs.Counting.{times_applied}
use Rattle.ol_rules.specs.declared.journal.Entry.{Entry}
use Rattle.ol_rules.specs.declared.journal.NodeName.{NodeName}
use Rattle.ol_term.specs.declared.translations.Translation.{Translation}
use Rattle.ol_translate.specs.Names.{HasNames}
use Rattle.ol_translate.specs.Translation.{translation_of}
use Rattle.ol_law_optimality.specs.Families.{HaveOwnLetters}
use Rattle.ol_law_optimality.specs.Readings.{HeadReduces, AreDifferent}

-- What the walk sees that asks the root of a levelled net for some abstractions, that which asks
-- for more sees too. It sees no more than the first where that one leaves.
abbrev pub SeenByWiderQuestions : Type 0 → Type 0
SeenByWiderQuestions A = (N : NamedNet A) → IsNet N → IsLevelled N → (m n : ℕ) (s : Route A) →
    m ≤ n → IsSeen N 0 (asked [] m) s → IsSeen N 0 (asked [] n) s

abbrev pub SeenByFirstQuestion : Type 0 → Type 0
SeenByFirstQuestion A = (N : NamedNet A) → IsNet N → IsLevelled N → (m n : ℕ) (s : Route A) →
    m ≤ n → (q : ℕ) (X : Context) → Path N (free 0) (asked [] m) q X →
    IsSeen N 0 (asked [] n) s → IsSeen N 0 (asked [] m) s

-- so many different ones are among these
abbrev pub HasSoManyDifferent : List Label → ℕ → Type 0
HasSoManyDifferent ds n =
    (es : List Label) × AreDifferent es × ((e : Label) → IsIn e es ↔ IsIn e ds) × (n ≡ length es)

-- Where labelled head steps lead from a term, each of whose subterms has its own letter, to a
-- head normal form, a demand run of its net, by either translation, that asks for one head makes as
-- many beta steps as there are families that head reduction contracts: as different degrees.
abbrev pub BetasAreHeadFamilies : Type 0
BetasAreHeadFamilies = (τ : Translation) (T V : Labelled) (ds : List Label) →
    HeadReduces T ds V → IsHeadNormal (erased V) →
    HaveOwnLetters T → (names : ℕ) → HasNames (erased T) names →
    (g : Graph) → IsNet (net_of g) → SameNet (net_of g) (translation_of τ (erased T) names) →
    (journal : List Entry) (places : List ReadNode) (M : NamedNet NodeName) →
    IsDemandRun (start_of g) 1 journal places M →
    HasSoManyDifferent ds (times_applied rule.Beta journal)
