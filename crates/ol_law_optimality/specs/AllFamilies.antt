-- Demand order makes as many beta steps for a normal form as there are families.
use Rattle.std.specs.Prelude.{ℕ, List}
use Rattle.ol_beta.specs.Leftmost.{IsNormal}
use Rattle.ol_demand.specs.Answers.{start_of}
use Rattle.ol_demand.specs.Demands.{IsDemandRun}
use Rattle.ol_net.specs.Graph.{Graph}
use Rattle.ol_net.specs.Nets.{NamedNet, IsNet, SameNet}
use Rattle.ol_net.specs.Numbered.{net_of}
use Rattle.ol_net.specs.declared.parts.Rule.TheVariants as rule
use Rattle.ol_law_optimality.specs.Labels.{Label, Labelled, erased, LeftmostContracts}
use Rattle.ol_readback.specs.Terms.{HasAllHeads}
use Rattle.ol_readback.specs.declared.answers.ReadNode.{ReadNode}
use Rattle.ol_rules.specs.Counting.{times_applied}
use Rattle.ol_rules.specs.declared.journal.Entry.{Entry}
use Rattle.ol_rules.specs.declared.journal.NodeName.{NodeName}
use Rattle.ol_term.specs.declared.translations.Translation.{Translation}
use Rattle.ol_translate.specs.Names.{HasNames}
use Rattle.ol_translate.specs.Translation.{translation_of}
use Rattle.ol_law_optimality.specs.Families.{HaveOwnLetters}
use Rattle.ol_law_optimality.specs.HeadFamilies.{HasSoManyDifferent}

-- Where leftmost reduction leads from a term, each of whose subterms has its own letter, to a
-- normal form, a demand run of its net, by either translation, that has a head at each place, and
-- so prints a term, makes as many beta steps as there are families that leftmost reduction
-- contracts: as different degrees.
abbrev pub BetasAreFamilies : Type 0
BetasAreFamilies = (τ : Translation) (T v : Labelled) (ws : List Label) →
    LeftmostContracts T ws v → IsNormal (erased v) →
    HaveOwnLetters T → (names : ℕ) → HasNames (erased T) names →
    (g : Graph) → IsNet (net_of g) → SameNet (net_of g) (translation_of τ (erased T) names) →
    (heads : ℕ) (journal : List Entry) (places : List ReadNode) (M : NamedNet NodeName) →
    IsDemandRun (start_of g) heads journal places M → HasAllHeads places →
    HasSoManyDifferent ws (times_applied rule.Beta journal)
