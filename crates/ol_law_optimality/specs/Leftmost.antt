-- Demand order makes no more beta steps than leftmost reduction, and no more for the head than head
-- reduction: the laws.
use Rattle.std.specs.Prelude.{◌≡◌, ℕ, ◌≤◌, true, List, length}
use Rattle.ol_beta.specs.Leftmost.{IsNormal}
use Rattle.ol_context.specs.Contexts.{Context}
use Rattle.ol_demand.specs.Answers.{start_of}
use Rattle.ol_demand.specs.Demands.{Asking, Turns, IsDemandRun}
use Rattle.ol_law_edges.specs.Edges.{IsIn}
use Rattle.ol_law_meaning.specs.Heads.{Steps}
use Rattle.ol_law_meaning.specs.Shows.{LeftmostReduces, IsHeadNormal}
use Rattle.ol_net.specs.Graph.{Graph}
use Rattle.ol_net.specs.Nets.{NamedNet, IsNet, SameNet}
use Rattle.ol_net.specs.Numbered.{net_of}
use Rattle.ol_net.specs.declared.parts.Rule.TheVariants as rule
use Rattle.ol_law_optimality.specs.RouteLaws as routes
use Rattle.ol_law_optimality.specs.Routes.{Route}
use Rattle.ol_law_optimality.specs.Seen.{IsSeen, IsQuestion}
use Rattle.ol_readback.specs.Terms.{HasAllHeads, term_of}
use Rattle.ol_readback.specs.Whole.{Part, preorder}
use Rattle.ol_readback.specs.declared.answers.ReadNode.{ReadNode}
use Rattle.ol_rules.specs.Counting.{times_applied}
use Rattle.ol_rules.specs.declared.journal.Entry.{Entry}
use Rattle.ol_rules.specs.declared.journal.NodeName.{NodeName}
use Rattle.ol_term.specs.Trees.{Tree}
use Rattle.ol_term.specs.declared.translations.Translation.{Translation}
use Rattle.ol_translate.specs.Names.{HasNames}
use Rattle.ol_translate.specs.Translation.{translation_of}
use Rattle.ol_law_optimality.specs.Steps.{steps_of}

-- the virtual redex is on the walk of a question that turns ask
abbrev pub IsSeenFromPlace : NamedNet NodeName → ℕ → Route NodeName → Type 0
IsSeenFromPlace N heads s = (p : ℕ) × (c : Context) × IsQuestion N heads p c × IsSeen N p c s

-- Where leftmost reduction leads from a term to a normal form, no demand run of the term's net, by
-- either translation, makes more beta steps, whatever number of heads is asked for.
abbrev pub NeverMoreThanLeftmost : Type 0
NeverMoreThanLeftmost = (τ : Translation) (t v : Tree) (r : LeftmostReduces t v) → IsNormal v →
    (names : ℕ) → HasNames t names →
    (g : Graph) → IsNet (net_of g) → SameNet (net_of g) (translation_of τ t names) →
    (heads : ℕ) (journal : List Entry) (places : List ReadNode) (M : NamedNet NodeName) →
    IsDemandRun (start_of g) heads journal places M → times_applied rule.Beta journal ≤ steps_of r

-- Nor does a front part of one, so that it holds of a run that stops for want of fuel too.
abbrev pub NeverMoreOnTheWay : Type 0
NeverMoreOnTheWay = (τ : Translation) (t v : Tree) (r : LeftmostReduces t v) → IsNormal v →
    (names : ℕ) → HasNames t names →
    (g : Graph) → IsNet (net_of g) → SameNet (net_of g) (translation_of τ t names) →
    (heads turns : ℕ) (journal : List Entry) (places : List ReadNode) (M : NamedNet NodeName)
    (a : Asking) →
    Turns (start_of g) heads turns journal places M a →
    times_applied rule.Beta journal ≤ steps_of r

-- So it is with all virtual redexes on the walks of such questions, whether contracted or not.
abbrev pub SeenOnPlacesIsFew : Type 0
SeenOnPlacesIsFew = (τ : Translation) (t v : Tree) (r : LeftmostReduces t v) → IsNormal v →
    (names : ℕ) → HasNames t names →
    (g : Graph) → IsNet (net_of g) → SameNet (net_of g) (translation_of τ t names) →
    (heads : ℕ) (ss : List (Route NodeName)) → routes.AreDifferent ss →
    ((s : Route NodeName) → IsIn s ss → IsSeenFromPlace (start_of g) heads s) →
    length ss ≤ steps_of r

-- Where a demand run has a head at each place, and so prints a term, leftmost reduction ends in
-- this term, which is a normal form, and contracts at least as many redexes.
abbrev pub NeverMoreWherePrinted : Type 0
NeverMoreWherePrinted = (τ : Translation) (t : Tree) (names : ℕ) → HasNames t names →
    (g : Graph) → IsNet (net_of g) → SameNet (net_of g) (translation_of τ t names) →
    (heads : ℕ) (journal : List Entry) (places : List ReadNode) (M : NamedNet NodeName) →
    IsDemandRun (start_of g) heads journal places M → HasAllHeads places →
    (T : Part true) × (preorder T ≡ places) × (r : LeftmostReduces t (term_of T))
    × IsNormal (term_of T) × (times_applied rule.Beta journal ≤ steps_of r)

-- Where so many head steps lead to a head normal form, what is asked for one head makes no more.
abbrev pub NeverMoreThanHead : Type 0
NeverMoreThanHead = (τ : Translation) (t u : Tree) (m : ℕ) → Steps t u m → IsHeadNormal u →
    (names : ℕ) → HasNames t names →
    (g : Graph) → IsNet (net_of g) → SameNet (net_of g) (translation_of τ t names) →
    (turns : ℕ) (journal : List Entry) (places : List ReadNode) (M : NamedNet NodeName)
    (a : Asking) →
    Turns (start_of g) 1 turns journal places M a → times_applied rule.Beta journal ≤ m
