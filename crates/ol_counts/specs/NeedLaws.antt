-- Call-by-need ends in the normal form, and makes no fewer beta steps than demand order: the laws.
use Rattle.std.specs.Prelude.{◌≡◌, ℕ, ◌≤◌, ◌==◌, ◌&&◌, Bool, true, false, if◌then◌else◌, List, length}
use Rattle.std.specs.Prelude.{Option, Some, None}
use Rattle.ol_beta.specs.Leftmost.{IsNormal}
use Rattle.ol_demand.specs.Answers.{start_of}
use Rattle.ol_demand.specs.Demands.{Asking, Turns}
use Rattle.ol_law_optimality.specs.Steps.{steps_of}
use Rattle.ol_law_meaning.specs.Shows.{BetaReduces, LeftmostReduces, IsHeadNormal}
use Rattle.ol_counts.specs.Machines.{Machine, Control, came, name, after, begun, need_count}
use Rattle.ol_net.specs.Graph.{Graph}
use Rattle.ol_net.specs.Nets.{NamedNet, IsNet, SameNet}
use Rattle.ol_net.specs.Numbered.{net_of}
use Rattle.ol_net.specs.declared.parts.Rule.TheVariants as rule
use Rattle.ol_law_optimality.specs.Labels.{Label, Labelled, erased}
use Rattle.ol_readback.specs.declared.answers.ReadNode.{ReadNode}
use Rattle.ol_rules.specs.Counting.{times_applied}
use Rattle.ol_rules.specs.declared.journal.Entry.{Entry}
use Rattle.ol_rules.specs.declared.journal.NodeName.{NodeName}
use Rattle.ol_term.specs.Trees.{Tree, is_below}
use Rattle.ol_term.specs.declared.translations.Translation.{Translation}
use Rattle.ol_translate.specs.Names.{HasNames}
use Rattle.ol_translate.specs.Translation.{translation_of}
use Rattle.ol_law_optimality.specs.Reductions.{FamilyReduces}
use Rattle.ol_counts.specs.NeedRules.{ReducesByNeed}

-- Whatever the labels of a term are, each beta step of the machine is a family step: where it ends
-- after n of them, n family steps lead to a normal form.
abbrev pub NeedIsByFamilies : Type 0
NeedIsByFamilies = (T : Labelled) → is_below 0 (erased T) ≡ true →
    (moves n : ℕ) → need_count (erased T) moves ≡ Some n →
    (ds : List Label) × (V : Labelled) × FamilyReduces T ds V × IsNormal (erased V)
    × (n ≡ length ds)

-- So where it ends the term has a normal form, and there is no other.
abbrev pub NeedEndsInTheNormalForm : Type 0
NeedEndsInTheNormalForm = (t : Tree) → is_below 0 t ≡ true →
    (moves n : ℕ) → need_count t moves ≡ Some n →
    (v : Tree) × BetaReduces t v × IsNormal v
    × ((u : Tree) → BetaReduces t u → IsNormal u → u ≡ v)

-- And where a term has a normal form the machine ends. If leftmost reduction leads there, the machine
-- makes no more beta steps than that has steps.
abbrev pub NeedFindsTheNormalForm : Type 0
NeedFindsTheNormalForm = (t v : Tree) → is_below 0 t ≡ true → BetaReduces t v → IsNormal v →
    (moves n : ℕ) × (need_count t moves ≡ Some n)

abbrev pub NeedIsNoMoreThanLeftmost : Type 0
NeedIsNoMoreThanLeftmost = (t v : Tree) → is_below 0 t ≡ true →
    (r : LeftmostReduces t v) → IsNormal v →
    (moves n : ℕ) → need_count t moves ≡ Some n → n ≤ steps_of r

-- And no demand run of the term's net, by either translation, for whatever number of heads, whether
-- it ends or stops on the way, makes more beta steps than the machine.
abbrev pub DemandIsNoMoreThanNeed : Type 0
DemandIsNoMoreThanNeed = (τ : Translation) (t : Tree) (names : ℕ) → HasNames t names →
    (moves n : ℕ) → need_count t moves ≡ Some n →
    (g : Graph) → IsNet (net_of g) → SameNet (net_of g) (translation_of τ t names) →
    (heads turns : ℕ) (journal : List Entry) (places : List ReadNode) (M : NamedNet NodeName)
    (a : Asking) → Turns (start_of g) heads turns journal places M a →
    times_applied rule.Beta journal ≤ n

-- ---- one head

abbrev pub has_come_to_name : Control → Bool
has_come_to_name (came (name arguments)) = true
has_come_to_name _ = false

-- the machine has a name, and nothing is to be done with it
abbrev pub has_head : Machine → Bool
has_head m = (length m.stack == 0) && has_come_to_name m.control

abbrev pub steps_if_headed : Machine → Option ℕ
steps_if_headed m = if has_head m then Some m.steps else None

-- the beta steps that were made after so many moves, where the machine has a name then
abbrev pub need_head_count : Tree → ℕ → Option ℕ
need_head_count t moves = steps_if_headed (after moves (begun t))

-- Where the machine comes to a name, no demand run that asks for one head makes more beta steps,
-- whether the term has a normal form or not.
abbrev pub DemandIsNoMoreThanNeedForAHead : Type 0
DemandIsNoMoreThanNeedForAHead = (τ : Translation) (t : Tree) (names : ℕ) → HasNames t names →
    (moves n : ℕ) → need_head_count t moves ≡ Some n →
    (g : Graph) → IsNet (net_of g) → SameNet (net_of g) (translation_of τ t names) →
    (turns : ℕ) (journal : List Entry) (places : List ReadNode) (M : NamedNet NodeName)
    (a : Asking) → Turns (start_of g) 1 turns journal places M a →
    times_applied rule.Beta journal ≤ n

-- Where it comes to a name, the term has a head normal form, and where there is one it comes to a name.
abbrev pub NeedComesToAHead : Type 0
NeedComesToAHead = (t : Tree) → is_below 0 t ≡ true → (moves n : ℕ) → need_head_count t moves ≡ Some n →
    (v : Tree) × BetaReduces t v × IsHeadNormal v

abbrev pub NeedFindsAHead : Type 0
NeedFindsAHead = (t v : Tree) → is_below 0 t ≡ true → BetaReduces t v → IsHeadNormal v →
    (moves n : ℕ) × (need_head_count t moves ≡ Some n)

-- ---- the rules

-- What the machine counts is by the rules,
abbrev pub MachineIsByRules : Type 0
MachineIsByRules = (t : Tree) → is_below 0 t ≡ true →
    (moves n : ℕ) → need_count t moves ≡ Some n → (v : Tree) × ReducesByNeed t v n

-- and what is by the rules the machine counts.
abbrev pub RulesAreFollowed : Type 0
RulesAreFollowed = (t v : Tree) (n : ℕ) → is_below 0 t ≡ true → ReducesByNeed t v n →
    (moves : ℕ) × (need_count t moves ≡ Some n)

-- By the rules a term comes to its normal form,
abbrev pub RulesGiveTheNormalForm : Type 0
RulesGiveTheNormalForm = (t v : Tree) (n : ℕ) → is_below 0 t ≡ true → ReducesByNeed t v n →
    BetaReduces t v × IsNormal v × ((u : Tree) → BetaReduces t u → IsNormal u → u ≡ v)

-- where it has one,
abbrev pub RulesFindTheNormalForm : Type 0
RulesFindTheNormalForm = (t v : Tree) → is_below 0 t ≡ true → BetaReduces t v → IsNormal v →
    (n : ℕ) × ReducesByNeed t v n

-- by no more beta steps than leftmost reduction,
abbrev pub RulesAreNoMoreThanLeftmost : Type 0
RulesAreNoMoreThanLeftmost = (t v w : Tree) (n : ℕ) → is_below 0 t ≡ true → ReducesByNeed t w n →
    (r : LeftmostReduces t v) → IsNormal v → n ≤ steps_of r

-- and by no fewer than a demand run of the term's net makes.
abbrev pub DemandIsNoMoreThanRules : Type 0
DemandIsNoMoreThanRules = (τ : Translation) (t : Tree) (names : ℕ) → HasNames t names →
    (v : Tree) (n : ℕ) → ReducesByNeed t v n →
    (g : Graph) → IsNet (net_of g) → SameNet (net_of g) (translation_of τ t names) →
    (heads turns : ℕ) (journal : List Entry) (places : List ReadNode) (M : NamedNet NodeName)
    (a : Asking) → Turns (start_of g) heads turns journal places M a →
    times_applied rule.Beta journal ≤ n
