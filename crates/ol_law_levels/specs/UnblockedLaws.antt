-- The laws of unblocked nets: what keeps them, and that no pair is stuck in one.
use Rattle.std.specs.Prelude.{ℕ, Bool, List}
use Rattle.ol_law_edges.specs.Edges.{IsTest}
use Rattle.ol_net.specs.Nets.{NamedNet, IsNet}
use Rattle.ol_net.specs.Pairs.{IsStuck, HasStuck}
use Rattle.ol_net.specs.declared.parts.Rule.{Rule}
use Rattle.ol_rules.specs.Laws.{IsFresh, AreNamedBefore}
use Rattle.ol_rules.specs.Rewriting.{IsStep}
use Rattle.ol_rules.specs.Runs.{IsRun}
use Rattle.ol_rules.specs.declared.journal.Entry.{Entry}
use Rattle.ol_rules.specs.declared.journal.NodeName.{NodeName}
use Rattle.ol_law_levels.specs.Levels.{IsLevelled}
use Rattle.ol_term.specs.Trees.{Tree}
use Rattle.ol_term.specs.declared.translations.Translation.{Translation}
use Rattle.ol_translate.specs.Names.{HasNames}
use Rattle.ol_translate.specs.Translation.{translation_of}
use Rattle.ol_law_levels.specs.Unblocked.{IsUnblocked}

-- A step of any active pair leaves an unblocked net unblocked.
abbrev pub StepKeepsUnblocked : Type 0 → Type 0
StepKeepsUnblocked A = (same : A → A → Bool) → IsTest same →
    (born : ℕ → A) (N M : NamedNet A) (f g : A) (r : Rule) →
    IsNet N → IsFresh N born → IsStep born N f g r M → IsUnblocked N → IsUnblocked M

-- So does each run along a journal, from any ticket on.
abbrev pub RunKeepsUnblocked : Type 0
RunKeepsUnblocked = (N M : NamedNet NodeName) (ticket : ℕ) (journal : List Entry) →
    IsNet N → AreNamedBefore N ticket → IsRun N ticket journal M → IsUnblocked N → IsUnblocked M

-- no pair is stuck
abbrev pub IsUnstuck : {A : Type 0} → NamedNet A → Type 0
IsUnstuck {A} N = (f g : A) → IsStuck N f g → ⊥

-- In a levelled net that is unblocked no pair is stuck.
abbrev pub UnblockedIsUnstuck : Type 0 → Type 0
UnblockedIsUnstuck A = (N : NamedNet A) → IsLevelled N → IsUnblocked N →
    IsUnstuck N × HasStuck N 0

-- So no run from such a net leads to a net with a stuck pair, whichever pairs its journal names.
abbrev pub RunIsUnstuck : Type 0
RunIsUnstuck = (N M : NamedNet NodeName) (ticket : ℕ) (journal : List Entry) →
    IsNet N → AreNamedBefore N ticket → IsLevelled N → IsUnblocked N → IsRun N ticket journal M →
    HasStuck M 0

-- The net of a term, by either translation, is unblocked.
abbrev pub TermIsUnblocked : Type 0
TermIsUnblocked = (w : Translation) (t : Tree) (names : ℕ) → HasNames t names →
    IsUnblocked (translation_of w t names)
