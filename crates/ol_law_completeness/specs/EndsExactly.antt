-- If a run of a term's net ends, the term is strongly normalising.
use Rattle.std.specs.Prelude.{ℕ, ◌≤◌, List, length, ◌↔◌}
use Rattle.ol_net.specs.Nets.{NamedNet, IsNet, SameNet, net_under}
use Rattle.ol_net.specs.Pairs.{IsComplete}
use Rattle.ol_rules.specs.Runs.{IsRun, IsOneThread}
use Rattle.ol_rules.specs.declared.journal.Entry.{Entry}
use Rattle.ol_rules.specs.declared.journal.NodeName.{NodeName}
use Rattle.ol_rules.specs.declared.journal.NodeName.TheVariants.{Init}
use Rattle.ol_term.specs.Trees.{Tree}
use Rattle.ol_term.specs.declared.translations.Translation.{Translation}
use Rattle.ol_translate.specs.Names.{HasNames}
use Rattle.ol_translate.specs.Translation.{translation_of}
use Rattle.ol_law_completeness.specs.StrongNormalisation.{IsStronglyNormalising}

-- A run of the net of a term, however that is listed, of whichever pairs and in whatever order, comes
-- to a net without an active pair only if each row of beta steps of the term ends.
abbrev pub OnlyStronglyNormalisingEnds : Type 0
OnlyStronglyNormalisingEnds = (τ : Translation) (t : Tree) (names : ℕ) → HasNames t names →
    (K : NamedNet ℕ) → IsNet K → SameNet K (translation_of τ t names) →
    (journal : List Entry) (M : NamedNet NodeName) →
    IsRun (net_under Init K) 0 journal M → IsComplete M → IsStronglyNormalising t

-- So the one-thread run ends, with some fuel, just where the term is strongly normalising,
abbrev pub OneThreadEndsExactly : Type 0
OneThreadEndsExactly = (τ : Translation) (t : Tree) (names : ℕ) → HasNames t names →
    (K : NamedNet ℕ) → IsNet K → SameNet K (translation_of τ t names) →
    IsStronglyNormalising t ↔ ((fuel : ℕ) × (journal : List Entry) × (M : NamedNet NodeName)
    × IsOneThread (net_under Init K) fuel journal M × IsComplete M)

-- no run from the net is longer than n
abbrev pub RunsAreWithin : NamedNet ℕ → ℕ → Type 0
RunsAreWithin K n = (journal : List Entry) (M : NamedNet NodeName) →
    IsRun (net_under Init K) 0 journal M → length journal ≤ n

-- and there no run is longer than some number.
abbrev pub EveryRunEndsExactly : Type 0
EveryRunEndsExactly = (τ : Translation) (t : Tree) (names : ℕ) → HasNames t names →
    (K : NamedNet ℕ) → IsNet K → SameNet K (translation_of τ t names) →
    IsStronglyNormalising t ↔ ((n : ℕ) × RunsAreWithin K n)
