-- Strongly normalising terms: by their reductions, and by rules (van Raamsdonk, Confluence and
-- normalisation for higher-order rewriting, 1996; Joachimski and Matthes, Short proofs of
-- normalization, 2003). And the runs of their nets.
use Rattle.std.specs.Prelude.{◌≡◌, ℕ, true, false, Bool, List, Some, ◌↔◌}
use Rattle.ol_beta.specs.Beta.{contracted}
use Rattle.ol_law_confluence.specs.Reductions.{WeakStep, weak_beta, weak_before}
use Rattle.ol_net.specs.Graph.{Graph}
use Rattle.ol_net.specs.Nets.{IsNet, SameNet}
use Rattle.ol_net.specs.Numbered.{net_of}
use Rattle.ol_term.specs.Trees.{Tree, var, free, lam, app}
use Rattle.ol_term.specs.declared.translations.Translation.{Translation}
use Rattle.ol_translate.specs.Names.{HasNames}
use Rattle.ol_translate.specs.Translation.{translation_of}
use Rattle.ol_law_completeness.specs.BoundedRuns.{RunsEndWithin}
use Rattle.ol_law_completeness.specs.Walks.{AreBounded}

-- each row of beta steps, anywhere in the term, ends
pub data IsStronglyNormalising : Tree → Type 0 where
  where_all : {t : Tree} → ((at : List ℕ) (u : Tree) → contracted t at ≡ Some u →
      IsStronglyNormalising u) → IsStronglyNormalising t

-- the argument of the redex that a weak head step contracts
abbrev pub argument : {t u : Tree} → WeakStep t u → Tree
argument (weak_beta {N = N}) = N
argument (weak_before s) = argument s

-- By rules: with true, a variable or a name with any number of arguments; with false, such a term,
-- an abstraction, or a term that has a weak head step. All arguments, the body, and what the step
-- leads to are normalised by the rules too.
pub data Normalises : Bool → Tree → Type 0 where
  of_var : {y : ℕ} → Normalises true (var y)
  of_free : {f : ℕ} → Normalises true (free f)
  of_app : {M N : Tree} → Normalises true M → Normalises false N → Normalises true (app M N)
  plain : {t : Tree} → Normalises true t → Normalises false t
  of_lam : {M : Tree} → Normalises false M → Normalises false (lam M)
  of_redex : {t u : Tree} (s : WeakStep t u) → Normalises false (argument s) →
      Normalises false u → Normalises false t

-- The strongly normalising terms are those that are normalised by the rules.
abbrev pub StronglyNormalisingByRules : Type 0
StronglyNormalisingByRules = (t : Tree) → IsStronglyNormalising t ↔ Normalises false t

-- In the net of a strongly normalising term, by either translation, walks are bounded.
abbrev pub StronglyNormalisingIsBounded : Type 0
StronglyNormalisingIsBounded = (τ : Translation) (t : Tree) (names : ℕ) → HasNames t names →
    IsStronglyNormalising t → (b : ℕ) × AreBounded (translation_of τ t names) b

-- So every run of such a net ends, within a number that the net tells.
abbrev pub StronglyNormalisingEnds : Type 0
StronglyNormalisingEnds = (τ : Translation) (t : Tree) (names : ℕ) → HasNames t names →
    IsStronglyNormalising t → (n : ℕ) × ((g : Graph) → IsNet (net_of g) →
    SameNet (net_of g) (translation_of τ t names) → RunsEndWithin g n)
