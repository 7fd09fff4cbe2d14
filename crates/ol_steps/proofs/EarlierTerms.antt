-- The terms that are kept, and a search among them.
use Rattle.std.proofs.Common.{◌≡◌, ℕ, suc, ◌+◌, ◌<◌, ◌≤◌, ◌⊎◌, inl, inr, List, [], ◌∷◌, ◌++◌, length, get_or, Option, Some}
use Rattle.std.proofs.Common.{refl, sym, ap, ◌∙◌, arith}
use Rattle.std.specs.Prelude.{slice_get}
use Rattle.std.specs.Option.{option_map}
use Rattle.std.proofs.lemmas.Bool.{cases_lt}
use Rattle.std.proofs.lemmas.List.{map-append}
use Rattle.std.proofs.lemmas.Option.{same_Some, slice_get-map, slice_get_read}
use Rattle.ol_term.specs.Trees.{Tree, tree_of}
use Rattle.ol_steps.specs.declared.earlier.Earlier.{Earlier}
use Rattle.ol_steps.specs.EarlierTerms.{terms_of}

pub kept_length : (kept : List Earlier) → length kept ≡ length (terms_of kept)
kept_length [] = refl
kept_length (e ∷ kept) = ap suc (kept_length kept)

pub kept_more : (kept : List Earlier) (e : Earlier) (t : Tree) → tree_of e.term ≡ t →
    terms_of (kept ++ e ∷ []) ≡ terms_of kept ++ t ∷ []
kept_more kept e t is = map-append (λ (e : Earlier). tree_of e.term) kept (e ∷ [])
    ∙ ap (λ (t : Tree). terms_of kept ++ t ∷ []) is

got_kept : (kept : List Earlier) (k : ℕ) (e : Earlier) → k < length kept → e ≡ get_or kept k e →
    slice_get (terms_of kept) k ≡ Some (tree_of e.term)
got_kept kept k e l is =
    slice_get-map (λ (e : Earlier). tree_of e.term) kept k
    ∙ ap (λ (o : Option Earlier). option_map (λ (e : Earlier). tree_of e.term) o)
    (slice_get_read kept (length kept) k e refl l is)

-- none of the first k is this one
abbrev pub NotBefore : List Earlier → Tree → ℕ → Type 0
NotBefore kept t k = (j : ℕ) → j < k → slice_get (terms_of kept) j ≡ Some t → ⊥

pub not_next : (kept : List Earlier) (t : Tree) (k : ℕ) (e : Earlier) → k < length kept → e ≡ get_or kept k e →
    NotBefore kept t k → (tree_of e.term ≡ t → ⊥) → NotBefore kept t (k + 1)
not_next kept t k e l is none differs j m f = go (cases_lt j k)
  where
    go : (j < k) ⊎ (k ≤ j) → ⊥
    go (inl a) = none j a f
    go (inr a) =
        let q : k ≡ j = omega (arith, a, m) in
        differs (same_Some (tree_of e.term) t
        (sym (got_kept kept k e l is) ∙ ap (λ (i : ℕ). slice_get (terms_of kept) i) q ∙ f))
