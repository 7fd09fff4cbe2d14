-- Which tokens of a row are free names, by how the grammar reads it.
use Rattle.std.specs.Prelude.{ℕ, Bool, false, not, List, [], ◌∷◌, ◌++◌, map}
use Rattle.std.specs.List.{list_any}
use Rattle.std.specs.Str.{bytes_eq}
use Rattle.ol_parse.specs.Grammar.{Named, Token, IsTerm, term_body, term_spine, term_both, IsSpine, spine_one, spine_more}
use Rattle.ol_parse.specs.Grammar.{IsAtom, atom_name, atom_brackets, IsBody, body_lambda, body_let}

-- a name that isn't one of these
abbrev pub is_unbound : List (List ℕ) → List ℕ → Bool
is_unbound bound x = not (list_any (λ y. bytes_eq x y) bound)

-- For each token of a reading whether it is a free name: an atom whose name no `\` and no `let` above it binds. The names
-- that those above bind are `bound`. A `let` binds its name behind the `in` alone.
abbrev mutual
  pub free_in_term : List (List ℕ) → {a : List Token} {t : Named} → IsTerm a t → List Bool
  free_in_term bound (term_body body) = free_in_body bound body
  free_in_term bound (term_spine spine) = free_in_spine bound spine
  free_in_term bound (term_both spine body) = free_in_spine bound spine ++ free_in_body bound body

  pub free_in_spine : List (List ℕ) → {a : List Token} {t : Named} → IsSpine a t → List Bool
  free_in_spine bound (spine_one atom) = free_in_atom bound atom
  free_in_spine bound (spine_more spine atom) = free_in_spine bound spine ++ free_in_atom bound atom

  pub free_in_atom : List (List ℕ) → {a : List Token} {t : Named} → IsAtom a t → List Bool
  free_in_atom bound (atom_name {x = x}) = is_unbound bound x ∷ []
  free_in_atom bound (atom_brackets term) = false ∷ free_in_term bound term ++ (false ∷ [])

  pub free_in_body : List (List ℕ) → {a : List Token} {t : Named} → IsBody a t → List Bool
  free_in_body bound (body_lambda x xs term) =
      false ∷ map (λ y. false) (x ∷ xs) ++ (false ∷ free_in_term (bound ++ (x ∷ xs)) term)
  free_in_body bound (body_let x definition term) =
      false ∷ false ∷ false ∷ free_in_term bound definition ++ (false ∷ free_in_term (bound ++ (x ∷ [])) term)
