-- Different elements of a list are no more than it has.
use Rattle.std.proofs.Common.{◌≡◌, suc, ◌≤◌, ◌⊎◌, inl, inr, List, [], ◌∷◌, length, refl, sym, ap, ◌∙◌, subst, arith}
use Rattle.ol_law_edges.specs.Edges.{IsIn}
use Rattle.ol_law_optimality.specs.Readings.{AreDifferent}
use Rattle.ol_law_optimality.specs.Labels.{Label}

-- a list without one of its elements
record Without (x : Label) (ys : List Label) : Type 0 where
  rest : List Label
  count : length ys ≡ suc (length rest)
  stay : (y : Label) → IsIn y ys → (y ≡ x) ⊎ IsIn y rest

without : (x : Label) (ys : List Label) → IsIn x ys → Without x ys
without x [] h = absurd h
without x (y ∷ ys) (inl e) = record {
  rest = ys;
  count = refl;
  stay = λ z h. elim h [ inl k ↦ inl (k ∙ sym e) | inr k ↦ inr k ];
}
without x (y ∷ ys) (inr h) =
    let r = without x ys h in
    record {
      rest = y ∷ r.rest;
      count = ap suc r.count;
      stay = λ z h. elim h [ inl k ↦ inr (inl k) | inr k ↦ later y r.rest z (r.stay z k) ];
    }
  where
    later : (y : Label) (rest : List Label) (z : Label) → (z ≡ x) ⊎ IsIn z rest →
        (z ≡ x) ⊎ IsIn z (y ∷ rest)
    later y rest z (inl e) = inl e
    later y rest z (inr h) = inr (inr h)

pub no_more : (xs ys : List Label) → AreDifferent xs → ((x : Label) → IsIn x xs → IsIn x ys) →
    length xs ≤ length ys
no_more [] ys d h = omega arith
no_more (x ∷ xs) ys d h =
    let r = without x ys (h x (inl refl)) in
    let k : length xs ≤ length r.rest =
    no_more xs r.rest d.1
    (λ y i. elim (r.stay y (h y (inr i))) [
      | inl e ↦ absurd (d.0 (subst (λ z. IsIn z xs) e i))
      | inr j ↦ j
    ]) in
    let c = r.count in
    omega arith
