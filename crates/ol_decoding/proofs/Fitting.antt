-- The values that are found are those that fit.
use Rattle.std.proofs.Common.{◌≡◌, ℕ, suc, List, [], ◌∷◌, ◌++◌, inl, inr, Option, Some, None, refl, sym, subst, arith}
use Rattle.ol_law_edges.specs.Edges.{IsIn}
use Rattle.ol_law_edges.proofs.Lists.{in_left, in_right, in_cases, only}
use Rattle.ol_term.specs.Trees.{Tree}
use Rattle.ol_decoding.specs.Values.{Value, Fits, Rise, rank, AreAllOf, parts_of, AreClosed}
use Rattle.ol_decoding.specs.Values as value
use Rattle.ol_decoding.specs.Decoders.{of, values, boolean_of, church_of, list_of, pair_of, scott_of}
use Rattle.ol_decoding.proofs.Decoding.{boolean_is, boolean_found, church_is, church_found, list_is, list_found}
use Rattle.ol_decoding.proofs.Decoding.{pair_is, pair_found, scott_is, scott_found}

in_of : {A : Type 0} (f : A → Value) (o : Option A) (v : Value) → IsIn v (of f o) → (x : A) × (o ≡ Some x) × (v ≡ f x)
in_of f None v h = absurd h
in_of f (Some x) v h = (x, refl, only v (f x) h)

of_in : {A : Type 0} (f : A → Value) (o : Option A) (x : A) → o ≡ Some x → IsIn (f x) (of f o)
of_in f o x e = subst (λ o. IsIn (f x) (of f o)) (sym e) (inl refl)

module _ (t : Tree) where
  abbrev A : List Value
  A = of value.boolean (boolean_of t)

  abbrev B : List Value
  B = of value.church (church_of t)

  abbrev C : List Value
  C = of value.list (list_of t)

  abbrev D : List Value
  D = of (λ p. value.pair p.0 p.1) (pair_of t)

  abbrev E : List Value
  E = of value.scott (scott_of t)

  fits_boolean : (v : Value) → IsIn v A → Fits t v
  fits_boolean v h =
      let x = in_of value.boolean (boolean_of t) v h in
      subst (Fits t) (sym x.2) (boolean_is t x.0 x.1, tt)

  fits_church : (v : Value) → IsIn v B → Fits t v
  fits_church v h =
      let x = in_of value.church (church_of t) v h in
      subst (Fits t) (sym x.2) (church_is t x.0 x.1, tt)

  fits_list : (v : Value) → IsIn v C → Fits t v
  fits_list v h =
      let x = in_of value.list (list_of t) v h in
      subst (Fits t) (sym x.2) (list_is t x.0 x.1)

  fits_pair : (v : Value) → IsIn v D → Fits t v
  fits_pair v h =
      let x = in_of (λ p. value.pair p.0 p.1) (pair_of t) v h in
      subst (Fits t) (sym x.2) (pair_is t x.0 x.1)

  fits_scott : (v : Value) → IsIn v E → Fits t v
  fits_scott v h =
      let x = in_of value.scott (scott_of t) v h in
      subst (Fits t) (sym x.2) (scott_is t x.0 x.1, tt)

  fits : (v : Value) → IsIn v (values t) → Fits t v
  fits v h =
      elim (in_cases v A (B ++ (C ++ (D ++ E))) h) [
        | inl a ↦ fits_boolean v a
        | inr h ↦ elim (in_cases v B (C ++ (D ++ E)) h) [
          | inl b ↦ fits_church v b
          | inr h ↦ elim (in_cases v C (D ++ E) h) [
            | inl c ↦ fits_list v c
            | inr h ↦ elim (in_cases v D E h) [ inl d ↦ fits_pair v d | inr e ↦ fits_scott v e ]
          ]
        ]
      ]

  behind_boolean : (v : Value) → IsIn v (B ++ (C ++ (D ++ E))) → IsIn v (values t)
  behind_boolean v h = in_right v A (B ++ (C ++ (D ++ E))) h

  behind_church : (v : Value) → IsIn v (C ++ (D ++ E)) → IsIn v (values t)
  behind_church v h = behind_boolean v (in_right v B (C ++ (D ++ E)) h)

  behind_list : (v : Value) → IsIn v (D ++ E) → IsIn v (values t)
  behind_list v h = behind_church v (in_right v C (D ++ E) h)

  found : (v : Value) → Fits t v → IsIn v (values t)
  found (value.boolean b) h = in_left (value.boolean b) A (B ++ (C ++ (D ++ E)))
      (of_in value.boolean (boolean_of t) b (subst (λ t. boolean_of t ≡ Some b) h.0 (boolean_found b)))
  found (value.church n) h = behind_boolean (value.church n) (in_left (value.church n) B (C ++ (D ++ E))
      (of_in value.church (church_of t) n (subst (λ t. church_of t ≡ Some n) h.0 (church_found n))))
  found (value.list ts) h = behind_church (value.list ts) (in_left (value.list ts) C (D ++ E)
      (of_in value.list (list_of t) ts (subst (λ t. list_of t ≡ Some ts) h.0 (list_found ts h.1))))
  found (value.pair a b) h = behind_list (value.pair a b) (in_left (value.pair a b) D E
      (of_in (λ p. value.pair p.0 p.1) (pair_of t) (a, b) (subst (λ t. pair_of t ≡ Some (a, b)) h.0 (pair_found a b h.1))))
  found (value.scott n) h = behind_list (value.scott n) (in_right (value.scott n) D E
      (of_in value.scott (scott_of t) n (subst (λ t. scott_of t ≡ Some n) h.0 (scott_found n))))

-- ---- the order

sooner : (n : ℕ) (vs : List Value) → Rise (suc n) vs → Rise n vs
sooner n [] h = tt
sooner n (v ∷ vs) h = (omega (arith, h.0), h.1)

put_front : {A : Type 0} (f : A → Value) (n : ℕ) → ((x : A) → rank (f x) ≡ n) → (o : Option A) (vs : List Value) →
    Rise (suc n) vs → Rise n (of f o ++ vs)
put_front f n r None vs h = sooner n vs h
put_front f n r (Some x) vs h =
    let e = r x in (omega (arith, e), subst (λ (m : ℕ). Rise (suc m) vs) (sym e) h)

last_one : (o : Option ℕ) → Rise 4 (of value.scott o)
last_one None = tt
last_one (Some n) = (omega arith, tt)

in_order : (t : Tree) → Rise 0 (values t)
in_order t =
    put_front value.boolean 0 (λ x. refl) (boolean_of t) _
    (put_front value.church 1 (λ x. refl) (church_of t) _
    (put_front value.list 2 (λ x. refl) (list_of t) _
    (put_front (λ p. value.pair p.0 p.1) 3 (λ x. refl) (pair_of t) _ (last_one (scott_of t)))))

pub all_of : (t : Tree) → AreAllOf t (values t)
all_of t = record { fitting = λ v. (fits t v, found t v); in_order = in_order t }
