-- Sums of which one member has all, lists with the same members, and the list of one thing for each number.
-- Used in Table and `whole_journal`.
use Rattle.std.proofs.Common.{◌≡◌, ℕ, zero, suc, ◌<◌, ◌≤◌, List, [], ◌∷◌, ◌++◌, length, map, get_or}
use Rattle.std.proofs.Common.{Some, None, refl, sym, ap, ◌∙◌, arith}
use Rattle.std.specs.Prelude.{slice_get}
use Rattle.std.proofs.lemmas.List.{append_assoc, append-nil}
use mathlib.Core.Option.{some, some-injective, some-ne-none}
use lib.ListN.{get_elem?}
use Rattle.ol_rules.specs.Listed.{each}
use Rattle.ol_wire.specs.Weights.{total}
use Rattle.ol_wire.proofs.InWords.Held.{total_at}

module _ {A : Type 0} (f g : A → ℕ) where
  total_none : (l : List A) → ((i : ℕ) (u : A) → get_elem? l i ≡ some u → g u ≡ 0 → f u ≡ 0) →
      total g l ≡ 0 → total f l ≡ 0
  total_none [] h e = refl
  total_none (x ∷ xs) h e = omega (
    arith,
    h 0 x refl (omega (arith, e)),
    total_none xs (λ i. h (suc i)) (omega (arith, e)),
  )

  -- where one member has the whole of g, and f is 0 wherever g is, that member has the whole of f
  pub whole : (l : List A) (j : ℕ) (v : A) → get_elem? l j ≡ some v →
      ((i : ℕ) (u : A) → get_elem? l i ≡ some u → g u ≡ 0 → f u ≡ 0) → total g l ≡ g v → total f l ≡ f v
  whole [] j v e h s = absurd (some-ne-none v (sym e))
  whole (x ∷ xs) zero v e h s = omega (
    arith,
    ap f (some-injective x v e),
    total_none xs (λ i. h (suc i)) (omega (arith, s, ap g (some-injective x v e))),
  )
  whole (x ∷ xs) (suc j) v e h s =
      let t = total_at g xs j v e in
      omega (arith, h 0 x refl (omega (arith, s, t)), whole xs j v e (λ i. h (suc i)) (omega (arith, s, t)))

-- lists of one length with the same words
pub same_words : (xs ys : List ℕ) → length xs ≡ length ys →
    ((n : ℕ) → n < length xs → get_or xs n 0 ≡ get_or ys n 0) → xs ≡ ys
same_words [] [] e h = refl
same_words [] (y ∷ ys) e h = absurd (omega (arith, e))
same_words (x ∷ xs) [] e h = absurd (omega (arith, e))
same_words (x ∷ xs) (y ∷ ys) e h = ap (λ x. x ∷ xs) (h 0 (omega arith))
    ∙ ap (λ xs. y ∷ xs) (same_words xs ys (omega (arith, e)) (λ n lt. h (suc n) (omega (arith, lt))))

-- the first of them in front
each_front : {X : Type 0} (n : ℕ) (rows : ℕ → List X) → each (suc n) rows ≡ rows 0 ++ each n (λ t. rows (suc t))
each_front zero rows = sym (append-nil (rows 0))
each_front (suc n) rows = ap (λ xs. xs ++ rows (suc n)) (each_front n rows)
    ∙ append_assoc (rows 0) (each n (λ t. rows (suc t))) (rows (suc n))

pub one_each : {X : Type 0} (f : ℕ → X) (n t : ℕ) → t < n → slice_get (each n (λ t. f t ∷ [])) t ≡ Some (f t)
one_each f zero t lt = absurd (omega arith)
one_each f (suc n) zero lt = ap (λ xs. slice_get xs 0) (each_front n (λ t. f t ∷ []))
one_each f (suc n) (suc t) lt = ap (λ xs. slice_get xs (suc t)) (each_front n (λ t. f t ∷ []))
    ∙ one_each (λ t. f (suc t)) n t (omega (arith, lt))

pub none_each : {X : Type 0} (f : ℕ → X) (n t : ℕ) → n ≤ t → slice_get (each n (λ t. f t ∷ [])) t ≡ None
none_each f zero t le = refl
none_each f (suc n) zero le = absurd (omega arith)
none_each f (suc n) (suc t) le = ap (λ xs. slice_get xs (suc t)) (each_front n (λ t. f t ∷ []))
    ∙ none_each (λ t. f (suc t)) n t (omega (arith, le))

-- a list told by its members in order
pub each_map : {X Y : Type 0} (g : X → Y) (xs : List X) (f : ℕ → Y) →
    ((t : ℕ) (x : X) → slice_get xs t ≡ Some x → f t ≡ g x) → each (length xs) (λ t. f t ∷ []) ≡ map g xs
each_map g [] f h = refl
each_map g (x ∷ xs) f h = each_front (length xs) (λ t. f t ∷ [])
    ∙ ap (λ y. y ∷ each (length xs) (λ t. f (suc t) ∷ [])) (h 0 x refl)
    ∙ ap (λ ys. g x ∷ ys) (each_map g xs (λ t. f (suc t)) (λ t. h (suc t)))
