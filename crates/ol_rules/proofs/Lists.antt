-- What stands in lists of copies, and in lists row by row.
use Rattle.std.proofs.Common.{◌≡◌, ℕ, zero, suc, ◌+◌, ◌<◌, List, ◌∷◌, ◌++◌, Some, ◌⊎◌, inl, inr}
use Rattle.std.proofs.Common.{refl, ap, ◌∙◌, subst, arith, length}
use Rattle.std.specs.Prelude.{slice_get}
use Rattle.ol_law_edges.specs.Edges.{IsIn}
use Rattle.ol_law_edges.proofs.Lists.{in_left, in_right, in_cases}
use Rattle.ol_rules.specs.Listed.{each}
use Rattle.ol_rules.specs.BornLists.{copies}

pub in_each : {X : Type 0} (x : X) (n : ℕ) (rows : ℕ → List X) (s : ℕ) → s < n → IsIn x (rows s) → IsIn x (each n rows)
in_each x zero rows s b h = absurd (omega arith)
in_each x (suc n) rows s b h = go (last s n b) (λ c. in_each x n rows s c h)
  where
    last : (s n : ℕ) → s < suc n → (s < n) ⊎ (s ≡ n)
    last s n b = grind arith

    go : (s < n) ⊎ (s ≡ n) → (s < n → IsIn x (each n rows)) → IsIn x (each n rows ++ rows n)
    go (inl c) ih = in_left x (each n rows) (rows n) (ih c)
    go (inr e) ih = in_right x (each n rows) (rows n) (subst (λ s. IsIn x (rows s)) e h)

pub in_each_of : {X : Type 0} (x : X) (n : ℕ) (rows : ℕ → List X) → IsIn x (each n rows) →
    (s : ℕ) × (s < n) × IsIn x (rows s)
in_each_of x zero rows h = absurd h
in_each_of x (suc n) rows h = go (in_each_of x n rows) (in_cases x (each n rows) (rows n) h)
  where
    go : (IsIn x (each n rows) → (s : ℕ) × (s < n) × IsIn x (rows s)) →
        IsIn x (each n rows) ⊎ IsIn x (rows n) → (s : ℕ) × (s < suc n) × IsIn x (rows s)
    go ih (inl c) = let t = ih c in let b = t.1 in (t.0, omega arith, t.2)
    go ih (inr c) = (n, omega arith, c)

pub length_copies : {X : Type 0} (n : ℕ) (x : X) → length (copies n x) ≡ n
length_copies zero x = refl
length_copies (suc n) x = ap suc (length_copies n x)

-- an element in front, and one behind
pub get_copy : {X : Type 0} (n : ℕ) (x : X) (ys : List X) (p : ℕ) → p < n → slice_get (copies n x ++ ys) p ≡ Some x
get_copy zero x ys p b = absurd (omega arith)
get_copy (suc n) x ys zero b = refl
get_copy (suc n) x ys (suc p) b = get_copy n x ys p (omega arith)

pub get_behind : {X : Type 0} (n : ℕ) (x : X) (ys : List X) (p : ℕ) →
    slice_get (copies n x ++ ys) (n + p) ≡ slice_get ys p
get_behind zero x ys p = let e : 0 + p ≡ p = omega arith in ap (slice_get ys) e
get_behind (suc n) x ys p = let e : suc n + p ≡ suc (n + p) = omega arith in
    ap (slice_get (x ∷ (copies n x ++ ys))) e ∙ get_behind n x ys p

-- where an element stands
pub got : {X : Type 0} (n : ℕ) (x : X) (ys : List X) (p : ℕ) (y : X) → slice_get (copies n x ++ ys) p ≡ Some y
    → ((p < n) × (y ≡ x)) ⊎ ((q : ℕ) × (p ≡ n + q) × (slice_get ys q ≡ Some y))
got zero x ys p y h = inr (p, omega arith, h)
got (suc n) x ys zero y h = inl (omega arith, cc)
got {X} (suc n) x ys (suc p) y h = go (got n x ys p y h)
  where
    go : ((p < n) × (y ≡ x)) ⊎ ((q : ℕ) × (p ≡ n + q) × (slice_get ys q ≡ Some y)) →
        ((suc p < suc n) × (y ≡ x)) ⊎ ((q : ℕ) × (suc p ≡ suc n + q) × (slice_get ys q ≡ Some y))
    go (inl (b, e)) = inl (omega arith, e)
    go (inr (q, e, k)) = inr (q, omega arith, k)
