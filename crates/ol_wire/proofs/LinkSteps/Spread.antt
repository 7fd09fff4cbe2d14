-- How often the words of dead wires stand in a list.
-- Used in Exchange.
use Rattle.std.proofs.Common.{◌≡◌, ◌≢◌, ℕ, zero, suc, ◌+◌, ◌<◌, ◌≤◌, nat_eq, eq-eqb, ne_eqb}
use Rattle.std.proofs.Common.{if◌then◌else◌, List, [], ◌∷◌, ◌++◌, refl, ap, inl, inr, arith}
use Rattle.std.proofs.lemmas.Bool.{cases_eq}
use Rattle.ol_wire.specs.Edges.{times_in}
use Rattle.ol_wire.specs.LinkSteps.{spread}
use Rattle.ol_wire.proofs.InWords.Alike.{total_append}

abbrev pub one_if : ℕ → ℕ → ℕ
one_if u a = if nat_eq u a then 1 else 0

pub one_same : (u a : ℕ) → u ≡ a → one_if u a ≡ 1
one_same u a e = ap (λ b. if b then 1 else 0) (eq-eqb u a e)

pub one_other : (u a : ℕ) → u ≢ a → one_if u a ≡ 0
one_other u a d = ap (λ b. if b then 1 else 0) (ne_eqb u a d)

-- one number more at the end
pub times_more : (a : ℕ) (xs : List ℕ) (u : ℕ) → times_in a (xs ++ u ∷ []) ≡ times_in a xs + one_if u a
times_more a xs u = omega (arith, total_append (λ y. if nat_eq y a then 1 else 0) xs (u ∷ []))

spread_past : (n : ℕ) (xs : List ℕ) (u : ℕ) → n ≤ u → spread n (xs ++ u ∷ []) ≡ spread n xs
spread_past zero xs u le = refl
spread_past (suc n) xs u le = omega (
  arith,
  spread_past n xs u (omega arith),
  times_more n xs u,
  one_other u n (λ e. omega arith),
)

pub spread_more : (n : ℕ) (xs : List ℕ) (u : ℕ) → u < n → spread n (xs ++ u ∷ []) ≡ spread n xs + 1
spread_more zero xs u lt = absurd (omega arith)
spread_more (suc n) xs u lt = elim (cases_eq u n) [
  | inl e ↦ omega (arith, spread_past n xs u (omega (arith, e)), times_more n xs u, one_same u n e)
  | inr d ↦ omega (arith, spread_more n xs u (omega arith), times_more n xs u, one_other u n d)
]

-- where none stands there twice
pub spread_few : (n : ℕ) (xs : List ℕ) → ((a : ℕ) → times_in a xs ≤ 1) → spread n xs ≤ n
spread_few zero xs few = omega arith
spread_few (suc n) xs few = omega (arith, spread_few n xs few, few n)
