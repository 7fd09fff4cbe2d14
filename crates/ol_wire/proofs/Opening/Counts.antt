-- Ends and edges of rows that stand one behind the other.
-- Used in Stands.
use Rattle.std.proofs.Common.{◌≡◌, ◌≢◌, ℕ, zero, suc, ◌+◌, ◌<◌, nat_eq, List, refl, sym, ap, ◌∙◌, arith, inl, inr}
use Rattle.std.proofs.lemmas.Bool.{cases_eq}
use Rattle.ol_law_edges.specs.Edges.{IsIn, ends}
use Rattle.ol_rules.specs.Listed.{each}
use Rattle.ol_law_edges.proofs.Lists.{in_left, in_right, in_cases}
use Rattle.ol_rules.proofs.EndCounts.{ends_append}

module _ (row : ℕ → List (ℕ × ℕ)) where
  pub no_place : (e n : ℕ) → ((v : ℕ) → v < n → ends nat_eq e (row v) ≡ 0) → ends nat_eq e (each n row) ≡ 0
  no_place e zero h = refl
  no_place e (suc n) h = omega (
    arith,
    ends_append nat_eq e (each n row) (row n),
    h n (omega arith),
    no_place e n (λ v lt. h v (omega (arith, lt))),
  )

  pub one_place : (e n w c : ℕ) → w < n → ends nat_eq e (row w) ≡ c →
      ((v : ℕ) → v < n → v ≢ w → ends nat_eq e (row v) ≡ 0) → ends nat_eq e (each n row) ≡ c
  one_place e zero w c lt at h = absurd (omega (arith, lt))
  one_place e (suc n) w c lt at h = elim (cases_eq w n) [
    | inl q ↦
        let last : ends nat_eq e (row n) ≡ c = ap (λ k. ends nat_eq e (row k)) (sym q) ∙ at in
        omega (
          arith,
          ends_append nat_eq e (each n row) (row n),
          last,
          no_place e n (λ v less. h v (omega (arith, less)) (λ s. omega (arith, s, q, less))),
        )
    | inr d ↦ omega (
      arith,
      ends_append nat_eq e (each n row) (row n),
      h n (omega arith) (λ s. d (sym s)),
      one_place e n w c (omega (arith, lt, d)) at
          (λ v less. h v (omega (arith, less))),
    )
  ]

  pub two_places : (e n w v c d : ℕ) → w < v → v < n → ends nat_eq e (row w) ≡ c →
      ends nat_eq e (row v) ≡ d → ((u : ℕ) → u < n → u ≢ w → u ≢ v → ends nat_eq e (row u) ≡ 0) →
      ends nat_eq e (each n row) ≡ c + d
  two_places e zero w v c d less lt at_w at_v h = absurd (omega (arith, lt))
  two_places e (suc n) w v c d less lt at_w at_v h = elim (cases_eq v n) [
    | inl q ↦
        let last : ends nat_eq e (row n) ≡ d = ap (λ k. ends nat_eq e (row k)) (sym q) ∙ at_v in
        omega (
          arith,
          ends_append nat_eq e (each n row) (row n),
          last,
          one_place e n w c (omega (arith, less, q)) at_w
              (λ u below ne. h u (omega (arith, below)) ne (λ s. omega (arith, s, q, below))),
        )
    | inr ne ↦ omega (
      arith,
      ends_append nat_eq e (each n row) (row n),
      h n (omega arith) (λ s. omega (arith, s, less, lt)) (λ s. ne (sym s)),
      two_places e n w v c d less (omega (arith, lt, ne)) at_w at_v (λ u below. h u (omega (arith, below))),
    )
  ]

  pub some_place : (e n : ℕ) → 0 < ends nat_eq e (each n row) → (w : ℕ) × (w < n) × (0 < ends nat_eq e (row w))
  some_place e zero h = absurd (omega (arith, h))
  some_place e (suc n) h = elim (cases_eq (ends nat_eq e (row n)) 0) [
    | inl none ↦ let r = some_place e n (omega
        (arith, h, none, ends_append nat_eq e (each n row) (row n))) in (r.0, (let lt = r.1 in omega arith), r.2)
    | inr some ↦ (n, omega arith, omega (arith, some))
  ]

  pub in_row : (x : ℕ × ℕ) (n w : ℕ) → w < n → IsIn x (row w) → IsIn x (each n row)
  in_row x zero w lt h = absurd (omega (arith, lt))
  in_row x (suc n) w lt h = elim (cases_eq w n) [
    | inl q ↦ in_right x (each n row) (row n) (go w n q h)
    | inr d ↦ in_left x (each n row) (row n) (in_row x n w (omega (arith, lt, d)) h)
  ]
    where
      go : (w n : ℕ) → w ≡ n → IsIn x (row w) → IsIn x (row n)
      go w n q h = rw (sym q) h

  pub row_of : (x : ℕ × ℕ) (n : ℕ) → IsIn x (each n row) → (w : ℕ) × (w < n) × IsIn x (row w)
  row_of x zero h = absurd h
  row_of x (suc n) h = elim (in_cases x (each n row) (row n) h) [
    | inl a ↦ let r = row_of x n a in (r.0, (let lt = r.1 in omega arith), r.2)
    | inr a ↦ (n, omega arith, a)
  ]
