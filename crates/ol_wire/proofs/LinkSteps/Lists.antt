-- Sums over views and over pending links of which one changes, by place.
-- Used in Cells, Keep and Steps.Join.
use Rattle.std.proofs.Common.{◌≡◌, ◌≢◌, ℕ, suc, ◌+◌, ◌<◌, ◌≤◌, ◌⊎◌, nat_eq, eq-eqb, ne_eqb, if◌then◌else◌, List, []}
use Rattle.std.proofs.Common.{◌∷◌, length, set, sym, refl, ap, ◌∙◌, subst, inl, inr, arith}
use Rattle.std.proofs.lemmas.Bool.{cases_eq}
use mathlib.Core.Option.{some}
use lib.ListN.{get_elem?}
use Rattle.atomic_table.proofs.Lists.{at_set}
use Rattle.ol_law_edges.specs.Edges.{IsIn}
use Rattle.ol_wire.specs.declared.view.Link.{Link}
use Rattle.ol_wire.specs.Weights.{weighed_by_place, pairs}
use Rattle.ol_wire.specs.Rule.{links_at}

-- what holds of the new one, and of each other by its place, holds of each
pub each_else : {A : Type 0} (P : A → Type 0) (l : List A) (id : ℕ) (w : A) → P w →
    ((j : ℕ) (u : A) → j ≢ id → get_elem? l j ≡ some u → P u) → (j : ℕ) (u : A) →
    get_elem? (set l id w) j ≡ some u → P u
each_else {A} P l id w new old j u e = of (at_set l id j w u e)
  where
    of : ((j ≡ id) × (w ≡ u)) ⊎ ((j ≢ id) × (get_elem? l j ≡ some u)) → P u
    of (inl t) = subst P t.1 new
    of (inr t) = old j u t.0 t.1

abbrev at_cell : ℕ → Link → ℕ
at_cell w l = if nat_eq l.cell w then 1 else 0

-- a link counts at its cell
one_at : (w : ℕ) (l : Link) → l.cell ≡ w → at_cell w l ≡ 1
one_at w l e = ap (λ b. if b then 1 else 0) (eq-eqb l.cell w e)

pub link_counts : (w : ℕ) (ls : List Link) (l : Link) → IsIn l ls → l.cell ≡ w → 1 ≤ links_at w ls
link_counts w [] l h e = elim h [ ]
link_counts w (m ∷ ls) l (inl q) e = omega (arith, one_at w m (ap (λ (n : Link). n.cell) (sym q) ∙ e))
link_counts w (m ∷ ls) l (inr h) e = omega (arith, link_counts w ls l h e)

-- where each cell has one link, the links behind the first have other cells
pub link_apart : (ls : List Link) (l m : Link) → ((w : ℕ) → links_at w (l ∷ ls) ≤ 1) → IsIn m ls → m.cell ≢ l.cell
link_apart ls l m few h e = omega (arith, few l.cell, one_at l.cell l refl, link_counts l.cell ls m h e)

-- the weight of one number alone
abbrev pub at_number : {A : Type 0} → ℕ → ℕ → A → ℕ
at_number n k x = if nat_eq k n then 1 else 0

pub number_in : {A : Type 0} (n : ℕ) (x : A) (xs : List (ℕ × A)) → IsIn (n, x) xs → 1 ≤ pairs (at_number n) xs
number_in n x [] h = elim h [ ]
number_in {A} n x (y ∷ xs) (inl q) = let e : at_number n y.0 y.1 ≡ 1 = ap (λ b. if b then 1 else 0)
    (eq-eqb y.0 n (sym (ap (λ (m : ℕ × A). m.0) q))) in omega (arith, e)
number_in n x (y ∷ xs) (inr h) = omega (arith, number_in n x xs h)

pub number_below : {A : Type 0} (n k : ℕ) (xs : List A) → 1 ≤ weighed_by_place (at_number n) k xs → n < k + length xs
number_below n k [] h = absurd (omega (arith, h))
number_below n k (x ∷ xs) h = elim (cases_eq k n) [
  | inl e ↦ omega (arith, e)
  | inr d ↦
      let e : at_number n k x ≡ 0 = ap (λ b. if b then 1 else 0) (ne_eqb k n d) in
      omega (arith, number_below n (suc k) xs (omega (arith, h, e)))
]

number_past : {A : Type 0} (n k : ℕ) (xs : List A) → n < k → weighed_by_place (at_number n) k xs ≡ 0
number_past n k [] lt = refl
number_past n k (x ∷ xs) lt =
    let e : at_number n k x ≡ 0 = ap (λ b. if b then 1 else 0) (ne_eqb k n (λ q. omega (arith, lt, q))) in
    omega (arith, number_past n (suc k) xs (omega (arith, lt)), e)

-- a weighed_by_place list has each number once at most
pub number_once : {A : Type 0} (n k : ℕ) (xs : List A) → weighed_by_place (at_number n) k xs ≤ 1
number_once n k [] = omega arith
number_once n k (x ∷ xs) = elim (cases_eq k n) [
  | inl e ↦
      let one : at_number n k x ≡ 1 = ap (λ b. if b then 1 else 0) (eq-eqb k n e) in
      omega (arith, one, number_past n (suc k) xs (omega (arith, e)))
  | inr d ↦
      let nothing : at_number n k x ≡ 0 = ap (λ b. if b then 1 else 0) (ne_eqb k n d) in
      omega (arith, nothing, number_once n (suc k) xs)
]
