-- Sums over the numbers below n, of functions that differ at few places.
-- Used in Edges, LinkSteps.Edges and Ticket.Edges.
use Rattle.std.proofs.Common.{◌≡◌, ◌≢◌, ℕ, zero, suc, ◌+◌, ◌-◌, ◌==◌, ◌<◌, ◌≤◌, if◌then◌else◌, eq-eqb, ne_eqb, List, []}
use Rattle.std.proofs.Common.{◌∷◌, inl, inr, refl, sym, ap, ◌∙◌, subst, arith}
use Rattle.std.proofs.lemmas.Bool.{cases_eq}
use Rattle.ol_law_edges.specs.Edges.{IsIn}
use Rattle.ol_rules.specs.Listed.{each}
use Rattle.ol_wire.specs.Weights.{total, pairs}
use Rattle.ol_wire.proofs.InWords.Alike.{pairs_append}

abbrev pub sum_to : (ℕ → ℕ) → ℕ → ℕ
sum_to f zero = 0
sum_to f (suc n) = sum_to f n + f n

-- no number stands twice in the list
abbrev pub AreApart : List ℕ → Type 0
AreApart [] = Unit {0}
AreApart (p ∷ ps) = (IsIn p ps → ⊥) × AreApart ps

pub not_in : (p q : ℕ) (ps : List ℕ) → p ≢ q → (IsIn p ps → ⊥) → IsIn p (q ∷ ps) → ⊥
not_in p q ps d n (inl e) = d e
not_in p q ps d n (inr h) = n h

pub five_apart : (p q r s t : ℕ) → p ≢ q → p ≢ r → p ≢ s → p ≢ t → q ≢ r → q ≢ s → q ≢ t → r ≢ s →
    r ≢ t → s ≢ t → AreApart (p ∷ q ∷ r ∷ s ∷ t ∷ [])
five_apart p q r s t pq pr ps pt qr qs qt rs rt st =
    let none : (u : ℕ) → IsIn u [] → ⊥ = λ u h. h in (
      not_in p q (r ∷ s ∷ t ∷ []) pq (not_in p r (s ∷ t ∷ []) pr (not_in p s (t ∷ []) ps (not_in p t [] pt (none p)))),
      (
        not_in q r (s ∷ t ∷ []) qr (not_in q s (t ∷ []) qs (not_in q t [] qt (none q))),
        (not_in r s (t ∷ []) rs (not_in r t [] rt (none r)), (not_in s t [] st (none s), (none t, tt))),
      ),
    )

pub sum_agree : (f g : ℕ → ℕ) (n : ℕ) → ((w : ℕ) → w < n → f w ≡ g w) → sum_to f n ≡ sum_to g n
sum_agree f g zero h = refl
sum_agree f g (suc n) h = omega (arith, sum_agree f g n (λ w lt. h w (omega arith)), h n (omega arith))

pub sum_split : (f : ℕ → ℕ) (m n : ℕ) → sum_to f (m + n) ≡ sum_to f m + sum_to (λ j. f (m + j)) n
sum_split f m zero = let e : m + 0 ≡ m = omega arith in omega (arith, ap (sum_to f) e)
sum_split f m (suc n) = let e : m + suc n ≡ suc (m + n) = omega arith in omega (arith, ap (sum_to f) e, sum_split f m n)

-- f is g below m, and 0 from there on
pub sum_longer : (f g : ℕ → ℕ) (m n : ℕ) → m ≤ n → ((s : ℕ) → s < m → f s ≡ g s) →
    ((s : ℕ) → m ≤ s → s < n → f s ≡ 0) → sum_to f n ≡ sum_to g m
sum_longer f g m zero le h k = let e : m ≡ 0 = omega arith in ap (sum_to g) (sym e)
sum_longer f g m (suc n) le h k = elim (cases_eq m (suc n)) [
  | inl e ↦ sum_agree f g (suc n) (λ s lt. h s (omega arith)) ∙ ap (sum_to g) (sym e)
  | inr d ↦ omega (
    arith,
    sum_longer f g m n (omega arith) h (λ s ge lt. k s ge (omega arith)),
    k n (omega arith) (omega arith),
  )
]

-- two functions that differ at one place
pub sum_one : (f g : ℕ → ℕ) (n p : ℕ) → p < n → ((w : ℕ) → w < n → w ≢ p → f w ≡ g w) →
    sum_to f n + g p ≡ sum_to g n + f p
sum_one f g zero p lt h = absurd (omega arith)
sum_one f g (suc n) p lt h = elim (cases_eq p n) [
  | inl e ↦ omega (arith, sum_agree f g n (λ w b. h w (omega arith) (λ q. omega arith)), ap f e, ap g e)
  | inr d ↦ omega (arith, sum_one f g n p (omega arith) (λ w b. h w (omega arith)), h n (omega arith) (λ q. d (sym q)))
]

pub total_same : (f g : ℕ → ℕ) (ps : List ℕ) → ((p : ℕ) → IsIn p ps → f p ≡ g p) → total f ps ≡ total g ps
total_same f g [] h = refl
total_same f g (p ∷ ps) h = omega (arith, h p (inl refl), total_same f g ps (λ q i. h q (inr i)))

-- g, but x at p
abbrev put : (ℕ → ℕ) → ℕ → ℕ → ℕ → ℕ
put g p x w = if w == p then x else g w

put_here : (g : ℕ → ℕ) (p x w : ℕ) → w ≡ p → put g p x w ≡ x
put_here g p x w e = ap (λ b. if b then x else g w) (eq-eqb w p e)

put_else : (g : ℕ → ℕ) (p x w : ℕ) → w ≢ p → put g p x w ≡ g w
put_else g p x w d = ap (λ b. if b then x else g w) (ne_eqb w p d)

-- two functions that differ at the places of a list
pub sum_but : (f g : ℕ → ℕ) (n : ℕ) (ps : List ℕ) → AreApart ps → ((p : ℕ) → IsIn p ps → p < n) →
    ((w : ℕ) → w < n → (IsIn w ps → ⊥) → f w ≡ g w) → sum_to f n + total g ps ≡ sum_to g n + total f ps
sum_but f g n [] a b h = omega (arith, sum_agree f g n (λ w lt. h w lt (λ i. i)))
sum_but f g n (p ∷ ps) a b h =
    omega (
      arith,
      sum_but f (put g p (f p)) n ps a.1 (λ q i. b q (inr i)) agree,
      sum_one (put g p (f p)) g n p (b p (inl refl)) (λ w lt d. put_else g p (f p) w d),
      put_here g p (f p) p refl,
      total_same (put g p (f p)) g ps (λ q i. put_else g p (f p) q (λ e. a.0 (subst (λ q. IsIn q ps) e i))),
    )
  where
    agree : (w : ℕ) → w < n → (IsIn w ps → ⊥) → f w ≡ put g p (f p) w
    agree w lt k = elim (cases_eq w p) [
      | inl e ↦ ap f e ∙ sym (put_here g p (f p) w e)
      | inr d ↦ h w lt (not_in w p ps d k) ∙ sym (put_else g p (f p) w d)
    ]

-- two functions that differ in m places from b on
pub sum_within : (f g : ℕ → ℕ) (b m n : ℕ) → b + m ≤ n → ((w : ℕ) → w < b → f w ≡ g w) →
    ((w : ℕ) → b + m ≤ w → w < n → f w ≡ g w)
    → sum_to f n + sum_to (λ j. g (b + j)) m ≡ sum_to g n + sum_to (λ j. f (b + j)) m
sum_within f g b m n le below above =
    let e : b + m + (n - (b + m)) ≡ n = omega arith in
    omega (
      arith,
      ap (sum_to f) e,
      ap (sum_to g) e,
      sum_split f (b + m) (n - (b + m)),
      sum_split g (b + m) (n - (b + m)),
      sum_split f b m,
      sum_split g b m,
      sum_agree f g b below,
      sum_agree (λ j. f (b + m + j)) (λ j. g (b + m + j)) (n - (b + m))
          (λ j lt. above (b + m + j) (omega arith) (omega arith)),
    )

-- the weight of rows
pub pairs_each : (h : ℕ → ℕ → ℕ) (n : ℕ) (rows : ℕ → List (ℕ × ℕ)) →
    pairs h (each n rows) ≡ sum_to (λ s. pairs h (rows s)) n
pairs_each h zero rows = refl
pairs_each h (suc n) rows = omega (arith, pairs_append h (each n rows) (rows n), pairs_each h n rows)
