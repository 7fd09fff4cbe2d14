-- Numbers below a bound, added up, and which pairs are active.
-- Used in Keep, Opening, Owed, Quiet, Seats, Steps, Words and Steps.Remembering.
use Rattle.std.proofs.Common.{◌≡◌, ◌≢◌, ℕ, zero, suc, ◌+◌, ◌<◌, ◌≤◌, ◌==◌, true, false, if◌then◌else◌, Option, Some}
use Rattle.std.proofs.Common.{None, List, [], ◌∷◌, refl, sym, ap, ◌∙◌, arith, inl, inr, ne_eqb}
use Rattle.std.proofs.lemmas.Bool.{cases_eq}
use mathlib.Core.Option.{some}
use lib.ListN.{get_elem?}
use Rattle.ol_law_edges.specs.Edges.{IsIn}
use Rattle.ol_net.specs.declared.parts.Rule.{Rule}
use Rattle.ol_net.specs.declared.parts.Rule.TheVariants as rule
use Rattle.ol_wire.specs.Weights.{total, sum_below}
use Rattle.ol_wire.specs.Events.{rule_between, event_of, acting, IsStuckPair}
use Rattle.ol_wire.specs.Credit.{ruled, active_in}

pub sum_same : (n : ℕ) (f g : ℕ → ℕ) → ((c : ℕ) → c < n → f c ≡ g c) → sum_below n f ≡ sum_below n g
sum_same zero f g h = refl
sum_same (suc n) f g h = omega (arith, sum_same n f g (λ c lt. h c (omega (arith, lt))), h n (omega arith))

-- two sums that differ at one number
pub sum_but : (n j : ℕ) (f g : ℕ → ℕ) → j < n → ((c : ℕ) → c < n → c ≢ j → f c ≡ g c) →
    sum_below n f + g j ≡ sum_below n g + f j
sum_but zero j f g lt h = absurd (omega (arith, lt))
sum_but (suc n) j f g lt h = elim (cases_eq n j) [
  | inl e ↦ omega (
    arith,
    sum_same n f g
        (λ c low. h c (omega (arith, low)) (λ q. omega (arith, q, e, low))),
    ap f e,
    ap g e,
  )
  | inr d ↦ omega (
    arith,
    sum_but n j f g (omega (arith, lt, d))
        (λ c low. h c (omega (arith, low))),
    h n (omega arith) d,
  )
]

pub sum_some : (n j : ℕ) (f : ℕ → ℕ) → j < n → f j ≤ sum_below n f
sum_some zero j f lt = absurd (omega (arith, lt))
sum_some (suc n) j f lt = elim (cases_eq n j) [
  | inl e ↦ omega (arith, ap f e)
  | inr d ↦ omega (arith, sum_some n j f (omega (arith, lt, d)))
]

pub sum_most : (n : ℕ) (f : ℕ → ℕ) → ((c : ℕ) → f c ≤ 1) → sum_below n f ≤ n
sum_most zero f h = omega arith
sum_most (suc n) f h = omega (arith, sum_most n f h, h n)

module _ {A : Type 0} (f g : A → ℕ) where
  pub total_alike : (xs : List A) → ((j : ℕ) (x : A) → get_elem? xs j ≡ some x → f x ≡ g x) → total f xs ≡ total g xs
  total_alike [] h = refl
  total_alike (x ∷ xs) h = omega (arith, h 0 x refl, total_alike xs (λ j y e. h (suc j) y e))

  pub total_least : (xs : List A) → ((j : ℕ) (x : A) → get_elem? xs j ≡ some x → f x ≤ g x) → total f xs ≤ total g xs
  total_least [] h = omega arith
  total_least (x ∷ xs) h = omega (arith, h 0 x refl, total_least xs (λ j y e. h (suc j) y e))

  pub total_among : (xs : List A) → ((x : A) → IsIn x xs → f x ≡ g x) → total f xs ≡ total g xs
  total_among [] h = refl
  total_among (x ∷ xs) h = omega (arith, h x (inl refl), total_among xs (λ y m. h y (inr m)))

module _ {A : Type 0} (f : A → ℕ) where
  pub total_in : (xs : List A) (x : A) → IsIn x xs → f x ≤ total f xs
  total_in [] x m = elim m [ ]
  total_in (y ∷ xs) x (inl e) = omega (arith, ap f e)
  total_in (y ∷ xs) x (inr m) = omega (arith, total_in xs x m)

  pub total_ones : (xs : List A) → ((x : A) → f x ≤ 1) → total f xs ≤ total (λ x. 1) xs
  total_ones [] h = omega arith
  total_ones (x ∷ xs) h = omega (arith, h x, total_ones xs h)

ruled_le : (a b : Option Rule) → ruled a b ≤ 1
ruled_le None None = omega arith
ruled_le None (Some r) = omega arith
ruled_le (Some r) b = omega arith

ruled_none : (a b : Option Rule) → ruled a b ≡ 0 → (a ≡ None) × (b ≡ None)
ruled_none None None e = (refl, refl)
ruled_none None (Some r) e = absurd (omega (arith, e))
ruled_none (Some r) b e = absurd (omega (arith, e))

pub active_le : (x y : ℕ) → active_in x y ≤ 1
active_le x y = elim (x == 0) as (λ b. (if b then 0 else ruled (rule_between x y) (rule_between y x)) ≤ 1) [
  | true ↦ omega arith
  | false ↦ ruled_le (rule_between x y) (rule_between y x)
]

pub active_some : (x y : ℕ) → x ≢ 0 → active_in x y ≡ ruled (rule_between x y) (rule_between y x)
active_some x y n = ap (λ b. if b then 0 else ruled (rule_between x y) (rule_between y x)) (ne_eqb x 0 n)

pub active_empty : (x y : ℕ) → x ≡ 0 → active_in x y ≡ 0
active_empty x y e = ap (λ a. active_in a y) e

pub not_active : (x y : ℕ) → x ≢ 0 → active_in x y ≡ 0 → IsStuckPair x y
not_active x y n e = ruled_none (rule_between x y) (rule_between y x) (sym (active_some x y n) ∙ e)

-- a pair with a rule is active
ruled_acting : (a b : Option Rule) (l r : ℕ) → rule_between l r ≡ a → rule_between r l ≡ b →
    rule_between (acting a b l r).f (acting a b l r).g ≡ Some (acting a b l r).rule → ruled a b ≡ 1
ruled_acting None None l r ea eb h = absurd (let bad : ◌≡◌ {A = Option Rule} None (Some rule.Erase) = sym ea ∙ h in cc)
ruled_acting None (Some x) l r ea eb h = refl
ruled_acting (Some x) b l r ea eb h = refl

pub is_active : (l r : ℕ) → l ≢ 0 → rule_between (event_of l r).f (event_of l r).g ≡ Some
    (event_of l r).rule → active_in l r ≡ 1
is_active l r n h = active_some l r n ∙ ruled_acting (rule_between l r) (rule_between r l) l r refl refl h
