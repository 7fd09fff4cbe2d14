-- Lists of edges with the same weights have the same edges, the same ends, and join the same.
-- Used in Degrees, InWords, LinkSteps, Links, Steps and Ticket.
use Rattle.std.proofs.Common.{◌≡◌, ℕ, ◌+◌, ◌<◌, Bool, true, false, ◌&&◌, nat_eq, eq-eqb, eqb-true}
use Rattle.std.proofs.Common.{List, [], ◌∷◌, ◌++◌, ◌⊎◌, inl, inr, refl, sym, ap, ◌∙◌, arith}
use Rattle.std.proofs.lemmas.Bool.{cases_eq}
use Rattle.ol_law_edges.specs.Edges.{IsIn, Near, Joined, here, on, back, EdgeOf, ends, bit}
use Rattle.ol_wire.specs.Weights.{total, pairs}
use Rattle.ol_wire.specs.EvenWeights.{Even}

abbrev pub Alike : List (ℕ × ℕ) → List (ℕ × ℕ) → Type 0
Alike es fs = (h : ℕ → ℕ → ℕ) → Even h → pairs h es ≡ pairs h fs

pub total_append : {A : Type 0} (f : A → ℕ) (xs ys : List A) → total f (xs ++ ys) ≡ total f xs + total f ys
total_append f [] ys = omega arith
total_append f (x ∷ xs) ys = omega (arith, total_append f xs ys)

pub pairs_append : {A B : Type 0} (h : A → B → ℕ) (xs ys : List (A × B)) → pairs h (xs ++ ys) ≡ pairs h xs + pairs h ys
pairs_append h xs ys = total_append (λ x. h x.0 x.1) xs ys

-- how often an edge ends at u
abbrev pub end_weight : ℕ → ℕ → ℕ → ℕ
end_weight u x y = bit (nat_eq u x) + bit (nat_eq u y)

pub end_weight_even : (u : ℕ) → Even (end_weight u)
end_weight_even u x y = omega arith

pub ends_weigh : (u : ℕ) (es : List (ℕ × ℕ)) → ends nat_eq u es ≡ pairs (end_weight u) es
ends_weigh u [] = refl
ends_weigh u (e ∷ es) = omega (arith, ends_weigh u es)

pub alike_ends : (es fs : List (ℕ × ℕ)) → Alike es fs → (u : ℕ) → ends nat_eq u es ≡ ends nat_eq u fs
alike_ends es fs a u = ends_weigh u es ∙ a (end_weight u) (end_weight_even u) ∙ sym (ends_weigh u fs)

-- positive where the edge is one of u and v
abbrev touch : ℕ → ℕ → ℕ → ℕ → ℕ
touch u v x y = bit (nat_eq u x && nat_eq v y) + bit (nat_eq v x && nat_eq u y)

and_turned : (a b : Bool) → bit (a && b) ≡ bit (b && a)
and_turned true true = refl
and_turned true false = refl
and_turned false true = refl
and_turned false false = refl

touch_even : (u v : ℕ) → Even (touch u v)
touch_even u v x y = omega (arith, and_turned (nat_eq u x) (nat_eq v y), and_turned (nat_eq v x) (nat_eq u y))

touched : (u v : ℕ) → touch u v u v ≡ 0 → ⊥
touched u v z =
    let e : bit (nat_eq u u && nat_eq v v) ≡ 1 = ap (λ b. bit (b && nat_eq v v)) (eq-eqb u u refl)
    ∙ ap (λ b. bit b) (eq-eqb v v refl) in
    omega (arith, e, z)

in_touch : (es : List (ℕ × ℕ)) (u v : ℕ) → IsIn (u, v) es → 0 < pairs (touch u v) es
in_touch [] u v h = elim h [ ]
in_touch (e ∷ es) u v (inl q) =
    let a : u ≡ e.0 = ap (λ (p : ℕ × ℕ). p.0) q in
    let b : v ≡ e.1 = ap (λ (p : ℕ × ℕ). p.1) q in
    let w : touch u v e.0 e.1 ≡ touch u v u v = ap (λ x. touch u v x e.1) (sym a) ∙ ap (touch u v u) (sym b) in
    elim (cases_eq (touch u v u v) 0) [
      | inl z ↦ absurd (touched u v z)
      | inr n ↦ omega (arith, w, n)
    ]
in_touch (e ∷ es) u v (inr h) = omega (arith, in_touch es u v h)

both : (a b : Bool) → 0 < bit (a && b) → (a ≡ true) × (b ≡ true)
both true true h = (refl, refl)
both true false h = absurd (omega (arith, h))
both false b h = absurd (omega (arith, h))

abbrev Same : ℕ → ℕ → ℕ → ℕ → Type 0
Same u v x y = ◌≡◌ {A = ℕ × ℕ} (u, v) (x, y)

same_pair : (u v x y : ℕ) → u ≡ x → v ≡ y → Same u v x y
same_pair u v x y a b = cc

one_of : (u v x y : ℕ) → 0 < touch u v x y → Same u v x y ⊎ Same v u x y
one_of u v x y h = elim (cases_eq (bit (nat_eq u x && nat_eq v y)) 0) [
  | inl z ↦
      let t = both (nat_eq v x) (nat_eq u y) (omega (arith, h, z)) in
      inr (same_pair v u x y (eqb-true v x t.0) (eqb-true u y t.1))
  | inr n ↦
      let t = both (nat_eq u x) (nat_eq v y) (omega (arith, n)) in
      inl (same_pair u v x y (eqb-true u x t.0) (eqb-true v y t.1))
]

touch_near : (es : List (ℕ × ℕ)) (u v : ℕ) → 0 < pairs (touch u v) es → Near es u v
touch_near [] u v h = absurd (omega (arith, h))
touch_near (e ∷ es) u v h = elim (cases_eq (touch u v e.0 e.1) 0) [
  | inl z ↦ behind (touch_near es u v (omega (arith, h, z)))
  | inr n ↦ first (one_of u v e.0 e.1 (omega (arith, n)))
]
  where
    behind : Near es u v → Near (e ∷ es) u v
    behind (inl i) = inl (inr i)
    behind (inr i) = inr (inr i)

    first : Same u v e.0 e.1 ⊎ Same v u e.0 e.1 → Near (e ∷ es) u v
    first (inl q) = inl (inl q)
    first (inr q) = inr (inl q)

pub alike_near : (es fs : List (ℕ × ℕ)) → Alike es fs → (u v : ℕ) → Near es u v → Near fs u v
alike_near es fs a u v (inl i) = touch_near fs u v (omega (arith, in_touch es u v i, a (touch u v) (touch_even u v)))
alike_near es fs a u v (inr i) = turned
    (touch_near fs v u (omega (arith, in_touch es v u i, a (touch v u) (touch_even v u))))
  where
    turned : Near fs v u → Near fs u v
    turned (inl h) = inr h
    turned (inr h) = inl h

near_joined : (fs : List (ℕ × ℕ)) (u v w : ℕ) → Joined (EdgeOf fs) u v → Near fs v w → Joined (EdgeOf fs) u w
near_joined fs u v w j (inl h) = on j h
near_joined fs u v w j (inr h) = back j h

pub alike_joined : (es fs : List (ℕ × ℕ)) → Alike es fs → (u v : ℕ) → Joined (EdgeOf es) u v → Joined (EdgeOf fs) u v
alike_joined es fs a u v here = here
alike_joined es fs a u v (on {v = w} j e) = near_joined fs u w v (alike_joined es fs a u w j)
    (alike_near es fs a w v (inl e))
alike_joined es fs a u v (back {v = w} j e) = near_joined fs u w v (alike_joined es fs a u w j)
    (alike_near es fs a w v (inr e))

pub alike_sym : (es fs : List (ℕ × ℕ)) → Alike es fs → Alike fs es
alike_sym es fs a h ev = sym (a h ev)
