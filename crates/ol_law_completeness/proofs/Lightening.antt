-- A step makes a net lighter.
-- Used in Running, and for `step_lightens`.
use Rattle.std.proofs.Common.{◌≡◌, ◌≢◌, ℕ, zero, suc, ◌+◌, ◌<◌, ◌≤◌, ◌⊎◌, inl, inr, List, [], ◌∷◌}
use Rattle.std.proofs.Common.{refl, sym, ap, ◌∙◌, subst, arith}
use Rattle.ol_law_edges.specs.Edges.{IsIn}
use Rattle.ol_law_edges.proofs.Contraction.{is_or_is_not}
use Rattle.ol_invariance.proofs.Moves.{Suits}
use Rattle.ol_invariance.proofs.Table.{rule_suits}
use Rattle.ol_net.specs.Nets.{slot, NamedNet, Linked, IsNet, Faces}
use Rattle.ol_net.specs.Parts.{arity}
use Rattle.ol_net.specs.declared.parts.Kind.{Kind}
use Rattle.ol_net.specs.declared.parts.Kind.TheVariants as kind
use Rattle.ol_rules.specs.Laws.{IsFresh}
use Rattle.ol_rules.specs.Rewriting.{Action, action_of, NodeOf, left, of_f, of_g, Rewrites}
use Rattle.ol_law_completeness.specs.Walks.{ComesDown}
use Rattle.ol_law_completeness.specs.Weights.{weight, weights, WeighsAtMost}
use Rattle.ol_law_completeness.specs.BoundedRuns.{StepLightens}
use Rattle.ol_law_completeness.proofs.Following.{Down, down_f, down_g, of_old}

last_or_before : (q n : ℕ) → q < suc n → (q ≡ n) ⊎ (q < n)
last_or_before zero zero h = inl refl
last_or_before zero (suc n) h = inr (omega arith)
last_or_before (suc q) zero h = absurd (none h)
  where
    none : suc q < 1 → ⊥
    none h = omega (arith, h)
last_or_before (suc q) (suc n) h = elim (last_or_before q n (omega (arith, h)))
    as (λ h. (suc q ≡ suc n) ⊎ (suc q < suc n)) [
      | inl e ↦ inl (ap suc e)
      | inr b ↦ inr (omega (arith, b))
    ]

module _ {A : Type 0} where
  -- a number taken out of the list
  abbrev Taken : A × ℕ → List (A × ℕ) → Type 0
  Taken e es = (rest : List (A × ℕ)) × (weights es ≡ weight e.1 + weights rest)
      × ((x : A × ℕ) → IsIn x es → (x ≡ e) ⊎ IsIn x rest)

  take : (e : A × ℕ) (es : List (A × ℕ)) → IsIn e es → Taken e es
  take e [] h = absurd h
  take e (y ∷ ys) (inl q) = (
    ys,
    ap (λ (y : A × ℕ). weight y.1 + weights ys) (sym q),
    λ x h. elim h as (λ h. (x ≡ e) ⊎ IsIn x ys) [
      | inl z ↦ inl (z ∙ sym q)
      | inr z ↦ inr z
    ],
  )
  take e (y ∷ ys) (inr h) =
      let r = take e ys h in
      let sum = r.1 in (
        y ∷ r.0,
        omega (arith, sum),
        λ x h. elim h as (λ h. (x ≡ e) ⊎ IsIn x (y ∷ r.0)) [
          | inl z ↦ inr (inl z)
          | inr z ↦ elim (r.2 x z) as (λ h. (x ≡ e) ⊎ IsIn x (y ∷ r.0)) [
            | inl z ↦ inl z
            | inr z ↦ inr (inr z)
          ]
        ],
      )

  -- n copies before the list, each with number d
  with_copies : (ℕ → A) → ℕ → ℕ → List (A × ℕ) → List (A × ℕ)
  with_copies first zero d es = es
  with_copies first (suc n) d es = (first n, d) ∷ with_copies first n d es

  in_copies : (first : ℕ → A) (n d : ℕ) (es : List (A × ℕ)) (q : ℕ) → q < n →
      IsIn (first q, d) (with_copies first n d es)
  unfolding with_copies
  in_copies first zero d es q h = absurd (none h)
    where
      none : q < 0 → ⊥
      none h = omega (arith, h)
  in_copies first (suc n) d es q h = elim (last_or_before q n h)
      as (λ h. IsIn (first q, d) (with_copies first (suc n) d es)) [
        | inl e ↦ inl (ap (λ q. (first q, d)) e)
        | inr b ↦ inr (in_copies first n d es q b)
      ]

  in_rest : (first : ℕ → A) (n d : ℕ) (es : List (A × ℕ)) (x : A × ℕ) → IsIn x es →
      IsIn x (with_copies first n d es)
  unfolding with_copies
  in_rest first zero d es x h = h
  in_rest first (suc n) d es x h = inr (in_rest first n d es x h)

  two_copies : (first : ℕ → A) (n d : ℕ) (es : List (A × ℕ)) → n ≤ 2 →
      weights (with_copies first n d es) ≤ weight d + weight d + weights es
  unfolding with_copies
  two_copies first zero d es b = omega arith
  two_copies first (suc zero) d es b = omega arith
  two_copies first (suc (suc zero)) d es b = omega arith
  two_copies first (suc (suc (suc n))) d es b = absurd (none b)
    where
      none : suc (suc (suc n)) ≤ 2 → ⊥
      none b = omega (arith, b)

few_slots : (k : Kind) → arity k ≤ 2
few_slots kind.Lam = omega arith
few_slots kind.App = omega arith
few_slots kind.Fan = omega arith
few_slots kind.Croissant = omega arith
few_slots kind.Bracket = omega arith
few_slots kind.Eraser = omega arith

twice : (n d : ℕ) → n ≡ suc d → weight n ≡ suc (weight d + weight d)
twice n d e = ap weight e

module _ {A : Type 0} (N : NamedNet A) (f g : A) (k : Kind) (i : ℕ) (l : Kind) (j : ℕ) (a : Action)
    (born : ℕ → A) (is_net : IsNet N) (faces : Faces N f g k i l j) (fresh : IsFresh N born)
    (M : NamedNet A) (rewrites : Rewrites born N f g k i l a M)
    (same_name : (x y : A) → (x ≡ y) ⊎ (x ≢ y)) (suits : Suits a k i l j) (m : ℕ)
    (w : WeighsAtMost N m) where
  number_f : (n : ℕ) × IsIn (f, n) w.numbers × ComesDown N (slot f 0) [] n
  number_f = w.all f k i faces.first

  number_g : (n : ℕ) × IsIn (g, n) w.numbers × ComesDown N (slot g 0) [] n
  number_g = w.all g l j faces.second

  down_by_f : Down N f g k i l j a born is_net faces fresh M rewrites same_name suits l number_f.0
      born
  down_by_f = down_f N f g k i l j a born is_net faces fresh M rewrites same_name suits number_f.2
      refl refl

  down_by_g : Down N f g k i l j a born is_net faces fresh M rewrites same_name suits k number_g.0
      (λ q. born (arity l + q))
  down_by_g = down_g N f g k i l j a born is_net faces fresh M rewrites same_name suits number_g.2
      refl refl

  without_f : Taken (f, number_f.0) w.numbers
  without_f = take (f, number_f.0) w.numbers number_f.1

  other : (x : A) (n n' : ℕ) (y : A) → x ≢ y → ◌≡◌ {A = A × ℕ} (x, n) (y, n') → ⊥
  other x n n' y h e = h (ap (λ (e : A × ℕ). e.0) e)

  g_not_f : g ≢ f
  g_not_f e = is_net.apart (slot f 0) (subst (λ x. Linked N (slot f 0) (slot x 0)) e faces.linked)

  still : (x y : A) (n n' : ℕ) (es : List (A × ℕ)) → x ≢ y →
      (◌≡◌ {A = A × ℕ} (x, n) (y, n')) ⊎ IsIn (x, n) es → IsIn (x, n) es
  still x y n n' es h (inl e) = absurd (other x n n' y h e)
  still x y n n' es h (inr z) = z

  without : Taken (g, number_g.0) without_f.0
  without = take (g, number_g.0) without_f.0
      (still g f number_g.0 number_f.0 without_f.0 g_not_f (without_f.2 (g, number_g.0) number_g.1))

  stays : (x : A) (n : ℕ) → x ≢ f → x ≢ g → IsIn (x, n) w.numbers → IsIn (x, n) without.0
  stays x n y z h = still x g n number_g.0 without.0 z
      (without.2 (x, n) (still x f n number_f.0 without_f.0 y (without_f.2 (x, n) h)))

  numbers_for : List (A × ℕ)
  numbers_for = with_copies born (arity l) down_by_f.less
      (with_copies (λ q. born (arity l + q)) (arity k) down_by_g.less without.0)

  all_after : (x : A) (m : Kind) (d : ℕ) → NodeOf N born f g k i l a x m d →
      (n : ℕ) × IsIn (x, n) numbers_for × ComesDown M (slot x 0) [] n
  unfolding numbers_for
  all_after x m d (left h y z) =
      let t = w.all x m d h in (
        t.0,
        in_rest born (arity l) down_by_f.less
            (with_copies (λ q. born (arity l + q)) (arity k) down_by_g.less without.0) (x, t.0)
            (in_rest (λ q. born (arity l + q)) (arity k) down_by_g.less without.0 (x, t.0)
            (stays x t.0 y z t.1)),
        of_old N f g k i l j a born is_net faces fresh M rewrites same_name suits x m d t.0 h y z t.2,
      )
  all_after x m d (of_f {q = q} j' e b) = (
    down_by_f.less,
    in_copies born (arity l) down_by_f.less
        (with_copies (λ q. born (arity l + q)) (arity k) down_by_g.less without.0) q b,
    down_by_f.copies j' q e b,
  )
  all_after x m d (of_g {p = p} j' e b) = (
    down_by_g.less,
    in_rest born (arity l) down_by_f.less
        (with_copies (λ q. born (arity l + q)) (arity k) down_by_g.less without.0)
        (born (arity l + p), down_by_g.less)
        (in_copies (λ q. born (arity l + q)) (arity k) down_by_g.less without.0 p b),
    down_by_g.copies j' p e b,
  )

  lighter : weights numbers_for < weights w.numbers
  unfolding numbers_for
  lighter =
      let rest = with_copies (λ q. born (arity l + q)) (arity k) down_by_g.less without.0 in
      let x : weights (with_copies born (arity l) down_by_f.less rest)
      ≤ weight down_by_f.less + weight down_by_f.less + weights rest =
      two_copies born (arity l) down_by_f.less rest (few_slots l) in
      let y : weights rest
      ≤ weight down_by_g.less + weight down_by_g.less + weights without.0 =
      two_copies (λ q. born (arity l + q)) (arity k) down_by_g.less without.0 (few_slots k) in
      let e = twice number_f.0 down_by_f.less down_by_f.is in
      let e' = twice number_g.0 down_by_g.less down_by_g.is in
      let q : weights w.numbers ≡ weight number_f.0 + weights without_f.0 = without_f.1 in
      let q' : weights without_f.0 ≡ weight number_g.0 + weights without.0 = without.1 in
      omega (arith, x, y, e, e', q, q')

  pub lightens : (n : ℕ) × (n < m) × WeighsAtMost M n
  lightens =
      let b = w.sum in
      let l = lighter in (
        weights numbers_for,
        omega (arith, b, l),
        record {
          numbers = numbers_for;
          all = λ x m d h. all_after x m d ((rewrites.nodes x m d).0 h);
          sum = omega arith;
        },
      )

module _ {A : Type 0} where
  pub step_lightens : StepLightens A
  step_lightens same t born N M f g r is_net fresh s m w =
      let a = s.active in
      lightens N f g a.k a.i a.l a.j (action_of r a.j) born is_net a.faces fresh M s.rewrites
      (λ x y. is_or_is_not same t y x) (rule_suits a.k a.i a.l a.j r a.fits) m w
