-- A word that a view holds is empty and becomes what the view holds; a word that isn't empty stays as it is.
-- Used in Closing, Credit, InWords, LinkSteps, Steps and Ticket.
use Rattle.std.proofs.Common.{◌≡◌, ◌≢◌, ℕ, zero, suc, ◌+◌, ◌<◌, ◌≤◌, ◌==◌, if◌then◌else◌, nat_eq, eq-eqb, ne_eqb, List}
use Rattle.std.proofs.Common.{[], ◌∷◌, get_or, ◌⊎◌, inl, inr, refl, sym, ap, ◌∙◌, subst, arith}
use Rattle.std.proofs.lemmas.Bool.{cases_eq, cases_lt}
use mathlib.Core.Option.{some}
use lib.ListN.{get_elem?}
use Rattle.ol_law_edges.specs.Edges.{IsIn}
use Rattle.ol_wire.specs.declared.plan.Plan.{Plan}
use Rattle.ol_wire.specs.declared.view.View.{View}
use Rattle.ol_wire.specs.Layout.{table_size}
use Rattle.ol_wire.specs.Weights.{total, pairs, weigh, Empties}
use Rattle.ol_wire.specs.Rule.{Table, IsView, Kept}

-- the weight g of the word w alone
abbrev pub spot : ℕ → (ℕ → ℕ) → ℕ → ℕ → ℕ
spot w g v y = if nat_eq v w then g y else 0

pub spot_same : (w y : ℕ) (g : ℕ → ℕ) → spot w g w y ≡ g y
spot_same w y g = ap (λ b. if b then g y else 0) (eq-eqb w w refl)

pub spot_else : (w v y : ℕ) (g : ℕ → ℕ) → v ≢ w → spot w g v y ≡ 0
spot_else w v y g d = ap (λ b. if b then g y else 0) (ne_eqb v w d)

-- 1 where the word isn't empty, and where it is this one
abbrev pub filled : ℕ → ℕ
filled y = if y == 0 then 0 else 1

abbrev pub is_value : ℕ → ℕ → ℕ
is_value c y = if y == c then 1 else 0

pub filled_some : (y : ℕ) → y ≢ 0 → filled y ≡ 1
filled_some y n = ap (λ b. if b then 0 else 1) (ne_eqb y 0 n)

pub filled_le : (y : ℕ) → filled y ≤ 1
filled_le y = elim (cases_eq y 0) [
  | inl e ↦ let q : filled y ≡ 0 = ap (λ b. if b then 0 else 1) (eq-eqb y 0 e) in omega (arith, q)
  | inr n ↦ omega (arith, filled_some y n)
]

pub value_same : (c : ℕ) → is_value c c ≡ 1
value_same c = ap (λ b. if b then 1 else 0) (eq-eqb c c refl)

pub value_of : (c y : ℕ) → 0 < is_value c y → y ≡ c
value_of c y h = elim (cases_eq y c) [
  | inl e ↦ e
  | inr n ↦ let q : is_value c y ≡ 0 = ap (λ b. if b then 1 else 0) (ne_eqb y c n) in absurd (omega (arith, q, h))
]

spot_empties : (w : ℕ) (g : ℕ → ℕ) → g 0 ≡ 0 → Empties (spot w g)
spot_empties w g z k = elim (cases_eq k w) [
  | inl e ↦ ap (λ b. if b then g 0 else 0) (eq-eqb k w e) ∙ z
  | inr n ↦ spot_else w k 0 g n
]

pub weigh_past : (w n : ℕ) (g : ℕ → ℕ) (words : List ℕ) → n ≤ w → weigh (spot w g) words n ≡ 0
weigh_past w zero g words le = refl
weigh_past w (suc n) g words le = omega
    (arith, weigh_past w n g words (omega arith), spot_else w n (get_or words n 0) g (λ e. omega arith))

pub weigh_spot : (w n : ℕ) (g : ℕ → ℕ) (words : List ℕ) → w < n → weigh (spot w g) words n ≡ g (get_or words w 0)
weigh_spot w zero g words lt = absurd (omega arith)
weigh_spot w (suc n) g words lt = elim (cases_eq n w) [
  | inl e ↦
      let q : spot w g n (get_or words n 0) ≡ g (get_or words w 0) = ap
      (λ b. if b then g (get_or words n 0) else 0) (eq-eqb n w e) ∙ ap (λ v. g (get_or words v 0)) e in
      omega (arith, weigh_past w n g words (omega (arith, e)), q)
  | inr d ↦ omega (arith, weigh_spot w n g words (omega arith), spot_else w n (get_or words n 0) g d)
]

pub pairs_spot_in : (w y : ℕ) (g : ℕ → ℕ) (l : List (ℕ × ℕ)) → IsIn (w, y) l → g y ≤ pairs (spot w g) l
pairs_spot_in w y g [] h = elim h [ ]
pairs_spot_in w y g (e ∷ l) (inl q) =
    let a : e.0 ≡ w = sym (ap (λ (p : ℕ × ℕ). p.0) q) in
    let b : g e.1 ≡ g y = ap (λ (p : ℕ × ℕ). g p.1) (sym q) in
    let r : spot w g e.0 e.1 ≡ g e.1 = ap (λ b. if b then g e.1 else 0) (eq-eqb e.0 w a) in
    omega (arith, r, b)
pairs_spot_in w y g (e ∷ l) (inr h) = omega (arith, pairs_spot_in w y g l h)

pub pairs_spot_from : (w : ℕ) (g : ℕ → ℕ) (l : List (ℕ × ℕ)) → 0 < pairs (spot w g) l →
    (y : ℕ) × IsIn (w, y) l × (0 < g y)
pairs_spot_from w g [] h = absurd (omega (arith, h))
pairs_spot_from w g (e ∷ l) h = elim (cases_eq (spot w g e.0 e.1) 0) [
  | inl z ↦ let t = pairs_spot_from w g l (omega (arith, h, z)) in (t.0, inr t.1, t.2)
  | inr n ↦ elim (cases_eq e.0 w) [
    | inl a ↦
        let r : spot w g e.0 e.1 ≡ g e.1 = ap (λ b. if b then g e.1 else 0) (eq-eqb e.0 w a) in
        let q : ◌≡◌ {A = ℕ × ℕ} (w, e.1) (e.0, e.1) = cc in
        (e.1, inl q, omega (arith, n, r))
    | inr d ↦ absurd (n (spot_else w e.0 e.1 g d))
  ]
]

module _ {A : Type 0} (f : A → ℕ) where
  pub total_at : (xs : List A) (i : ℕ) (x : A) → get_elem? xs i ≡ some x → f x ≤ total f xs
  total_at [] i x e = absurd (cc)
  total_at (y ∷ xs) zero x e = let q : y ≡ x = cc in omega (arith, ap f q)
  total_at (y ∷ xs) (suc i) x e = omega (arith, total_at xs i x e)

  pub total_from : (xs : List A) → 0 < total f xs → (i : ℕ) × (x : A) × (get_elem? xs i ≡ some x) × (0 < f x)
  total_from [] h = absurd (omega (arith, h))
  total_from (y ∷ xs) h = elim (cases_eq (f y) 0) [
    | inl z ↦ let t = total_from xs (omega (arith, h, z)) in (suc t.0, t.1, t.2, t.3)
    | inr n ↦ (0, y, refl, omega (arith, n))
  ]

  -- two members of a list weigh at most what all do
  pub two_at : (xs : List A) (i j : ℕ) (x y : A) → i ≢ j → get_elem? xs i ≡ some x →
      get_elem? xs j ≡ some y → f x + f y ≤ total f xs
  two_at [] i j x y d h q = absurd (cc)
  two_at (z ∷ xs) zero zero x y d h q = absurd (d refl)
  two_at (z ∷ xs) zero (suc j) x y d h q = let e : z ≡ x = cc in omega (arith, ap f e, total_at xs j y q)
  two_at (z ∷ xs) (suc i) zero x y d h q = let e : z ≡ y = cc in omega (arith, ap f e, total_at xs i x h)
  two_at (z ∷ xs) (suc i) (suc j) x y d h q = omega (arith, two_at xs i j x y (λ e. d (ap suc e)) h q)

-- the view holds y for the word w
abbrev pub Holds : View → ℕ → ℕ → Type 0
Holds v w y = IsIn (w, y) v.due ⊎ IsIn (w, y) v.taken

module _ (p : Plan) (s : Table) (k : Kept p s) where
  abbrev held : (ℕ → ℕ → ℕ) → View → ℕ
  held h v = pairs h v.due + pairs h v.taken

  held_one : (v : View) (w y : ℕ) (g : ℕ → ℕ) → Holds v w y → g y ≤ held (spot w g) v
  held_one v w y g (inl i) = omega (arith, pairs_spot_in w y g v.due i)
  held_one v w y g (inr i) = omega (arith, pairs_spot_in w y g v.taken i)

  pub held_some : (v : View) (w y : ℕ) → IsView s v → Holds v w y → y ≢ 0
  held_some v w y is (inl i) = (k.seats.due v w y is i).0
  held_some v w y is (inr i) = (k.seats.taken v w y is i).1

  pub held_within : (v : View) (w y : ℕ) → IsView s v → Holds v w y → w < table_size p.parts
  held_within v w y is h = elim (cases_lt w (table_size p.parts)) [
    | inl lt ↦ lt
    | inr ge ↦
        let some_y = held_some v w y is h in
        absurd (omega (
          arith,
          k.words.written (spot w filled) (spot_empties w filled refl),
          weigh_past w (table_size p.parts) filled s.words ge,
          weigh_past w (table_size p.parts) filled k.full ge,
          total_at (held (spot w filled)) s.views is.0 v is.1,
          held_one v w y filled h,
          filled_some y some_y,
        ))
  ]

  -- what a view holds for a word stands there once it is written
  pub held_full : (v : View) (w y : ℕ) → IsView s v → Holds v w y → get_or k.full w 0 ≡ y
  held_full v w y is h =
      let some_y = held_some v w y is h in
      value_of y (get_or k.full w 0) (omega (
        arith,
        k.words.written (spot w (is_value y))
            (spot_empties w (is_value y) (let q : is_value y 0 ≡ 0 = ap (λ b. if b then 1 else 0)
            (ne_eqb 0 y (λ e. some_y (sym e))) in q)),
        weigh_spot w (table_size p.parts) (is_value y) k.full (held_within v w y is h),
        total_at (held (spot w (is_value y))) s.views is.0 v is.1,
        held_one v w y (is_value y) h,
        value_same y,
      ))

  -- and the word is empty until then
  pub held_empty : (v : View) (w y : ℕ) → IsView s v → Holds v w y → get_or s.words w 0 ≡ 0
  held_empty v w y is h = elim (cases_eq (get_or s.words w 0) 0) [
    | inl e ↦ e
    | inr n ↦ absurd (omega (
      arith,
      k.words.written (spot w filled) (spot_empties w filled refl),
      weigh_spot w (table_size p.parts) filled s.words (held_within v w y is h),
      weigh_spot w (table_size p.parts) filled k.full (held_within v w y is h),
      filled_le (get_or k.full w 0),
      filled_some (get_or s.words w 0) n,
      total_at (held (spot w filled)) s.views is.0 v is.1,
      held_one v w y filled h,
      filled_some y (held_some v w y is h),
    ))
  ]

  -- a word that isn't empty stays
  pub word_full : (w : ℕ) → w < table_size p.parts → get_or s.words w 0 ≢ 0 → get_or k.full w 0 ≡ get_or s.words w 0
  word_full w lt n =
      let y : ℕ = get_or s.words w 0 in
      value_of y (get_or k.full w 0) (omega (
        arith,
        k.words.written (spot w (is_value y))
            (spot_empties w (is_value y) (let q : is_value y 0 ≡ 0 = ap (λ b. if b then 1 else 0)
            (ne_eqb 0 y (λ e. n (sym e))) in q)),
        weigh_spot w (table_size p.parts) (is_value y) s.words lt,
        weigh_spot w (table_size p.parts) (is_value y) k.full lt,
        value_same y,
      ))

  -- a word that will not be empty is written already, or some view holds it
  pub owner : (w : ℕ) → w < table_size p.parts → get_or k.full w 0 ≢ 0 →
      (get_or s.words w 0 ≡ get_or k.full w 0) ⊎ ((v : View) × IsView s v × Holds v w (get_or k.full w 0))
  owner w lt n = elim (cases_eq (get_or s.words w 0) y) [
    | inl e ↦ inl e
    | inr d ↦ inr (of_view (total_from (held (spot w (is_value y))) s.views
        (omega (
          arith,
          eq,
          weigh_spot w (table_size p.parts) (is_value y) s.words lt,
          weigh_spot w (table_size p.parts) (is_value y) k.full lt,
          value_same y,
          no_value d,
        ))))
  ]
    where
      y : ℕ
      y = get_or k.full w 0

      eq : weigh (spot w (is_value y)) s.words (table_size p.parts) + total
          (held (spot w (is_value y))) s.views ≡ weigh (spot w (is_value y)) k.full (table_size p.parts)
      eq = k.words.written (spot w (is_value y))
          (spot_empties w (is_value y) (let q : is_value y 0 ≡ 0 = ap (λ b. if b then 1 else 0)
          (ne_eqb 0 y (λ e. n (sym e))) in q))

      no_value : get_or s.words w 0 ≢ y → is_value y (get_or s.words w 0) ≡ 0
      no_value d = ap (λ b. if b then 1 else 0) (ne_eqb (get_or s.words w 0) y d)

      is_held : (v : View) (x : ℕ) → (IsIn (w, x) v.due ⊎ IsIn (w, x) v.taken) → 0 < is_value y x → Holds v w y
      is_held v x h g = subst (λ x. Holds v w x) (value_of y x g) h

      of_view : (i : ℕ) × (v : View) × (get_elem? s.views i ≡ some v)
          × (0 < held (spot w (is_value y)) v) → (v : View) × IsView s v × Holds v w y
      of_view t = elim (cases_eq (pairs (spot w (is_value y)) t.1.due) 0) [
        | inl z ↦ let u = pairs_spot_from w (is_value y) t.1.taken (omega (arith, t.3, z)) in
            (t.1, (t.0, t.2), is_held t.1 u.0 (inr u.1) u.2)
        | inr m ↦ let u = pairs_spot_from w (is_value y) t.1.due (omega (arith, m)) in
            (t.1, (t.0, t.2), is_held t.1 u.0 (inl u.1) u.2)
      ]
