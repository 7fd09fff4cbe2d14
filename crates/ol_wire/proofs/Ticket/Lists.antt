-- Sums over views of which one changes, and words that are written one after another.
-- Used in Cells, Fields, Keeps, Seats and Words.
use Rattle.std.proofs.Common.{◌≡◌, ◌≢◌, ℕ, zero, suc, ◌+◌, ◌<◌, ◌≤◌, if◌then◌else◌, eq-eqb, ne_eqb, ◌⊎◌, inl, inr, None}
use Rattle.std.proofs.Common.{List, [], ◌∷◌, ◌++◌, length, get_or, set, slice_get, sym, refl, ap, ◌∙◌, subst, arith}
use Rattle.std.proofs.Common.{length-set, get_or-set_other, get_or-set_same}
use Rattle.std.proofs.lemmas.Bool.{cases_eq}
use mathlib.Core.Option.{some, some-injective, some-ne-none}
use lib.ListN.{get_elem?}
use Rattle.atomic_table.proofs.Lists.{at_set}
use Rattle.ol_law_edges.specs.Edges.{IsIn}
use Rattle.ol_wire.specs.Weights.{total, pairs, weighed_by_place, weigh, Empties}
use Rattle.ol_wire.specs.LinkLists.{to_write}

module _ {A : Type 0} (g : A → ℕ) where
  pub total_set : (l : List A) (j : ℕ) (v w : A) → get_elem? l j ≡ some v → total g (set l j w) + g v ≡ total g l + g w
  total_set [] j v w e = absurd (some-ne-none v (sym e))
  total_set (x ∷ xs) zero v w e = omega (arith, ap g (some-injective x v e))
  total_set (x ∷ xs) (suc j) v w e = omega (arith, total_set xs j v w e)

module _ {A : Type 0} (P : A → Type 0) (l : List A) (id : ℕ) (w : A) (new : P w)
    (old : (j : ℕ) (u : A) → j ≢ id → get_elem? l j ≡ some u → P u) where
  placed : (j : ℕ) (u : A) → ((j ≡ id) × (w ≡ u)) ⊎ ((j ≢ id) × (get_elem? l j ≡ some u)) → P u
  placed j u (inl t) = subst P t.1 new
  placed j u (inr t) = old j u t.0 t.1

  -- what holds of the new member and of each other holds of each
  pub by_place : (j : ℕ) (u : A) → get_elem? (set l id w) j ≡ some u → P u
  by_place j u e = placed j u (at_set l id j w u e)

-- a weighed_by_place list with one member more
pub numbered_more : {A : Type 0} (h : ℕ → A → ℕ) (k : ℕ) (l : List A) (x : A) →
    weighed_by_place h k (l ++ x ∷ []) ≡ weighed_by_place h k l + h (k + length l) x
numbered_more h k [] x = let e : k + 0 ≡ k = omega arith in omega (arith, ap (λ n. h n x) e)
numbered_more h k (y ∷ ys) x = let e : suc k + length ys ≡ k + suc (length ys) = omega arith in
    omega (arith, numbered_more h (suc k) ys x, ap (λ n. h n x) e)

-- past its end a list has nothing
pub get_past : {A : Type 0} (l : List A) (n : ℕ) → length l ≤ n → slice_get l n ≡ None
get_past [] n le = refl
get_past (x ∷ xs) zero le = absurd (omega arith)
get_past (x ∷ xs) (suc n) le = get_past xs n (omega arith)

module _ (h : ℕ → ℕ → ℕ) where
  -- a word outside is set
  pub weigh_out : (ws : List ℕ) (n i x : ℕ) → n ≤ i → weigh h (set ws i x) n ≡ weigh h ws n
  weigh_out ws zero i x o = refl
  weigh_out ws (suc n) i x o = omega (
    arith,
    weigh_out ws n i x (omega arith),
    ap (h n) (get_or-set_other ws i n x 0 (λ e. omega arith)),
  )

  -- one of the words is set
  pub weigh_set : (ws : List ℕ) (n i x : ℕ) → i < n → n ≤ length ws →
      weigh h (set ws i x) n + h i (get_or ws i 0) ≡ weigh h ws n + h i x
  weigh_set ws zero i x lt wide = absurd (omega arith)
  weigh_set ws (suc n) i x lt wide = elim (cases_eq i n) [
    | inl e ↦
        let same : get_or (set ws i x) n 0 ≡ x = ap (λ (j : ℕ). get_or (set ws j x) n 0) e
        ∙ get_or-set_same ws n x 0 (omega arith) in
        omega (
          arith,
          weigh_out ws n i x (omega arith),
          ap (h n) same,
          ap (λ (j : ℕ). h j x) e,
          ap (λ (j : ℕ). h j (get_or ws j 0)) e,
        )
    | inr ne ↦ omega (
      arith,
      weigh_set ws n i x (omega arith) (omega arith),
      ap (h n) (get_or-set_other ws i n x 0 (λ e. ne (sym e))),
    )
  ]

-- the words xs are written from w on
abbrev pub put_words : ℕ → List ℕ → List ℕ → List ℕ
put_words w [] words = words
put_words w (x ∷ xs) words = set (put_words (suc w) xs words) w x

pub put_length : (w : ℕ) (xs words : List ℕ) → length (put_words w xs words) ≡ length words
put_length w [] words = refl
put_length w (x ∷ xs) words = length-set (put_words (suc w) xs words) w x ∙ put_length (suc w) xs words

pub put_else : (w : ℕ) (xs words : List ℕ) (u : ℕ) → (u < w) ⊎ (w + length xs ≤ u) →
    get_or (put_words w xs words) u 0 ≡ get_or words u 0
put_else w [] words u o = refl
put_else w (x ∷ xs) words u o = get_or-set_other (put_words (suc w) xs words) w u x 0 (apart o)
    ∙ put_else (suc w) xs words u (further o)
  where
    apart : (u < w) ⊎ (w + suc (length xs) ≤ u) → u ≢ w
    apart (inl a) e = omega arith
    apart (inr a) e = omega arith

    further : (u < w) ⊎ (w + suc (length xs) ≤ u) → (u < suc w) ⊎ (suc w + length xs ≤ u)
    further (inl a) = inl (omega arith)
    further (inr a) = inr (omega arith)

pub put_there : (w : ℕ) (xs words : List ℕ) (j : ℕ) → j < length xs → w + length xs ≤ length words →
    get_or (put_words w xs words) (w + j) 0 ≡ get_or xs j 0
put_there w [] words j lt wide = absurd (omega arith)
put_there w (x ∷ xs) words zero lt wide =
    let e : w + 0 ≡ w = omega arith in
    ap (λ u. get_or (set (put_words (suc w) xs words) w x) u 0) e
    ∙ get_or-set_same (put_words (suc w) xs words) w x 0 (omega (arith, put_length (suc w) xs words))
put_there w (x ∷ xs) words (suc j) lt wide =
    let e : w + suc j ≡ suc w + j = omega arith in
    get_or-set_other (put_words (suc w) xs words) w (w + suc j) x 0 (λ e. omega arith)
    ∙ ap (λ u. get_or (put_words (suc w) xs words) u 0) e ∙ put_there (suc w) xs words j (omega arith) (omega arith)

to_write_first : (h : ℕ → ℕ → ℕ) → Empties h → (w x : ℕ) (xs : List ℕ) →
    pairs h (to_write w (x ∷ xs)) ≡ h w x + pairs h (to_write (suc w) xs)
to_write_first h z w x xs = elim (cases_eq x 0) [
  | inl e ↦ omega (
    arith,
    ap (λ b. pairs h
        (if b then to_write (suc w) xs else (w, x) ∷ to_write (suc w) xs)) (eq-eqb x 0 e),
    ap (h w) e,
    z w,
  )
  | inr n ↦ ap (λ b. pairs h (if b then to_write (suc w) xs else (w, x) ∷ to_write (suc w) xs)) (ne_eqb x 0 n)
]

-- where nothing stood, the words weigh what is to be written
pub put_weigh : (h : ℕ → ℕ → ℕ) → Empties h → (w : ℕ) (xs words : List ℕ) (n : ℕ) →
    ((j : ℕ) → w ≤ j → get_or words j 0 ≡ 0) → w + length xs ≤ n → n ≤ length words
    → weigh h (put_words w xs words) n ≡ weigh h words n + pairs h (to_write w xs)
put_weigh h z w [] words n none in_n wide = omega arith
put_weigh h z w (x ∷ xs) words n none in_n wide =
    let was : get_or (put_words (suc w) xs words) w 0 ≡ 0 = put_else (suc w) xs words w
    (inl (omega arith)) ∙ none w (omega arith) in
    omega (
      arith,
      weigh_set h (put_words (suc w) xs words) n w x (omega arith) (omega (arith, wide, put_length (suc w) xs words)),
      ap (h w) was,
      z w,
      put_weigh h z (suc w) xs words n (λ j le. none j (omega arith)) (omega arith) wide,
      to_write_first h z w x xs,
    )

-- one of the words from w on, under its number, and not empty
abbrev pub Written : ℕ → List ℕ → ℕ → ℕ → Type 0
Written w xs u y = (j : ℕ) × (j < length xs) × (u ≡ w + j) × (y ≡ get_or xs j 0) × (y ≢ 0)

written_later : (w x : ℕ) (xs : List ℕ) (u y : ℕ) → Written (suc w) xs u y → Written w (x ∷ xs) u y
written_later w x xs u y t = let a = t.1 in let b = t.2 in (suc t.0, omega arith, omega arith, t.3, t.4)

written_first : (w x : ℕ) (xs : List ℕ) (u y : ℕ) → x ≢ 0 →
    IsIn (u, y) ((w, x) ∷ to_write (suc w) xs) →
    (IsIn (u, y) (to_write (suc w) xs) → Written (suc w) xs u y) → Written w (x ∷ xs) u y
written_first w x xs u y n (inl q) ih =
    let a : u ≡ w = ap (λ (p : ℕ × ℕ). p.0) q in
    let b : y ≡ x = ap (λ (p : ℕ × ℕ). p.1) q in
    (0, omega arith, omega arith, b, (λ e. n (sym b ∙ e)))
written_first w x xs u y n (inr i) ih = written_later w x xs u y (ih i)

-- what is to be written is such a word
pub to_write_from : (w : ℕ) (xs : List ℕ) (u y : ℕ) → IsIn (u, y) (to_write w xs) → Written w xs u y
to_write_from w [] u y h = absurd h
to_write_from w (x ∷ xs) u y h = elim (cases_eq x 0) [
  | inl e ↦ written_later w x xs u y (to_write_from (suc w) xs u y
      (subst (λ b. IsIn (u, y) (if b then to_write (suc w) xs else (w, x) ∷ to_write (suc w) xs)) (eq-eqb x 0 e) h))
  | inr n ↦ written_first w x xs u y n
      (subst (λ b. IsIn (u, y) (if b then to_write (suc w) xs else (w, x) ∷ to_write (suc w) xs))
      (ne_eqb x 0 n) h) (to_write_from (suc w) xs u y)
]
