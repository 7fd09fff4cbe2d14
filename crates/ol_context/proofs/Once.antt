-- The arena holds each value once.
use Rattle.std.proofs.Common.{◌≡◌, ◌≢◌, ℕ, zero, suc, ◌+◌, ◌<◌, ◌≤◌, ◌⊎◌, inl, inr, Bool, true, false, ◌&&◌, eqb}
use Rattle.std.proofs.Common.{eqb-true, eq-eqb, List, [], ◌∷◌, ◌++◌, if◌then◌else◌, length, take, get_or, slice_get}
use Rattle.std.proofs.Common.{Some, refl, sym, ap, ◌∙◌, subst, arith}
use Rattle.std.specs.List.{list_any}
use Rattle.std.proofs.lemmas.Bool.{and_parts}
use Rattle.std.proofs.lemmas.List.{get_or_append_left, get_or_push, length_push, take-append-le, take_all, get_or-take}
use Rattle.std.proofs.lemmas.Option.{slice_get_within, get_or_from_slice_get}
use Rattle.std.proofs.lemmas.List.Folds.{list_any_at}
use Rattle.ol_context.specs.contracts.arena.ShapePartialEq.TheImpl.{eq-value}
use Rattle.ol_context.specs.Contexts.{Level, empty}
use Rattle.ol_context.specs.declared.arena.Shape.{Shape}
use Rattle.ol_context.specs.declared.arena.Shape.TheVariants.{Empty, O, Star, Pair}
use Rattle.ol_context.specs.Shapes.{value, level_of_shape, IsBelow, Extends, IsNumberOf}
use Rattle.ol_context.specs.HeldLevels.{grow, trees}
use Rattle.ol_context.specs.Rows.{IsRow, AreOnce}
use Rattle.ol_context.proofs.Shapes.{row_push, trees_push, trees_length, extends_push, extends_refl}
use Rattle.ol_context.proofs.Shapes.{shape_at, below_at, first_is_empty, tree_keeps}

abbrev pub same : Shape → Shape → Bool
same = eq-value.it

pub same_is : (s t : Shape) → same s t ≡ true → s ≡ t
same_is Empty Empty e = refl
same_is Empty (O b) e = absurd (cc)
same_is Empty (Star b) e = absurd (cc)
same_is Empty (Pair b d) e = absurd (cc)
same_is (O a) Empty e = absurd (cc)
same_is (O a) (O b) e = ap O (eqb-true a b e)
same_is (O a) (Star b) e = absurd (cc)
same_is (O a) (Pair b d) e = absurd (cc)
same_is (Star a) Empty e = absurd (cc)
same_is (Star a) (O b) e = absurd (cc)
same_is (Star a) (Star b) e = ap Star (eqb-true a b e)
same_is (Star a) (Pair b d) e = absurd (cc)
same_is (Pair a c) Empty e = absurd (cc)
same_is (Pair a c) (O b) e = absurd (cc)
same_is (Pair a c) (Star b) e = absurd (cc)
same_is (Pair a c) (Pair b d) e = let t = and_parts (eqb a b) (eqb c d) e in
    ap (λ x. Pair x c) (eqb-true a b t.0) ∙ ap (Pair b) (eqb-true c d t.1)

pub same_refl : (s : Shape) → same s s ≡ true
same_refl Empty = refl
same_refl (O a) = eq-eqb a a refl
same_refl (Star a) = eq-eqb a a refl
same_refl (Pair a b) = ap (λ x. x && eqb b b) (eq-eqb a a refl) ∙ eq-eqb b b refl

-- the shapes after one was put
abbrev pub PutIn : List Shape → Shape → List Shape → Type 0
PutIn ks s js = js ≡ (if list_any (same s) ks then ks else ks ++ s ∷ [])

put_cases : (ks js : List Shape) (s : Shape) → PutIn ks s js →
    (js ≡ ks) ⊎ ((js ≡ ks ++ s ∷ []) × (list_any (same s) ks ≡ false))
put_cases ks js s e = by (list_any (same s) ks) refl e
  where
    by : (b : Bool) → list_any (same s) ks ≡ b → js ≡ (if b then ks else ks ++ s ∷ []) →
        (js ≡ ks) ⊎ ((js ≡ ks ++ s ∷ []) × (list_any (same s) ks ≡ false))
    by true r e = inl e
    by false r e = inr (e, r)

pub row_put : (ks js : List Shape) (s : Shape) → IsRow 1 ks → IsBelow (suc (length ks)) s → PutIn ks s js → IsRow 1 js
row_put ks js s r b p = by (put_cases ks js s p)
  where
    by : (js ≡ ks) ⊎ ((js ≡ ks ++ s ∷ []) × (list_any (same s) ks ≡ false)) → IsRow 1 js
    by (inl e) = subst (IsRow 1) (sym e) r
    by (inr e) = subst (IsRow 1) (sym e.0) (row_push 1 ks s r (subst (λ m. IsBelow m s) (omega arith) b))

pub extends_put : (ks js : List Shape) (s : Shape) → PutIn ks s js → Extends (trees ks) (trees js)
extends_put ks js s p = by (put_cases ks js s p)
  where
    by : (js ≡ ks) ⊎ ((js ≡ ks ++ s ∷ []) × (list_any (same s) ks ≡ false)) → Extends (trees ks) (trees js)
    by (inl e) = subst (λ (js : List Shape). Extends (trees ks) (trees js)) (sym e) (extends_refl (trees ks))
    by (inr e) = subst (λ (js : List Shape). Extends (trees ks) (trees js)) (sym e.0)
        (subst (Extends (trees ks)) (sym (trees_push ks s)) (extends_push (trees ks) (level_of_shape (trees ks) s)))

pub few_put : (ks js : List Shape) (s : Shape) → PutIn ks s js → length js ≤ suc (length ks)
few_put ks js s p = by (put_cases ks js s p)
  where
    by : (js ≡ ks) ⊎ ((js ≡ ks ++ s ∷ []) × (list_any (same s) ks ≡ false)) → length js ≤ suc (length ks)
    by (inl e) = let l = ap length e in omega arith
    by (inr e) = let l = ap length e.0 in let m = length_push ks s in omega arith

last_or : (j n : ℕ) → j < suc n → (j < n) ⊎ (j ≡ n)
last_or zero zero b = inr refl
last_or (suc j) zero b = absurd (omega arith)
last_or zero (suc n) b = inl (omega arith)
last_or (suc j) (suc n) b = by (last_or j n (omega arith))
  where
    by : (j < n) ⊎ (j ≡ n) → (suc j < suc n) ⊎ (suc j ≡ suc n)
    by (inl c) = inl (omega arith)
    by (inr c) = inr (ap suc c)

pub once_push : (ks : List Shape) (s : Shape) → AreOnce ks → s ≢ Empty →
    list_any (same s) ks ≡ false → AreOnce (ks ++ s ∷ [])
once_push ks s u n f = (
  λ j k d a b e.
      apart j k d (last_or j (length ks) (shorter j a)) (last_or k (length ks) (shorter k b)) e,
  λ k d b e. full k d (last_or k (length ks) (shorter k b)) e,
)
  where
    shorter : (j : ℕ) → j < length (ks ++ s ∷ []) → j < suc (length ks)
    shorter j a = let l = length_push ks s in omega arith

    is_new : (k : ℕ) (d : Shape) → k < length ks → get_or ks k d ≡ s → ⊥
    is_new k d b e = let t = list_any_at (same s) ks k d b (ap (same s) e ∙ same_refl s) in absurd (cc)

    left : (k : ℕ) (d : Shape) → k < length ks → get_or (ks ++ s ∷ []) k d ≡ get_or ks k d
    left k d b = get_or_append_left ks (s ∷ []) d k b

    right : (k : ℕ) (d : Shape) → k ≡ length ks → get_or (ks ++ s ∷ []) k d ≡ s
    right k d e = get_or_push ks s d k (sym e)

    apart : (j k : ℕ) (d : Shape) → (j < length ks) ⊎ (j ≡ length ks) →
        (k < length ks) ⊎ (k ≡ length ks) → get_or (ks ++ s ∷ []) j d ≡ get_or (ks ++ s ∷ []) k d → j ≡ k
    apart j k d (inl a) (inl b) e = u.0 j k d a b (sym (left j d a) ∙ e ∙ left k d b)
    apart j k d (inl a) (inr b) e = absurd (is_new j d a (sym (left j d a) ∙ e ∙ right k d b))
    apart j k d (inr a) (inl b) e = absurd (is_new k d b (sym (left k d b) ∙ sym e ∙ right j d a))
    apart j k d (inr a) (inr b) e = a ∙ sym b

    full : (k : ℕ) (d : Shape) → (k < length ks) ⊎ (k ≡ length ks) → get_or (ks ++ s ∷ []) k d ≡ Empty → ⊥
    full k d (inl b) e = u.1 k d b (sym (left k d b) ∙ e)
    full k d (inr b) e = n (sym (right k d b) ∙ e)

pub once_put : (ks js : List Shape) (s : Shape) → AreOnce ks → s ≢ Empty → PutIn ks s js → AreOnce js
once_put ks js s u n p = by (put_cases ks js s p)
  where
    by : (js ≡ ks) ⊎ ((js ≡ ks ++ s ∷ []) × (list_any (same s) ks ≡ false)) → AreOnce js
    by (inl e) = subst AreOnce (sym e) u
    by (inr e) = subst AreOnce (sym e.0) (once_push ks s u n e.1)

pub new_put : (ks js : List Shape) (s k : Shape) (at : ℕ) → IsRow 1 ks →
    IsBelow (suc (length ks)) s → PutIn ks s js → slice_get js at ≡ Some k → same s k ≡ true →
    IsNumberOf (trees js) (at + 1) (level_of_shape (trees ks) s)
new_put ks js s k at r b p g e =
    let x = extends_put ks js s p in
    let w = slice_get_within js at k g in
    let l = trees_length ks in
    let m = trees_length js in
    record {
      held = omega arith;
      is = shape_at (empty ∷ []) js at (at + 1) s (row_put ks js s r b p) (omega arith) w
          ∙ ap (level_of_shape (trees js)) (get_or_from_slice_get js at k s g ∙ sym (same_is s k e))
          ∙ tree_keeps (suc (length ks)) (trees ks) (trees js) s b (λ j c. x.same j (omega arith));
    }

-- numbers and their shapes
abbrev pub shape_of : List Shape → ℕ → Shape
shape_of ss zero = Empty
shape_of ss (suc k) = get_or ss k Empty

value_is : (ss : List Shape) → IsRow 1 ss → (n : ℕ) → n < length (trees ss) →
    value (trees ss) n ≡ level_of_shape (trees ss) (shape_of ss n)
value_is ss r zero b = first_is_empty ss
value_is ss r (suc k) b = let l = trees_length ss in
    shape_at (empty ∷ []) ss k (suc k) Empty r (omega arith) (omega arith)

below_is : (ss : List Shape) → IsRow 1 ss → (n : ℕ) → n < length (trees ss) → IsBelow n (shape_of ss n)
below_is ss r zero b = tt
below_is ss r (suc k) b = let l = trees_length ss in
    subst (λ m. IsBelow m (get_or ss k Empty)) (omega arith) (below_at 1 ss k Empty r (omega arith))

shape_one : (ss : List Shape) → AreOnce ss → (a b : ℕ) → a < length (trees ss) →
    b < length (trees ss) → shape_of ss a ≡ shape_of ss b → a ≡ b
shape_one ss u zero zero p q e = refl
shape_one ss u zero (suc b) p q e = let l = trees_length ss in absurd (u.1 b Empty (omega arith) (sym e))
shape_one ss u (suc a) zero p q e = let l = trees_length ss in absurd (u.1 a Empty (omega arith) e)
shape_one ss u (suc a) (suc b) p q e = let l = trees_length ss in ap suc (u.0 a b Empty (omega arith) (omega arith) e)

tree_one : (vs : List Level) (a b : ℕ) →
    ((x y : ℕ) → x < a → y < b → value vs x ≡ value vs y → x ≡ y) → (s t : Shape) → IsBelow a s →
    IsBelow b t → level_of_shape vs s ≡ level_of_shape vs t → s ≡ t
tree_one vs a b h Empty Empty p q e = refl
tree_one vs a b h Empty (O y) p q e = absurd (cc)
tree_one vs a b h Empty (Star y) p q e = absurd (cc)
tree_one vs a b h Empty (Pair y z) p q e = absurd (cc)
tree_one vs a b h (O x) Empty p q e = absurd (cc)
tree_one vs a b h (O x) (O y) p q e = ap O (h x y p q (cc))
tree_one vs a b h (O x) (Star y) p q e = absurd (cc)
tree_one vs a b h (O x) (Pair y z) p q e = absurd (cc)
tree_one vs a b h (Star x) Empty p q e = absurd (cc)
tree_one vs a b h (Star x) (O y) p q e = absurd (cc)
tree_one vs a b h (Star x) (Star y) p q e = ap Star (h x y p q (cc))
tree_one vs a b h (Star x) (Pair y z) p q e = absurd (cc)
tree_one vs a b h (Pair x w) Empty p q e = absurd (cc)
tree_one vs a b h (Pair x w) (O y) p q e = absurd (cc)
tree_one vs a b h (Pair x w) (Star y) p q e = absurd (cc)
tree_one vs a b h (Pair x w) (Pair y z) p q e = ap (λ n. Pair n w) (h x y p.0 q.0 (cc))
    ∙ ap (Pair y) (h w z p.1 q.1 (cc))

-- two numbers of one value are one
pub one_number : (ss : List Shape) → IsRow 1 ss → AreOnce ss → (m a b : ℕ) → a < m →
    a < length (trees ss) → b < length (trees ss) → value (trees ss) a ≡ value (trees ss) b → a ≡ b
one_number ss r u zero a b f p q e = absurd (omega arith)
one_number ss r u (suc m) a b f p q e =
    shape_one ss u a b p q (tree_one (trees ss) a b
    (λ x y c d i. one_number ss r u m x y (omega arith) (omega arith) (omega arith) i)
    (shape_of ss a) (shape_of ss b) (below_is ss r a p) (below_is ss r b q)
    (sym (value_is ss r a p) ∙ e ∙ value_is ss r b q))

-- the first shapes, and their values
grow_cut : (vs : List Level) (ss : List Shape) (m : ℕ) → m ≤ length vs → take m (grow vs ss) ≡ take m vs
grow_cut vs [] m b = refl
grow_cut vs (t ∷ ss) m b = let l = length_push vs (level_of_shape vs t) in
    grow_cut (vs ++ level_of_shape vs t ∷ []) ss m (omega arith) ∙ take-append-le m vs (level_of_shape vs t ∷ []) b

grow_take : (vs : List Level) (ss : List Shape) (n m : ℕ) → m ≡ length vs + n →
    take m (grow vs ss) ≡ grow vs (take n ss)
grow_take vs [] zero m e = take_all m vs (omega arith)
grow_take vs [] (suc n) m e = take_all m vs (omega arith)
grow_take vs (t ∷ ss) zero m e = grow_cut vs (t ∷ ss) m (omega arith) ∙ take_all m vs (omega arith)
grow_take vs (t ∷ ss) (suc n) m e = let l = length_push vs (level_of_shape vs t) in
    grow_take (vs ++ level_of_shape vs t ∷ []) ss n m (omega arith)

pub trees_take : (ss : List Shape) (n m : ℕ) → m ≡ suc n → trees (take n ss) ≡ take m (trees ss)
trees_take ss n m e = sym (grow_take (empty ∷ []) ss n m (omega arith))

pub row_take : (m : ℕ) (ss : List Shape) (n : ℕ) → IsRow m ss → IsRow m (take n ss)
row_take m [] zero r = tt
row_take m [] (suc n) r = tt
row_take m (t ∷ ss) zero r = tt
row_take m (t ∷ ss) (suc n) r = (r.0, row_take (suc m) ss n r.1)

pub fewer_take : (ss : List Shape) (n : ℕ) → (length (take n ss) ≤ n) × (length (take n ss) ≤ length ss)
fewer_take [] zero = (omega arith, omega arith)
fewer_take [] (suc n) = (omega arith, omega arith)
fewer_take (t ∷ ss) zero = (omega arith, omega arith)
fewer_take (t ∷ ss) (suc n) = let r = fewer_take ss n in (omega arith, omega arith)

pub once_take : (ss : List Shape) (n : ℕ) → AreOnce ss → AreOnce (take n ss)
once_take ss n u = (
  λ j k d a b e. let f = fewer_take ss n in
      u.0 j k d (omega arith) (omega arith)
      (sym (get_or-take n ss j d (omega arith)) ∙ e ∙ get_or-take n ss k d (omega arith)),
  λ k d b e. let f = fewer_take ss n in u.1 k d (omega arith) (sym (get_or-take n ss k d (omega arith)) ∙ e),
)
