-- Laws of the arena.
use Rattle.std.proofs.Common.{◌≡◌, ℕ, zero, suc, ◌+◌, ◌<◌, ◌≤◌, List, [], ◌∷◌, ◌++◌, length, get_or}
use Rattle.std.proofs.Common.{map, refl, sym, ap, ◌∙◌, subst, arith}
use Rattle.std.proofs.lemmas.List.{get_or_append_left, get_or_push, length_push}
use Rattle.ol_context.specs.Contexts.{Level, empty, o, star, pair, levels}
use Rattle.ol_context.specs.declared.arena.Shape.{Shape}
use Rattle.ol_context.specs.declared.arena.Shape.TheVariants.{Empty, O, Star, Pair}
use Rattle.ol_context.specs.Shapes.{value, level_of_shape, IsBelow, Extends, AreHeld, context_of}
use Rattle.ol_context.specs.HeldLevels.{grow, trees}
use Rattle.ol_context.specs.Rows.{IsRow}

pub grow_push : (vs : List Level) (ss : List Shape) (s : Shape) →
    grow vs (ss ++ s ∷ []) ≡ grow vs ss ++ level_of_shape (grow vs ss) s ∷ []
grow_push vs [] s = refl
grow_push vs (t ∷ ss) s = grow_push (vs ++ level_of_shape vs t ∷ []) ss s

pub grow_length : (vs : List Level) (ss : List Shape) → length (grow vs ss) ≡ length vs + length ss
grow_length vs [] = omega arith
grow_length vs (t ∷ ss) = let r = grow_length (vs ++ level_of_shape vs t ∷ []) ss in
    let l = length_push vs (level_of_shape vs t) in omega arith

pub row_push : (n : ℕ) (ss : List Shape) (s : Shape) → IsRow n ss → IsBelow (n + length ss) s → IsRow n (ss ++ s ∷ [])
row_push n [] s r b = (subst (λ m. IsBelow m s) (omega arith) b, tt)
row_push n (t ∷ ss) s r b = (r.0, row_push (suc n) ss s r.1 (subst (λ m. IsBelow m s) (omega arith) b))

pub grow_keeps : (vs : List Level) (ss : List Shape) (k : ℕ) → k < length vs → value (grow vs ss) k ≡ value vs k
grow_keeps vs [] k b = refl
grow_keeps vs (t ∷ ss) k b =
    let l = length_push vs (level_of_shape vs t) in
    grow_keeps (vs ++ level_of_shape vs t ∷ []) ss k (omega arith)
    ∙ get_or_append_left vs (level_of_shape vs t ∷ []) empty k b

pub tree_keeps : (n : ℕ) (vs ws : List Level) (s : Shape) → IsBelow n s →
    ((k : ℕ) → k < n → value ws k ≡ value vs k) → level_of_shape ws s ≡ level_of_shape vs s
tree_keeps n vs ws Empty b h = refl
tree_keeps n vs ws (O a) b h = ap o (h a b)
tree_keeps n vs ws (Star a) b h = ap star (h a b)
tree_keeps n vs ws (Pair x y) b h = ap (λ u. pair u (value ws y)) (h x b.0) ∙ ap (pair (value vs x)) (h y b.1)

pub shape_at : (vs : List Level) (ss : List Shape) (k n : ℕ) (d : Shape) → IsRow (length vs) ss →
    n ≡ length vs + k → k < length ss → value (grow vs ss) n ≡ level_of_shape (grow vs ss) (get_or ss k d)
shape_at vs [] k n d r e b = absurd (omega arith)
shape_at vs (t ∷ ss) zero n d r e b =
    let q : n ≡ length vs = omega arith in
    let l = length_push vs (level_of_shape vs t) in
    grow_keeps (vs ++ level_of_shape vs t ∷ []) ss n (omega arith)
    ∙ get_or_push vs (level_of_shape vs t) empty n (sym q)
    ∙ sym (tree_keeps (length vs) vs (grow (vs ++ level_of_shape vs t ∷ []) ss) t r.0
    (λ j c. grow_keeps vs (t ∷ ss) j c))
shape_at vs (t ∷ ss) (suc k) n d r e b =
    let l = length_push vs (level_of_shape vs t) in
    shape_at (vs ++ level_of_shape vs t ∷ []) ss k n d (subst (λ m. IsRow m ss) (omega arith) r.1)
    (omega arith) (omega arith)

pub below_at : (n : ℕ) (ss : List Shape) (k : ℕ) (d : Shape) → IsRow n ss → k < length ss →
    IsBelow (n + k) (get_or ss k d)
below_at n [] k d r b = absurd (omega arith)
below_at n (t ∷ ss) zero d r b = subst (λ m. IsBelow m t) (omega arith) r.0
below_at n (t ∷ ss) (suc k) d r b = subst (λ m. IsBelow m (get_or ss k d)) (omega arith)
    (below_at (suc n) ss k d r.1 (omega arith))

pub below_more : (m n : ℕ) (s : Shape) → IsBelow m s → m ≤ n → IsBelow n s
below_more m n Empty b h = tt
below_more m n (O a) b h = omega arith
below_more m n (Star a) b h = omega arith
below_more m n (Pair x y) b h = let p = b.0 in let q = b.1 in (omega arith, omega arith)

-- extensions
pub extends_refl : (vs : List Level) → Extends vs vs
extends_refl vs = record { longer = omega arith; same = λ k b. refl }

pub extends_trans : (us vs ws : List Level) → Extends us vs → Extends vs ws → Extends us ws
extends_trans us vs ws p q = let a = p.longer in let b = q.longer in
    record { longer = omega arith; same = λ k b. q.same k (omega arith) ∙ p.same k b }

pub extends_push : (vs : List Level) (v : Level) → Extends vs (vs ++ v ∷ [])
extends_push vs v = let l = length_push vs v in
    record { longer = omega arith; same = λ k b. get_or_append_left vs (v ∷ []) empty k b }

pub held_more : (vs ws : List Level) (ns : List ℕ) → Extends vs ws → AreHeld vs ns → AreHeld ws ns
held_more vs ws [] e h = tt
held_more vs ws (n ∷ ns) e h = let a = h.0 in let b = e.longer in (omega arith, held_more vs ws ns e h.1)

pub map_more : (vs ws : List Level) (ns : List ℕ) → Extends vs ws → AreHeld vs ns →
    map (value ws) ns ≡ map (value vs) ns
map_more vs ws [] e h = refl
map_more vs ws (n ∷ ns) e h = ap (λ v. v ∷ map (value ws) ns) (e.same n h.0)
    ∙ ap (λ r. value vs n ∷ r) (map_more vs ws ns e h.1)

pub context_more : (vs ws : List Level) (ns : List ℕ) → Extends vs ws → AreHeld vs ns →
    context_of ws ns ≡ context_of vs ns
context_more vs ws ns e h = ap levels (map_more vs ws ns e h)

-- the whole arena
pub trees_length : (ss : List Shape) → length (trees ss) ≡ suc (length ss)
trees_length ss = let r = grow_length (empty ∷ []) ss in omega arith

pub first_is_empty : (ss : List Shape) → value (trees ss) 0 ≡ empty
first_is_empty ss = grow_keeps (empty ∷ []) ss 0 (omega arith)

pub trees_push : (ss : List Shape) (s : Shape) → trees (ss ++ s ∷ []) ≡ trees ss ++ level_of_shape (trees ss) s ∷ []
trees_push ss s = grow_push (empty ∷ []) ss s
