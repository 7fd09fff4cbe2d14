-- A virtual redex is told by its application and by the levels before that one's own.
use Rattle.std.proofs.Common.{◌≡◌, ℕ, suc, ◌<◌, List, [], ◌∷◌, length, refl, sym, ap, ◌∙◌, arith, subst}
use Rattle.ol_context.proofs.Contexts.{head_eq, tail_eq, injective}
use Rattle.ol_context.specs.Contexts.{Level, Context, cons, up}
use Rattle.ol_net.specs.Nets.{NamedPort, slot, NamedNet, HasNode, IsNet}
use Rattle.ol_net.specs.Parts.{arity}
use Rattle.ol_net.specs.declared.parts.Kind.{Kind}
use Rattle.ol_net.specs.declared.parts.Kind.TheVariants as kind
use Rattle.ol_law_meaning.specs.Sites.{Site, self, in_lam, in_function, in_argument, depth, context_at}
use Rattle.ol_law_optimality.specs.Met.{blank}
use Rattle.ol_law_optimality.specs.Redexes.{Carries, put, IsVirtualRedex}
use Rattle.ol_law_optimality.specs.Routes.{Crossing, rise, fall, Row, along, rises, falls, Route}
use Rattle.ol_law_optimality.proofs.Carrying.{rise_at, fall_at}
use Rattle.ol_invariance.proofs.WrongTables.{at_its_level}
use Rattle.ol_law_optimality.proofs.Puts.{above}
use Rattle.ol_context.proofs.LeafMoves.{marked_empty}

-- ---- levels put before a context

pub put_one : (vs ws : List Level) (c d : Context) → length vs ≡ length ws → put vs c ≡ put ws d → (vs ≡ ws) × (c ≡ d)
put_one [] [] c d l e = (refl, e)
put_one [] (w ∷ ws) c d l e = absurd (omega arith)
put_one (v ∷ vs) [] c d l e = absurd (omega arith)
put_one (v ∷ vs) (w ∷ ws) c d l e =
    let r = put_one vs ws c d (omega arith) (tail_eq v w (put vs c) (put ws d) e) in
    (ap (λ v. v ∷ vs) (head_eq v w (put vs c) (put ws d) e) ∙ ap (λ vs. w ∷ vs) r.0, r.1)

pub levels_of : Site → List Level
levels_of self = []
levels_of (in_lam p) = levels_of p
levels_of (in_function p) = levels_of p
levels_of (in_argument v p) = v ∷ levels_of p

pub as_put : (p : Site) (c : Context) → context_at p c ≡ put (levels_of p) c
unfolding levels_of
as_put self c = refl
as_put (in_lam p) c = as_put p c
as_put (in_function p) c = as_put p c
as_put (in_argument v p) c = ap (cons v) (as_put p c)

pub as_long : (p : Site) → length (levels_of p) ≡ depth p
unfolding levels_of
as_long self = refl
as_long (in_lam p) = as_long p
as_long (in_function p) = as_long p
as_long (in_argument v p) = ap suc (as_long p)

-- ---- rows that lead on alike

module _ {A : Type 0} (N : NamedNet A) (n : IsNet N) where
  no_slots : {x y : A} {s : ℕ} → ◌≡◌ {A = NamedPort A} (slot x (suc s)) (slot y 0) → ⊥
  no_slots {s = s} e = let q : suc s ≡ 0 = cc in omega arith

  -- an abstraction with an empty level lets nothing in
  barred : (y : A) (j : ℕ) → HasNode N y kind.Lam j → (last : List Level) → length last ≡ j →
      (k : Kind) (i s : ℕ) → HasNode N y k i → (b : Context) → up k i s b ≡ put last blank → ⊥
  barred y j h last l k i s h' b e = by (n.one_node y kind.Lam k j i h h').0 (n.one_node y kind.Lam k j i h h').1
    where
      by : kind.Lam ≡ k → j ≡ i → ⊥
      by q r =
          let e' : up kind.Lam j s b ≡ put last blank = subst (λ k. up k j s b ≡ put last blank)
          (sym q) (subst (λ i. up k i s b ≡ put last blank) (sym r) e) in
          marked_empty s (b j) (sym (at_its_level j s b) ∙ ap (λ (c : Context). c j) e' ∙ above last blank j l)

  same_rows : {w v : List (Crossing A)} {p q q' : NamedPort A} (y y' : A) (j j' : ℕ)
      (last last' : List Level) → HasNode N y kind.Lam j → HasNode N y' kind.Lam j' →
      length last ≡ j → length last' ≡ j' →
      Row N p w q → Row N p v q' → q ≡ slot y 0 → q' ≡ slot y' 0 → (c : Context) →
      Carries N c w (put last blank) → Carries N c v (put last' blank) → (w ≡ v) × (y ≡ y')
  same_rows {p = p} y y' j j' last last' h h' l l' (along {q = q} a) (along {q = q'} a') e e' c t t' =
      let z : slot y 0 ≡ slot y' 0 = sym e ∙ n.one_link p q q' a a' ∙ e' in
      (refl, (let g : y ≡ y' = cc in g))
  same_rows {p = p} y y' j j' last last' h h' l l' (along {q = q} a) (rises {x = x} {s = s} k i m g b r) e e' c t t' =
      absurd (no_slots (sym (n.one_link p q (slot x (suc s)) a m) ∙ e))
  same_rows {p = p} y y' j j' last last' h h' l l' (rises {x = x} {s = s} k i m g b r) (along {q = q} a) e e' c t t' =
      absurd (no_slots (sym (n.one_link p q (slot x (suc s)) a m) ∙ e'))
  same_rows {p = p} y y' j j' last last' h h' l l' (along {q = q} a)
      (falls {x = x} {s = s} {w = w} k i m g b r) e e' c t t' =
      let z : slot y 0 ≡ slot x 0 = sym e ∙ n.one_link p q (slot x 0) a m in
      let u = fall_at N n x k i g s w c (put last' blank) t' in
      absurd (barred y j h last l k i s (let f : x ≡ y = cc in subst (λ x. HasNode N x k i) f g) u.1 (u.2 ∙ t))
  same_rows {p = p} y y' j j' last last' h h' l l' (falls {x = x} {s = s} {w = w} k i m g b r)
      (along {q = q} a) e e' c t t' =
      let z : slot y' 0 ≡ slot x 0 = sym e' ∙ n.one_link p q (slot x 0) a m in
      let u = fall_at N n x k i g s w c (put last blank) t in
      absurd (barred y' j' h' last' l' k i s (let f : x ≡ y' = cc in subst (λ x. HasNode N x k i) f g) u.1 (u.2 ∙ t'))
  same_rows {p = p} y y' j j' last last' h h' l l' (rises {x = x} {s = s} k i m g b r)
      (falls {x = x'} k' i' m' g' b' r') e e' c t t' =
      absurd (no_slots (n.one_link p (slot x (suc s)) (slot x' 0) m m'))
  same_rows {p = p} y y' j j' last last' h h' l l' (falls {x = x} k i m g b r)
      (rises {x = x'} {s = s'} k' i' m' g' b' r') e e' c t t' =
      absurd (no_slots (n.one_link p (slot x' (suc s')) (slot x 0) m' m))
  same_rows {p = p} y y' j j' last last' h h' l l' (rises {x = x} {s = s} {w = w} k i m g b r)
      (rises {x = x'} {s = s'} {w = w'} k' i' m' g' b' r') e e' c t t' =
      let z : slot x (suc s) ≡ slot x' (suc s') = n.one_link p (slot x (suc s)) (slot x' (suc s')) m m' in
      let zx : x ≡ x' = cc in
      let zn : suc s ≡ suc s' = cc in
      let zs : s ≡ s' = omega arith in
      let u = rise_at N n x k i g s w c (put last blank) t in
      let u' = rise_at N n x k i g s w' c (put last' blank)
      (subst (λ s. Carries N c (rise x s ∷ w') (put last' blank)) (sym zs)
      (subst (λ x. Carries N c (rise x s' ∷ w') (put last' blank)) (sym zx) t')) in
      let f = same_rows y y' j j' last last' h h' l l' r
      (subst (λ x. Row N (slot x 0) w' (slot y' 0)) (sym zx)
      (subst (λ q. Row N (slot x' 0) w' q) e' r')) e refl (up k i s c) u.1 u'.1 in
      (ap (λ x. rise x s ∷ w) zx ∙ ap (λ s. rise x' s ∷ w) zs ∙ ap (λ w. rise x' s' ∷ w) f.0, f.1)
  same_rows {p = p} y y' j j' last last' h h' l l' (falls {x = x} {s = s} {w = w} k i m g b r)
      (falls {x = x'} {s = s'} {w = w'} k' i' m' g' b' r') e e' c t t' =
      let z : slot x 0 ≡ slot x' 0 = n.one_link p (slot x 0) (slot x' 0) m m' in
      let zx : x ≡ x' = cc in
      let u = fall_at N n x k i g s w c (put last blank) t in
      let u' = fall_at N n x k i g s' w' c (put last' blank)
      (subst (λ x. Carries N c (fall x s' ∷ w') (put last' blank)) (sym zx) t') in
      let one = n.one_node x k k' i i' g (subst (λ x. HasNode N x k' i') (sym zx) g') in
      let zb = injective k i s s' u.1 u'.1 b (subst (λ k. s' < arity k) (sym one.0) b') (u.2 ∙ sym u'.2) in
      let v = subst (λ s. Row N (slot x (suc s)) w' (slot y' 0)) (sym zb.0)
      (subst (λ x. Row N (slot x (suc s')) w' (slot y' 0)) (sym zx)
      (subst (λ q. Row N (slot x' (suc s')) w' q) e' r')) in
      let f = same_rows y y' j j' last last' h h' l l' r v e refl u.1 u.3
      (subst (λ c. Carries N c w' (put last' blank)) (sym zb.1) u'.3) in
      (ap (λ x. fall x s ∷ w) zx ∙ ap (λ s. fall x' s ∷ w) zb.0 ∙ ap (λ w. fall x' s' ∷ w) f.0, f.1)

  -- two virtual redexes with one application and the same levels before it are one
  pub one_redex : (s u : Route A) (V : IsVirtualRedex N s) (W : IsVirtualRedex N u) →
      s.from ≡ u.from → V.begin ≡ W.begin → s ≡ u
  one_redex s u V W e b =
      let r : Row N (slot s.from 0) u.row (slot u.to 0) = subst
      (λ x. Row N (slot x 0) u.row (slot u.to 0)) (sym e) W.route.row in
      let t : Carries N (put V.begin blank) u.row (put W.last blank) = subst
      (λ vs. Carries N (put vs blank) u.row (put W.last blank)) (sym b) (W.carries blank) in
      let f = same_rows s.to u.to V.route.j W.route.j V.last W.last V.route.abstraction
      W.route.abstraction V.last_is W.last_is V.route.row r refl refl (put V.begin blank) (V.carries blank) t in
      ap (λ x. record { from = x; row = s.row; to = s.to }) e
      ∙ ap (λ w. record { from = u.from; row = w; to = s.to }) f.0
      ∙ ap (λ y. record { from = u.from; row = u.row; to = y }) f.1
