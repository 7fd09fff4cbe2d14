-- A walk over a levelled net leaves as they are the levels from its own on, but for marks o at the first of them.
use Rattle.std.proofs.Common.{◌≡◌, ℕ, zero, suc, ◌+◌, ◌-◌, ◌<◌, Bool, List, [], ◌∷◌, ◌++◌, length, refl, sym, ap}
use Rattle.std.proofs.Common.{◌∙◌, arith, subst}
use Rattle.ol_context.proofs.Contexts.{eta, head_eq, tail_eq}
use Rattle.ol_context.proofs.LeafMoves.{marked_empty}
use Rattle.ol_context.specs.Asked.{os}
use Rattle.ol_context.specs.Contexts.{Level, empty, o, star, pair, Context, cons, tail, at_level, mark, up, shift}
use Rattle.ol_context.specs.Contexts.{IsCrosser}
use Rattle.ol_law_optimality.specs.Met.{blank}
use Rattle.ol_law_optimality.proofs.Keys.{put_one}
use Rattle.ol_law_levels.specs.Levels.{CanStand, depth_beside}
use Rattle.ol_net.specs.Parts.{arity}
use Rattle.ol_net.specs.declared.parts.Kind.{Kind}
use Rattle.ol_net.specs.declared.parts.Kind.TheVariants as kind
use Rattle.ol_law_optimality.specs.Redexes.{put}
use Rattle.ol_law_optimality.proofs.Puts.{lift, lower}

-- marks o and then a star
abbrev pub IsStarred : Level → Type 0
IsStarred empty = ⊥
IsStarred (o v) = IsStarred v
IsStarred (star v) = Unit {0}
IsStarred (pair a b) = ⊥

abbrev pub AreStarred : List Level → Type 0
AreStarred [] = Unit {0}
AreStarred (v ∷ vs) = IsStarred v × AreStarred vs

-- How a walk that began with any context c goes on at depth n: n levels that don't depend on c, levels with a star,
-- and c itself, with marks o at its first level.
pub record Held (n : ℕ) (F : Context → Context) : Type 0 where
  pub low : List Level
  pub long : length low ≡ n
  pub mid : List Level
  pub starred : AreStarred mid
  pub marks : ℕ
  pub is : (c : Context) → F c ≡ put low (put mid (cons (os marks (c 0)) (tail c)))

-- back through a crossing, for all contexts
pub record Down (n : ℕ) (back' F : Context → Context) : Type 0 where
  pub family : Context → Context
  pub held : Held n family
  pub all : (c : Context) → back' (family c) ≡ F c

-- ---- levels before a context

changed_after : (vs : List Level) (i : ℕ) (g : Context → Context) (c : Context) → length vs ≡ i →
    at_level i g (put vs c) ≡ put vs (g c)
changed_after [] zero g c e = refl
changed_after [] (suc i) g c e = absurd (omega (arith, e))
changed_after (v ∷ vs) zero g c e = absurd (omega (arith, e))
changed_after (v ∷ vs) (suc i) g c e = ap (cons v) (changed_after vs i g c (omega (arith, e)))

opened : (vs : List Level) (i : ℕ) (g : Context → Context) (b r : Context) → length vs ≡ i →
    at_level i g b ≡ put vs r → (d : Context) × (g d ≡ r)
opened [] zero g b r l e = (b, e)
opened [] (suc i) g b r l e = absurd (omega (arith, l))
opened (v ∷ vs) zero g b r l e = absurd (omega (arith, l))
opened (v ∷ vs) (suc i) g b r l e =
    opened vs i g (tail b) r (omega (arith, l)) (tail_eq (b 0) v (at_level i g (tail b)) (put vs r) e)

record Split (vs : List Level) (i : ℕ) : Type 0 where
  front : List Level
  value : Level
  long : length front ≡ i
  is : (c : Context) → put vs c ≡ put front (cons value c)

split : (vs : List Level) (i : ℕ) → length vs ≡ suc i → Split vs i
split [] i e = absurd (omega (arith, e))
split (v ∷ []) i e = record { front = []; value = v; long = omega (arith, e); is = λ c. refl }
split (v ∷ w ∷ vs) zero e = absurd (omega (arith, e))
split (v ∷ w ∷ vs) (suc i) e =
    let r = split (w ∷ vs) i (omega (arith, e)) in
    record { front = v ∷ r.front; value = r.value; long = ap suc r.long; is = λ c. ap (cons v) (r.is c) }

pub put_last : (vs : List Level) (v : Level) (c : Context) → put (vs ++ v ∷ []) c ≡ put vs (cons v c)
put_last [] v c = refl
put_last (w ∷ vs) v c = ap (cons w) (put_last vs v c)

one_longer : (vs : List Level) (v : Level) (i : ℕ) → length vs ≡ i → length (vs ++ v ∷ []) ≡ suc i
one_longer [] v i e = ap suc e
one_longer (w ∷ vs) v zero e = absurd (omega (arith, e))
one_longer (w ∷ vs) v (suc i) e = ap suc (one_longer vs v i (omega (arith, e)))

-- ---- the own level, by slot 1

own_up_with : (i : ℕ) (F : Context → Context) (low : List Level) → length low ≡ i → (mid : List Level) →
    AreStarred mid → (m : ℕ) → ((c : Context) → F c ≡ put low (put mid (cons (os m (c 0)) (tail c)))) →
    Held i (λ c. at_level i (mark 0) (F c))
own_up_with i F low l [] a m e = record {
  low = low;
  long = l;
  mid = [];
  starred = tt;
  marks = suc m;
  is = λ c. ap (at_level i (mark 0)) (e c) ∙ changed_after low i (mark 0) (cons (os m (c 0)) (tail c)) l;
}
own_up_with i F low l (v ∷ vs) a m e = record {
  low = low;
  long = l;
  mid = o v ∷ vs;
  starred = a;
  marks = m;
  is = λ c. ap (at_level i (mark 0)) (e c)
      ∙ changed_after low i (mark 0) (put (v ∷ vs) (cons (os m (c 0)) (tail c))) l;
}

own_down_with : (i : ℕ) (F : Context → Context) (low : List Level) → length low ≡ i → (mid : List Level) →
    AreStarred mid → (m : ℕ) → ((c : Context) → F c ≡ put low (put mid (cons (os m (c 0)) (tail c)))) →
    (c0 : Context) → c0 0 ≡ empty → (d : Context) → mark 0 d ≡ put mid (cons (os m (c0 0)) (tail c0)) →
    Down i (at_level i (mark 0)) F
own_down_with i F low l [] a zero e c0 z d q =
    absurd (marked_empty 0 (d 0) (head_eq (o (d 0)) (c0 0) (tail d) (tail c0) q ∙ z))
own_down_with i F low l [] a (suc m) e c0 z d q = record {
  family = λ c. put low (cons (os m (c 0)) (tail c));
  held = record { low = low; long = l; mid = []; starred = tt; marks = m; is = λ c. refl };
  all = λ c. changed_after low i (mark 0) (cons (os m (c 0)) (tail c)) l ∙ sym (e c);
}
own_down_with i F low l (v ∷ vs) a m e c0 z d q =
    let f = head_eq (o (d 0)) v (tail d) (put vs (cons (os m (c0 0)) (tail c0))) q in
    record {
      family = λ c. put low (put (d 0 ∷ vs) (cons (os m (c 0)) (tail c)));
      held = record {
        low = low;
        long = l;
        mid = d 0 ∷ vs;
        starred = (subst IsStarred (sym f) a.0, a.1);
        marks = m;
        is = λ c. refl;
      };
      all = λ c. changed_after low i (mark 0) (put (d 0 ∷ vs) (cons (os m (c 0)) (tail c))) l
          ∙ ap (λ v. put low (cons v (put vs (cons (os m (c 0)) (tail c))))) f ∙ sym (e c);
    }

-- ---- into a box and out of it, by slot 2

box_up : (i : ℕ) (F : Context → Context) → Held (suc i) F → Held i (λ c. at_level i (mark 1) (F c))
box_up i F h =
    let r = split h.low i h.long in
    record {
      low = r.front;
      long = r.long;
      mid = star r.value ∷ h.mid;
      starred = (tt, h.starred);
      marks = h.marks;
      is = λ c. ap (at_level i (mark 1)) (h.is c ∙ r.is (put h.mid (cons (os h.marks (c 0)) (tail c))))
          ∙ changed_after r.front i (mark 1) (cons r.value (put h.mid (cons (os h.marks (c 0)) (tail c)))) r.long;
    }

box_down_with : (i : ℕ) (F : Context → Context) (low : List Level) → length low ≡ i → (mid : List Level) →
    AreStarred mid → (m : ℕ) → ((c : Context) → F c ≡ put low (put mid (cons (os m (c 0)) (tail c)))) →
    (c0 : Context) → c0 0 ≡ empty → (d : Context) → mark 1 d ≡ put mid (cons (os m (c0 0)) (tail c0)) →
    Down (suc i) (at_level i (mark 1)) F
box_down_with i F low l [] a zero e c0 z d q =
    absurd (marked_empty 1 (d 0) (head_eq (star (d 0)) (c0 0) (tail d) (tail c0) q ∙ z))
box_down_with i F low l [] a (suc m) e c0 z d q =
    let f = head_eq (star (d 0)) (o (os m (c0 0))) (tail d) (tail c0) q in absurd (cc)
box_down_with i F low l (v ∷ vs) a m e c0 z d q =
    let f = head_eq (star (d 0)) v (tail d) (put vs (cons (os m (c0 0)) (tail c0))) q in
    record {
      family = λ c. put (low ++ d 0 ∷ []) (put vs (cons (os m (c 0)) (tail c)));
      held = record {
        low = low ++ d 0 ∷ [];
        long = one_longer low (d 0) i l;
        mid = vs;
        starred = a.1;
        marks = m;
        is = λ c. refl;
      };
      all = λ c. ap (at_level i (mark 1)) (put_last low (d 0) (put vs (cons (os m (c 0)) (tail c))))
          ∙ changed_after low i (mark 1) (cons (d 0) (put vs (cons (os m (c 0)) (tail c)))) l
          ∙ ap (λ v. put low (cons v (put vs (cons (os m (c 0)) (tail c))))) f ∙ sym (e c);
    }

-- ---- sharing

cross_up : (k : Kind) (i s : ℕ) → IsCrosser k → (n : ℕ) (F : Context → Context) → Held (i + shift k n) F →
    Held (i + suc n) (λ c. up k i s (F c))
cross_up k i s h n F H =
    let t = lift k i s h n H.low H.long in
    record {
      low = t.0;
      long = t.1;
      mid = H.mid;
      starred = H.starred;
      marks = H.marks;
      is = λ c. ap (up k i s) (H.is c) ∙ t.2.all (put H.mid (cons (os H.marks (c 0)) (tail c)));
    }

cross_down : (k : Kind) (i s : ℕ) → IsCrosser k → (n : ℕ) (F : Context → Context) → Held (i + suc n) F →
    (c0 b : Context) → up k i s b ≡ F c0 → Down (i + shift k n) (up k i s) F
cross_down k i s h n F H c0 b e =
    let t = lower k i s h n H.low H.long b (put H.mid (cons (os H.marks (c0 0)) (tail c0))) (e ∙ H.is c0) in
    record {
      family = λ c. put t.0 (put H.mid (cons (os H.marks (c 0)) (tail c)));
      held = record {
        low = t.0;
        long = t.1;
        mid = H.mid;
        starred = H.starred;
        marks = H.marks;
        is = λ c. refl;
      };
      all = λ c. t.2.all (put H.mid (cons (os H.marks (c 0)) (tail c))) ∙ sym (H.is c);
    }

-- ---- any node

own_up : (i D : ℕ) (F : Context → Context) → i ≡ D → Held D F → Held D (λ c. at_level i (mark 0) (F c))
own_up i D F e H = subst (λ i. Held D (λ c. at_level i (mark 0) (F c))) (sym e)
    (own_up_with D F H.low H.long H.mid H.starred H.marks H.is)

out_up : (i D : ℕ) (F : Context → Context) → i ≡ D → Held (suc D) F → Held D (λ c. at_level i (mark 1) (F c))
out_up i D F e H = subst (λ i. Held D (λ c. at_level i (mark 1) (F c))) (sym e) (box_up D F H)

own_down : (i D : ℕ) (F : Context → Context) → i ≡ D → Held D F → (c0 b : Context) → c0 0 ≡ empty →
    at_level i (mark 0) b ≡ F c0 → Down D (at_level i (mark 0)) F
own_down i D F e H c0 b z q =
    let t = opened H.low i (mark 0) b (put H.mid (cons (os H.marks (c0 0)) (tail c0))) (H.long ∙ sym e)
    (q ∙ H.is c0) in
    subst (λ i. Down D (at_level i (mark 0)) F) (sym e)
    (own_down_with D F H.low H.long H.mid H.starred H.marks H.is c0 z t.0 t.1)

in_down : (i D : ℕ) (F : Context → Context) → i ≡ D → Held D F → (c0 b : Context) → c0 0 ≡ empty →
    at_level i (mark 1) b ≡ F c0 → Down (suc D) (at_level i (mark 1)) F
in_down i D F e H c0 b z q =
    let t = opened H.low i (mark 1) b (put H.mid (cons (os H.marks (c0 0)) (tail c0))) (H.long ∙ sym e)
    (q ∙ H.is c0) in
    subst (λ i. Down (suc D) (at_level i (mark 1)) F) (sym e)
    (box_down_with D F H.low H.long H.mid H.starred H.marks H.is c0 z t.0 t.1)

-- below the depth: so many levels after its own
share_up : (k : Kind) (i s D E : ℕ) (F : Context → Context) → IsCrosser k → i < D →
    E ≡ i + shift k (D - (i + 1)) → Held E F → Held D (λ c. up k i s (F c))
share_up k i s D E F h low e H =
    let n = D - (i + 1) in
    let same : i + suc n ≡ D = omega (arith, low) in
    subst (λ D. Held D (λ c. up k i s (F c))) same (cross_up k i s h n F (subst (λ n. Held n F) e H))

share_down : (k : Kind) (i s D E : ℕ) (F : Context → Context) → IsCrosser k → i < D →
    E ≡ i + shift k (D - (i + 1)) → Held D F → (c0 b : Context) → up k i s b ≡ F c0 → Down E (up k i s) F
share_down k i s D E F h low e H c0 b q =
    let n = D - (i + 1) in
    let same : D ≡ i + suc n = omega (arith, low) in
    subst (λ n. Down n (up k i s) F) (sym e) (cross_down k i s h n F (subst (λ n. Held n F) same H) c0 b q)

pub step_up : (k : Kind) (i s D : ℕ) (out : Bool) → CanStand k i D out → s < arity k → (F : Context → Context) →
    Held (depth_beside k s D) F → Held D (λ c. up k i s (F c))
step_up kind.Lam i zero D out st low F H = own_up i D F st.0 H
step_up kind.Lam i (suc zero) D out st low F H = out_up i D F st.0 H
step_up kind.Lam i (suc (suc s)) D out st low F H = absurd (omega arith)
step_up kind.App i zero D out st low F H = own_up i D F st.0 H
step_up kind.App i (suc zero) D out st low F H = out_up i D F st.0 H
step_up kind.App i (suc (suc s)) D out st low F H = absurd (omega arith)
step_up kind.Fan i s D out st low F H = share_up kind.Fan i s D D F tt st (omega (arith, st)) H
step_up kind.Croissant i s D out st low F H = share_up kind.Croissant i s D (D - 1) F tt st (omega (arith, st)) H
step_up kind.Bracket i s D out st low F H = share_up kind.Bracket i s D (suc D) F tt st (omega (arith, st)) H
step_up kind.Eraser i s D out st low F H = absurd (omega arith)

pub step_down : (k : Kind) (i s D : ℕ) (out : Bool) → CanStand k i D out → s < arity k → (F : Context → Context) →
    Held D F → (c0 b : Context) → c0 0 ≡ empty → up k i s b ≡ F c0 → Down (depth_beside k s D) (up k i s) F
step_down kind.Lam i zero D out st low F H c0 b z q = own_down i D F st.0 H c0 b z q
step_down kind.Lam i (suc zero) D out st low F H c0 b z q = in_down i D F st.0 H c0 b z q
step_down kind.Lam i (suc (suc s)) D out st low F H c0 b z q = absurd (omega arith)
step_down kind.App i zero D out st low F H c0 b z q = own_down i D F st.0 H c0 b z q
step_down kind.App i (suc zero) D out st low F H c0 b z q = in_down i D F st.0 H c0 b z q
step_down kind.App i (suc (suc s)) D out st low F H c0 b z q = absurd (omega arith)
step_down kind.Fan i s D out st low F H c0 b z q =
    share_down kind.Fan i s D D F tt st (omega (arith, st)) H c0 b q
step_down kind.Croissant i s D out st low F H c0 b z q =
    share_down kind.Croissant i s D (D - 1) F tt st (omega (arith, st)) H c0 b q
step_down kind.Bracket i s D out st low F H c0 b z q =
    share_down kind.Bracket i s D (suc D) F tt st (omega (arith, st)) H c0 b q
step_down kind.Eraser i s D out st low F H c0 b z q = absurd (omega arith)

-- ---- with other contexts

-- so many levels stay what they are
pub same_low : (F : Context → Context) (vs : List Level) → Held (length vs) F → (c0 r c : Context) → F c0 ≡ put vs r →
    (e : Context) × (F c ≡ put vs e)
same_low F vs H c0 r c q =
    let X = put H.mid (cons (os H.marks (c 0)) (tail c)) in
    let z = put_one H.low vs (put H.mid (cons (os H.marks (c0 0)) (tail c0))) r H.long (sym (H.is c0) ∙ q) in
    (X, H.is c ∙ ap (λ vs. put vs X) z.0)

-- where nothing but empty levels is left above them, nothing was put there
settled_with : (F : Context → Context) (vs : List Level) (mid : List Level) → AreStarred mid → (m : ℕ) →
    ((c : Context) → F c ≡ put vs (put mid (cons (os m (c 0)) (tail c)))) →
    put mid (cons (os m empty) (tail blank)) ≡ blank → (c : Context) → F c ≡ put vs c
settled_with F vs [] a zero e q c = e c ∙ ap (put vs) (eta c)
settled_with F vs [] a (suc m) e q c =
    absurd (marked_empty 0 (os m empty) (ap (λ (c : Context). c 0) q))
settled_with F vs (v ∷ ws) a m e q c = absurd (subst IsStarred (ap (λ (c : Context). c 0) q) a.0)

pub settled : (F : Context → Context) (vs : List Level) → Held (length vs) F → F blank ≡ put vs blank →
    (c : Context) → F c ≡ put vs c
settled F vs H q c =
    let z = put_one H.low vs (put H.mid (cons (os H.marks empty) (tail blank))) blank H.long (sym (H.is blank) ∙ q) in
    settled_with F vs H.mid H.starred H.marks
    (λ c. H.is c ∙ ap (λ vs. put vs (put H.mid (cons (os H.marks (c 0)) (tail c)))) z.0) z.1 c
