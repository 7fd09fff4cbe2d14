-- A stuck pair of a levelled net is of two kinds of sharing, and no walk crosses it.
-- Used in Tops and Examples, for the two laws of stuck pairs, and in crates above.
use Rattle.std.proofs.Common.{◌≡◌, ◌≢◌, ℕ, zero, suc, ◌<◌, ◌≤◌, Bool, true, false, not, None, ◌⊎◌}
use Rattle.std.proofs.Common.{inl, inr, refl, sym, ap, ◌∙◌, subst, arith, nat_eq, eq-eqb, ne_eqb}
use Rattle.ol_context.specs.Contexts.{Level, empty, o, star, pair, Context, tail, marked, change, up, IsCrosser}
use Rattle.ol_context.proofs.Contexts.{tail_eq}
use Rattle.ol_context.specs.Paths.{Crosses, inward, outward, Through, through, Path, ends, goes}
use Rattle.ol_context.specs.Ways.{Way, start, on}
use Rattle.ol_law_edges.proofs.Lists.{if_below}
use Rattle.ol_net.specs.Nets.{NamedPort, free, slot, NamedNet, HasNode, Linked, IsNet}
use Rattle.ol_net.specs.Pairs.{IsStuck}
use Rattle.ol_net.specs.Parts.{is_eraser}
use Rattle.ol_net.specs.Rules.{met, crossed, by_index, rule_of}
use Rattle.ol_net.specs.declared.parts.Kind.{Kind}
use Rattle.ol_net.specs.declared.parts.Kind.TheVariants as kind
use Rattle.ol_law_levels.specs.Levels.{CanStand, IsLevelled}
use Rattle.ol_law_levels.specs.Laws.{StuckPairsAreOfSharing, NoWalkCrossesAStuckPair, StuckPairsStopWalks}

-- ---- which pairs are stuck

abbrev OfSharing : Kind → ℕ → Kind → ℕ → Type 0
OfSharing k i l j = IsCrosser k × IsCrosser l × (k ≢ l) × (i ≡ j)

both_out : (b : Bool) → b ≡ true → not b ≡ true → ⊥
both_out true e e' = absurd (cc)
both_out false e e' = absurd (cc)

both_in : (b : Bool) → b ≡ false → not b ≡ false → ⊥
both_in true e e' = absurd (cc)
both_in false e e' = absurd (cc)

same_index : (k l : Kind) (i d : ℕ) (out : Bool) → is_eraser k ≡ false → is_eraser l ≡ false →
    CanStand k i d out → CanStand l i d (not out) → met k l ≡ None → OfSharing k i l i
same_index kind.Eraser l i d out n n' c c' e = absurd (cc)
same_index kind.Lam kind.Eraser i d out n n' c c' e = absurd (cc)
same_index kind.App kind.Eraser i d out n n' c c' e = absurd (cc)
same_index kind.Fan kind.Eraser i d out n n' c c' e = absurd (cc)
same_index kind.Croissant kind.Eraser i d out n n' c c' e = absurd (cc)
same_index kind.Bracket kind.Eraser i d out n n' c c' e = absurd (cc)
same_index kind.Lam kind.Lam i d out n n' c c' e = absurd (both_out out c.1 c'.1)
same_index kind.App kind.App i d out n n' c c' e = absurd (both_in out c.1 c'.1)
same_index kind.Lam kind.App i d out n n' c c' e = absurd (cc)
same_index kind.App kind.Lam i d out n n' c c' e = absurd (cc)
same_index kind.Lam kind.Fan i d out n n' c c' e = let q = c.0 in absurd (omega arith)
same_index kind.Lam kind.Croissant i d out n n' c c' e = let q = c.0 in absurd (omega arith)
same_index kind.Lam kind.Bracket i d out n n' c c' e = let q = c.0 in absurd (omega arith)
same_index kind.App kind.Fan i d out n n' c c' e = let q = c.0 in absurd (omega arith)
same_index kind.App kind.Croissant i d out n n' c c' e = let q = c.0 in absurd (omega arith)
same_index kind.App kind.Bracket i d out n n' c c' e = let q = c.0 in absurd (omega arith)
same_index kind.Fan kind.Lam i d out n n' c c' e = let q = c'.0 in absurd (omega arith)
same_index kind.Croissant kind.Lam i d out n n' c c' e = let q = c'.0 in absurd (omega arith)
same_index kind.Bracket kind.Lam i d out n n' c c' e = let q = c'.0 in absurd (omega arith)
same_index kind.Fan kind.App i d out n n' c c' e = let q = c'.0 in absurd (omega arith)
same_index kind.Croissant kind.App i d out n n' c c' e = let q = c'.0 in absurd (omega arith)
same_index kind.Bracket kind.App i d out n n' c c' e = let q = c'.0 in absurd (omega arith)
same_index kind.Fan kind.Fan i d out n n' c c' e = absurd (cc)
same_index kind.Croissant kind.Croissant i d out n n' c c' e = absurd (cc)
same_index kind.Bracket kind.Bracket i d out n n' c c' e = absurd (cc)
same_index kind.Fan kind.Croissant i d out n n' c c' e = (tt, tt, λ q. absurd (cc), refl)
same_index kind.Fan kind.Bracket i d out n n' c c' e = (tt, tt, λ q. absurd (cc), refl)
same_index kind.Croissant kind.Fan i d out n n' c c' e = (tt, tt, λ q. absurd (cc), refl)
same_index kind.Croissant kind.Bracket i d out n n' c c' e = (tt, tt, λ q. absurd (cc), refl)
same_index kind.Bracket kind.Fan i d out n n' c c' e = (tt, tt, λ q. absurd (cc), refl)
same_index kind.Bracket kind.Croissant i d out n n' c c' e = (tt, tt, λ q. absurd (cc), refl)

within : (k : Kind) (i d : ℕ) (out : Bool) → is_eraser k ≡ false → CanStand k i d out → i ≤ d
within kind.Lam i d out n c = let q = c.0 in omega arith
within kind.App i d out n c = let q = c.0 in omega arith
within kind.Fan i d out n c = omega arith
within kind.Croissant i d out n c = omega arith
within kind.Bracket i d out n c = omega arith
within kind.Eraser i d out n c = absurd (cc)

-- what crosses nothing stands at the depth of its index
no_crosser : (k : Kind) (i d : ℕ) (out : Bool) → is_eraser k ≡ false → CanStand k i d out →
    crossed k ≡ None → i ≡ d
no_crosser kind.Lam i d out n c e = c.0
no_crosser kind.App i d out n c e = c.0
no_crosser kind.Fan i d out n c e = absurd (cc)
no_crosser kind.Croissant i d out n c e = absurd (cc)
no_crosser kind.Bracket i d out n c e = absurd (cc)
no_crosser kind.Eraser i d out n c e = absurd (cc)

by_index_same : (k l : Kind) (i : ℕ) → by_index k i l i ≡ met k l
by_index_same k l i = let t : nat_eq i i ≡ true = eq-eqb i i refl in rw t refl

by_index_less : (k l : Kind) (i j : ℕ) → i < j → by_index k i l j ≡ crossed k
by_index_less k l i j h = let t : nat_eq i j ≡ false = ne_eqb i j (λ e. omega arith) in
    rw t (if_below i j (crossed k) None h)

three : (m n : ℕ) → ((m < n) ⊎ (m ≡ n)) ⊎ (n < m)
three m n = grind arith

by_index_sharing : (k : Kind) (i : ℕ) (l : Kind) (j d : ℕ) (out : Bool) → is_eraser k ≡ false →
    is_eraser l ≡ false → CanStand k i d out → CanStand l j d (not out)
    → by_index k i l j ≡ None → by_index l j k i ≡ None → OfSharing k i l j
by_index_sharing k i l j d out n n' c c' e e' = go (three i j)
  where
    same : (j : ℕ) → i ≡ j → CanStand l j d (not out) → by_index k i l j ≡ None → OfSharing k i l j
    same j q c' e =
        let r = subst (λ j. CanStand l j d (not out)) (sym q) c' in
        let e2 : by_index k i l i ≡ None = subst (λ j. by_index k i l j ≡ None) (sym q) e in
        subst (λ j. OfSharing k i l j) q
        (same_index k l i d out n n' c r (sym (by_index_same k l i) ∙ e2))

    go : ((i < j) ⊎ (i ≡ j)) ⊎ (j < i) → OfSharing k i l j
    go (inl (inl h)) =
        let a : i ≡ d = no_crosser k i d out n c (sym (by_index_less k l i j h) ∙ e) in
        let b : j ≤ d = within l j d (not out) n' c' in
        absurd (omega arith)
    go (inl (inr q)) = same j q c' e
    go (inr h) =
        let a : j ≡ d = no_crosser l j d (not out) n' c' (sym (by_index_less l k j i h) ∙ e') in
        let b : i ≤ d = within k i d out n c in
        absurd (omega arith)

no_rule : (k : Kind) (i : ℕ) (l : Kind) (j d : ℕ) (out : Bool) → CanStand k i d out →
    CanStand l j d (not out) → rule_of k i l j ≡ None → rule_of l j k i ≡ None → OfSharing k i l j
no_rule kind.Eraser i l j d out c c' e e' = absurd (cc)
no_rule kind.Lam i kind.Eraser j d out c c' e e' = absurd (cc)
no_rule kind.App i kind.Eraser j d out c c' e e' = absurd (cc)
no_rule kind.Fan i kind.Eraser j d out c c' e e' = absurd (cc)
no_rule kind.Croissant i kind.Eraser j d out c c' e e' = absurd (cc)
no_rule kind.Bracket i kind.Eraser j d out c c' e e' = absurd (cc)
no_rule k i l j d out c c' e e' = by_index_sharing k i l j d out refl refl c c' e e'

-- ---- what a walk can't do

not_marked : (s : ℕ) (v w : Level) → marked s v ≡ w → (w ≡ empty)
    ⊎ ((x : Level) × (y : Level) × (w ≡ pair x y)) → ⊥
not_marked zero v w e (inl q) = let r : o v ≡ empty = e ∙ q in absurd (cc)
not_marked (suc s) v w e (inl q) = let r : star v ≡ empty = e ∙ q in absurd (cc)
not_marked zero v w e (inr (x, y, q)) = let r : o v ≡ pair x y = e ∙ q in absurd (cc)
not_marked (suc s) v w e (inr (x, y, q)) = let r : star v ≡ pair x y = e ∙ q in absurd (cc)

-- level 0 tells which kind was crossed
level : {b c : Context} → b ≡ c → b 0 ≡ c 0
level e = ap (λ (c : Context). c 0) e

changes_apart : (k l : Kind) → IsCrosser k → IsCrosser l → k ≢ l → (s t : ℕ) (b d : Context) →
    change k s b ≡ change l t d → ⊥
changes_apart kind.Fan kind.Croissant h h' n s t b d e =
    not_marked s (b 0) empty (level e) (inl refl)
changes_apart kind.Fan kind.Bracket h h' n s t b d e =
    not_marked s (b 0) (pair (d 1) (d 0)) (level e) (inr (d 1, d 0, refl))
changes_apart kind.Croissant kind.Fan h h' n s t b d e =
    not_marked t (d 0) empty (sym (level e)) (inl refl)
changes_apart kind.Bracket kind.Fan h h' n s t b d e =
    not_marked t (d 0) (pair (b 1) (b 0)) (sym (level e)) (inr (b 1, b 0, refl))
changes_apart kind.Croissant kind.Bracket h h' n s t b d e = let r : empty ≡ pair (d 1) (d 0) =
    level e in absurd (cc)
changes_apart kind.Bracket kind.Croissant h h' n s t b d e = let r : pair (b 1) (b 0) ≡ empty =
    level e in absurd (cc)
changes_apart kind.Fan kind.Fan h h' n s t b d e = n refl
changes_apart kind.Croissant kind.Croissant h h' n s t b d e = n refl
changes_apart kind.Bracket kind.Bracket h h' n s t b d e = n refl
changes_apart kind.Lam l h h' n s t b d e = h
changes_apart kind.App l h h' n s t b d e = h
changes_apart kind.Eraser l h h' n s t b d e = h
changes_apart k kind.Lam h h' n s t b d e = h'
changes_apart k kind.App h h' n s t b d e = h'
changes_apart k kind.Eraser h h' n s t b d e = h'

ups_apart : (k l : Kind) → IsCrosser k → IsCrosser l → k ≢ l → (i s t : ℕ) (b d : Context) →
    up k i s b ≡ up l i t d → ⊥
ups_apart k l h h' n zero s t b d e = changes_apart k l h h' n s t b d e
ups_apart k l h h' n (suc i) s t b d e =
    ups_apart k l h h' n i s t (tail b) (tail d)
    (tail_eq (b 0) (d 0) (up k i s (tail b)) (up l i t (tail d)) e)

crosses_apart : (k l : Kind) (i : ℕ) → IsCrosser k → IsCrosser l → k ≢ l →
    (m n : ℕ) (b c d : Context) → Crosses k i (suc m) b 0 c → Crosses l i 0 c (suc n) d → ⊥
crosses_apart k l i h h' ne m n b c d (inward z e) (outward z' e') =
    ups_apart k l h h' ne i m n b d (e ∙ sym e')

module _ {A : Type 0} where
  pub stuck_of_sharing : StuckPairsAreOfSharing A
  stuck_of_sharing N L f g s =
      let t = L.links (slot g 0) (slot f 0) (flip s.faces.linked) in
      let c = L.stands f s.k s.i s.faces.first in
      let c' : CanStand s.l s.j (L.depth (slot f 0)) (not (L.is_out (slot f 0))) =
      subst (λ d. CanStand s.l s.j d (not (L.is_out (slot f 0)))) t.0
      (subst (λ out. CanStand s.l s.j (L.depth (slot g 0)) out) t.1
      (L.stands g s.l s.j s.faces.second)) in
      no_rule s.k s.i s.l s.j (L.depth (slot f 0)) (L.is_out (slot f 0)) c c' s.first s.second
    where
      flip : Linked N (slot f 0) (slot g 0) → Linked N (slot g 0) (slot f 0)
      flip (inl h) = inr h
      flip (inr h) = inl h

  pub no_walk_crosses : NoWalkCrossesAStuckPair A
  no_walk_crosses N L f g s m n b c d x y =
      let t = stuck_of_sharing N L f g s in
      crosses_apart s.k s.l s.i t.0 t.1 t.2 m n b c d x
      (subst (λ i. Crosses s.l i 0 c (suc n) d) (sym t.3) y)

  module _ (N : NamedNet A) (is_net : IsNet N) (L : IsLevelled N) (f g : A) (s : IsStuck N f g)
    where
      -- the crossing by which a walk comes out of slot 0
      record Rose (x : A) (d : Context) : Type 0 where
        k : Kind
        i : ℕ
        m : ℕ
        b : Context
        node : HasNode N x k i
        crosses : Crosses k i (suc m) b 0 d

      rose : (x : A) (k : Kind) (i u t : ℕ) (b d : Context) → HasNode N x k i →
          Crosses k i u b t d →
          t ≡ 0 → Rose x d
      rose x k i u t b d h (inward {s = m} z e) q =
          record { k = k; i = i; m = m; b = b; node = h; crosses = inward z e }
      rose x k i u t b d h (outward z e) q = absurd (omega arith)

      way_rose : {p : ℕ} {c : Context} {n : ℕ} {u : NamedPort A} {d : Context} →
          Way N (free p) c n u d → (x : A) → u ≡ slot x 0 → Rose x d
      way_rose {p = p} start x q = let r : free p ≡ slot x 0 = q in absurd (cc)
      way_rose {d = d} (on {d = b} {x = y} {k = k} {i = i} {s = u} {t = t} w l h z) x q =
          let r : slot y t ≡ slot x 0 = q in
          let e : y ≡ x = cc in
          let e' : t ≡ 0 = cc in
          subst (λ x. Rose x d) e (rose y k i u t b d h z e')

      barred : (d : Context) → Rose f d → (k : Kind) (i t : ℕ) (e : Context) → HasNode N g k i →
          Crosses k i 0 d t e → ⊥
      barred d r k i t e h (outward {s = n} z q) =
          let a = is_net.one_node f r.k s.k r.i s.i r.node s.faces.first in
          let b = is_net.one_node g k s.l i s.j h s.faces.second in
          no_walk_crosses N L f g s r.m n r.b d e
          (subst (λ i. Crosses s.k i (suc r.m) r.b 0 d) a.1
          (subst (λ k. Crosses k r.i (suc r.m) r.b 0 d) a.0 r.crosses))
          (subst (λ i. Crosses s.l i 0 d (suc n) e) b.1
          (subst (λ k. Crosses k i 0 d (suc n) e) b.0 (outward z q)))

      barred_through : (d : Context) → Rose f d →
          {u : NamedPort A} {q : NamedPort A} {e : Context} →
          Through N u d q e → u ≡ slot g 0 → ⊥
      barred_through d r {e = e} (through {x = x} {k = k} {i = i} {s = u} {t = t} h z) w =
          let v : slot x u ≡ slot g 0 = w in
          let a : x ≡ g = cc in
          let b : u ≡ 0 = cc in
          barred d r k i t e (subst (λ x. HasNode N x k i) a h)
          (subst (λ u. Crosses k i u d t e) b z)

      no_path : (d : Context) → Rose f d → (q : ℕ) (e : Context) → Path N (slot f 0) d q e → ⊥
      no_path d r q e (ends l) = let v : free q ≡ slot g 0 =
          is_net.one_link (slot f 0) (free q) (slot g 0) l s.faces.linked in absurd (cc)
      no_path d r q e (goes {x = x} {s = u} l h z w) =
          barred_through d r (through h z)
          (is_net.one_link (slot f 0) (slot x u) (slot g 0) l s.faces.linked)

  pub stuck_pairs_stop : StuckPairsStopWalks A
  stuck_pairs_stop N is_net L f g s p c n d w =
      let r = way_rose N is_net L f g s w f refl in (
        (λ q e t. barred_through N is_net L f g s d r t refl),
        (λ q e t. no_path N is_net L f g s d r q e t),
      )
