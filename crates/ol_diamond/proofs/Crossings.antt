-- Two nodes that cross: what stood at their slots is linked to the copies that come there, and
-- these weigh as much as the slots.
use Rattle.std.proofs.Common.{◌≡◌, ◌≢◌, ℕ, zero, suc, ◌+◌, ◌<◌, ◌≤◌, max, Bool, ◌⊎◌, ◌↔◌, inl, inr}
use Rattle.std.proofs.Common.{refl, sym, ap, ◌∙◌, subst, arith}
use Rattle.std.proofs.lemmas.Bool.{cases_lt}
use Rattle.ol_law_edges.specs.Edges.{IsTest, Joined, here, on, back, Edge, Contracted}
use Rattle.ol_law_edges.proofs.Contraction.{is_or_is_not}
use Rattle.ol_law_edges.proofs.Joining.{joined_sym, joined_trans}
use Rattle.ol_law_edges.proofs.Composing.{HasEdge, edge_of_apart, joined_keeps, contracted_map, contracted_swap}
use Rattle.ol_net.specs.declared.parts.Kind.{Kind}
use Rattle.ol_net.specs.Parts.{arity}
use Rattle.ol_net.specs.Nets.{NamedPort, free, slot, NamedNet, Linked, IsPort, IsNet, IsPrincipalOf, IsSlotOf, Faces}
use Rattle.ol_rules.specs.Rewriting.{crossing, JoinOf, meet, at_f, at_g, between}
use Rattle.ol_rules.specs.Laws.{IsFresh}
use Rattle.ol_rules.proofs.FreshPairs.{linked_sym}
use Rattle.ol_diamond.specs.Waves.{LinkedWithin, JoinWithin, LeftWithin}
use Rattle.ol_diamond.proofs.Meetings.{by_ports}

-- What the ports weigh after a crossing: a port that was there what it did, the principal port of a
-- copy as much as the slot at
-- which it comes, and as the wave, and the other ports of the copies as the wave.
pub record CopiesWeigh {A : Type 0} (names : ℕ → A) (N : NamedNet A) (f g : A) (k l : Kind)
    (wave : ℕ) (w w' : NamedPort A → ℕ) : Type 0 where
  pub old : (u : NamedPort A) → IsPort N u → w' u ≡ w u
  pub of_f : (q : ℕ) → q < arity l → w' (slot (names q) 0) ≡ max wave (w (slot g (suc q)))
  pub of_g : (p : ℕ) → p < arity k → w' (slot (names (arity l + p)) 0) ≡ max wave (w (slot f (suc p)))
  pub out_of_f : (p q : ℕ) → p < arity k → q < arity l → w' (slot (names q) (suc p)) ≡ wave
  pub out_of_g : (p q : ℕ) → p < arity k → q < arity l → w' (slot (names (arity l + p)) (suc q)) ≡ wave

module _ {A : Type 0} (same : A → A → Bool) (test : IsTest same) (names : ℕ → A) (N : NamedNet A)
    (net : IsNet N) (f g : A) (differ : f ≢ g) (k : Kind) (i : ℕ) (l : Kind) (j : ℕ) (faces : Faces N f g k i l j)
    (c : ℕ) (fresh : IsFresh N names) (wave : ℕ) (w w' : NamedPort A → ℕ)
    (weighs : CopiesWeigh names N f g k l wave w w') where
  abbrev Join : NamedPort A → NamedPort A → Type 0
  Join = JoinOf names f g k l (crossing c)

  abbrev Slots : NamedPort A → Type 0
  Slots = IsSlotOf f g

  abbrev All : NamedPort A → NamedPort A → Type 0
  All = Edge (Linked N) (IsPrincipalOf f g) Join

  abbrev Some : ℕ → NamedPort A → NamedPort A → Type 0
  Some n = Edge (LinkedWithin (by_ports N w) n) (IsPrincipalOf f g) (JoinWithin names f g k l (crossing c) wave n)

  -- ---- where a copy's principal port is joined

  -- the copy at this place comes at slot x
  abbrev ComesAt : ℕ → NamedPort A → Type 0
  ComesAt n x = ((p : ℕ) × (p < arity k) × (n ≡ arity l + p) × (x ≡ slot f (suc p)))
      ⊎ ((q : ℕ) × (q < arity l) × (n ≡ q) × (x ≡ slot g (suc q)))

  born_no_port : (n s : ℕ) → IsPort N (slot (names n) s) → ⊥
  born_no_port n s (m, t, h, b) = fresh.unused (names n) m t n h refl

  f_not_born : (n : ℕ) → f ≢ names n
  f_not_born n e = fresh.unused f k i n faces.first e

  g_not_born : (n : ℕ) → g ≢ names n
  g_not_born n e = fresh.unused g l j n faces.second e

  -- a slot of a copy is none of the pair
  born_out : (n s : ℕ) → IsSlotOf f g (slot (names n) s) → ⊥
  born_out n s (t, inl e) = let q : names n ≡ f = cc in f_not_born n (sym q)
  born_out n s (t, inr e) = let q : names n ≡ g = cc in g_not_born n (sym q)

  join_at : (n : ℕ) (x : NamedPort A) → ComesAt n x → Join (slot (names n) 0) x
  join_at n x (inl (p, b, e, e')) = subst (λ n. Join (slot (names n) 0) x) (sym e)
      (subst (λ x. Join (slot (names (arity l + p)) 0) x) (sym e') (at_f c refl b))
  join_at n x (inr (q, b, e, e')) = subst (λ n. Join (slot (names n) 0) x) (sym e)
      (subst (λ x. Join (slot (names q) 0) x) (sym e') (at_g c refl b))

  weight_at : (n : ℕ) (x : NamedPort A) → ComesAt n x → w' (slot (names n) 0) ≡ max wave (w x)
  weight_at n x (inl (p, b, e, e')) = ap (λ n. w' (slot (names n) 0)) e ∙ weighs.of_g p b
      ∙ ap (λ x. max wave (w x)) (sym e')
  weight_at n x (inr (q, b, e, e')) = ap (λ n. w' (slot (names n) 0)) e ∙ weighs.of_f q b
      ∙ ap (λ x. max wave (w x)) (sym e')

  slot_at : (n : ℕ) (x : NamedPort A) → ComesAt n x → IsSlotOf f g x
  slot_at n x (inl (p, b, e, e')) = (suc p, inl e')
  slot_at n x (inr (q, b, e, e')) = (suc q, inr e')

  port_at : (n : ℕ) (x : NamedPort A) → ComesAt n x → IsPort N x
  port_at n x (inl (p, b, e, e')) = subst (λ x. IsPort N x) (sym e') (k, i, faces.first, b)
  port_at n x (inr (q, b, e, e')) = subst (λ x. IsPort N x) (sym e') (l, j, faces.second, b)

  -- one copy comes at one slot
  one_slot : (n : ℕ) (x y : NamedPort A) → ComesAt n x → ComesAt n y → x ≡ y
  one_slot n x y (inl (p, b, e, e')) (inl (p', b', d, d')) = let q : p ≡ p' = omega arith in
      e' ∙ ap (λ p. slot f (suc p)) q ∙ sym d'
  one_slot n x y (inl (p, b, e, e')) (inr (q, b', d, d')) = absurd (omega arith)
  one_slot n x y (inr (q, b, e, e')) (inl (p, b', d, d')) = absurd (omega arith)
  one_slot n x y (inr (q, b, e, e')) (inr (q', b', d, d')) = let z : q ≡ q' = omega arith in
      e' ∙ ap (λ q. slot g (suc q)) z ∙ sym d'

  one_copy : (n m : ℕ) (x y : NamedPort A) → x ≡ y → ComesAt n x → ComesAt m y → n ≡ m
  one_copy n m x y z (inl (p, b, e, e')) (inl (p', b', d, d')) = let s : slot f (suc p) ≡ slot f
      (suc p') = sym e' ∙ z ∙ d' in let q : p ≡ p' = cc in omega arith
  one_copy n m x y z (inl (p, b, e, e')) (inr (q, b', d, d')) = absurd
      (let s : slot f (suc p) ≡ slot g (suc q) = sym e' ∙ z ∙ d' in let q : f ≡ g = cc in differ q)
  one_copy n m x y z (inr (q, b, e, e')) (inl (p, b', d, d')) = absurd
      (let s : slot g (suc q) ≡ slot f (suc p) = sym e' ∙ z ∙ d' in let q : g ≡ f = cc in differ (sym q))
  one_copy n m x y z (inr (q, b, e, e')) (inr (q', b', d, d')) = let s : slot g (suc q) ≡ slot g
      (suc q') = sym e' ∙ z ∙ d' in let r : q ≡ q' = cc in omega arith

  -- what a join is: a copy's principal port at a slot, or two other ports of copies
  data IsJoin (u v : NamedPort A) : Type 0 where
    comes : (n : ℕ) → u ≡ slot (names n) 0 → ComesAt n v → IsJoin u v
    both : (m n s t : ℕ) → u ≡ slot (names m) (suc s) → v ≡ slot (names n) (suc t) → m ≢ n →
        w' u ≡ wave → w' v ≡ wave → IsJoin u v

  is_join : (u v : NamedPort A) → Join u v → IsJoin u v
  is_join u v (meet e b) = absurd (cc)
  is_join u v (at_f {p = p} d e b) = comes (arity l + p) refl (inl (p, b, refl, refl))
  is_join u v (at_g {q = q} d e b) = comes q refl (inr (q, b, refl, refl))
  is_join u v (between {p = p} {q = q} d e b b') = both q (arity l + p) p q refl refl
      (λ e. omega arith) (weighs.out_of_f p q b b') (weighs.out_of_g p q b b')

  -- no join begins at a slot of the pair
  from_slot : (x v : NamedPort A) → IsSlotOf f g x → Join x v → ⊥
  from_slot x v s h = go (is_join x v h)
    where
      go : IsJoin x v → ⊥
      go (comes n e t) = born_out n 0 (subst Slots e s)
      go (both m n a b e e' ne y z) = born_out m (suc a) (subst Slots e s)

  -- and none ends at the principal port of a copy
  into_principal : (n : ℕ) (y u : NamedPort A) → u ≡ slot (names n) 0 → Join y u → ⊥
  into_principal n y u e h = go (is_join y u h)
    where
      go : IsJoin y u → ⊥
      go (comes m e' t) = born_out n 0 (subst Slots e (slot_at m u t))
      go (both m m' a b e' d ne y z) = let q : slot (names n) 0 ≡ slot (names m') (suc b) = sym e ∙ d in cc

  from_principal : (n : ℕ) (u x y : NamedPort A) → u ≡ slot (names n) 0 → ComesAt n x → Join u y → y ≡ x
  from_principal n u x y e t h = go (is_join u y h)
    where
      go : IsJoin u y → y ≡ x
      go (comes m e' t') =
          let q : slot (names n) 0 ≡ slot (names m) 0 = sym e ∙ e' in
          let r : names n ≡ names m = cc in
          let z = fresh.apart n m r in
          one_slot m y x t' (subst (λ n. ComesAt n x) z t)
      go (both m m' a b e' d ne y z) = absurd (let q : slot (names n) 0 ≡ slot (names m) (suc a) = sym e ∙ e' in cc)

  into_slot : (n : ℕ) (u x y : NamedPort A) → u ≡ slot (names n) 0 → ComesAt n x → Join y x → y ≡ u
  into_slot n u x y e t h = go (is_join y x h)
    where
      go : IsJoin y x → y ≡ u
      go (comes m e' t') = let z = one_copy m n x x refl t' t in e' ∙ ap (λ n. slot (names n) 0) z ∙ sym e
      go (both m m' a b e' d ne y z) = absurd (born_out m' (suc b) (subst Slots d (slot_at n x t)))

  -- ---- a link that is left within n is light at both ends

  -- its way from the principal port of a copy goes by the slot at which that comes
  light_slot : (n m : ℕ) (u v x : NamedPort A) → u ≡ slot (names m) 0 → ComesAt m x →
      Contracted (Some n) Slots u v → w x ≤ n
  light_slot n m u v x e t h = go (cases_lt n (w x))
    where
      not_linked : (y : NamedPort A) → LinkedWithin (by_ports N w) n u y → ⊥
      not_linked y h = born_no_port m 0 (subst (λ u. IsPort N u) e (net.of_ports u y h.0).0)

      forth : n < w x → (y z : NamedPort A) → Some n y z → (y ≡ u) ⊎ (y ≡ x) → (z ≡ u) ⊎ (z ≡ x)
      forth heavy y z (inl s) (inl q) = absurd (not_linked z (subst (λ y. LinkedWithin (by_ports N w) n y z) q s.0))
      forth heavy y z (inl s) (inr q) = absurd
          (let b : max (w x) (w z) ≤ n = subst (λ y. max (w y) (w z) ≤ n) q s.0.1 in omega arith)
      forth heavy y z (inr s) (inl q) = inr (from_principal m u x z e t (subst (λ y. Join y z) q s.0))
      forth heavy y z (inr s) (inr q) = absurd (from_slot x z (slot_at m x t) (subst (λ y. Join y z) q s.0))

      back_to : n < w x → (y z : NamedPort A) → Some n y z → (z ≡ u) ⊎ (z ≡ x) → (y ≡ u) ⊎ (y ≡ x)
      back_to heavy y z (inl s) (inl q) = absurd
          (born_no_port m 0 (subst (λ u. IsPort N u) (q ∙ e) (net.of_ports y z s.0.0).1))
      back_to heavy y z (inl s) (inr q) = absurd
          (let b : max (w y) (w x) ≤ n = subst (λ z. max (w y) (w z) ≤ n) q s.0.1 in omega arith)
      back_to heavy y z (inr s) (inl q) = absurd (into_principal m y z (q ∙ e) s.0)
      back_to heavy y z (inr s) (inr q) = inl (into_slot m u x y e t (subst (λ z. Join y z) q s.0))

      ends : (v ≡ u) ⊎ (v ≡ x) → ⊥
      ends (inl q) = h.apart (sym q)
      ends (inr q) = h.second (subst Slots (sym q) (slot_at m x t))

      go : (n < w x) ⊎ (w x ≤ n) → w x ≤ n
      go (inr b) = b
      go (inl heavy) = absurd (ends (joined_keeps (λ z. (z ≡ u) ⊎ (z ≡ x)) (forth heavy)
          (back_to heavy) h.joined (inl refl)))

  light_end : (n : ℕ) (u v : NamedPort A) → Contracted (Some n) Slots u v → w' u ≤ n
  light_end n u v h = go (edge_of_apart h.joined h.apart)
    where
      by_join : (x : NamedPort A) → wave ≤ n → IsJoin u x → w' u ≤ n
      by_join x b (comes m e t) =
          let a = light_slot n m u v x e t h in
          let q : w' u ≡ max wave (w x) = ap w' e ∙ weight_at m x t in
          omega arith
      by_join x b (both m m' s t e e' ne y z) = omega arith

      to_join : (x : NamedPort A) → wave ≤ n → IsJoin x u → w' u ≤ n
      to_join x b (comes m e t) = absurd (h.first (slot_at m u t))
      to_join x b (both m m' s t e e' ne y z) = omega arith

      go : HasEdge (Some n) u → w' u ≤ n
      go (x, inl (inl s)) = let q = weighs.old u (net.of_ports u x s.0.0).0 in let b = s.0.1 in omega arith
      go (x, inl (inr s)) = by_join x s.1 (is_join u x s.0)
      go (x, inr (inl s)) = let q = weighs.old u (net.of_ports x u s.0.0).1 in let b = s.0.1 in omega arith
      go (x, inr (inr s)) = to_join x s.1 (is_join x u s.0)

  -- ---- and a link that is light at both ends is left within n

  -- the way from a port y that stays, or goes, to the port e of the new net
  record Tail (y e : NamedPort A) : Type 0 where
    stays : IsSlotOf f g e → ⊥
    is : (e ≡ y) ⊎ ((n : ℕ) × (e ≡ slot (names n) 0) × ComesAt n y)
    way : Joined All y e
    light : (n : ℕ) → w' e ≤ n → (w y ≤ n) × Joined (Some n) y e

  tail_here : (y : NamedPort A) → IsPort N y → (IsSlotOf f g y → ⊥) → Tail y y
  tail_here y p n = record {
    stays = n;
    is = inl refl;
    way = here;
    light = λ n b. (subst (λ x. x ≤ n) (weighs.old y p) b, here);
  }

  tail_copy : (m : ℕ) (y : NamedPort A) → ComesAt m y → Tail y (slot (names m) 0)
  tail_copy m y t = record {
    stays = born_out m 0;
    is = inr (m, refl, t);
    way = back here (inr (join_at m y t));
    light = λ n b. let q = weight_at m y t in (omega arith, back here (inr (join_at m y t, omega arith)));
  }

  -- a slot of the pair
  slot_is : (x : A) → (x ≡ f) ⊎ ((x ≡ g) ⊎ ((x ≢ f) × (x ≢ g)))
  slot_is x = go (is_or_is_not same test f x) (is_or_is_not same test g x)
    where
      go : (x ≡ f) ⊎ (x ≢ f) → (x ≡ g) ⊎ (x ≢ g) → (x ≡ f) ⊎ ((x ≡ g) ⊎ ((x ≢ f) × (x ≢ g)))
      go (inl e) y = inl e
      go (inr n) (inl e) = inr (inl e)
      go (inr n) (inr m) = inr (inr (n, m))

  tail_of_f : (s : ℕ) → IsPort N (slot f s) → (IsPrincipalOf f g (slot f s) → ⊥) → (e : NamedPort A) × Tail (slot f s) e
  tail_of_f zero p n = absurd (n (inl refl))
  tail_of_f (suc s) (m, t, h, b) n =
      let z = (net.one_node f m k t i h faces.first).0 in
      let b' : s < arity k = subst (λ m. s < arity m) z b in
      (slot (names (arity l + s)) 0, tail_copy (arity l + s) (slot f (suc s)) (inl (s, b', refl, refl)))

  tail_of_g : (s : ℕ) → IsPort N (slot g s) → (IsPrincipalOf f g (slot g s) → ⊥) → (e : NamedPort A) × Tail (slot g s) e
  tail_of_g zero p n = absurd (n (inr refl))
  tail_of_g (suc s) (m, t, h, b) n =
      let z = (net.one_node g m l t j h faces.second).0 in
      let b' : s < arity l = subst (λ m. s < arity m) z b in
      (slot (names s) 0, tail_copy s (slot g (suc s)) (inr (s, b', refl, refl)))

  tail_any : (y : NamedPort A) → IsPort N y → (IsPrincipalOf f g y → ⊥) → (e : NamedPort A) × Tail y e
  tail_any (free m) p n = (free m, tail_here (free m) p none)
    where
      none : IsSlotOf f g (free m) → ⊥
      none (s, inl e) = cc
      none (s, inr e) = cc
  tail_any (slot x s) p n = go (slot_is x)
    where
      go : (x ≡ f) ⊎ ((x ≡ g) ⊎ ((x ≢ f) × (x ≢ g))) → (e : NamedPort A) × Tail (slot x s) e
      go (inl q) = subst (λ x. (e : NamedPort A) × Tail (slot x s) e) (sym q)
          (tail_of_f s (subst (λ x. IsPort N (slot x s)) q p) (subst (λ x. IsPrincipalOf f g (slot x s) → ⊥) q n))
      go (inr (inl q)) = subst (λ x. (e : NamedPort A) × Tail (slot x s) e) (sym q)
          (tail_of_g s (subst (λ x. IsPort N (slot x s)) q p) (subst (λ x. IsPrincipalOf f g (slot x s) → ⊥) q n))
      go (inr (inr h)) = (slot x s, tail_here (slot x s) p none)
        where
          none : IsSlotOf f g (slot x s) → ⊥
          none (t, inl e) = let q : x ≡ f = cc in h.0 q
          none (t, inr e) = let q : x ≡ g = cc in h.1 q

  -- the two ends of a link don't fall together
  tails_apart : (x y u e : NamedPort A) → Linked N x y → Tail x u → Tail y e → u ≢ e
  tails_apart x y u e h a b q = go a.is b.is
    where
      go : (u ≡ x) ⊎ ((n : ℕ) × (u ≡ slot (names n) 0) × ComesAt n x) →
          (e ≡ y) ⊎ ((n : ℕ) × (e ≡ slot (names n) 0) × ComesAt n y) → ⊥
      go (inl s) (inl t) = net.apart x (subst (λ y. Linked N x y) (sym (sym s ∙ q ∙ t)) h)
      go (inl s) (inr t) = born_no_port t.0 0 (subst (λ x. IsPort N x) (sym s ∙ q ∙ t.1) (net.of_ports x y h).0)
      go (inr s) (inl t) = born_no_port s.0 0 (subst (λ y. IsPort N y) (sym t ∙ sym q ∙ s.1) (net.of_ports x y h).1)
      go (inr s) (inr t) =
          let z : slot (names s.0) 0 ≡ slot (names t.0) 0 = sym s.1 ∙ q ∙ t.1 in
          let r : names s.0 ≡ names t.0 = cc in
          let n = fresh.apart s.0 t.0 r in
          let o = one_slot t.0 x y (subst (λ n. ComesAt n x) n s.2) t.2 in
          net.apart x (subst (λ y. Linked N x y) (sym o) h)

  module _ (M : NamedNet A) (net_after : IsNet M)
      (links : (u v : NamedPort A) → Linked M u v ↔ Contracted All Slots u v) where
    -- by a link of the old net
    by_link : (n : ℕ) (u v x y : NamedPort A) → Linked M u v → max (w' u) (w' v) ≤ n →
        Linked N x y → (IsPrincipalOf f g x → ⊥) → (IsPrincipalOf f g y → ⊥) → Tail x u → Joined (Some n) u v
    by_link n u v x y h m e nx ny a =
        let t = tail_any y (net.of_ports x y e).1 ny in
        let b = t.1 in
        let edge : All x y = inl (e, nx, ny) in
        let whole : Contracted All Slots u t.0 = record {
          first = a.stays;
          second = b.stays;
          apart = tails_apart x y u t.0 e a b;
          joined = joined_trans (on (joined_sym a.way) edge) b.way;
        } in
        let q = net_after.one_link u t.0 v ((links u t.0).1 whole) h in
        let la = a.light n (omega arith) in
        let lb = b.light n (subst (λ z. w' z ≤ n) (sym q) (omega arith)) in
        let wx = la.0 in
        let wy = lb.0 in
        let some : Some n x y = inl ((e, omega arith), nx, ny) in
        subst (λ z. Joined (Some n) u z) q (joined_trans (on (joined_sym la.1) some) lb.1)

    light_link : (n : ℕ) (u v : NamedPort A) → Linked M u v → max (w' u) (w' v) ≤ n → Joined (Some n) u v
    light_link n u v h m = go (edge_of_apart d.joined d.apart)
      where
        d : Contracted All Slots u v
        d = (links u v).0 h

        -- the partner of a slot that goes is no principal port
        partner_plain : (x y : NamedPort A) → Linked N x y → (IsPrincipalOf f g x → ⊥) → IsPrincipalOf f g y → ⊥
        partner_plain x y e n (inl q) = n (inr
            (net.one_link (slot f 0) x (slot g 0)
            (linked_sym N x (slot f 0) (subst (λ y. Linked N x y) q e)) faces.linked))
        partner_plain x y e n (inr q) = n (inl
            (net.one_link (slot g 0) x (slot f 0)
            (linked_sym N x (slot g 0) (subst (λ y. Linked N x y) q e))
            (linked_sym N (slot f 0) (slot g 0) faces.linked)))

        plain_at : (m : ℕ) (x : NamedPort A) → ComesAt m x → IsPrincipalOf f g x → ⊥
        plain_at m x (inl (p, b, e, e')) (inl q) = let z : slot f (suc p) ≡ slot f 0 = sym e' ∙ q in cc
        plain_at m x (inl (p, b, e, e')) (inr q) = let z : slot f (suc p) ≡ slot g 0 = sym e' ∙ q in cc
        plain_at m x (inr (p, b, e, e')) (inl q) = let z : slot g (suc p) ≡ slot f 0 = sym e' ∙ q in cc
        plain_at m x (inr (p, b, e, e')) (inr q) = let z : slot g (suc p) ≡ slot g 0 = sym e' ∙ q in cc

        at_copy : (a : ℕ) (x : NamedPort A) → u ≡ slot (names a) 0 → ComesAt a x → Joined (Some n) u v
        at_copy a x e t =
            let s = net.some_link x (port_at a x t) in
            by_link n u v x s.0 h m s.1 (plain_at a x t) (partner_plain x s.0 s.1 (plain_at a x t))
            (subst (λ u. Tail x u) (sym e) (tail_copy a x t))

        -- by a join of two copies alone
        straight : (x : NamedPort A) → Joined All u x → Joined (Some n) u x → (IsSlotOf f g x → ⊥) →
            u ≢ x → Joined (Some n) u v
        straight x e e' out ne =
            let whole : Contracted All Slots u x = record { first = d.first; second = out; apart = ne; joined = e } in
            let q = net_after.one_link u x v ((links u x).1 whole) h in
            subst (λ z. Joined (Some n) u z) q e'

        by_join : (x : NamedPort A) → Join u x → IsJoin u x → Joined (Some n) u v
        by_join x e (comes a e' t) = at_copy a x e' t
        by_join x e (both a b s t q r ne y z) =
            straight x (on here (inr e)) (on here (inr (e, omega arith))) (λ o. born_out b (suc t) (subst Slots r o))
            (λ same. let c : slot (names a) (suc s) ≡ slot (names b) (suc t) = sym q ∙ same ∙ r in
            let n : names a ≡ names b = cc in ne (fresh.apart a b n))

        to_join : (x : NamedPort A) → Join x u → IsJoin x u → Joined (Some n) u v
        to_join x e (comes a e' t) = absurd (d.first (slot_at a u t))
        to_join x e (both a b s t q r ne y z) =
            straight x (back here (inr e)) (back here (inr (e, omega arith)))
            (λ o. born_out a (suc s) (subst Slots q o))
            (λ same. let c : slot (names a) (suc s) ≡ slot (names b) (suc t) = sym q ∙ sym same
            ∙ r in let n : names a ≡ names b = cc in ne (fresh.apart a b n))

        go : HasEdge All u → Joined (Some n) u v
        go (x, inl (inl s)) = by_link n u v u x h m s.0 s.1 s.2 (tail_here u (net.of_ports u x s.0).0 d.first)
        go (x, inr (inl s)) = by_link n u v u x h m (linked_sym N x u s.0) s.2 s.1
            (tail_here u (net.of_ports x u s.0).1 d.first)
        go (x, inl (inr s)) = by_join x s (is_join u x s)
        go (x, inr (inr s)) = to_join x s (is_join x u s)

    whole_of : (n : ℕ) (u v : NamedPort A) → Some n u v → All u v
    whole_of n u v (inl s) = inl (s.0.0, s.1, s.2)
    whole_of n u v (inr s) = inr s.0

    pub crossing_weighs : (n : ℕ) (u v : NamedPort A) →
        LinkedWithin (by_ports M w') n u v ↔ LeftWithin names f g k l (crossing c) wave
        (LinkedWithin (by_ports N w)) n u v
    crossing_weighs n u v = (to, from)
      where
        to : LinkedWithin (by_ports M w') n u v →
            LeftWithin names f g k l (crossing c) wave (LinkedWithin (by_ports N w)) n u v
        to h = let d = (links u v).0 h.0 in record {
          first = d.first;
          second = d.second;
          apart = d.apart;
          joined = light_link n u v h.0 h.1;
        }

        from : LeftWithin names f g k l (crossing c) wave (LinkedWithin (by_ports N w)) n u v →
            LinkedWithin (by_ports M w') n u v
        from c =
            let a = light_end n u v c in
            let b = light_end n v u (contracted_swap c) in
            ((links u v).1 (contracted_map (whole_of n) (λ u e s. s) u v c), omega arith)
