-- Walks are followed through a step: no walk after it comes to slots 0 more often, and those that
-- leave a copy come there once less.
-- Used in Lightening. Up to `Followed` it is as in `ol_law_completeness` (Shortening).
use Rattle.std.proofs.Common.{◌≡◌, ◌≢◌, ℕ, suc, ◌+◌, ◌<◌, ◌⊎◌, inl, inr, List, [], ◌∷◌, refl, sym, ap}
use Rattle.std.proofs.Common.{◌∙◌, subst, arith}
use Rattle.ol_law_edges.specs.Edges.{Joined, here, on, back, Edge}
use Rattle.ol_net.specs.Nets.{NamedPort, free, slot, NamedNet, HasNode, Linked, IsNet, Faces}
use Rattle.ol_net.specs.Nets.{IsPrincipalOf, IsSlotOf, IsPort}
use Rattle.ol_net.specs.Parts.{arity}
use Rattle.ol_net.specs.declared.parts.Kind.{Kind}
use Rattle.ol_context.specs.Contexts.{Context, up, levels}
use Rattle.ol_context.specs.Paths.{inward, outward}
use Rattle.ol_context.specs.Ways.{Way, start}
use Rattle.ol_context.specs.Ways as ways
use Rattle.ol_invariance.proofs.Moves.{Meets, Suits}
use Rattle.ol_invariance.proofs.Trails.{no_return}
use Rattle.ol_rules.proofs.FreshPairs.{linked_sym}
use Rattle.ol_rules.specs.Laws.{IsFresh}
use Rattle.ol_rules.specs.Rewriting.{Action, meeting, crossing, JoinOf, meet, at_f, at_g, between}
use Rattle.ol_rules.specs.Rewriting.{left, of_f, of_g, Rewrites}
use Rattle.ol_law_levels.specs.Unblocked.{Change, rise, fall, ComesOut}
use Rattle.ol_law_completeness.specs.Walks.{ComesDown, leaves, rises, comes}
use Rattle.ol_law_completeness.proofs.Walking.{Passes, passes_rise, alike, more, alike_meet}
use Rattle.ol_law_completeness.proofs.Walking.{alike_meet_back, alike_on, alike_back}

module _ {A : Type 0} (N : NamedNet A) (f g : A) (k : Kind) (i : ℕ) (l : Kind) (j : ℕ) (a : Action)
    (born : ℕ → A) where
  -- a copy's slot 0, and the slot to which it is joined
  data Copied : NamedPort A → NamedPort A → Type 0 where
    of_first : {s j' : ℕ} → a ≡ crossing j' → s < arity k →
        Copied (slot (born (arity l + s)) 0) (slot f (suc s))
    of_second : {s j' : ℕ} → a ≡ crossing j' → s < arity l →
        Copied (slot (born s) 0) (slot g (suc s))

  abbrev K : NamedPort A → NamedPort A → Type 0
  K = Edge (Linked N) (IsPrincipalOf f g) (JoinOf born f g k l a)

  -- port u is of the net before, and a way leads from there that comes back with the same context
  record Old (u p : NamedPort A) : Type 0 where
    apart : (n s : ℕ) → u ≡ slot (born n) s → ⊥
    way : (c : Context) → (n : ℕ) × Way N u c n p c

  -- The walk after the step left by port u, the one before it by port p: to what p is linked, to
  -- that u is joined.
  record Pending (u p : NamedPort A) : Type 0 where
    outside : IsSlotOf f g u → ⊥
    auxiliary : IsPrincipalOf f g p → ⊥
    joined : Joined K u p
    source : Old u p ⊎ Copied u p

  module _ (is_net : IsNet N) (faces : Faces N f g k i l j) (fresh : IsFresh N born)
      (M : NamedNet A) (rewrites : Rewrites born N f g k i l a M)
      (same_name : (x y : A) → (x ≡ y) ⊎ (x ≢ y)) (suits : Suits a k i l j) where
    no_name : (x : A) (m : Kind) (n p s t : ℕ) → HasNode N x m n → slot x s ≡ slot (born p) t → ⊥
    no_name x m n p s t h e = fresh.unused x m n p h (cc)

    not_born : (n s : ℕ) → IsSlotOf f g (slot (born n) s) → ⊥
    not_born n s (t, inl e) = no_name f k i n t s faces.first (sym e)
    not_born n s (t, inr e) = no_name g l j n t s faces.second (sym e)

    port_not_born : (v : NamedPort A) → IsPort N v → (n s : ℕ) → v ≡ slot (born n) s → ⊥
    port_not_born (free q) h n s e = absurd (cc)
    port_not_born (slot x t) h n s e = no_name x h.0 h.1 n t s h.2 e

    back_link : Linked N (slot g 0) (slot f 0)
    back_link = linked_sym N (slot f 0) (slot g 0) faces.linked

    -- a port that stays is its own end
    old_port : (x : A) (s : ℕ) (m : Kind) (n : ℕ) → HasNode N x m n → x ≢ f → x ≢ g →
        Pending (slot x s) (slot x s)
    old_port x s m n h u w = record {
      outside = outside;
      auxiliary = auxiliary;
      joined = here;
      source = inl (record { apart = λ p t e. no_name x m n p s t h e; way = λ c. (0, start) });
    }
      where
        outside : IsSlotOf f g (slot x s) → ⊥
        outside (t, inl e) = u (cc)
        outside (t, inr e) = w (cc)

        auxiliary : IsPrincipalOf f g (slot x s) → ⊥
        auxiliary (inl e) = u (cc)
        auxiliary (inr e) = w (cc)

    free_port : (q : ℕ) → Pending (free q) (free q)
    free_port q = record {
      outside = outside;
      auxiliary = auxiliary;
      joined = here;
      source = inl (record { apart = λ p t e. absurd (cc); way = λ c. (0, start) });
    }
      where
        outside : IsSlotOf f g (free q) → ⊥
        outside (t, inl e) = absurd (cc)
        outside (t, inr e) = absurd (cc)

        auxiliary : IsPrincipalOf f g (free q) → ⊥
        auxiliary (inl e) = absurd (cc)
        auxiliary (inr e) = absurd (cc)

    -- the next link, to a port that stays
    next_link : (c : Context) (u p v : NamedPort A) → Pending u p → Linked N p v →
        (IsSlotOf f g v → ⊥) → Linked M u v
    next_link c u p v w h n = (rewrites.links u v).1 (record {
      first = w.outside;
      second = n;
      apart = λ e. apart w.source e;
      joined = on w.joined (inl (h, w.auxiliary, λ x. n (principal_slot x)));
    })
      where
        principal_slot : IsPrincipalOf f g v → IsSlotOf f g v
        principal_slot (inl e) = (0, inl e)
        principal_slot (inr e) = (0, inr e)

        copied : {x y : NamedPort A} → Copied x y → x ≡ v → ⊥
        copied (of_first {s = s} z b) e =
            port_not_born v (is_net.of_ports p v h).1 (arity l + s) 0 (sym e)
        copied (of_second {s = s} z b) e = port_not_born v (is_net.of_ports p v h).1 s 0 (sym e)

        apart : Old u p ⊎ Copied u p → u ≡ v → ⊥
        apart (inl o) e = let t = o.way c in
            no_return N is_net t.0 t.1 (subst (λ x. Linked N x p) (sym e) (linked_sym N p v h)) refl
        apart (inr o) e = copied o e

    not_principal : (x : A) (s : ℕ) → IsPrincipalOf f g (slot x (suc s)) → ⊥
    not_principal x s (inl e) = let z : suc s ≡ 0 = cc in absurd (omega arith)
    not_principal x s (inr e) = let z : suc s ≡ 0 = cc in absurd (omega arith)

    abbrev to_gone : (u p : NamedPort A) (x : A) (s : ℕ) → Pending u p →
        Linked N p (slot x (suc s)) → Joined K u (slot x (suc s))
    to_gone u p x s w h = on w.joined (inl (h, w.auxiliary, not_principal x s))

    none_copied : a ≡ meeting → {x y : NamedPort A} → Copied x y → ⊥
    none_copied z (of_first {j' = j'} y b) = let e : meeting ≡ crossing j' = sym z ∙ y in
        absurd (cc)
    none_copied z (of_second {j' = j'} y b) = let e : meeting ≡ crossing j' = sym z ∙ y in
        absurd (cc)

    -- where the pair meets, the walk goes on by the other node's slot of the same number
    over_f : a ≡ meeting → Meets k i l j → (u p : NamedPort A) (s : ℕ) → s < arity k → Pending u p →
        Linked N p (slot f (suc s)) → Pending u (slot g (suc s))
    over_f z m u p s b w h = record {
      outside = w.outside;
      auxiliary = not_principal g s;
      joined = on (to_gone u p f s w h) (inr (meet z b));
      source = source w.source;
    }
      where
        source : Old u p ⊎ Copied u p → Old u (slot g (suc s)) ⊎ Copied u (slot g (suc s))
        source (inl o) = inl (record {
          apart = o.apart;
          way = λ c. (let t = o.way c in (
            suc (suc t.0),
            ways.on (ways.on t.1 h faces.first (inward b refl)) faces.linked
                faces.second (outward (subst (λ n. s < n) m.arities b) (sym (m.alike s c b))),
          ));
        })
        source (inr o) = absurd (none_copied z o)

    over_g : a ≡ meeting → Meets k i l j → (u p : NamedPort A) (s : ℕ) → s < arity k → Pending u p →
        Linked N p (slot g (suc s)) → Pending u (slot f (suc s))
    over_g z m u p s b w h = record {
      outside = w.outside;
      auxiliary = not_principal f s;
      joined = back (to_gone u p g s w h) (inr (meet z b));
      source = source w.source;
    }
      where
        source : Old u p ⊎ Copied u p → Old u (slot f (suc s)) ⊎ Copied u (slot f (suc s))
        source (inl o) = inl (record {
          apart = o.apart;
          way = λ c. (let t = o.way c in (
            suc (suc t.0),
            ways.on (ways.on t.1 h faces.second (inward (subst (λ n. s < n) m.arities b) refl))
                back_link faces.first (outward b (m.alike s c b)),
          ));
        })
        source (inr o) = absurd (none_copied z o)

    -- where the two cross, it goes on by copies
    module _ (j' : ℕ) (z : a ≡ crossing j') where
      to_copy_f : (u p : NamedPort A) (s : ℕ) → s < arity k → Pending u p →
          Linked N p (slot f (suc s)) → Linked M u (slot (born (arity l + s)) 0)
      to_copy_f u p s b w h = (rewrites.links u (slot (born (arity l + s)) 0)).1 (record {
        first = w.outside;
        second = not_born (arity l + s) 0;
        apart = λ e. apart w.source e;
        joined = back (to_gone u p f s w h) (inr (at_f j' z b));
      })
        where
          copied : {x y : NamedPort A} → Copied x y → y ≡ p → x ≡ slot (born (arity l + s)) 0 → ⊥
          copied (of_first {s = t} z' b') y e =
              let r : arity l + t ≡ arity l + s = fresh.apart (arity l + t) (arity l + s) (cc) in
              let r' : s ≡ t = omega arith in
              is_net.apart p (subst (λ v. Linked N p v) (ap (λ n. slot f (suc n)) r' ∙ y) h)
          copied (of_second {s = t} z' b') y e = let r : t ≡ arity l + s =
              fresh.apart t (arity l + s) (cc) in absurd (omega arith)

          apart : Old u p ⊎ Copied u p → u ≡ slot (born (arity l + s)) 0 → ⊥
          apart (inl o) e = o.apart (arity l + s) 0 e
          apart (inr o) e = copied o refl e

      to_copy_g : (u p : NamedPort A) (s : ℕ) → s < arity l → Pending u p →
          Linked N p (slot g (suc s)) → Linked M u (slot (born s) 0)
      to_copy_g u p s b w h = (rewrites.links u (slot (born s) 0)).1 (record {
        first = w.outside;
        second = not_born s 0;
        apart = λ e. apart w.source e;
        joined = back (to_gone u p g s w h) (inr (at_g j' z b));
      })
        where
          copied : {x y : NamedPort A} → Copied x y → y ≡ p → x ≡ slot (born s) 0 → ⊥
          copied (of_first {s = t} z' b') y e = let r : arity l + t ≡ s =
              fresh.apart (arity l + t) s (cc) in absurd (omega arith)
          copied (of_second {s = t} z' b') y e =
              let r : t ≡ s = fresh.apart t s (cc) in
              is_net.apart p (subst (λ v. Linked N p v) (ap (λ n. slot g (suc n)) (sym r) ∙ y) h)

          apart : Old u p ⊎ Copied u p → u ≡ slot (born s) 0 → ⊥
          apart (inl o) e = o.apart s 0 e
          apart (inr o) e = copied o refl e

      between_copies : (s t : ℕ) → s < arity k → t < arity l →
          Linked M (slot (born t) (suc s)) (slot (born (arity l + s)) (suc t))
      between_copies s t b b' =
          (rewrites.links (slot (born t) (suc s)) (slot (born (arity l + s)) (suc t))).1 (record {
            first = not_born t (suc s);
            second = not_born (arity l + s) (suc t);
            apart = λ e. (let r : t ≡ arity l + s = fresh.apart t (arity l + s) (cc) in
                absurd (omega arith));
            joined = on here (inr (between j' z b b'));
          })

      copy_at_f : (s : ℕ) → s < arity k → Pending (slot (born (arity l + s)) 0) (slot f (suc s))
      copy_at_f s b = record {
        outside = not_born (arity l + s) 0;
        auxiliary = not_principal f s;
        joined = on here (inr (at_f j' z b));
        source = inr (of_first z b);
      }

      copy_at_g : (s : ℕ) → s < arity l → Pending (slot (born s) 0) (slot g (suc s))
      copy_at_g s b = record {
        outside = not_born s 0;
        auxiliary = not_principal g s;
        joined = on here (inr (at_g j' z b));
        source = inr (of_second z b);
      }

    -- ---- walks, crossing after crossing

    -- From a port that is no slot 0 of the pair the walks go on. From such a slot 0 they go on as the
    -- second half of a pass, which began at v.
    abbrev Followed : NamedPort A → List Change → ℕ → Type 0
    Followed p w n =
        ((u : NamedPort A) → Pending u p → Passes w → ComesDown M u w n)
        × (p ≡ slot f 0 → (u p' : NamedPort A) (s : ℕ) (v : List Change) → Pending u p' →
        Linked N p' (slot f (suc s)) → s < arity k → Passes v → w ≡ rise k i s ∷ v →
        ComesDown M u v n)
        × (p ≡ slot g 0 → (u p' : NamedPort A) (s : ℕ) (v : List Change) → Pending u p' →
        Linked N p' (slot g (suc s)) → s < arity l → Passes v → w ≡ rise l j s ∷ v →
        ComesDown M u v n)

    only_g : (p v : NamedPort A) → p ≡ slot f 0 → Linked N p v → v ≡ slot g 0
    only_g p v e h =
        is_net.one_link (slot f 0) v (slot g 0) (subst (λ p. Linked N p v) e h) faces.linked

    only_f : (p v : NamedPort A) → p ≡ slot g 0 → Linked N p v → v ≡ slot f 0
    only_f p v e h =
        is_net.one_link (slot g 0) v (slot f 0) (subst (λ p. Linked N p v) e h) back_link

    is_f : (x : A) (m : Kind) (n : ℕ) → x ≡ f → HasNode N x m n → (m ≡ k) × (n ≡ i)
    is_f x m n e h = is_net.one_node f m k n i (subst (λ x. HasNode N x m n) e h) faces.first

    is_g : (x : A) (m : Kind) (n : ℕ) → x ≡ g → HasNode N x m n → (m ≡ l) × (n ≡ j)
    is_g x m n e h = is_net.one_node g m l n j (subst (λ x. HasNode N x m n) e h) faces.second

    rise_as : (m m' : Kind) (n n' s : ℕ) (w : List Change) → m ≡ m' → n ≡ n' →
        ◌≡◌ {A = List Change} (rise m n s ∷ w) (rise m' n' s ∷ w)
    rise_as m m' n n' s w e e' =
        ap (λ m. rise m n s ∷ w) e ∙ ap (λ n. rise m' n s ∷ w) e'

    upward : (p : NamedPort A) (w : List Change) (n : ℕ) (x : A) (m : Kind) (d s : ℕ) →
        Linked N p (slot x (suc s)) → HasNode N x m d → s < arity m →
        Followed (slot x 0) (rise m d s ∷ w) n →
        (u : NamedPort A) → Pending u p → Passes w → ComesDown M u w n
    upward p w n x m d s h hx b ih u o t = by (same_name x f) (same_name x g)
      where
        by : (x ≡ f) ⊎ (x ≢ f) → (x ≡ g) ⊎ (x ≢ g) → ComesDown M u w n
        by (inl y) z =
            let e = is_f x m d y hx in
            ih.1 (ap (λ x. slot x 0) y) u p s w o
            (subst (λ x. Linked N p (slot x (suc s))) y h) (subst (λ m. s < arity m) e.0 b) t
            (rise_as m k d i s w e.0 e.1)
        by (inr y) (inl z) =
            let e = is_g x m d z hx in
            ih.2 (ap (λ x. slot x 0) z) u p s w o
            (subst (λ x. Linked N p (slot x (suc s))) z h) (subst (λ m. s < arity m) e.0 b) t
            (rise_as m l d j s w e.0 e.1)
        by (inr y) (inr z) =
            let q = old_port x (suc s) m d hx y z in
            rises m d (next_link (levels []) u p (slot x (suc s)) o h q.outside)
            ((rewrites.nodes x m d).1 (left hx y z)) b
            (ih.0 (slot x 0) (old_port x 0 m d hx y z) (passes_rise m d s w t))

    -- what follows where walks have come to slot 0 of a node
    Branches : A → Kind → ℕ → List Change → ℕ → Type 0
    Branches x m d w n = (s : ℕ) (c : Context) → s < arity m → ComesOut w (up m d s c) →
        Followed (slot x (suc s)) (fall m d s ∷ w) n

    downward : (p : NamedPort A) (w : List Change) (n : ℕ) (x : A) (m : Kind) (d : ℕ) →
        Linked N p (slot x 0) → HasNode N x m d → Branches x m d w n →
        (u : NamedPort A) → Pending u p → ComesDown M u w (suc n)
    unfolding Branches
    downward p w n x m d h hx ih u o = by (same_name x f) (same_name x g)
      where
        by : (x ≡ f) ⊎ (x ≢ f) → (x ≡ g) ⊎ (x ≢ g) → ComesDown M u w (suc n)
        by (inl y) z =
            absurd (o.auxiliary
            (inr (only_g (slot x 0) p (ap (λ x. slot x 0) y) (linked_sym N p (slot x 0) h))))
        by (inr y) (inl z) =
            absurd (o.auxiliary
            (inl (only_f (slot x 0) p (ap (λ x. slot x 0) z) (linked_sym N p (slot x 0) h))))
        by (inr y) (inr z) =
            let q = old_port x 0 m d hx y z in
            comes m d (next_link (levels []) u p (slot x 0) o h q.outside)
            ((rewrites.nodes x m d).1 (left hx y z))
            (λ s c b t. (ih s c b t).0 (slot x (suc s)) (old_port x (suc s) m d hx y z) (c, t))

    as_branches : (x y : A) (m m' : Kind) (d d' : ℕ) (w : List Change) (n : ℕ) → x ≡ y → m ≡ m' →
        d ≡ d' → Branches x m d w n → Branches y m' d' w n
    as_branches x y m m' d d' w n e e' e2 r = subst (λ x. Branches x m' d' w n) e
        (subst (λ m. Branches x m d' w n) e' (subst (λ d. Branches x m d w n) e2 r))

    -- in by slot s of f
    pass_f : (v : List Change) (n s : ℕ) → Branches g l j (rise k i s ∷ v) n →
        (u p : NamedPort A) → Pending u p → Linked N p (slot f (suc s)) → s < arity k → Passes v →
        ComesDown M u v (suc n)
    unfolding Branches
    pass_f v n s r u p o h b t = by a suits refl
      where
        by : (a' : Action) → Suits a' k i l j → a ≡ a' → ComesDown M u v (suc n)
        by meeting m z =
            let b' : s < arity l = subst (λ n. s < n) m.arities b in
            let ih = r s t.0 b' (t.0, t.1, m.alike s t.0 b) in
            more M (alike M (ih.0 u (over_f z m u p s b o h)
            (t.0, (t.0, t.1, m.alike s t.0 b))) (alike_meet k i l j m s v b))
        by (crossing j') m z =
            comes l j' (to_copy_f j' z u p s b o h)
            ((rewrites.nodes (born (arity l + s)) l j').1 (of_g j' z b))
            (λ q d b' c. rises k i
            (linked_sym M (slot (born q) (suc s)) (slot (born (arity l + s)) (suc q))
            (between_copies j' z s q b b')) ((rewrites.nodes (born q) k i).1 (of_f j' z b')) b
            (let x : ComesOut (rise k i s ∷ v) (up l j q (up k i s d)) =
            (up l j' q d, c, m.commute s q d b b') in
            alike M ((r q (up k i s d) b' x).0 (slot (born q) 0) (copy_at_g j' z q b')
            (up k i s d, x)) (alike_on k i l j j' m s q v b b')))

    pass_g : (v : List Change) (n s : ℕ) → Branches f k i (rise l j s ∷ v) n →
        (u p : NamedPort A) → Pending u p → Linked N p (slot g (suc s)) → s < arity l → Passes v →
        ComesDown M u v (suc n)
    unfolding Branches
    pass_g v n s r u p o h b t = by a suits refl
      where
        by : (a' : Action) → Suits a' k i l j → a ≡ a' → ComesDown M u v (suc n)
        by meeting m z =
            let b' : s < arity k = subst (λ n. s < n) (sym m.arities) b in
            let x : ComesOut (rise l j s ∷ v) (up k i s t.0) = (t.0, t.1, sym (m.alike s t.0 b')) in
            more M (alike M ((r s t.0 b' x).0 u (over_g z m u p s b' o h) (t.0, x))
            (alike_meet_back k i l j m s v b' b))
        by (crossing j') m z =
            comes k i (to_copy_g j' z u p s b o h)
            ((rewrites.nodes (born s) k i).1 (of_f j' z b))
            (λ q d b' c. rises l j' (between_copies j' z q s b' b)
            ((rewrites.nodes (born (arity l + q)) l j').1 (of_g j' z b')) b
            (let x : ComesOut (rise l j s ∷ v) (up k i q (up l j' s d)) =
            (up k i q d, c, sym (m.commute q s d b' b)) in
            alike M ((r q (up l j' s d) b' x).0 (slot (born (arity l + q)) 0) (copy_at_f j' z q b')
            (up l j' s d, x)) (alike_back k i l j j' m q s v b' b)))

    no_ends : (p : NamedPort A) (q : ℕ) (x : A) → Linked N p (free q) → free q ≡ slot x 0 → ⊥
    no_ends p q x h e = cc

    no_aux : (x y : A) (s : ℕ) → slot x (suc s) ≡ slot y 0 → ⊥
    no_aux x y s e = let z : suc s ≡ 0 = cc in absurd (omega arith)

    same_node : (x y : A) → slot x 0 ≡ slot y 0 → x ≡ y
    same_node x y e = cc

    -- a walk that has left f by its slot 0 comes to g's
    at_g_from : (p : NamedPort A) (w : List Change) (n : ℕ) (x : A) (m : Kind) (d : ℕ) →
        Linked N p (slot x 0) → HasNode N x m d → Branches x m d w n → p ≡ slot f 0 →
        Branches g l j w n
    at_g_from p w n x m d h hx r e =
        let y = same_node x g (only_g p (slot x 0) e h) in
        let z = is_g x m d y hx in
        as_branches x g m l d j w n y z.0 z.1 r

    at_f_from : (p : NamedPort A) (w : List Change) (n : ℕ) (x : A) (m : Kind) (d : ℕ) →
        Linked N p (slot x 0) → HasNode N x m d → Branches x m d w n → p ≡ slot g 0 →
        Branches f k i w n
    at_f_from p w n x m d h hx r e =
        let y = same_node x f (only_f p (slot x 0) e h) in
        let z = is_f x m d y hx in
        as_branches x f m k d i w n y z.0 z.1 r

    follow : {p : NamedPort A} {w : List Change} {n : ℕ} → ComesDown N p w n → Followed p w n
    unfolding Branches
    follow {p = p} {w = w} {n = n} (leaves q h) = (
      λ u o t. leaves q (next_link (levels []) u p (free q) o h (free_port q).outside),
      λ e u p' s v o h' b t z. absurd (no_ends p q g h (only_g p (free q) e h)),
      λ e u p' s v o h' b t z. absurd (no_ends p q f h (only_f p (free q) e h)),
    )
    follow {p = p} {w = w} {n = n} (rises {x = x} {s = s} m d h hx b r) = (
      upward p w n x m d s h hx b (follow r),
      λ e u p' s' v o h' b' t z. absurd (no_aux x g s (only_g p (slot x (suc s)) e h)),
      λ e u p' s' v o h' b' t z. absurd (no_aux x f s (only_f p (slot x (suc s)) e h)),
    )
    follow {p = p} {w = w} (comes {n = n} {x = x} m d h hx r) =
        let ih : Branches x m d w n = λ s c b t. follow (r s c b t) in (
          λ u o t. downward p w n x m d h hx ih u o,
          λ e u p' s v o h' b t z. pass_f v n s
              (subst (λ w. Branches g l j w n) z (at_g_from p w n x m d h hx ih e)) u p' o h' b t,
          λ e u p' s v o h' b t z. pass_g v n s
              (subst (λ w. Branches f k i w n) z (at_f_from p w n x m d h hx ih e)) u p' o h' b t,
        )

    everything : Passes []
    everything = (levels [], tt)

    -- walks from a node that stays
    pub of_old : (x : A) (m : Kind) (d n : ℕ) → HasNode N x m d → x ≢ f → x ≢ g →
        ComesDown N (slot x 0) [] n → ComesDown M (slot x 0) [] n
    of_old x m d n h y z r = (follow r).0 (slot x 0) (old_port x 0 m d h y z) everything

    -- walks from f, which come to g first
    pub record Down (m : Kind) (n : ℕ) (first : ℕ → A) : Type 0 where
      pub less : ℕ
      pub is : n ≡ suc less
      pub copies : (j' q : ℕ) → a ≡ crossing j' → q < arity m → ComesDown M (slot (first q) 0) [] less

    pub down_f : {p : NamedPort A} {w : List Change} {n : ℕ} → ComesDown N p w n → p ≡ slot f 0 →
        w ≡ [] → Down l n born
    unfolding Branches
    down_f r e z = go r e z
      where
        go : {p : NamedPort A} {w : List Change} {n : ℕ} → ComesDown N p w n → p ≡ slot f 0 →
            w ≡ [] → Down l n born
        go {p = p} (leaves q h) e z = absurd (no_ends p q g h (only_g p (free q) e h))
        go {p = p} (rises {x = x} {s = s} m d h hx b r) e z =
            absurd (no_aux x g s (only_g p (slot x (suc s)) e h))
        go {p = p} {w = w} (comes {n = n} {x = x} m d h hx r) e z =
            let ih : Branches x m d w n = λ s c b t. follow (r s c b t) in
            let ih' = subst (λ w. Branches g l j w n) z (at_g_from p w n x m d h hx ih e) in
            record {
              less = n;
              is = refl;
              copies = λ j' q y b. alike M ((ih' q (levels []) b tt).0 (slot (born q) 0)
                  (copy_at_g j' y q b) (levels [], tt)) (λ d. (λ t. tt, λ t. tt));
            }

    pub down_g : {p : NamedPort A} {w : List Change} {n : ℕ} → ComesDown N p w n → p ≡ slot g 0 →
        w ≡ [] → Down k n (λ q. born (arity l + q))
    unfolding Branches
    down_g r e z = go r e z
      where
        go : {p : NamedPort A} {w : List Change} {n : ℕ} → ComesDown N p w n → p ≡ slot g 0 →
            w ≡ [] → Down k n (λ q. born (arity l + q))
        go {p = p} (leaves q h) e z = absurd (no_ends p q f h (only_f p (free q) e h))
        go {p = p} (rises {x = x} {s = s} m d h hx b r) e z =
            absurd (no_aux x f s (only_f p (slot x (suc s)) e h))
        go {p = p} {w = w} (comes {n = n} {x = x} m d h hx r) e z =
            let ih : Branches x m d w n = λ s c b t. follow (r s c b t) in
            let ih' = subst (λ w. Branches f k i w n) z (at_f_from p w n x m d h hx ih e) in
            record {
              less = n;
              is = refl;
              copies = λ j' q y b. alike M ((ih' q (levels []) b tt).0 (slot (born (arity l + q)) 0)
                  (copy_at_f j' y q b) (levels [], tt)) (λ d. (λ t. tt, λ t. tt));
            }
