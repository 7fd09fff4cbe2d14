-- A path is followed through a step: passes of the pair go, or their up and down change places, and
-- all else stays.
use Rattle.std.proofs.Common.{◌≡◌, ◌≢◌, ℕ, suc, ◌+◌, ◌<◌, ◌⊎◌, inl, inr, List, ◌∷◌, refl, sym, ap, ◌∙◌, subst, arith}
use Rattle.ol_law_edges.specs.Edges.{Joined, here, on, back, Edge}
use Rattle.ol_net.specs.Nets.{NamedPort, free, slot, NamedNet, HasNode, Linked, IsNet, Faces}
use Rattle.ol_net.specs.Nets.{IsPrincipalOf, IsSlotOf, IsPort}
use Rattle.ol_net.specs.Parts.{arity}
use Rattle.ol_net.specs.declared.parts.Kind.{Kind}
use Rattle.ol_context.specs.Contexts.{Context, up}
use Rattle.ol_context.specs.Paths.{inward, outward, Path, ends, goes}
use Rattle.ol_context.specs.Ways.{Way, start}
use Rattle.ol_context.specs.Ways as ways
use Rattle.ol_context.proofs.Contexts.{injective}
use Rattle.ol_invariance.proofs.Moves.{Meets, Suits}
use Rattle.ol_rules.proofs.FreshPairs.{linked_sym}
use Rattle.ol_rules.specs.Laws.{IsFresh}
use Rattle.ol_rules.specs.Rewriting.{Action, meeting, crossing, JoinOf, meet, at_f, at_g, between}
use Rattle.ol_rules.specs.Rewriting.{left, of_f, of_g, Rewrites}
use Rattle.ol_law_completeness.specs.Rows.{Crossing, rise, fall, row}
use Rattle.ol_invariance.proofs.Trails.{no_return}
use Rattle.ol_law_completeness.proofs.Rows.{Shorter, nil, rises, sinks, meets, crosses}

module _ {A : Type 0} (N : NamedNet A) (f g : A) (k : Kind) (i : ℕ) (l : Kind) (j : ℕ) (a : Action)
    (born : ℕ → A) where
  -- a copy's slot 0, and the slot to which it is joined
  data Copied : NamedPort A → NamedPort A → Type 0 where
    of_first : {s j' : ℕ} → a ≡ crossing j' → s < arity k →
        Copied (slot (born (arity l + s)) 0) (slot f (suc s))
    of_second : {s j' : ℕ} → a ≡ crossing j' → s < arity l →
        Copied (slot (born s) 0) (slot g (suc s))

  abbrev K : NamedPort A → NamedPort A → Type 0
  K = Edge (Linked N) (IsPrincipalOf f g) (JoinOf born f g k l a)

  -- port u is of the net before, and a way leads from there that comes back with the same context
  record Old (u p : NamedPort A) : Type 0 where
    apart : (n s : ℕ) → u ≡ slot (born n) s → ⊥
    way : (c : Context) → (n : ℕ) × Way N u c n p c

  -- The walk after the step left by port u, the one before it by port p: to what p is linked, to
  -- that u is joined.
  record Pending (u p : NamedPort A) : Type 0 where
    outside : IsSlotOf f g u → ⊥
    auxiliary : IsPrincipalOf f g p → ⊥
    joined : Joined K u p
    source : Old u p ⊎ Copied u p

  module _ (is_net : IsNet N) (faces : Faces N f g k i l j) (fresh : IsFresh N born)
      (M : NamedNet A) (rewrites : Rewrites born N f g k i l a M)
      (same_name : (x y : A) → (x ≡ y) ⊎ (x ≢ y)) (suits : Suits a k i l j) where
    no_name : (x : A) (m : Kind) (n p s t : ℕ) → HasNode N x m n → slot x s ≡ slot (born p) t → ⊥
    no_name x m n p s t h e = fresh.unused x m n p h (cc)

    not_born : (n s : ℕ) → IsSlotOf f g (slot (born n) s) → ⊥
    not_born n s (t, inl e) = no_name f k i n t s faces.first (sym e)
    not_born n s (t, inr e) = no_name g l j n t s faces.second (sym e)

    port_not_born : (v : NamedPort A) → IsPort N v → (n s : ℕ) → v ≡ slot (born n) s → ⊥
    port_not_born (free q) h n s e = absurd (cc)
    port_not_born (slot x t) h n s e = no_name x h.0 h.1 n t s h.2 e

    back_link : Linked N (slot g 0) (slot f 0)
    back_link = linked_sym N (slot f 0) (slot g 0) faces.linked

    -- a port that stays is its own end
    old_port : (x : A) (s : ℕ) (m : Kind) (n : ℕ) → HasNode N x m n → x ≢ f → x ≢ g →
        Pending (slot x s) (slot x s)
    old_port x s m n h u w = record {
      outside = outside;
      auxiliary = auxiliary;
      joined = here;
      source = inl (record { apart = λ p t e. no_name x m n p s t h e; way = λ c. (0, start) });
    }
      where
        outside : IsSlotOf f g (slot x s) → ⊥
        outside (t, inl e) = u (cc)
        outside (t, inr e) = w (cc)

        auxiliary : IsPrincipalOf f g (slot x s) → ⊥
        auxiliary (inl e) = u (cc)
        auxiliary (inr e) = w (cc)

    free_port : (q : ℕ) → Pending (free q) (free q)
    free_port q = record {
      outside = outside;
      auxiliary = auxiliary;
      joined = here;
      source = inl (record { apart = λ p t e. absurd (cc); way = λ c. (0, start) });
    }
      where
        outside : IsSlotOf f g (free q) → ⊥
        outside (t, inl e) = absurd (cc)
        outside (t, inr e) = absurd (cc)

        auxiliary : IsPrincipalOf f g (free q) → ⊥
        auxiliary (inl e) = absurd (cc)
        auxiliary (inr e) = absurd (cc)

    -- the next link, to a port that stays
    next_link : (c : Context) (u p v : NamedPort A) → Pending u p → Linked N p v →
        (IsSlotOf f g v → ⊥) → Linked M u v
    next_link c u p v w h n = (rewrites.links u v).1 (record {
      first = w.outside;
      second = n;
      apart = λ e. apart w.source e;
      joined = on w.joined (inl (h, w.auxiliary, λ x. n (principal_slot x)));
    })
      where
        principal_slot : IsPrincipalOf f g v → IsSlotOf f g v
        principal_slot (inl e) = (0, inl e)
        principal_slot (inr e) = (0, inr e)

        copied : {x y : NamedPort A} → Copied x y → x ≡ v → ⊥
        copied (of_first {s = s} z b) e =
            port_not_born v (is_net.of_ports p v h).1 (arity l + s) 0 (sym e)
        copied (of_second {s = s} z b) e = port_not_born v (is_net.of_ports p v h).1 s 0 (sym e)

        apart : Old u p ⊎ Copied u p → u ≡ v → ⊥
        apart (inl o) e = let t = o.way c in
            no_return N is_net t.0 t.1 (subst (λ x. Linked N x p) (sym e) (linked_sym N p v h)) refl
        apart (inr o) e = copied o e

    not_principal : (x : A) (s : ℕ) → IsPrincipalOf f g (slot x (suc s)) → ⊥
    not_principal x s (inl e) = let z : suc s ≡ 0 = cc in absurd (omega arith)
    not_principal x s (inr e) = let z : suc s ≡ 0 = cc in absurd (omega arith)

    abbrev to_gone : (u p : NamedPort A) (x : A) (s : ℕ) → Pending u p →
        Linked N p (slot x (suc s)) → Joined K u (slot x (suc s))
    to_gone u p x s w h = on w.joined (inl (h, w.auxiliary, not_principal x s))

    none_copied : a ≡ meeting → {x y : NamedPort A} → Copied x y → ⊥
    none_copied z (of_first {j' = j'} y b) = let e : meeting ≡ crossing j' = sym z ∙ y in
        absurd (cc)
    none_copied z (of_second {j' = j'} y b) = let e : meeting ≡ crossing j' = sym z ∙ y in
        absurd (cc)

    -- where the pair meets, the walk goes on by the other node's slot of the same number
    over_f : a ≡ meeting → Meets k i l j → (u p : NamedPort A) (s : ℕ) → s < arity k → Pending u p →
        Linked N p (slot f (suc s)) → Pending u (slot g (suc s))
    over_f z m u p s b w h = record {
      outside = w.outside;
      auxiliary = not_principal g s;
      joined = on (to_gone u p f s w h) (inr (meet z b));
      source = source w.source;
    }
      where
        source : Old u p ⊎ Copied u p → Old u (slot g (suc s)) ⊎ Copied u (slot g (suc s))
        source (inl o) = inl (record {
          apart = o.apart;
          way = λ c. (let t = o.way c in (
            suc (suc t.0),
            ways.on (ways.on t.1 h faces.first (inward b refl)) faces.linked
                faces.second (outward (subst (λ n. s < n) m.arities b) (sym (m.alike s c b))),
          ));
        })
        source (inr o) = absurd (none_copied z o)

    over_g : a ≡ meeting → Meets k i l j → (u p : NamedPort A) (s : ℕ) → s < arity k → Pending u p →
        Linked N p (slot g (suc s)) → Pending u (slot f (suc s))
    over_g z m u p s b w h = record {
      outside = w.outside;
      auxiliary = not_principal f s;
      joined = back (to_gone u p g s w h) (inr (meet z b));
      source = source w.source;
    }
      where
        source : Old u p ⊎ Copied u p → Old u (slot f (suc s)) ⊎ Copied u (slot f (suc s))
        source (inl o) = inl (record {
          apart = o.apart;
          way = λ c. (let t = o.way c in (
            suc (suc t.0),
            ways.on (ways.on t.1 h faces.second (inward (subst (λ n. s < n) m.arities b) refl))
                back_link faces.first (outward b (m.alike s c b)),
          ));
        })
        source (inr o) = absurd (none_copied z o)

    -- where the two cross, it goes on by copies
    module _ (j' : ℕ) (z : a ≡ crossing j') where
      to_copy_f : (u p : NamedPort A) (s : ℕ) → s < arity k → Pending u p →
          Linked N p (slot f (suc s)) → Linked M u (slot (born (arity l + s)) 0)
      to_copy_f u p s b w h = (rewrites.links u (slot (born (arity l + s)) 0)).1 (record {
        first = w.outside;
        second = not_born (arity l + s) 0;
        apart = λ e. apart w.source e;
        joined = back (to_gone u p f s w h) (inr (at_f j' z b));
      })
        where
          copied : {x y : NamedPort A} → Copied x y → y ≡ p → x ≡ slot (born (arity l + s)) 0 → ⊥
          copied (of_first {s = t} z' b') y e =
              let r : arity l + t ≡ arity l + s = fresh.apart (arity l + t) (arity l + s) (cc) in
              let r' : s ≡ t = omega arith in
              is_net.apart p (subst (λ v. Linked N p v) (ap (λ n. slot f (suc n)) r' ∙ y) h)
          copied (of_second {s = t} z' b') y e = let r : t ≡ arity l + s =
              fresh.apart t (arity l + s) (cc) in absurd (omega arith)

          apart : Old u p ⊎ Copied u p → u ≡ slot (born (arity l + s)) 0 → ⊥
          apart (inl o) e = o.apart (arity l + s) 0 e
          apart (inr o) e = copied o refl e

      to_copy_g : (u p : NamedPort A) (s : ℕ) → s < arity l → Pending u p →
          Linked N p (slot g (suc s)) → Linked M u (slot (born s) 0)
      to_copy_g u p s b w h = (rewrites.links u (slot (born s) 0)).1 (record {
        first = w.outside;
        second = not_born s 0;
        apart = λ e. apart w.source e;
        joined = back (to_gone u p g s w h) (inr (at_g j' z b));
      })
        where
          copied : {x y : NamedPort A} → Copied x y → y ≡ p → x ≡ slot (born s) 0 → ⊥
          copied (of_first {s = t} z' b') y e = let r : arity l + t ≡ s =
              fresh.apart (arity l + t) s (cc) in absurd (omega arith)
          copied (of_second {s = t} z' b') y e =
              let r : t ≡ s = fresh.apart t s (cc) in
              is_net.apart p (subst (λ v. Linked N p v) (ap (λ n. slot g (suc n)) (sym r) ∙ y) h)

          apart : Old u p ⊎ Copied u p → u ≡ slot (born s) 0 → ⊥
          apart (inl o) e = o.apart s 0 e
          apart (inr o) e = copied o refl e

      between_copies : (s t : ℕ) → s < arity k → t < arity l →
          Linked M (slot (born t) (suc s)) (slot (born (arity l + s)) (suc t))
      between_copies s t b b' =
          (rewrites.links (slot (born t) (suc s)) (slot (born (arity l + s)) (suc t))).1 (record {
            first = not_born t (suc s);
            second = not_born (arity l + s) (suc t);
            apart = λ e. (let r : t ≡ arity l + s = fresh.apart t (arity l + s) (cc) in
                absurd (omega arith));
            joined = on here (inr (between j' z b b'));
          })

      copy_at_f : (s : ℕ) → s < arity k → Pending (slot (born (arity l + s)) 0) (slot f (suc s))
      copy_at_f s b = record {
        outside = not_born (arity l + s) 0;
        auxiliary = not_principal f s;
        joined = on here (inr (at_f j' z b));
        source = inr (of_first z b);
      }

      copy_at_g : (s : ℕ) → s < arity l → Pending (slot (born s) 0) (slot g (suc s))
      copy_at_g s b = record {
        outside = not_born s 0;
        auxiliary = not_principal g s;
        joined = on here (inr (at_g j' z b));
        source = inr (of_second z b);
      }

    -- ---- a path, crossing after crossing

    record After (u : NamedPort A) (c : Context) (q : ℕ) (X : Context)
        (v : List (Crossing A)) : Type 0 where
      path : Path M u c q X
      shorter : Shorter f g v (row path)

    -- From a port that is no slot 0 of the pair the path goes on. From such a slot 0 it goes on as
    -- the second half of a pass; y is the node that was entered.
    abbrev Followed : {p : NamedPort A} {c : Context} {q : ℕ} {X : Context} → Path N p c q X →
        Type 0
    Followed {p} {c} {q} {X} r =
        ((u : NamedPort A) → Pending u p → After u c q X (row r))
        × (p ≡ slot f 0 → (y : A) (u p' : NamedPort A) (s : ℕ) (c' : Context) → Pending u p' →
        Linked N p' (slot f (suc s)) → s < arity k → up k i s c' ≡ c →
        After u c' q X (rise y ∷ row r))
        × (p ≡ slot g 0 → (y : A) (u p' : NamedPort A) (s : ℕ) (c' : Context) → Pending u p' →
        Linked N p' (slot g (suc s)) → s < arity l → up l j s c' ≡ c →
        After u c' q X (rise y ∷ row r))

    only_g : (p v : NamedPort A) → p ≡ slot f 0 → Linked N p v → v ≡ slot g 0
    only_g p v e h =
        is_net.one_link (slot f 0) v (slot g 0) (subst (λ p. Linked N p v) e h) faces.linked

    only_f : (p v : NamedPort A) → p ≡ slot g 0 → Linked N p v → v ≡ slot f 0
    only_f p v e h =
        is_net.one_link (slot g 0) v (slot f 0) (subst (λ p. Linked N p v) e h) back_link

    as_f : (x : A) (m : Kind) (n s : ℕ) (c d : Context) → x ≡ f → HasNode N x m n → s < arity m →
        up m n s c ≡ d → (s < arity k) × (up k i s c ≡ d)
    as_f x m n s c d e h b q =
        let t = is_net.one_node f m k n i (subst (λ x. HasNode N x m n) e h) faces.first in (
          subst (λ m. s < arity m) t.0 b,
          subst (λ m. up m i s c ≡ d) t.0
              (subst (λ n. up m n s c ≡ d) t.1 q),
        )

    as_g : (x : A) (m : Kind) (n s : ℕ) (c d : Context) → x ≡ g → HasNode N x m n → s < arity m →
        up m n s c ≡ d → (s < arity l) × (up l j s c ≡ d)
    as_g x m n s c d e h b q =
        let t = is_net.one_node g m l n j (subst (λ x. HasNode N x m n) e h) faces.second in (
          subst (λ m. s < arity m) t.0 b,
          subst (λ m. up m j s c ≡ d) t.0
              (subst (λ n. up m n s c ≡ d) t.1 q),
        )

    upward : (p : NamedPort A) (c d : Context) (q : ℕ) (X : Context) (x : A) (m : Kind) (n s : ℕ) →
        Linked N p (slot x (suc s)) → HasNode N x m n → s < arity m → up m n s c ≡ d →
        (r : Path N (slot x 0) d q X) → Followed r →
        (u : NamedPort A) → Pending u p → After u c q X (rise x ∷ row r)
    upward p c d q X x m n s h hx b e r ih u w = by (same_name x f) (same_name x g)
      where
        by : (x ≡ f) ⊎ (x ≢ f) → (x ≡ g) ⊎ (x ≢ g) → After u c q X (rise x ∷ row r)
        by (inl y) z = let t = as_f x m n s c d y hx b e in
            ih.1 (ap (λ x. slot x 0) y) x u p s c w (subst (λ x. Linked N p (slot x (suc s))) y h)
            t.0 t.1
        by (inr y) (inl z) = let t = as_g x m n s c d z hx b e in
            ih.2 (ap (λ x. slot x 0) z) x u p s c w (subst (λ x. Linked N p (slot x (suc s))) z h)
            t.0 t.1
        by (inr y) (inr z) =
            let o = old_port x (suc s) m n hx y z in
            let t = ih.0 (slot x 0) (old_port x 0 m n hx y z) in
            record {
              path =
                  goes (next_link c u p (slot x (suc s)) w h o.outside)
                  ((rewrites.nodes x m n).1 (left hx y z)) (inward b e) t.path;
              shorter = rises t.shorter;
            }

    downward : (p : NamedPort A) (c d : Context) (q : ℕ) (X : Context) (x : A) (m : Kind)
        (n s : ℕ) → Linked N p (slot x 0) → HasNode N x m n → s < arity m → up m n s d ≡ c →
        (r : Path N (slot x (suc s)) d q X) → Followed r →
        (u : NamedPort A) → Pending u p → After u c q X (fall x ∷ row r)
    downward p c d q X x m n s h hx b e r ih u w = by (same_name x f) (same_name x g)
      where
        by : (x ≡ f) ⊎ (x ≢ f) → (x ≡ g) ⊎ (x ≢ g) → After u c q X (fall x ∷ row r)
        by (inl y) z =
            absurd (w.auxiliary
            (inr (only_g (slot x 0) p (ap (λ x. slot x 0) y) (linked_sym N p (slot x 0) h))))
        by (inr y) (inl z) =
            absurd (w.auxiliary
            (inl (only_f (slot x 0) p (ap (λ x. slot x 0) z) (linked_sym N p (slot x 0) h))))
        by (inr y) (inr z) =
            let o = old_port x 0 m n hx y z in
            let t = ih.0 (slot x (suc s)) (old_port x (suc s) m n hx y z) in
            record {
              path =
                  goes (next_link c u p (slot x 0) w h o.outside)
                  ((rewrites.nodes x m n).1 (left hx y z)) (outward b e) t.path;
              shorter = sinks y z t.shorter;
            }

    -- in by slot s of f, out by slot t of g
    pass_f : (c d : Context) (q : ℕ) (X : Context) (x : A) (t : ℕ) → x ≡ g → t < arity l →
        up l j t d ≡ c → (r : Path N (slot x (suc t)) d q X) → Followed r →
        (y : A) (u p : NamedPort A) (s : ℕ) (c' : Context) → Pending u p →
        Linked N p (slot f (suc s)) → s < arity k → up k i s c' ≡ c →
        After u c' q X (rise y ∷ fall x ∷ row r)
    pass_f c d q X x t ex b e r ih y u p s c' w h b' e' = by a suits refl
      where
        by : (a' : Action) → Suits a' k i l j → a ≡ a' → After u c' q X (rise y ∷ fall x ∷ row r)
        by meeting m z =
            let b2 : t < arity k = subst (λ n. t < n) (sym m.arities) b in
            let v = injective k i s t c' d b' b2 (e' ∙ sym (m.alike t d b2 ∙ e)) in
            let w' = subst (λ x. Pending u (slot x (suc t))) (sym ex)
            (over_f z m u p t b2 w (subst (λ s. Linked N p (slot f (suc s))) v.0 h)) in
            let o = ih.0 u w' in
            subst (λ c. After u c q X (rise y ∷ fall x ∷ row r)) (sym v.1) (record {
              path = o.path;
              shorter = meets o.shorter;
            })
        by (crossing j') m z =
            let v = m.pull s t c' d b' b (e' ∙ sym e) in
            let o = ih.0 (slot (born t) 0) (subst (λ x. Pending (slot (born t) 0) (slot x (suc t)))
            (sym ex) (copy_at_g j' z t b)) in
            let k1 = linked_sym M (slot (born t) (suc s)) (slot (born (arity l + s)) (suc t))
            (between_copies j' z s t b' b) in
            record {
              path = goes (to_copy_f j' z u p s b' w h)
                  ((rewrites.nodes (born (arity l + s)) l j').1 (of_g j' z b')) (outward b v.1)
                  (goes k1 ((rewrites.nodes (born t) k i).1 (of_f j' z b)) (inward b' v.2) o.path);
              shorter = crosses o.shorter;
            }

    pass_g : (c d : Context) (q : ℕ) (X : Context) (x : A) (t : ℕ) → x ≡ f → t < arity k →
        up k i t d ≡ c → (r : Path N (slot x (suc t)) d q X) → Followed r →
        (y : A) (u p : NamedPort A) (s : ℕ) (c' : Context) → Pending u p →
        Linked N p (slot g (suc s)) → s < arity l → up l j s c' ≡ c →
        After u c' q X (rise y ∷ fall x ∷ row r)
    pass_g c d q X x t ex b e r ih y u p s c' w h b' e' = by a suits refl
      where
        by : (a' : Action) → Suits a' k i l j → a ≡ a' → After u c' q X (rise y ∷ fall x ∷ row r)
        by meeting m z =
            let b2 : s < arity k = subst (λ n. s < n) (sym m.arities) b' in
            let v = injective k i s t c' d b2 b (m.alike s c' b2 ∙ e' ∙ sym e) in
            let w' = subst (λ x. Pending u (slot x (suc t))) (sym ex)
            (over_g z m u p t b w (subst (λ s. Linked N p (slot g (suc s))) v.0 h)) in
            let o = ih.0 u w' in
            subst (λ c. After u c q X (rise y ∷ fall x ∷ row r)) (sym v.1) (record {
              path = o.path;
              shorter = meets o.shorter;
            })
        by (crossing j') m z =
            let v = m.pull t s d c' b b' (e ∙ sym e') in
            let o = ih.0 (slot (born (arity l + t)) 0) (subst (λ x.
            Pending (slot (born (arity l + t)) 0) (slot x (suc t))) (sym ex)
            (copy_at_f j' z t b)) in
            record {
              path = goes (to_copy_g j' z u p s b' w h) ((rewrites.nodes (born s) k i).1
                  (of_f j' z b')) (outward b v.2) (goes (between_copies j' z t s b b')
                  ((rewrites.nodes (born (arity l + t)) l j').1 (of_g j' z b)) (inward b' v.1)
                  o.path);
              shorter = crosses o.shorter;
            }

    no_ends : (p : NamedPort A) (q : ℕ) (x : A) → Linked N p (free q) → free q ≡ slot x 0 → ⊥
    no_ends p q x h e = cc

    no_aux : (x y : A) (s : ℕ) → slot x (suc s) ≡ slot y 0 → ⊥
    no_aux x y s e = let z : suc s ≡ 0 = cc in absurd (omega arith)

    follow : {p : NamedPort A} {c : Context} {q : ℕ} {X : Context} (r : Path N p c q X) → Followed r
    follow (ends {p = p} {c = c} {q = q} h) = (
      λ u w. record {
        path = ends (next_link c u p (free q) w h (free_port q).outside);
        shorter = nil;
      },
      λ e y u p' s c' w h' b z. absurd (no_ends p q g h (only_g p (free q) e h)),
      λ e y u p' s c' w h' b z. absurd (no_ends p q f h (only_f p (free q) e h)),
    )
    follow {X = X} (goes {p = p} {c = c} {d = d} {x = x} {k = m} {i = n}
        {q = q} h hx (inward {s = s} b e) r) = (
          upward p c d q X x m n s h hx b e r (follow r),
          λ e' y u p' s' c' w h' b' z. absurd (no_aux x g s (only_g p (slot x (suc s)) e' h)),
          λ e' y u p' s' c' w h' b' z. absurd (no_aux x f s (only_f p (slot x (suc s)) e' h)),
        )
    follow {X = X} (goes {p = p} {c = c} {d = d} {x = x} {k = m} {i = n}
        {q = q} h hx (outward {s = t} b e) r) = (
          downward p c d q X x m n t h hx b e r (follow r),
          λ e'. (
              let y : slot x 0 ≡ slot g 0 = only_g p (slot x 0) e' h in
              let ex : x ≡ g = cc in
              let v = as_g x m n t d c ex hx b e in
              pass_f c d q X x t ex v.0 v.1 r (follow r)
              ),
          λ e'. (
              let y : slot x 0 ≡ slot f 0 = only_f p (slot x 0) e' h in
              let ex : x ≡ f = cc in
              let v = as_f x m n t d c ex hx b e in
              pass_g c d q X x t ex v.0 v.1 r (follow r)
              ),
        )

    pub followed : {p q : ℕ} {c X : Context} (r : Path N (free p) c q X) →
        (t : Path M (free p) c q X) × Shorter f g (row r) (row t)
    followed {p = p} r = let o = (follow r).0 (free p) (free_port p) in (o.path, o.shorter)
