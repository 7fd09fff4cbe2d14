-- Which nodes face an active partner after a step and did not before.
use Rattle.std.proofs.Common.{◌≡◌, ◌≢◌, ℕ, suc, zero, ◌+◌, ◌⊎◌, inl, inr, refl, sym, ap, subst, arith}
use Rattle.ol_law_edges.specs.Edges.{Edge, Contracted}
use Rattle.ol_law_edges.proofs.Composing.{joined_keeps}
use Rattle.ol_net.specs.declared.parts.Kind.{Kind}
use Rattle.ol_net.specs.declared.parts.Rule.{Rule}
use Rattle.ol_net.specs.Parts.{arity}
use Rattle.ol_net.specs.Nets.{NamedPort, free, slot, NamedNet, HasNode, Linked, IsPort, IsNet}
use Rattle.ol_net.specs.Nets.{Faces, IsPrincipalOf, IsSlotOf}
use Rattle.ol_net.specs.Pairs.{IsInActive}
use Rattle.ol_rules.specs.Rewriting.{Action, JoinOf, meet, at_f, at_g, between, NodeOf, left, of_f, of_g, Rewrites}

pub linked_sym : {A : Type 0} (N : NamedNet A) (p q : NamedPort A) → Linked N p q → Linked N q p
linked_sym N p q (inl h) = inr h
linked_sym N p q (inr h) = inl h

-- a step of f and g, whose born nodes are new
module _ {A : Type 0} (same : (x y : A) → (x ≡ y) ⊎ (x ≢ y)) (N M : NamedNet A) (is_net : IsNet N)
    (born : ℕ → A) (f g : A) (k : Kind) (i : ℕ) (l : Kind) (j : ℕ) (a : Action)
    (faces : Faces N f g k i l j) (r : Rewrites born N f g k i l a M)
    (fresh : (p : ℕ) (m : Kind) (n : ℕ) → HasNode N (born p) m n → ⊥) where
  -- the principal port of x was linked to an auxiliary slot of f or g
  abbrev pub StoodBeside : A → Type 0
  StoodBeside x = (s : ℕ) × (Linked N (slot x 0) (slot f (suc s)) ⊎ Linked N (slot x 0) (slot g (suc s)))

  abbrev pub IsBornHere : A → Type 0
  IsBornHere x = (p : ℕ) × (x ≡ born p)

  abbrev E : NamedPort A → NamedPort A → Type 0
  E = Edge (Linked N) (IsPrincipalOf f g) (JoinOf born f g k l a)

  -- ends of joins are slots of the two nodes, or of born ones
  abbrev AtJoin : NamedPort A → Type 0
  AtJoin p = IsSlotOf f g p ⊎ ((n : ℕ) × (s : ℕ) × (p ≡ slot (born n) s))

  join_ends : (p q : NamedPort A) → JoinOf born f g k l a p q → AtJoin p × AtJoin q
  join_ends p q (meet {s = s} e b) = (inl (suc s, inl refl), inl (suc s, inr refl))
  join_ends p q (at_f {p = u} n e b) = (inr (arity l + u, 0, refl), inl (suc u, inl refl))
  join_ends p q (at_g {q = u} n e b) = (inr (u, 0, refl), inl (suc u, inr refl))
  join_ends p q (between {p = u} {q = v} n e b b') = (inr (v, suc u, refl), inr (arity l + u, suc v, refl))

  abbrev Near : NamedPort A → NamedPort A → Type 0
  Near p z = (p ≡ z) ⊎ Linked N p z

  -- a port that isn't one of these, and whose partner isn't one either, keeps its link
  link_stays : (p q : NamedPort A) → (AtJoin p → ⊥) →
      ((z : NamedPort A) → Linked N p z → AtJoin z → ⊥) → Linked M p q → Linked N p q
  link_stays p q off far h = go (joined_keeps (λ z. Near p z) forth back c.joined (inl refl))
    where
      c : Contracted E (IsSlotOf f g) p q
      c = (r.links p q).0 h

      next : (v w : NamedPort A) → Linked N v w → Near p v → Near p w
      next v w h (inl e) = inr (subst (λ z. Linked N z w) (sym e) h)
      next v w h (inr h') = inl (is_net.one_link v p w (linked_sym N p v h') h)

      not_at : (v : NamedPort A) → Near p v → AtJoin v → ⊥
      not_at v (inl e) t = off (subst (λ z. AtJoin z) (sym e) t)
      not_at v (inr h) t = far v h t

      forth : (v w : NamedPort A) → E v w → Near p v → Near p w
      forth v w (inl e) n = next v w e.0 n
      forth v w (inr e) n = absurd (not_at v n (join_ends v w e).0)

      back : (v w : NamedPort A) → E v w → Near p w → Near p v
      back v w (inl e) n = next w v (linked_sym N v w e.0) n
      back v w (inr e) n = absurd (not_at w n (join_ends v w e).1)

      go : (p ≡ q) ⊎ Linked N p q → Linked N p q
      go (inl e) = absurd (c.apart e)
      go (inr h) = h

  -- the node at a port of the net is not a born one
  old_port : (p : NamedPort A) (n s : ℕ) → IsPort N p → p ≡ slot (born n) s → ⊥
  old_port (free u) n s h e = cc
  old_port (slot x t) n s (m, v, h, b) e = let z : x ≡ born n = cc in fresh n m v (subst (λ x. HasNode N x m v) z h)

  node_before : (x : A) (m : Kind) (n : ℕ) → HasNode M x m n → (IsBornHere x → ⊥) → HasNode N x m n × (x ≢ f) × (x ≢ g)
  node_before x m n h out = go x m n ((r.nodes x m n).0 h) out
    where
      go : (x : A) (m : Kind) (n : ℕ) → NodeOf N born f g k i l a x m n → (IsBornHere x → ⊥) →
          HasNode N x m n × (x ≢ f) × (x ≢ g)
      go x m n (left h y z) out = (h, y, z)
      go x m n (of_f {q = q} u e b) out = absurd (out (q, refl))
      go x m n (of_g {p = p} u e b) out = absurd (out (arity l + p, refl))

  -- where x was there, and stood beside none of the two, its principal port keeps its link
  stays : (x y : A) (m m' : Kind) (n n' : ℕ) → HasNode M x m n → HasNode M y m' n' →
      Linked M (slot x 0) (slot y 0) → (IsBornHere x → ⊥) → (StoodBeside x → ⊥) →
      HasNode N x m n × HasNode N y m' n' × Linked N (slot x 0) (slot y 0)
  stays x y m m' n n' hx hy h out apart = (old.0, young.0, link)
    where
      old : HasNode N x m n × (x ≢ f) × (x ≢ g)
      old = node_before x m n hx out

      off : AtJoin (slot x 0) → ⊥
      off (inl (s, inl e)) = old.1 (cc)
      off (inl (s, inr e)) = old.2 (cc)
      off (inr (u, s, e)) = out (u, cc)

      at_slot : (z : NamedPort A) (s : ℕ) → Linked N (slot x 0) z → (z ≡ slot f s) ⊎ (z ≡ slot g s) → ⊥
      at_slot z zero h (inl e) =
          let c = subst (λ z. Linked N (slot x 0) z) e h in
          let d = is_net.one_link (slot f 0) (slot x 0) (slot g 0)
          (linked_sym N (slot x 0) (slot f 0) c) faces.linked in
          old.2 (cc)
      at_slot z zero h (inr e) =
          let c = subst (λ z. Linked N (slot x 0) z) e h in
          let d = is_net.one_link (slot g 0) (slot x 0) (slot f 0)
          (linked_sym N (slot x 0) (slot g 0) c) (linked_sym N (slot f 0) (slot g 0) faces.linked) in
          old.1 (cc)
      at_slot z (suc s) h (inl e) = apart (s, inl (subst (λ z. Linked N (slot x 0) z) e h))
      at_slot z (suc s) h (inr e) = apart (s, inr (subst (λ z. Linked N (slot x 0) z) e h))

      far : (z : NamedPort A) → Linked N (slot x 0) z → AtJoin z → ⊥
      far z h (inl (s, t)) = at_slot z s h t
      far z h (inr (u, s, e)) = old_port z u s (is_net.of_ports (slot x 0) z h).1 e

      link : Linked N (slot x 0) (slot y 0)
      link = link_stays (slot x 0) (slot y 0) off far h

      y_out : IsBornHere y → ⊥
      y_out (u, e) = old_port (slot y 0) u 0 (is_net.of_ports (slot x 0) (slot y 0) link).1 (ap (λ z. slot z 0) e)

      young : HasNode N y m' n' × (y ≢ f) × (y ≢ g)
      young = node_before y m' n' hy y_out

  still_active : (x : A) (t : Rule) → IsInActive M x t → (IsBornHere x → ⊥) → (StoodBeside x → ⊥) → IsInActive N x t
  still_active x t (y, inl c) out apart =
      let s = stays x y c.k c.l c.i c.j c.faces.first c.faces.second c.faces.linked out apart in (
        y,
        inl (record {
          k = c.k;
          i = c.i;
          l = c.l;
          j = c.j;
          faces = record { first = s.0; second = s.1; linked = s.2 };
          fits = c.fits;
        }),
      )
  still_active x t (y, inr c) out apart =
      let s = stays x y c.l c.k c.j c.i c.faces.second c.faces.first
      (linked_sym M (slot y 0) (slot x 0) c.faces.linked) out apart in (
        y,
        inr (record {
          k = c.k;
          i = c.i;
          l = c.l;
          j = c.j;
          faces = record {
            first = s.1;
            second = s.0;
            linked = linked_sym N (slot x 0) (slot y 0) s.2;
          };
          fits = c.fits;
        }),
      )

  stood : (x : A) (m : Kind) (n : ℕ) → HasNode N x m n → x ≢ f → x ≢ g → StoodBeside x ⊎ (StoodBeside x → ⊥)
  stood x m n h xf xg = go p.0 p.1
    where
      p : (q : NamedPort A) × Linked N (slot x 0) q
      p = is_net.some_link (slot x 0) (m, n, h, omega arith)

      not_it : (q : NamedPort A) → Linked N (slot x 0) q →
          ((s : ℕ) → (q ≢ slot f (suc s)) × (q ≢ slot g (suc s))) → StoodBeside x → ⊥
      not_it q c d (s, inl e) = (d s).0 (is_net.one_link (slot x 0) q (slot f (suc s)) c e)
      not_it q c d (s, inr e) = (d s).1 (is_net.one_link (slot x 0) q (slot g (suc s)) c e)

      at : (y : A) (s : ℕ) → Linked N (slot x 0) (slot y (suc s)) → (y ≡ f) ⊎ (y ≢ f) →
          (y ≡ g) ⊎ (y ≢ g) → StoodBeside x ⊎ (StoodBeside x → ⊥)
      at y s c (inl e) d = inl (s, inl (subst (λ y. Linked N (slot x 0) (slot y (suc s))) e c))
      at y s c (inr e) (inl d) = inl (s, inr (subst (λ y. Linked N (slot x 0) (slot y (suc s))) d c))
      at y s c (inr e) (inr d) = inr (not_it (slot y (suc s)) c (λ u. ((λ q. e (cc)), (λ q. d (cc)))))

      go : (q : NamedPort A) → Linked N (slot x 0) q → StoodBeside x ⊎ (StoodBeside x → ⊥)
      go (free n) c = inr (not_it (free n) c (λ u. ((λ q. cc), (λ q. cc))))
      go (slot y zero) c = inr (not_it (slot y 0) c
          (λ u. (
            (λ q. absurd (let e : 0 ≡ suc u = cc in omega arith)),
            (λ q. absurd (let e : 0 ≡ suc u = cc in omega arith)),
          )))
      go (slot y (suc s)) c = at y s c (same y f) (same y g)

  after_of : (x : A) (m : Kind) (n : ℕ) (t : Rule) → NodeOf N born f g k i l a x m n →
      IsInActive M x t → IsInActive N x t ⊎ (IsBornHere x ⊎ StoodBeside x)
  after_of x m n t (left h y z) c = go (stood x m n h y z)
    where
      go : StoodBeside x ⊎ (StoodBeside x → ⊥) → IsInActive N x t ⊎ (IsBornHere x ⊎ StoodBeside x)
      go (inl b) = inr (inr b)
      go (inr b) = inl (still_active x t c (λ z. fresh z.0 m n (subst (λ y. HasNode N y m n) z.1 h)) b)
  after_of x m n t (of_f {q = q} u e b) c = inr (inl (q, refl))
  after_of x m n t (of_g {p = p} u e b) c = inr (inl (arity l + p, refl))

  node_of : (x : A) (t : Rule) → IsInActive M x t → (m : Kind) × (n : ℕ) × HasNode M x m n
  node_of x t (y, inl c) = (c.k, c.i, c.faces.first)
  node_of x t (y, inr c) = (c.l, c.j, c.faces.second)

  -- what faces an active partner after the step did so before, or was born in it, or stood beside one of the two
  pub active_after : (x : A) (t : Rule) → IsInActive M x t → IsInActive N x t ⊎ (IsBornHere x ⊎ StoodBeside x)
  active_after x t c = let n = node_of x t c in after_of x n.0 n.1 t ((r.nodes x n.0 n.1).0 n.2) c

  -- and the two have gone
  pub gone : (x : A) (m : Kind) (n : ℕ) → HasNode M x m n → (x ≡ f) ⊎ (x ≡ g) → ⊥
  gone x m n h e = not_there x m n ((r.nodes x m n).0 h) e
    where
      not_there : (x : A) (m : Kind) (n : ℕ) → NodeOf N born f g k i l a x m n → (x ≡ f) ⊎ (x ≡ g) → ⊥
      not_there x m n (left h y z) (inl e) = y e
      not_there x m n (left h y z) (inr e) = z e
      not_there x m n (of_f {q = q} u e b) (inl e') = fresh q k i (subst (λ y. HasNode N y k i) (sym e') faces.first)
      not_there x m n (of_f {q = q} u e b) (inr e') = fresh q l j (subst (λ y. HasNode N y l j) (sym e') faces.second)
      not_there x m n (of_g {p = p} u e b) (inl e') = fresh (arity l + p) k i
          (subst (λ y. HasNode N y k i) (sym e') faces.first)
      not_there x m n (of_g {p = p} u e b) (inr e') = fresh (arity l + p) l j
          (subst (λ y. HasNode N y l j) (sym e') faces.second)
