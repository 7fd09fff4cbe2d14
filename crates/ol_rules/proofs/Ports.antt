-- A step said by ports is a step said by vertices.
use Rattle.std.proofs.Common.{◌≡◌, ◌≢◌, ℕ, suc, ◌+◌, ◌<◌, ◌⊎◌, ◌↔◌, inl, inr, refl, sym, ap, ◌∙◌, subst, arith}
use Rattle.ol_law_edges.proofs.Joining.{joined_sym, joined_image, Follows, follow}
use Rattle.ol_law_edges.specs.Edges.{Joined, here, on, back, Edge, Contracted}
use Rattle.ol_net.specs.Nets.{NamedPort, free, slot, NamedNet, HasNode, Linked, IsPort, IsNet}
use Rattle.ol_net.specs.Nets.{Faces, IsPrincipalOf, IsSlotOf}
use Rattle.ol_net.specs.Parts.{arity}
use Rattle.ol_net.specs.declared.parts.Kind.{Kind}
use Rattle.ol_rules.specs.Contracting.{Vertex, old, f_copy, g_copy, name}
use Rattle.ol_rules.proofs.Wires.{Off, Join, Wire, stays, join}
use Rattle.ol_rules.specs.Laws.{IsFresh}
use Rattle.ol_rules.specs.Rewriting.{Action, JoinOf, meet, at_f, at_g, between, NodeOf}
use Rattle.ol_rules.proofs.Wires as wires

-- what is joined by an edge at least has an edge at its end
pub first_edge : {V : Type 0} {E : V → V → Type 0} {u v : V} → Joined E u v → (u ≡ v) ⊎ ((w : V) × (E u w ⊎ E w u))
first_edge here = inl refl
first_edge {E = E} {u = u} (on {v = v} {w = w} j e) = go (first_edge j)
  where
    go : (u ≡ v) ⊎ ((x : _) × (E u x ⊎ E x u)) → (u ≡ w) ⊎ ((x : _) × (E u x ⊎ E x u))
    go (inl q) = inr (w, inl (subst (λ z. E z w) (sym q) e))
    go (inr t) = inr t
first_edge {E = E} {u = u} (back {v = v} {w = w} j e) = go (first_edge j)
  where
    go : (u ≡ v) ⊎ ((x : _) × (E u x ⊎ E x u)) → (u ≡ w) ⊎ ((x : _) × (E u x ⊎ E x u))
    go (inl q) = inr (w, inr (subst (λ z. E w z) (sym q) e))
    go (inr t) = inr t

module _ {A : Type 0} (N : NamedNet A) (f g : A) (k : Kind) (i : ℕ) (l : Kind) (j : ℕ) (a : Action) (born : ℕ → A) where
  -- a vertex that is a port afterwards
  abbrev pub Lasts : Vertex A → Type 0
  Lasts (old (free n)) = Unit {0}
  Lasts (old (slot x s)) = (x ≢ f) × (x ≢ g) × ((m : Kind) × (n : ℕ) × HasNode N x m n)
  Lasts (f_copy q s) = q < arity l
  Lasts (g_copy p s) = Unit {0}

  abbrev pub named : Vertex A → NamedPort A
  named = name f g (arity l) born

  abbrev pub NodeAfter : A → Kind → ℕ → Type 0
  NodeAfter = NodeOf N born f g k i l a

  pub record LinkAfter (p q : NamedPort A) : Type 0 where
    pub from : Vertex A
    pub to : Vertex A
    pub from_lasts : Lasts from
    pub to_lasts : Lasts to
    pub apart : from ≢ to
    pub joined : Joined (Wire N f g k i l j a) from to
    pub from_is : p ≡ named from
    pub to_is : q ≡ named to

module _ {A : Type 0} (N : NamedNet A) (f g : A) (k : Kind) (i : ℕ) (l : Kind) (j : ℕ) (a : Action) (born : ℕ → A) where
  -- a vertex that stands in the net, or for a slot of a copy
  abbrev pub Real : Vertex A → Type 0
  Real (old (free n)) = Unit {0}
  Real (old (slot x s)) = (m : Kind) × (n : ℕ) × HasNode N x m n
  Real (f_copy q s) = q < arity l
  Real (g_copy p s) = Unit {0}

  abbrev pub name_of : Vertex A → NamedPort A
  name_of u = named N f g k i l j a born u

  abbrev pub W : Vertex A → Vertex A → Type 0
  W = Wire N f g k i l j a

  abbrev pub E : NamedPort A → NamedPort A → Type 0
  E = Edge (Linked N) (IsPrincipalOf f g) (JoinOf born f g k l a)

  module _ (is_net : IsNet N) (faces : Faces N f g k i l j) (fresh : IsFresh N born) where
    pub name_one : (u v : Vertex A) → Real u → Real v → name_of u ≡ name_of v → u ≡ v
    name_one (old p) (old q) a b e = ap old e
    name_one (old (free n)) (f_copy q s) a b e = absurd (cc)
    name_one (old (free n)) (g_copy q s) a b e = absurd (cc)
    name_one (f_copy q s) (old (free n)) a b e = absurd (cc)
    name_one (g_copy q s) (old (free n)) a b e = absurd (cc)
    name_one (old (slot x t)) (f_copy q s) a b e = absurd (fresh.unused x a.0 a.1 q a.2 (cc))
    name_one (old (slot x t)) (g_copy q s) a b e = absurd (fresh.unused x a.0 a.1 (arity l + q) a.2 (cc))
    name_one (f_copy q s) (old (slot x t)) a b e = absurd (fresh.unused x b.0 b.1 q b.2 (cc))
    name_one (g_copy q s) (old (slot x t)) a b e = absurd (fresh.unused x b.0 b.1 (arity l + q) b.2 (cc))
    name_one (f_copy q s) (f_copy r t) a b e =
        let n : q ≡ r = fresh.apart q r (cc) in
        let n' : s ≡ t = cc in
        cc
    name_one (g_copy q s) (g_copy r t) a b e =
        let n : arity l + q ≡ arity l + r = fresh.apart (arity l + q) (arity l + r) (cc) in
        let n2 : q ≡ r = omega arith in
        let n' : s ≡ t = cc in
        cc
    name_one (f_copy q s) (g_copy r t) a b e =
        let n : q ≡ arity l + r = fresh.apart q (arity l + r) (cc) in
        absurd (omega arith)
    name_one (g_copy q s) (f_copy r t) a b e =
        let n : arity l + q ≡ r = fresh.apart (arity l + q) r (cc) in
        absurd (omega arith)

    NamedBy : NamedPort A → Vertex A → Type 0
    NamedBy p u = Real u × (p ≡ name_of u)

    named_by_one : (p : NamedPort A) (u v : Vertex A) → NamedBy p u → NamedBy p v → u ≡ v
    unfolding NamedBy
    named_by_one p u v h h' = name_one u v h.0 h'.0 (sym h.1 ∙ h'.1)

    record Lifted (p q : NamedPort A) : Type 0 where
      from : Vertex A
      to : Vertex A
      from_is : NamedBy p from
      to_is : NamedBy q to
      wire : W from to

    pub real_port : (p : NamedPort A) → IsPort N p → Real (old p)
    real_port (free n) h = tt
    real_port (slot x s) h = (h.0, h.1, h.2)

    flip : (p q : NamedPort A) → Linked N p q → Linked N q p
    flip p q (inl h) = inr h
    flip p q (inr h) = inl h

    off : (p : NamedPort A) → (IsPrincipalOf f g p → ⊥) → Off f g p
    off p n = record { first = λ e. n (inl e); second = λ e. n (inr e) }

    real_f : (s : ℕ) → Real (old (slot f s))
    real_f s = (k, i, faces.first)

    real_g : (s : ℕ) → Real (old (slot g s))
    real_g s = (l, j, faces.second)

    lift_join : (p q : NamedPort A) → JoinOf born f g k l a p q → Lifted p q
    unfolding NamedBy
    lift_join p q (meet {s = s} e b) = record {
      from = old (slot f (suc s));
      to = old (slot g (suc s));
      from_is = (real_f (suc s), refl);
      to_is = (real_g (suc s), refl);
      wire = join (subst (λ a. Join N f g k i l j a (old (slot f (suc s))) (old (slot g (suc s))))
          (sym e) (wires.Join.meet b));
    }
    lift_join p q (at_f {p = m} j' e b) = record {
      from = g_copy m 0;
      to = old (slot f (suc m));
      from_is = (tt, refl);
      to_is = (real_f (suc m), refl);
      wire = join (subst (λ a. Join N f g k i l j a (g_copy m 0) (old (slot f (suc m)))) (sym e) (wires.Join.at_f b));
    }
    lift_join p q (at_g {q = m} j' e b) = record {
      from = f_copy m 0;
      to = old (slot g (suc m));
      from_is = (b, refl);
      to_is = (real_g (suc m), refl);
      wire = join (subst (λ a. Join N f g k i l j a (f_copy m 0) (old (slot g (suc m)))) (sym e) (wires.Join.at_g b));
    }
    lift_join p q (between {p = m} {q = n} j' e b b') = record {
      from = f_copy n (suc m);
      to = g_copy m (suc n);
      from_is = (b', refl);
      to_is = (tt, refl);
      wire = join (subst (λ a. Join N f g k i l j a (f_copy n (suc m)) (g_copy m (suc n))) (sym e)
          (wires.Join.between b b'));
    }

    lift_edge : (p q : NamedPort A) → E p q → Lifted p q
    unfolding NamedBy
    lift_edge p q (inl t) = record {
      from = old p;
      to = old q;
      from_is = (real_port p (is_net.of_ports p q t.0).0, refl);
      to_is = (real_port q (is_net.of_ports p q t.0).1, refl);
      wire = stays t.0 (off p t.1) (off q t.2);
    }
    lift_edge p q (inr h) = lift_join p q h

    to_vertices : Follows E W NamedBy
    to_vertices = record {
      forth = λ p q w e r. let t = lift_edge p q e in
          (t.from, t.from_is, subst (λ z. Joined W t.from z) (named_by_one q t.to w t.to_is r) (on here t.wire));
      back' = λ p q w e r. let t = lift_edge p q e in
          (t.to, t.to_is, subst (λ z. Joined W t.to z) (named_by_one p t.from w t.from_is r) (back here t.wire));
    }

    to_edge : (u v : Vertex A) → W u v → Joined E (name_of u) (name_of v)
    to_edge u v (stays h o o') = on here (inl (h, principal o, principal o'))
      where
        principal : {p : NamedPort A} → Off f g p → IsPrincipalOf f g p → ⊥
        principal o (inl e) = o.first e
        principal o (inr e) = o.second e
    to_edge u v (join h) = on here (inr (go a refl u v h))
      where
        go : (b : Action) → b ≡ a → (u v : Vertex A) → Join N f g k i l j b u v →
            JoinOf born f g k l a (name_of u) (name_of v)
        go b e u v (wires.Join.meet h) = meet (sym e) h
        go b e u v (wires.Join.at_f {j' = j'} h) = at_f j' (sym e) h
        go b e u v (wires.Join.at_g {j' = j'} h) = at_g j' (sym e) h
        go b e u v (wires.Join.between {j' = j'} h h') = between j' (sym e) h h'

    real_end : (p : NamedPort A) → ((q : NamedPort A) × (E p q ⊎ E q p)) → (u : Vertex A) × NamedBy p u
    real_end p (q, inl e) = let t = lift_edge p q e in (t.from, t.from_is)
    real_end p (q, inr e) = let t = lift_edge q p e in (t.to, t.to_is)

    pub lasts_real : (u : Vertex A) → Lasts N f g k i l j a born u → Real u
    lasts_real (old (free n)) h = tt
    lasts_real (old (slot x s)) h = h.2
    lasts_real (f_copy q s) h = h
    lasts_real (g_copy p s) h = tt

    pub lasts : (u : Vertex A) → Real u → (IsSlotOf f g (name_of u) → ⊥) → Lasts N f g k i l j a born u
    lasts (old (free n)) h m = tt
    lasts (old (slot x s)) h m = (λ e. m (s, inl (ap (λ x. slot x s) e)), λ e. m (s, inr (ap (λ x. slot x s) e)), h)
    lasts (f_copy q s) h m = h
    lasts (g_copy p s) h m = tt

    pub not_slot : (u : Vertex A) → Lasts N f g k i l j a born u → IsSlotOf f g (name_of u) → ⊥
    not_slot (old (free n)) h (s, inl e) = absurd (cc)
    not_slot (old (free n)) h (s, inr e) = absurd (cc)
    not_slot (old (slot x t)) h (s, inl e) = h.0 (cc)
    not_slot (old (slot x t)) h (s, inr e) = h.1 (cc)
    not_slot (f_copy q t) h (s, inl e) = fresh.unused f k i q faces.first (cc)
    not_slot (f_copy q t) h (s, inr e) = fresh.unused g l j q faces.second (cc)
    not_slot (g_copy p t) h (s, inl e) = fresh.unused f k i (arity l + p) faces.first (cc)
    not_slot (g_copy p t) h (s, inr e) = fresh.unused g l j (arity l + p) faces.second (cc)

    pub links_of : (p q : NamedPort A) → LinkAfter N f g k i l j a born p q ↔ Contracted E (IsSlotOf f g) p q
    unfolding NamedBy
    links_of p q = (to, from)
      where
        to : LinkAfter N f g k i l j a born p q → Contracted E (IsSlotOf f g) p q
        to h = record {
          first = λ s. not_slot h.from h.from_lasts (subst (λ p. IsSlotOf f g p) h.from_is s);
          second = λ s. not_slot h.to h.to_lasts (subst (λ p. IsSlotOf f g p) h.to_is s);
          apart = λ e. h.apart (name_one h.from h.to (lasts_real h.from h.from_lasts)
              (lasts_real h.to h.to_lasts) (sym h.from_is ∙ e ∙ h.to_is));
          joined = subst (λ p. Joined E p q) (sym h.from_is)
              (subst (λ q. Joined E (name_of h.from) q) (sym h.to_is) (joined_image name_of to_edge h.joined));
        }

        one : (p q : NamedPort A) → Joined E p q → p ≢ q → (u : Vertex A) × NamedBy p u
        one p q j n = go (first_edge j)
          where
            go : (p ≡ q) ⊎ ((w : NamedPort A) × (E p w ⊎ E w p)) → (u : Vertex A) × NamedBy p u
            go (inl e) = absurd (n e)
            go (inr t) = real_end p t

        from : Contracted E (IsSlotOf f g) p q → LinkAfter N f g k i l j a born p q
        from c =
            let u = one p q c.joined c.apart in
            let v = one q p (joined_sym c.joined) (λ e. c.apart (sym e)) in
            let t = follow to_vertices c.joined v.0 v.1 in
            record {
              from = u.0;
              to = v.0;
              from_lasts = lasts u.0 u.1.0 (subst (λ p. IsSlotOf f g p → ⊥) u.1.1 c.first);
              to_lasts = lasts v.0 v.1.0 (subst (λ p. IsSlotOf f g p → ⊥) v.1.1 c.second);
              apart = λ e. c.apart (u.1.1 ∙ ap name_of e ∙ sym v.1.1);
              joined = subst (λ z. Joined W z v.0) (named_by_one p t.0 u.0 t.1 u.1) t.2;
              from_is = u.1.1;
              to_is = v.1.1;
            }
