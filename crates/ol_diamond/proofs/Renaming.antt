-- A net and the same net under other names go on together, where no two of its nodes have one other name.
use Rattle.std.proofs.Common.{◌≡◌, ◌≢◌, ℕ, suc, ◌+◌, ◌<◌, ◌⊎◌, inl, inr, refl, sym, ap, ◌∙◌, subst}
use Rattle.ol_law_edges.specs.Edges.{Joined, here, on, back, Edge, Contracted}
use Rattle.ol_law_edges.proofs.Joining.{joined_sym, joined_image, Follows, follow}
use Rattle.ol_law_edges.proofs.Composing.{edge_of_apart, contracted_map}
use Rattle.ol_net.specs.declared.parts.Kind.{Kind}
use Rattle.ol_net.specs.Parts.{arity}
use Rattle.ol_net.specs.Nets.{NamedPort, free, slot, NamedNet, HasNode, Linked, IsPort, IsNet}
use Rattle.ol_net.specs.Nets.{SameNet, Faces, IsPrincipalOf, IsSlotOf, port_under, net_under}
use Rattle.ol_rules.specs.Rewriting.{Action, JoinOf, meet, at_f, at_g, between, NodeOf, left, of_f, of_g, Rewrites}
use Rattle.ol_rules.specs.Laws.{IsFresh}
use Rattle.ol_rules.proofs.Renaming.{node_to, node_from, link_to, link_from}

-- M is N with each name x written m x
pub record IsRenamed {A B : Type 0} (m : A → B) (N : NamedNet A) (M : NamedNet B) : Type 0 where
  pub free_ports : M.free_ports ≡ N.free_ports
  pub nodes_to : (x : A) (k : Kind) (i : ℕ) → HasNode N x k i → HasNode M (m x) k i
  pub nodes_from : (y : B) (k : Kind) (i : ℕ) → HasNode M y k i → (x : A) × HasNode N x k i × (y ≡ m x)
  pub links_to : (p q : NamedPort A) → Linked N p q → Linked M (port_under m p) (port_under m q)
  pub links_from : (p q : NamedPort B) → Linked M p q →
      (p' : NamedPort A) × (q' : NamedPort A) × Linked N p' q' × (p ≡ port_under m p') × (q ≡ port_under m q')
  pub apart : (x y : A) (k l : Kind) (i j : ℕ) → HasNode N x k i → HasNode N y l j → m x ≡ m y → x ≡ y

-- the net under the names is such a net, and each such net is that one
pub under_renamed : {A B : Type 0} (m : A → B) (N : NamedNet A) →
    ((x y : A) (k l : Kind) (i j : ℕ) → HasNode N x k i → HasNode N y l j → m x ≡ m y → x ≡ y) →
    IsRenamed m N (net_under m N)
under_renamed m N apart = record {
  free_ports = refl;
  nodes_to = node_to m N;
  nodes_from = node_from m N;
  links_to = link_to m N;
  links_from = λ P Q h. let t = link_from m N P Q h in (t.0, t.1, t.4, t.2, t.3);
  apart = apart;
}

pub renamed_under : {A B : Type 0} (m : A → B) (N : NamedNet A) (M : NamedNet B) → IsRenamed m N M →
    SameNet M (net_under m N)
renamed_under m N M r = record {
  nodes = λ y k i. (
    (λ h. let t = r.nodes_from y k i h in
        subst (λ z. HasNode (net_under m N) z k i) (sym t.2) (node_to m N t.0 k i t.1)),
    (λ h. let t = node_from m N y k i h in subst (λ z. HasNode M z k i) (sym t.2) (r.nodes_to t.0 k i t.1)),
  );
  free_ports = r.free_ports;
  links = λ P Q. (
    (λ h. let t = r.links_from P Q h in subst (λ z. Linked (net_under m N) z Q) (sym t.3)
        (subst (λ z. Linked (net_under m N) (port_under m t.0) z) (sym t.4) (link_to m N t.0 t.1 t.2))),
    (λ h. let t = link_from m N P Q h in
        subst (λ z. Linked M z Q) (sym t.2) (subst (λ z. Linked M (port_under m t.0) z) (sym t.3)
        (r.links_to t.0 t.1 t.4))),
  );
}

-- a net under other names is a net
pub renamed_net : {A B : Type 0} (m : A → B) (N : NamedNet A) (M : NamedNet B) → IsRenamed m N M → IsNet N → IsNet M
renamed_net {A} {B} m N M r n = record {
  one_node = λ y k l i j h h'.
      let a = r.nodes_from y k i h in
      let b = r.nodes_from y l j h' in
      n.one_node a.0 k l i j a.1 (subst (λ x. HasNode N x l j)
      (sym (r.apart a.0 b.0 k l i j a.1 b.1 (sym a.2 ∙ b.2))) b.1);
  of_ports = λ p q h.
      let t = r.links_from p q h in
      let c = n.of_ports t.0 t.1 t.2 in
      (subst (λ p. IsPort M p) (sym t.3) (port t.0 c.0), subst (λ p. IsPort M p) (sym t.4) (port t.1 c.1));
  one_link = λ p q s h h'.
      let a = r.links_from p q h in
      let b = r.links_from p s h' in
      let e : a.0 ≡ b.0 = one_port a.0 b.0 (n.of_ports a.0 a.1 a.2).0 (n.of_ports b.0 b.1 b.2).0 (sym a.3 ∙ b.3) in
      a.4 ∙ ap (port_under m) (n.one_link a.0 a.1 b.1 a.2 (subst (λ z. Linked N z b.1) (sym e) b.2)) ∙ sym b.4;
  apart = λ p h.
      let a = r.links_from p p h in
      let c = n.of_ports a.0 a.1 a.2 in
      n.apart a.0 (subst (λ z. Linked N a.0 z) (one_port a.1 a.0 c.1 c.0 (sym a.4 ∙ a.3)) a.2);
  some_link = λ p h. let a = port_from p h in let l = n.some_link a.0 a.1 in
      (port_under m l.0, subst (λ p. Linked M p (port_under m l.0)) (sym a.2) (r.links_to a.0 l.0 l.1));
}
  where
    one_port : (p q : NamedPort A) → IsPort N p → IsPort N q → port_under m p ≡ port_under m q → p ≡ q
    one_port (free u) (free v) a b e = let z : u ≡ v = cc in ap free z
    one_port (free u) (slot y t) a b e = absurd (cc)
    one_port (slot x s) (free v) a b e = absurd (cc)
    one_port (slot x s) (slot y t) a b e =
        let z : x ≡ y = r.apart x y a.0 b.0 a.1 b.1 a.2 b.2 (cc) in
        let w : s ≡ t = cc in
        cc

    port : (p : NamedPort A) → IsPort N p → IsPort M (port_under m p)
    port (free u) h = subst (λ b. u < b) (sym r.free_ports) h
    port (slot x s) (k, i, h, b) = (k, i, r.nodes_to x k i h, b)

    port_from : (p : NamedPort B) → IsPort M p → (q : NamedPort A) × IsPort N q × (p ≡ port_under m q)
    port_from (free u) h = (free u, subst (λ b. u < b) r.free_ports h, refl)
    port_from (slot y s) (k, i, h, b) = let a = r.nodes_from y k i h in
        (slot a.0 s, (k, i, a.1, b), ap (λ y. slot y s) a.2)

-- names that agree where nodes are
pub agree : {A B : Type 0} (m m' : A → B) (N : NamedNet A) (M : NamedNet B) → IsNet N →
    ((x : A) (k : Kind) (i : ℕ) → HasNode N x k i → m' x ≡ m x) → IsRenamed m N M → IsRenamed m' N M
agree {A} {B} m m' N M n e r = record {
  free_ports = r.free_ports;
  nodes_to = λ x k i h. subst (λ y. HasNode M y k i) (sym (e x k i h)) (r.nodes_to x k i h);
  nodes_from = λ y k i h. let t = r.nodes_from y k i h in (t.0, t.1, t.2 ∙ sym (e t.0 k i t.1));
  links_to = λ p q h. let c = n.of_ports p q h in
      subst (λ p. Linked M p (port_under m' q)) (sym (port p c.0))
      (subst (λ q. Linked M (port_under m p) q) (sym (port q c.1)) (r.links_to p q h));
  links_from = λ p q h. let t = r.links_from p q h in let c = n.of_ports t.0 t.1 t.2 in
      (t.0, t.1, t.2, t.3 ∙ sym (port t.0 c.0), t.4 ∙ sym (port t.1 c.1));
  apart = λ x y k l i j h h' q. r.apart x y k l i j h h' (sym (e x k i h) ∙ q ∙ e y l j h');
}
  where
    port : (p : NamedPort A) → IsPort N p → port_under m' p ≡ port_under m p
    port (free u) h = refl
    port (slot x s) (k, i, h, b) = ap (λ y. slot y s) (e x k i h)

module _ {A B : Type 0} (m : A → B) (N : NamedNet A) (M : NamedNet B) (r : IsRenamed m N M) (is_net : IsNet N)
    (f g : A) (k : Kind) (i : ℕ) (l : Kind) (j : ℕ) (a : Action) (faces : Faces N f g k i l j)
    (born : ℕ → A) (born' : ℕ → B) (fresh : IsFresh N born) (fresh' : IsFresh M born')
    (births : (n : ℕ) → m (born n) ≡ born' n) where
  abbrev pub Live : A → Type 0
  Live x = ((k : Kind) × (i : ℕ) × HasNode N x k i) ⊎ ((n : ℕ) × (x ≡ born n))

  one_name : (x y : A) → Live x → Live y → m x ≡ m y → x ≡ y
  one_name x y (inl h) (inl h') e = r.apart x y h.0 h'.0 h.1 h'.1 h.2 h'.2 e
  one_name x y (inl h) (inr b) e = absurd
      (fresh'.unused (m x) h.0 h.1 b.0 (r.nodes_to x h.0 h.1 h.2) (e ∙ ap m b.1 ∙ births b.0))
  one_name x y (inr b) (inl h) e = absurd
      (fresh'.unused (m y) h.0 h.1 b.0 (r.nodes_to y h.0 h.1 h.2) (sym e ∙ ap m b.1 ∙ births b.0))
  one_name x y (inr b) (inr b') e =
      let q = fresh'.apart b.0 b'.0 (sym (births b.0) ∙ ap m (sym b.1) ∙ e ∙ ap m b'.1 ∙ births b'.0) in
      b.1 ∙ ap born q ∙ sym b'.1

  abbrev pub Real : NamedPort A → Type 0
  Real (free n) = Unit {0}
  Real (slot x s) = Live x

  pub one_port : (p q : NamedPort A) → Real p → Real q → port_under m p ≡ port_under m q → p ≡ q
  one_port (free u) (free v) a b e = let z : u ≡ v = cc in ap free z
  one_port (free u) (slot y t) a b e = absurd (cc)
  one_port (slot x s) (free v) a b e = absurd (cc)
  one_port (slot x s) (slot y t) a b e =
      let z : x ≡ y = one_name x y a b (cc) in
      let w : s ≡ t = cc in
      cc

  f_live : Live f
  f_live = inl (k, i, faces.first)

  g_live : Live g
  g_live = inl (l, j, faces.second)

  born_live : (n : ℕ) → Live (born n)
  born_live n = inr (n, refl)

  pub real_port : (p : NamedPort A) → IsPort N p → Real p
  real_port (free n) h = tt
  real_port (slot x s) h = inl (h.0, h.1, h.2)

  slot_of : (p : NamedPort A) → Real p → IsSlotOf (m f) (m g) (port_under m p) → IsSlotOf f g p
  slot_of p h (s, inl e) = (s, inl (one_port p (slot f s) h f_live e))
  slot_of p h (s, inr e) = (s, inr (one_port p (slot g s) h g_live e))

  slot_to : (p : NamedPort A) → IsSlotOf f g p → IsSlotOf (m f) (m g) (port_under m p)
  slot_to p (s, inl e) = (s, inl (ap (port_under m) e))
  slot_to p (s, inr e) = (s, inr (ap (port_under m) e))

  principal_of : (p : NamedPort A) → Real p → IsPrincipalOf (m f) (m g) (port_under m p) → IsPrincipalOf f g p
  principal_of p h (inl e) = inl (one_port p (slot f 0) h f_live e)
  principal_of p h (inr e) = inr (one_port p (slot g 0) h g_live e)

  principal_to : (p : NamedPort A) → IsPrincipalOf f g p → IsPrincipalOf (m f) (m g) (port_under m p)
  principal_to p (inl e) = inl (ap (port_under m) e)
  principal_to p (inr e) = inr (ap (port_under m) e)

  at_born : (P : B → Type 0) (n : ℕ) → P (born' n) → P (m (born n))
  at_born P n h = subst P (sym (births n)) h

  -- Some of the links, their images, and the joins where they count.
  module _ (Some : NamedPort A → NamedPort A → Type 0) (Some' : NamedPort B → NamedPort B → Type 0)
      (some : (p q : NamedPort A) → Some p q → Linked N p q)
      (some_to : (p q : NamedPort A) → Some p q → Some' (port_under m p) (port_under m q))
      (some_from : (P Q : NamedPort B) → Some' P Q →
      (p : NamedPort A) × (q : NamedPort A) × Some p q × (P ≡ port_under m p) × (Q ≡ port_under m q))
      (Count : Type 0) where
    abbrev E : NamedPort A → NamedPort A → Type 0
    E = Edge Some (IsPrincipalOf f g) (λ p q. JoinOf born f g k l a p q × Count)

    abbrev E' : NamedPort B → NamedPort B → Type 0
    E' = Edge Some' (IsPrincipalOf (m f) (m g)) (λ P Q. JoinOf born' (m f) (m g) k l a P Q × Count)

    join_to : (p q : NamedPort A) → JoinOf born f g k l a p q →
        JoinOf born' (m f) (m g) k l a (port_under m p) (port_under m q)
    join_to p q (meet e b) = meet e b
    join_to p q (at_f {p = u} n e b) = at_born
        (λ y. JoinOf born' (m f) (m g) k l a (slot y 0) (slot (m f) (suc u))) (arity l + u) (at_f n e b)
    join_to p q (at_g {q = u} n e b) = at_born
        (λ y. JoinOf born' (m f) (m g) k l a (slot y 0) (slot (m g) (suc u))) u (at_g n e b)
    join_to p q (between {p = u} {q = v} n e b b') =
        at_born (λ y. JoinOf born' (m f) (m g) k l a (slot y (suc u)) (slot (m (born (arity l + u))) (suc v))) v
        (at_born (λ y. JoinOf born' (m f) (m g) k l a (slot (born' v) (suc u)) (slot y (suc v)))
        (arity l + u) (between n e b b'))

    -- an edge has real ends
    record Ends (p q : NamedPort A) : Type 0 where
      first : Real p
      second : Real q

    edge_ends : (p q : NamedPort A) → E p q → Ends p q
    edge_ends p q (inl h) = let c = is_net.of_ports p q (some p q h.0) in
        record { first = real_port p c.0; second = real_port q c.1 }
    edge_ends p q (inr h) = go p q h.0
      where
        go : (p q : NamedPort A) → JoinOf born f g k l a p q → Ends p q
        go p q (meet e b) = record { first = f_live; second = g_live }
        go p q (at_f {p = u} n e b) = record { first = born_live (arity l + u); second = f_live }
        go p q (at_g {q = u} n e b) = record { first = born_live u; second = g_live }
        go p q (between {p = u} {q = v} n e b b') = record { first = born_live v; second = born_live (arity l + u) }

    edge_to : (p q : NamedPort A) → E p q → E' (port_under m p) (port_under m q)
    edge_to p q (inl h) =
        let c = is_net.of_ports p q (some p q h.0) in
        inl (
          some_to p q h.0,
          (λ z. h.1 (principal_of p (real_port p c.0) z)),
          (λ z. h.2 (principal_of q (real_port q c.1) z)),
        )
    edge_to p q (inr h) = inr (join_to p q h.0, h.1)

    -- an edge under the other names comes from one
    record Lifted (P Q : NamedPort B) : Type 0 where
      from : NamedPort A
      to : NamedPort A
      edge : E from to
      from_is : P ≡ port_under m from
      to_is : Q ≡ port_under m to

    lift : (P Q : NamedPort B) → E' P Q → Lifted P Q
    lift P Q (inl h) =
        let t = some_from P Q h.0 in
        record {
          from = t.0;
          to = t.1;
          from_is = t.3;
          to_is = t.4;
          edge = inl (
            t.2,
            (λ z. h.1 (subst (λ P. IsPrincipalOf (m f) (m g) P) (sym t.3)
                (principal_to t.0 z))),
            (λ z. h.2 (subst (λ P. IsPrincipalOf (m f) (m g) P) (sym t.4)
                (principal_to t.1 z))),
          );
        }
    lift P Q (inr h) = go P Q h.1 h.0
      where
        go : (P Q : NamedPort B) → Count → JoinOf born' (m f) (m g) k l a P Q → Lifted P Q
        go P Q c (meet {s = s} e b) = record {
          from = slot f (suc s);
          to = slot g (suc s);
          edge = inr (meet e b, c);
          from_is = refl;
          to_is = refl;
        }
        go P Q c (at_f {p = u} n e b) = record {
          from = slot (born (arity l + u)) 0;
          to = slot f (suc u);
          edge = inr (at_f n e b, c);
          from_is = ap (λ y. slot y 0) (sym (births (arity l + u)));
          to_is = refl;
        }
        go P Q c (at_g {q = u} n e b) = record {
          from = slot (born u) 0;
          to = slot g (suc u);
          edge = inr (at_g n e b, c);
          from_is = ap (λ y. slot y 0) (sym (births u));
          to_is = refl;
        }
        go P Q c (between {p = u} {q = v} n e b b') = record {
          from = slot (born v) (suc u);
          to = slot (born (arity l + u)) (suc v);
          edge = inr (between n e b b', c);
          from_is = ap (λ y. slot y (suc u)) (sym (births v));
          to_is = ap (λ y. slot y (suc v)) (sym (births (arity l + u)));
        }

    NamedBy : NamedPort B → NamedPort A → Type 0
    NamedBy P p = Real p × (P ≡ port_under m p)

    named_one : (P : NamedPort B) (p q : NamedPort A) → NamedBy P p → NamedBy P q → p ≡ q
    unfolding NamedBy
    named_one P p q h h' = one_port p q h.0 h'.0 (sym h.1 ∙ h'.1)

    follows : Follows E' E NamedBy
    unfolding NamedBy
    follows = record {
      forth = λ P Q w e h. let t = lift P Q e in let c = edge_ends t.from t.to t.edge in (
        t.from,
        (c.first, t.from_is),
        subst (λ z. Joined E t.from z)
            (named_one Q t.to w (c.second, t.to_is) h) (on here t.edge),
      );
      back' = λ P Q w e h. let t = lift P Q e in let c = edge_ends t.from t.to t.edge in (
        t.to,
        (c.second, t.to_is),
        subst (λ z. Joined E t.to z)
            (named_one P t.from w (c.first, t.from_is) h) (back here t.edge),
      );
    }

    real_end : (p q : NamedPort A) → Joined E p q → p ≢ q → Real p
    real_end p q w n = let a = edge_of_apart w n in go a.0 a.1
      where
        go : (z : NamedPort A) → E p z ⊎ E z p → Real p
        go z (inl e) = (edge_ends p z e).first
        go z (inr e) = (edge_ends z p e).second

    named_end : (P Q : NamedPort B) → Joined E' P Q → P ≢ Q → (p : NamedPort A) × NamedBy P p
    unfolding NamedBy
    named_end P Q w n = let a = edge_of_apart w n in go a.0 a.1
      where
        go : (Z : NamedPort B) → E' P Z ⊎ E' Z P → (p : NamedPort A) × (Real p × (P ≡ port_under m p))
        go Z (inl e) = let t = lift P Z e in (t.from, ((edge_ends t.from t.to t.edge).first, t.from_is))
        go Z (inr e) = let t = lift Z P e in (t.to, ((edge_ends t.from t.to t.edge).second, t.to_is))

    pub contracted_to : (p q : NamedPort A) → Contracted E (IsSlotOf f g) p q →
        Contracted E' (IsSlotOf (m f) (m g)) (port_under m p) (port_under m q)
    contracted_to p q c =
        let u = real_end p q c.joined c.apart in
        let v = real_end q p (joined_sym c.joined) (λ e. c.apart (sym e)) in
        record {
          first = λ s. c.first (slot_of p u s);
          second = λ s. c.second (slot_of q v s);
          apart = λ e. c.apart (one_port p q u v e);
          joined = joined_image (port_under m) (λ p q e. on here (edge_to p q e)) c.joined;
        }

    pub contracted_from : (P Q : NamedPort B) → Contracted E' (IsSlotOf (m f) (m g)) P Q →
        (p : NamedPort A) × (q : NamedPort A) × Contracted E (IsSlotOf f g) p q
        × (P ≡ port_under m p) × (Q ≡ port_under m q)
    unfolding NamedBy
    contracted_from P Q c =
        let u = named_end P Q c.joined c.apart in
        let v = named_end Q P (joined_sym c.joined) (λ e. c.apart (sym e)) in
        let t = follow follows c.joined v.0 v.1 in (
          u.0,
          v.0,
          record {
            first = λ s. c.first (subst (λ P. IsSlotOf (m f) (m g) P) (sym u.1.1) (slot_to u.0 s));
            second = λ s. c.second (subst (λ P. IsSlotOf (m f) (m g) P) (sym v.1.1) (slot_to v.0 s));
            apart = λ e. c.apart (u.1.1 ∙ ap (port_under m) e ∙ sym v.1.1);
            joined = subst (λ z. Joined E z v.0) (named_one P t.0 u.0 t.1 u.1) t.2;
          },
          u.1.1,
          v.1.1,
        )

  -- all links, and the joins as they are
  abbrev All : NamedPort A → NamedPort A → Type 0
  All = Edge (Linked N) (IsPrincipalOf f g) (JoinOf born f g k l a)

  abbrev All' : NamedPort B → NamedPort B → Type 0
  All' = Edge (Linked M) (IsPrincipalOf (m f) (m g)) (JoinOf born' (m f) (m g) k l a)

  counted : {V : Type 0} (L J : V → V → Type 0) (P : V → Type 0) (u v : V) → Edge L P J u v →
      Edge L P (λ p q. J p q × Unit {0}) u v
  counted L J P u v (inl h) = inl h
  counted L J P u v (inr h) = inr (h, tt)

  uncounted : {V : Type 0} (L J : V → V → Type 0) (P : V → Type 0) (u v : V) →
      Edge L P (λ p q. J p q × Unit {0}) u v → Edge L P J u v
  uncounted L J P u v (inl h) = inl h
  uncounted L J P u v (inr h) = inr h.0

  to_all : (p q : NamedPort A) → Contracted All (IsSlotOf f g) p q →
      Contracted All' (IsSlotOf (m f) (m g)) (port_under m p) (port_under m q)
  to_all p q c = contracted_map (uncounted (Linked M) (JoinOf born' (m f) (m g) k l a)
      (IsPrincipalOf (m f) (m g))) (λ u e s. s) (port_under m p) (port_under m q)
      (contracted_to (Linked N) (Linked M) (λ p q h. h) r.links_to r.links_from (Unit {0}) p q
      (contracted_map (counted (Linked N) (JoinOf born f g k l a) (IsPrincipalOf f g)) (λ u e s. s) p q c))

  from_all : (P Q : NamedPort B) → Contracted All' (IsSlotOf (m f) (m g)) P Q →
      (p : NamedPort A) × (q : NamedPort A) × Contracted All (IsSlotOf f g) p q
      × (P ≡ port_under m p) × (Q ≡ port_under m q)
  from_all P Q c =
      let t = contracted_from (Linked N) (Linked M) (λ p q h. h) r.links_to r.links_from
      (Unit {0}) P Q (contracted_map (counted (Linked M) (JoinOf born' (m f) (m g) k l a)
      (IsPrincipalOf (m f) (m g))) (λ u e s. s) P Q c) in (
        t.0,
        t.1,
        contracted_map (uncounted (Linked N) (JoinOf born f g k l a) (IsPrincipalOf f g))
            (λ u e s. s) t.0 t.1 t.2,
        t.3,
        t.4,
      )

  -- After a step of each, the one is the other under other names.
  pub renamed : (N' : NamedNet A) (M' : NamedNet B) → Rewrites born N f g k i l a N' →
      Rewrites born' M (m f) (m g) k i l a M' → IsRenamed m N' M'
  renamed N' M' s s' = record {
    free_ports = s'.free_ports ∙ r.free_ports ∙ sym s.free_ports;
    nodes_to = λ x k' i' h. (s'.nodes (m x) k' i').1 (node_to x k' i' ((s.nodes x k' i').0 h));
    nodes_from = λ y k' i' h. node_from y k' i' ((s'.nodes y k' i').0 h);
    links_to = λ p q h. (s'.links (port_under m p) (port_under m q)).1 (to_all p q ((s.links p q).0 h));
    links_from = λ P Q h. let t = from_all P Q ((s'.links P Q).0 h) in (t.0, t.1, (s.links t.0 t.1).1 t.2, t.3, t.4);
    apart = λ x y k' l' i' j' h h' e. one_name x y (live x k' i' ((s.nodes x k' i').0 h))
        (live y l' j' ((s.nodes y l' j').0 h')) e;
  }
    where
      live : (x : A) (k' : Kind) (i' : ℕ) → NodeOf N born f g k i l a x k' i' → Live x
      live x k' i' (left h y z) = inl (k', i', h)
      live x k' i' (of_f {q = q} n e b) = inr (q, refl)
      live x k' i' (of_g {p = p} n e b) = inr (arity l + p, refl)

      node_to : (x : A) (k' : Kind) (i' : ℕ) → NodeOf N born f g k i l a x k' i' →
          NodeOf M born' (m f) (m g) k i l a (m x) k' i'
      node_to x k' i' (left h y z) = left (r.nodes_to x k' i' h)
          (λ e. y (r.apart x f k' k i' i h faces.first e)) (λ e. z (r.apart x g k' l i' j h faces.second e))
      node_to x k' i' (of_f {q = q} n e b) = at_born (λ y. NodeOf M born' (m f) (m g) k i l a y k i) q (of_f n e b)
      node_to x k' i' (of_g {p = p} n e b) = at_born (λ y. NodeOf M born' (m f) (m g) k i l a y l n)
          (arity l + p) (of_g n e b)

      node_from : (y : B) (k' : Kind) (i' : ℕ) → NodeOf M born' (m f) (m g) k i l a y k' i' →
          (x : A) × HasNode N' x k' i' × (y ≡ m x)
      node_from y k' i' (left h u v) =
          let t = r.nodes_from y k' i' h in
          (t.0, (s.nodes t.0 k' i').1 (left t.1 (λ e. u (t.2 ∙ ap m e)) (λ e. v (t.2 ∙ ap m e))), t.2)
      node_from y k' i' (of_f {q = q} n e b) = (born q, (s.nodes (born q) k i).1 (of_f n e b), sym (births q))
      node_from y k' i' (of_g {p = p} n e b) = (
        born (arity l + p),
        (s.nodes (born (arity l + p)) l n).1 (of_g n e b),
        sym (births (arity l + p)),
      )
