-- A step of a net is a step of the same net under other names.
use Rattle.std.proofs.Common.{◌≡◌, ℕ, suc, ◌+◌, List, [], ◌∷◌, map, inl, inr, refl, sym, ap, ◌∙◌, subst}
use Rattle.ol_law_edges.specs.Edges.{IsIn, Edge, Contracted}
use Rattle.ol_law_edges.proofs.Lists.{in_map, in_map_of}
use Rattle.ol_law_edges.proofs.Composing.{IsImage, contracted_image}
use Rattle.ol_net.specs.declared.parts.Kind.{Kind}
use Rattle.ol_net.specs.declared.parts.Rule.{Rule}
use Rattle.ol_net.specs.Parts.{arity}
use Rattle.ol_net.specs.Nets.{NamedPort, free, slot, NamedNet, HasNode, Linked, IsPort, IsNet}
use Rattle.ol_net.specs.Nets.{IsPrincipalOf, IsSlotOf, port_under, net_under}
use Rattle.ol_net.specs.Pairs.{IsActive}
use Rattle.ol_rules.specs.Rewriting.{Action, action_of, JoinOf, meet, at_f, at_g, between, NodeOf}
use Rattle.ol_rules.specs.Rewriting.{left, of_f, of_g, Rewrites, IsStep}

map_alike : {X Y : Type 0} (m n : X → Y) (xs : List X) → ((x : X) → IsIn x xs → m x ≡ n x) → map m xs ≡ map n xs
map_alike m n [] h = refl
map_alike m n (x ∷ xs) h = let a = h x (inl refl) in let b = map_alike m n xs (λ z i. h z (inr i)) in cc

module _ {A B : Type 0} (m : A → B) where
  abbrev node_under : A × Kind × ℕ → B × Kind × ℕ
  node_under n = (m n.0, n.1, n.2)

  abbrev link_under : NamedPort A × NamedPort A → NamedPort B × NamedPort B
  link_under e = (port_under m e.0, port_under m e.1)

  pub node_to : (N : NamedNet A) (x : A) (k : Kind) (i : ℕ) → HasNode N x k i → HasNode (net_under m N) (m x) k i
  node_to N x k i h = in_map node_under (x, k, i) N.nodes h

  pub node_from : (N : NamedNet A) (y : B) (k : Kind) (i : ℕ) → HasNode (net_under m N) y k i →
      (x : A) × HasNode N x k i × (y ≡ m x)
  node_from N y k i h =
      let t = in_map_of node_under (y, k, i) N.nodes h in (
        t.0.0,
        subst (λ k. IsIn (t.0.0, k, i) N.nodes) (sym (ap (λ (d : B × Kind × ℕ). d.1) t.2))
            (subst (λ i. IsIn (t.0.0, t.0.1, i) N.nodes)
            (sym (ap (λ (d : B × Kind × ℕ). d.2) t.2)) t.1),
        ap (λ (d : B × Kind × ℕ). d.0) t.2,
      )

  pub link_to : (N : NamedNet A) (p q : NamedPort A) → Linked N p q →
      Linked (net_under m N) (port_under m p) (port_under m q)
  link_to N p q (inl h) = inl (in_map link_under (p, q) N.links h)
  link_to N p q (inr h) = inr (in_map link_under (q, p) N.links h)

  pub link_from : (N : NamedNet A) (P Q : NamedPort B) → Linked (net_under m N) P Q →
      (p : NamedPort A) × (q : NamedPort A) × (P ≡ port_under m p) × (Q ≡ port_under m q) × Linked N p q
  link_from N P Q (inl h) = let t = in_map_of link_under (P, Q) N.links h in (
    t.0.0,
    t.0.1,
    ap (λ (d : NamedPort B × NamedPort B). d.0) t.2,
    ap (λ (d : NamedPort B × NamedPort B). d.1) t.2,
    inl t.1,
  )
  link_from N P Q (inr h) = let t = in_map_of link_under (Q, P) N.links h in (
    t.0.1,
    t.0.0,
    ap (λ (d : NamedPort B × NamedPort B). d.1) t.2,
    ap (λ (d : NamedPort B × NamedPort B). d.0) t.2,
    inr t.1,
  )

  pub active_to : (N : NamedNet A) (f g : A) (r : Rule) → IsActive N f g r → IsActive (net_under m N) (m f) (m g) r
  active_to N f g r a = record {
    k = a.k;
    i = a.i;
    l = a.l;
    j = a.j;
    faces = record {
      first = node_to N f a.k a.i a.faces.first;
      second = node_to N g a.l a.j a.faces.second;
      linked = link_to N (slot f 0) (slot g 0) a.faces.linked;
    };
    fits = a.fits;
  }

-- the same names where there are nodes, the same net
net_of_lists : {B : Type 0} → List (B × Kind × ℕ) → ℕ → List (NamedPort B × NamedPort B) → NamedNet B
net_of_lists nodes ports links = record { nodes = nodes; free_ports = ports; links = links }

pub net_alike : {A B : Type 0} (m n : A → B) (N : NamedNet A) → IsNet N →
    ((x : A) (k : Kind) (i : ℕ) → HasNode N x k i → m x ≡ n x) → net_under m N ≡ net_under n N
unfolding net_of_lists
net_alike {A} {B} m n N is_net e =
    ap (λ ns. net_of_lists ns N.free_ports (map (link_under m) N.links)) nodes
    ∙ ap (λ ls. net_of_lists (map (node_under n) N.nodes) N.free_ports ls) links
  where
    nodes : map (node_under m) N.nodes ≡ map (node_under n) N.nodes
    nodes = map_alike (node_under m) (node_under n) N.nodes
        (λ d h. let z = e d.0 d.1 d.2 h in ap (λ x. (x, d.1, d.2)) z)

    port : (p : NamedPort A) → IsPort N p → port_under m p ≡ port_under n p
    port (free u) h = refl
    port (slot x s) (k, i, h, b) = ap (λ y. slot y s) (e x k i h)

    links : map (link_under m) N.links ≡ map (link_under n) N.links
    links = map_alike (link_under m) (link_under n) N.links (λ d h.
        let c = is_net.of_ports d.0 d.1 (inl h) in
        let a = port d.0 c.0 in
        let b = port d.1 c.1 in
        ap (λ p. (p, port_under m d.1)) a ∙ ap (λ q. (port_under n d.0, q)) b)

-- names of which no two are equal
module _ {A B : Type 0} (m : A → B) (one_name : (x y : A) → m x ≡ m y → x ≡ y) where
  pub one_port : (p q : NamedPort A) → port_under m p ≡ port_under m q → p ≡ q
  one_port (free u) (free v) e = let z : u ≡ v = cc in ap free z
  one_port (free u) (slot y t) e = absurd (cc)
  one_port (slot x s) (free v) e = absurd (cc)
  one_port (slot x s) (slot y t) e =
      let z : x ≡ y = one_name x y (cc) in
      let w : s ≡ t = cc in
      cc

  pub node_back : (N : NamedNet A) (x : A) (k : Kind) (i : ℕ) → HasNode (net_under m N) (m x) k i → HasNode N x k i
  node_back N x k i h = let t = node_from m N (m x) k i h in subst (λ z. HasNode N z k i) (sym (one_name x t.0 t.2)) t.1

  pub link_back : (N : NamedNet A) (p q : NamedPort A) →
      Linked (net_under m N) (port_under m p) (port_under m q) → Linked N p q
  link_back N p q h =
      let t = link_from m N (port_under m p) (port_under m q) h in
      subst (λ z. Linked N z q) (sym (one_port p t.0 t.2)) (subst (λ z. Linked N t.0 z) (sym (one_port q t.1 t.3)) t.4)

  -- an active pair under the names
  pub active_from : (N : NamedNet A) (F G : B) (r : Rule) → IsActive (net_under m N) F G r →
      (f : A) × (g : A) × (F ≡ m f) × (G ≡ m g) × IsActive N f g r
  active_from N F G r a =
      let f = node_from m N F a.k a.i a.faces.first in
      let g = node_from m N G a.l a.j a.faces.second in (
        f.0,
        g.0,
        f.2,
        g.2,
        record {
          k = a.k;
          i = a.i;
          l = a.l;
          j = a.j;
          faces = record {
            first = f.1;
            second = g.1;
            linked = link_back N (slot f.0 0) (slot g.0 0)
                (subst (λ F. Linked (net_under m N) (slot F 0) (slot (m g.0) 0)) f.2
                (subst (λ G. Linked (net_under m N) (slot F 0) (slot G 0)) g.2 a.faces.linked));
          };
          fits = a.fits;
        },
      )

  module _ (born : ℕ → A) (N : NamedNet A) (f g : A) (k : Kind) (i : ℕ) (l : Kind) (a : Action) where
    abbrev E : NamedPort A → NamedPort A → Type 0
    E = Edge (Linked N) (IsPrincipalOf f g) (JoinOf born f g k l a)

    abbrev E' : NamedPort B → NamedPort B → Type 0
    E' = Edge (Linked (net_under m N)) (IsPrincipalOf (m f) (m g)) (JoinOf (λ p. m (born p)) (m f) (m g) k l a)

    slot_to : (p : NamedPort A) → IsSlotOf f g p → IsSlotOf (m f) (m g) (port_under m p)
    slot_to p (s, inl e) = (s, inl (ap (port_under m) e))
    slot_to p (s, inr e) = (s, inr (ap (port_under m) e))

    slot_from : (p : NamedPort A) → IsSlotOf (m f) (m g) (port_under m p) → IsSlotOf f g p
    slot_from p (s, inl e) = (s, inl (one_port p (slot f s) e))
    slot_from p (s, inr e) = (s, inr (one_port p (slot g s) e))

    principal_to : (p : NamedPort A) → IsPrincipalOf f g p → IsPrincipalOf (m f) (m g) (port_under m p)
    principal_to p (inl e) = inl (ap (port_under m) e)
    principal_to p (inr e) = inr (ap (port_under m) e)

    principal_from : (p : NamedPort A) → IsPrincipalOf (m f) (m g) (port_under m p) → IsPrincipalOf f g p
    principal_from p (inl e) = inl (one_port p (slot f 0) e)
    principal_from p (inr e) = inr (one_port p (slot g 0) e)

    join_to : (p q : NamedPort A) → JoinOf born f g k l a p q →
        JoinOf (λ p. m (born p)) (m f) (m g) k l a (port_under m p) (port_under m q)
    join_to p q (meet e b) = meet e b
    join_to p q (at_f n e b) = at_f n e b
    join_to p q (at_g n e b) = at_g n e b
    join_to p q (between n e b b') = between n e b b'

    Lifted : NamedPort B → NamedPort B → Type 0
    Lifted P Q = (p : NamedPort A) × (q : NamedPort A) × (P ≡ port_under m p) × (Q ≡ port_under m q) × E p q

    join_from : (P Q : NamedPort B) → JoinOf (λ p. m (born p)) (m f) (m g) k l a P Q → Lifted P Q
    unfolding Lifted
    join_from P Q (meet {s = s} e b) = (slot f (suc s), slot g (suc s), refl, refl, inr (meet e b))
    join_from P Q (at_f {p = p} n e b) = (slot (born (arity l + p)) 0, slot f (suc p), refl, refl, inr (at_f n e b))
    join_from P Q (at_g {q = q} n e b) = (slot (born q) 0, slot g (suc q), refl, refl, inr (at_g n e b))
    join_from P Q (between {p = p} {q = q} n e b b') = (
      slot (born q) (suc p),
      slot (born (arity l + p)) (suc q),
      refl,
      refl,
      inr (between n e b b'),
    )

    edge_to : (p q : NamedPort A) → E p q → E' (port_under m p) (port_under m q)
    edge_to p q (inl h) = inl (link_to m N p q h.0, (λ z. h.1 (principal_from p z)), (λ z. h.2 (principal_from q z)))
    edge_to p q (inr h) = inr (join_to p q h)

    edge_from : (P Q : NamedPort B) → E' P Q → Lifted P Q
    unfolding Lifted
    edge_from P Q (inl h) =
        let t = link_from m N P Q h.0 in (
          t.0,
          t.1,
          t.2,
          t.3,
          inl (
            t.4,
            (λ z. h.1 (subst (λ P. IsPrincipalOf (m f) (m g) P) (sym t.2) (principal_to t.0 z))),
            (λ z. h.2 (subst (λ P. IsPrincipalOf (m f) (m g) P) (sym t.3) (principal_to t.1 z))),
          ),
        )
    edge_from P Q (inr h) = join_from P Q h

    image : IsImage (port_under m) (Contracted E (IsSlotOf f g)) (Contracted E' (IsSlotOf (m f) (m g)))
    unfolding Lifted
    image = contracted_image (port_under m) one_port E E'
        (record { forth = edge_to; from = edge_from }) (IsSlotOf f g) (IsSlotOf (m f) (m g))
        (λ u. (slot_to u, slot_from u))

    nodes_to : (x : A) (k' : Kind) (i' : ℕ) → NodeOf N born f g k i l a x k' i' →
        NodeOf (net_under m N) (λ p. m (born p)) (m f) (m g) k i l a (m x) k' i'
    nodes_to x k' i' (left h y z) = left (node_to m N x k' i' h) (λ e. y (one_name x f e)) (λ e. z (one_name x g e))
    nodes_to x k' i' (of_f n e b) = of_f n e b
    nodes_to x k' i' (of_g n e b) = of_g n e b

    nodes_from : (y : B) (k' : Kind) (i' : ℕ) →
        NodeOf (net_under m N) (λ p. m (born p)) (m f) (m g) k i l a y k' i' →
        (x : A) × NodeOf N born f g k i l a x k' i' × (y ≡ m x)
    nodes_from y k' i' (left h u v) = let t = node_from m N y k' i' h in
        (t.0, left t.1 (λ e. u (t.2 ∙ ap m e)) (λ e. v (t.2 ∙ ap m e)), t.2)
    nodes_from y k' i' (of_f {q = q} n e b) = (born q, of_f n e b, refl)
    nodes_from y k' i' (of_g {p = p} n e b) = (born (arity l + p), of_g n e b, refl)

    pub rewrites_under : (M : NamedNet A) → Rewrites born N f g k i l a M →
        Rewrites (λ p. m (born p)) (net_under m N) (m f) (m g) k i l a (net_under m M)
    rewrites_under M r = record {
      free_ports = r.free_ports;
      nodes = λ y k' i'. (
        (λ h. let t = node_from m M y k' i' h in
            subst (λ y. NodeOf (net_under m N) (λ p. m (born p)) (m f) (m g) k i l a y k' i')
            (sym t.2) (nodes_to t.0 k' i' ((r.nodes t.0 k' i').0 t.1))),
        (λ h. let t = nodes_from y k' i' h in
            subst (λ y. HasNode (net_under m M) y k' i') (sym t.2) (node_to m M t.0 k' i' ((r.nodes t.0 k' i').1 t.1))),
      );
      links = λ P Q. (
        (λ h.
            let t = link_from m M P Q h in
            let c = image.forth t.0 t.1 ((r.links t.0 t.1).0 t.4) in
            subst (λ P. Contracted E' (IsSlotOf (m f) (m g)) P Q) (sym t.2)
            (subst (λ Q. Contracted E' (IsSlotOf (m f) (m g)) (port_under m t.0) Q) (sym t.3) c)),
        (λ h.
            let t = image.from P Q h in
            let c = link_to m M t.0 t.1 ((r.links t.0 t.1).1 t.4) in
            subst (λ P. Linked (net_under m M) P Q) (sym t.2)
            (subst (λ Q. Linked (net_under m M) (port_under m t.0) Q) (sym t.3) c)),
      );
    }

  pub step_under : (born : ℕ → A) (N : NamedNet A) (f g : A) (r : Rule) (M : NamedNet A) → (s : IsStep born N f g r M) →
      (t : IsStep (λ p. m (born p)) (net_under m N) (m f) (m g) r (net_under m M))
      × (t.active.k ≡ s.active.k) × (t.active.l ≡ s.active.l)
  unfolding active_to
  step_under born N f g r M s = (
    record {
      active = active_to m N f g r s.active;
      rewrites = rewrites_under born N f g s.active.k s.active.i s.active.l (action_of r s.active.j) M s.rewrites;
    },
    refl,
    refl,
  )
