-- Pairs of a net under other names: they face under both, and as many are stuck.
use Rattle.std.proofs.Common.{◌≡◌, ℕ, suc, length, List, [], ◌∷◌, map, inl, inr, refl, sym, ap, ◌∙◌, subst}
use Rattle.ol_law_edges.specs.Edges.{IsIn}
use Rattle.ol_net.specs.declared.parts.Kind.{Kind}
use Rattle.ol_net.specs.Nets.{NamedPort, free, slot, NamedNet, HasNode, Linked, IsPort, IsNet}
use Rattle.ol_net.specs.Nets.{SameNet, Faces, port_under, net_under}
use Rattle.ol_net.specs.Pairs.{IsStuck, HasPair, AreDifferent, HasStuck, IsComplete}
use Rattle.ol_rules.proofs.Relation.{same_sym}
use Rattle.ol_law_edges.proofs.Lists.{in_map, in_map_of}
use Rattle.ol_rules.proofs.Renaming.{node_to, node_from, link_to, link_from}

-- the same net, under the same names
module _ {A B : Type 0} (m : A → B) where
  nodes_to : (M N : NamedNet A) → SameNet M N → (y : B) (k : Kind) (i : ℕ) →
      HasNode (net_under m M) y k i → HasNode (net_under m N) y k i
  nodes_to M N s y k i h = let t = node_from m M y k i h in
      subst (λ z. HasNode (net_under m N) z k i) (sym t.2) (node_to m N t.0 k i ((s.nodes t.0 k i).0 t.1))

  links_to : (M N : NamedNet A) → SameNet M N → (P Q : NamedPort B) → Linked (net_under m M) P Q →
      Linked (net_under m N) P Q
  links_to M N s P Q h =
      let t = link_from m M P Q h in
      subst (λ z. Linked (net_under m N) z Q) (sym t.2)
      (subst (λ z. Linked (net_under m N) (port_under m t.0) z) (sym t.3)
      (link_to m N t.0 t.1 ((s.links t.0 t.1).0 t.4)))

  pub same_under : (M N : NamedNet A) → SameNet M N → SameNet (net_under m M) (net_under m N)
  same_under M N s = record {
    nodes = λ y k i. (nodes_to M N s y k i, nodes_to N M (same_sym M N s) y k i);
    free_ports = s.free_ports;
    links = λ P Q. (links_to M N s P Q, links_to N M (same_sym M N s) P Q);
  }

module _ {A B : Type 0} (m : A → B) (N : NamedNet A) (is_net : IsNet N)
    (one_name : (x y : A) (k l : Kind) (i j : ℕ) → HasNode N x k i → HasNode N y l j → m x ≡ m y → x ≡ y) where
  abbrev under : A × A → B × B
  under p = (m p.0, m p.1)

  stuck_to : (f g : A) → IsStuck N f g → IsStuck (net_under m N) (m f) (m g)
  stuck_to f g a = record {
    k = a.k;
    i = a.i;
    l = a.l;
    j = a.j;
    faces = record {
      first = node_to m N f a.k a.i a.faces.first;
      second = node_to m N g a.l a.j a.faces.second;
      linked = link_to m N (slot f 0) (slot g 0) a.faces.linked;
    };
    first = a.first;
    second = a.second;
  }

  -- the slot 0 of which a port is the name
  slot_from : (x : A) (k : Kind) (i : ℕ) (p : NamedPort A) → HasNode N x k i → IsPort N p →
      slot (m x) 0 ≡ port_under m p → slot x 0 ≡ p
  slot_from x k i (free n) h is e = absurd (cc)
  slot_from x k i (slot y s) h is e =
      let z : x ≡ y = one_name x y k is.0 i is.1 h is.2 (cc) in
      let w : 0 ≡ s = cc in
      cc

  -- the two nodes behind a facing pair
  record FacesBehind (F G : B) (k : Kind) (i : ℕ) (l : Kind) (j : ℕ) : Type 0 where
    f : A
    g : A
    first : F ≡ m f
    second : G ≡ m g
    faces : Faces N f g k i l j

  faces_from : (F G : B) (k : Kind) (i : ℕ) (l : Kind) (j : ℕ) → Faces (net_under m N) F G k i l j →
      FacesBehind F G k i l j
  faces_from F G k i l j h =
      let x = node_from m N F k i h.first in
      let y = node_from m N G l j h.second in
      let e = link_from m N (slot F 0) (slot G 0) h.linked in
      let ports = is_net.of_ports e.0 e.1 e.4 in
      let p : slot x.0 0 ≡ e.0 = slot_from x.0 k i e.0 x.1 ports.0 (ap (λ z. slot z 0) (sym x.2) ∙ e.2) in
      let q : slot y.0 0 ≡ e.1 = slot_from y.0 l j e.1 y.1 ports.1 (ap (λ z. slot z 0) (sym y.2) ∙ e.3) in
      let linked : Linked N (slot x.0 0) (slot y.0 0) = subst (λ w. Linked N w (slot y.0 0)) (sym p)
      (subst (λ w. Linked N e.0 w) (sym q) e.4) in
      record {
        f = x.0;
        g = y.0;
        first = x.2;
        second = y.2;
        faces = record { first = x.1; second = y.1; linked = linked };
      }

  -- where no pair is active, none is under the names
  pub complete_under : IsComplete N → IsComplete (net_under m N)
  complete_under c = λ F G r a. let b = faces_from F G a.k a.i a.l a.j a.faces in
      c b.f b.g r (record { k = a.k; i = a.i; l = a.l; j = a.j; faces = b.faces; fits = a.fits })

  record StuckBehind (F G : B) : Type 0 where
    f : A
    g : A
    first : F ≡ m f
    second : G ≡ m g
    stuck : IsStuck N f g

  stuck_from : (F G : B) → IsStuck (net_under m N) F G → StuckBehind F G
  stuck_from F G a =
      let b = faces_from F G a.k a.i a.l a.j a.faces in
      record {
        f = b.f;
        g = b.g;
        first = b.first;
        second = b.second;
        stuck = record { k = a.k; i = a.i; l = a.l; j = a.j; faces = b.faces; first = a.first; second = a.second };
      }

  pair_to : (ps : List (A × A)) (f g : A) → HasPair ps f g → HasPair (map under ps) (m f) (m g)
  pair_to ps f g (inl h) = inl (in_map under (f, g) ps h)
  pair_to ps f g (inr h) = inr (in_map under (g, f) ps h)

  -- every pair of the list is of two nodes
  abbrev OfNodes : List (A × A) → Type 0
  OfNodes ps = (f g : A) → IsIn (f, g) ps →
      (k : Kind) × (i : ℕ) × (l : Kind) × (j : ℕ) × HasNode N f k i × HasNode N g l j

  in_back : (ps : List (A × A)) (f g : A) (k l : Kind) (i j : ℕ) → OfNodes ps → HasNode N f k i →
      HasNode N g l j → IsIn (m f, m g) (map under ps) → IsIn (f, g) ps
  in_back ps f g k l i j of hf hg h =
      let t = in_map_of under (m f, m g) ps h in
      let n = of t.0.0 t.0.1 t.1 in
      let e : f ≡ t.0.0 = one_name f t.0.0 k n.0 i n.1 hf n.4 (ap (λ (d : B × B). d.0) t.2) in
      let e' : g ≡ t.0.1 = one_name g t.0.1 l n.2 j n.3 hg n.5 (ap (λ (d : B × B). d.1) t.2) in
      subst (λ x. IsIn (x, g) ps) (sym e) (subst (λ y. IsIn (t.0.0, y) ps) (sym e') t.1)

  pair_back : (ps : List (A × A)) (f g : A) (k l : Kind) (i j : ℕ) → OfNodes ps → HasNode N f k i →
      HasNode N g l j → HasPair (map under ps) (m f) (m g) → HasPair ps f g
  pair_back ps f g k l i j of hf hg (inl h) = inl (in_back ps f g k l i j of hf hg h)
  pair_back ps f g k l i j of hf hg (inr h) = inr (in_back ps g f l k j i of hg hf h)

  different_under : (ps : List (A × A)) → OfNodes ps → AreDifferent ps → AreDifferent (map under ps)
  different_under [] of d = tt
  different_under (p ∷ ps) of d =
      let n = of p.0 p.1 (inl refl) in
      let rest : OfNodes ps = λ f g h. of f g (inr h) in
      ((λ h. d.0 (pair_back ps p.0 p.1 n.0 n.2 n.1 n.3 rest n.4 n.5 h)), different_under ps rest d.1)

  length_under : (ps : List (A × A)) → length (map under ps) ≡ length ps
  length_under [] = refl
  length_under (p ∷ ps) = ap suc (length_under ps)

  pub has_stuck_under : (n : ℕ) → HasStuck N n → HasStuck (net_under m N) n
  has_stuck_under n h = record {
    pairs = map under h.pairs;
    count = length_under h.pairs ∙ h.count;
    different = different_under h.pairs of h.different;
    all = λ F G. (there F G, back F G);
  }
    where
      of : OfNodes h.pairs
      of f g i = let a = (h.all f g).0 (inl i) in (a.k, a.i, a.l, a.j, a.faces.first, a.faces.second)

      there : (F G : B) → HasPair (map under h.pairs) F G → IsStuck (net_under m N) F G
      there F G (inl i) =
          let t = in_map_of under (F, G) h.pairs i in
          let s = stuck_to t.0.0 t.0.1 ((h.all t.0.0 t.0.1).0 (inl t.1)) in
          subst (λ (d : B × B). IsStuck (net_under m N) d.0 d.1) (sym t.2) s
      there F G (inr i) =
          let t = in_map_of under (G, F) h.pairs i in
          let s = stuck_to t.0.1 t.0.0 ((h.all t.0.1 t.0.0).0 (inr t.1)) in
          subst (λ (d : B × B). IsStuck (net_under m N) d.1 d.0) (sym t.2) s

      back : (F G : B) → IsStuck (net_under m N) F G → HasPair (map under h.pairs) F G
      back F G a =
          let s = stuck_from F G a in
          subst (λ x. HasPair (map under h.pairs) x G) (sym s.first)
          (subst (λ y. HasPair (map under h.pairs) (m s.f) y) (sym s.second)
          (pair_to h.pairs s.f s.g ((h.all s.f s.g).1 s.stuck)))
