-- A net under other names has the same paths, where no two of its nodes get one name.
use Rattle.std.proofs.Common.{◌≡◌, ℕ, refl, sym, ap, ◌∙◌, subst}
use Rattle.ol_context.specs.Contexts.{Context}
use Rattle.ol_context.specs.Paths.{Path, ends, goes, HaveSamePaths}
use Rattle.ol_net.specs.Nets.{NamedPort, free, slot, NamedNet, HasNode, Linked, IsPort, IsNet, port_under, net_under}
use Rattle.ol_net.specs.declared.parts.Kind.{Kind}
use Rattle.ol_rules.proofs.Renaming.{node_to, node_from, link_to, link_from}

module _ {A B : Type 0} (m : A → B) (N : NamedNet A) where
  path_to : {p : NamedPort A} {c : Context} {q : ℕ} {d : Context} → Path N p c q d →
      Path (net_under m N) (port_under m p) c q d
  path_to {p} {q = q} (ends l) = ends (link_to m N p (free q) l)
  path_to {p} (goes {x = x} {k = k} {i = i} {s = s} l h y r) = goes (link_to m N p (slot x s) l)
      (node_to m N x k i h) y (path_to r)

  module _ (is_net : IsNet N) (one_name : (x y : A) (k l : Kind) (i j : ℕ) → HasNode N x k i →
      HasNode N y l j → m x ≡ m y → x ≡ y) where
    -- a free port, or a slot of a node that is there
    OfNode : NamedPort A → Type 0
    OfNode (free n) = Unit {0}
    OfNode (slot x s) = (k : Kind) × (i : ℕ) × HasNode N x k i

    of_node : (p : NamedPort A) → IsPort N p → OfNode p
    unfolding OfNode
    of_node (free n) h = tt
    of_node (slot x s) h = (h.0, h.1, h.2)

    one_port : (p q : NamedPort A) → OfNode p → OfNode q → port_under m p ≡ port_under m q → p ≡ q
    unfolding OfNode
    one_port (free u) (free v) a b e = let z : u ≡ v = cc in ap free z
    one_port (free u) (slot y t) a b e = absurd (cc)
    one_port (slot x s) (free v) a b e = absurd (cc)
    one_port (slot x s) (slot y t) a b e =
        let z : x ≡ y = one_name x y a.0 b.0 a.1 b.1 a.2 b.2 (cc) in
        let w : s ≡ t = cc in
        cc

    -- a link under the names, of ports of the net
    link_back : (p q : NamedPort A) (P Q : NamedPort B) → OfNode p → OfNode q → P ≡ port_under m p →
        Q ≡ port_under m q → Linked (net_under m N) P Q → Linked N p q
    link_back p q P Q a b e e' h =
        let t = link_from m N P Q h in
        let ports = is_net.of_ports t.0 t.1 t.4 in
        let z : t.0 ≡ p = one_port t.0 p (of_node t.0 ports.0) a (sym t.2 ∙ e) in
        let w : t.1 ≡ q = one_port t.1 q (of_node t.1 ports.1) b (sym t.3 ∙ e') in
        subst (λ p. Linked N p q) z (subst (λ q. Linked N t.0 q) w t.4)

    path_from : {P : NamedPort B} {c : Context} {q : ℕ} {d : Context} →
        Path (net_under m N) P c q d → (p : NamedPort A) → OfNode p → P ≡ port_under m p → Path N p c q d
    unfolding OfNode
    path_from {P} {q = q} (ends l) p a e = ends (link_back p (free q) P (free q) a tt e refl l)
    path_from {P} (goes {x = y} {k = k} {i = i} {s = s} {t = t} l h x r) p a e =
        let n = node_from m N y k i h in
        let there : OfNode (slot n.0 s) = (k, i, n.1) in
        let after : OfNode (slot n.0 t) = (k, i, n.1) in
        goes (link_back p (slot n.0 s) P (slot y s) a there e (ap (λ y. slot y s) n.2) l) n.1 x
        (path_from r (slot n.0 t) after (ap (λ y. slot y t) n.2))

    pub renamed : HaveSamePaths N (net_under m N)
    unfolding OfNode
    renamed p c q d = (λ r. path_to r, λ r. path_from r (free p) tt refl)
