-- A net under names that keep its nodes apart is a net.
use Rattle.std.proofs.Common.{◌≡◌, ℕ, refl, sym, ap, ◌∙◌, subst}
use Rattle.ol_net.specs.declared.parts.Kind.{Kind}
use Rattle.ol_net.specs.Nets.{NamedPort, free, slot, NamedNet, HasNode, Linked, IsPort, IsNet, port_under, net_under}
use Rattle.ol_rules.proofs.Renaming.{node_to, node_from, link_to, link_from}

module _ {A B : Type 0} (m : A → B) (N : NamedNet A) (is_net : IsNet N)
    (one_name : (x y : A) (k l : Kind) (i j : ℕ) → HasNode N x k i → HasNode N y l j → m x ≡ m y → x ≡ y) where
  one_port : (p q : NamedPort A) → IsPort N p → IsPort N q → port_under m p ≡ port_under m q → p ≡ q
  one_port (free u) (free v) b b' e = let z : u ≡ v = cc in ap free z
  one_port (free u) (slot y t) b b' e = absurd (cc)
  one_port (slot x s) (free v) b b' e = absurd (cc)
  one_port (slot x s) (slot y t) b b' e =
      let z : x ≡ y = one_name x y b.0 b'.0 b.1 b'.1 b.2 b'.2 (cc) in
      let w : s ≡ t = cc in
      cc

  port_to : (p : NamedPort A) → IsPort N p → IsPort (net_under m N) (port_under m p)
  port_to (free n) h = h
  port_to (slot x s) (k, i, h, b) = (k, i, node_to m N x k i h, b)

  port_from : (P : NamedPort B) → IsPort (net_under m N) P → (p : NamedPort A) × (P ≡ port_under m p) × IsPort N p
  port_from (free n) h = (free n, refl, h)
  port_from (slot y s) (k, i, h, b) = let t = node_from m N y k i h in
      (slot t.0 s, ap (λ y. slot y s) t.2, (k, i, t.1, b))

  pub named_net : IsNet (net_under m N)
  named_net = record {
    one_node = λ y k l i j h h'.
        let t = node_from m N y k i h in
        let u = node_from m N y l j h' in
        is_net.one_node t.0 k l i j t.1 (subst (λ x. HasNode N x l j)
        (one_name u.0 t.0 l k j i u.1 t.1 (sym u.2 ∙ t.2)) u.1);
    of_ports = λ P Q h.
        let t = link_from m N P Q h in
        let b = is_net.of_ports t.0 t.1 t.4 in (
          subst (λ P. IsPort (net_under m N) P) (sym t.2) (port_to t.0 b.0),
          subst (λ Q. IsPort (net_under m N) Q) (sym t.3) (port_to t.1 b.1),
        );
    one_link = λ P Q R h h'.
        let t = link_from m N P Q h in
        let u = link_from m N P R h' in
        let a = is_net.of_ports t.0 t.1 t.4 in
        let b = is_net.of_ports u.0 u.1 u.4 in
        let l : Linked N t.0 u.1 = subst (λ p. Linked N p u.1) (one_port u.0 t.0 b.0 a.0 (sym u.2 ∙ t.2)) u.4 in
        t.3 ∙ ap (port_under m) (is_net.one_link t.0 t.1 u.1 t.4 l) ∙ sym u.3;
    apart = λ P h.
        let t = link_from m N P P h in
        let a = is_net.of_ports t.0 t.1 t.4 in
        is_net.apart t.0 (subst (λ q. Linked N t.0 q) (one_port t.1 t.0 a.1 a.0 (sym t.3 ∙ t.2)) t.4);
    some_link = λ P h.
        let t = port_from P h in
        let l = is_net.some_link t.0 t.2 in (
          port_under m l.0,
          subst (λ P. Linked (net_under m N) P (port_under m l.0)) (sym t.1)
              (link_to m N t.0 l.0 l.1),
        );
  }
