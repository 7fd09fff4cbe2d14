-- A net under other names is a net, and numbers are names of start nodes.
use Rattle.std.proofs.Common.{◌≡◌, ℕ, true, refl, sym, ap, ◌∙◌, subst}
use Rattle.ol_net.specs.Nets.{NamedPort, free, slot, NamedNet, HasNode, Linked, IsPort, IsNet, port_under, net_under}
use Rattle.ol_rules.specs.declared.journal.NodeName.TheVariants.{Init, Born}
use Rattle.ol_rules.specs.Names.{comes_before}
use Rattle.ol_rules.specs.Laws.{AreNamedBefore}
use Rattle.ol_rules.proofs.Renaming.{node_to, node_from, link_to, link_from, one_port}

module _ {A B : Type 0} (m : A → B) (one_name : (x y : A) → m x ≡ m y → x ≡ y) (N : NamedNet A) (is_net : IsNet N) where
  port_to : (p : NamedPort A) → IsPort N p → IsPort (net_under m N) (port_under m p)
  port_to (free n) h = h
  port_to (slot x s) (k, i, h, b) = (k, i, node_to m N x k i h, b)

  port_from : (P : NamedPort B) → IsPort (net_under m N) P → (p : NamedPort A) × (P ≡ port_under m p) × IsPort N p
  port_from (free n) h = (free n, refl, h)
  port_from (slot y s) (k, i, h, b) = let t = node_from m N y k i h in
      (slot t.0 s, ap (λ y. slot y s) t.2, (k, i, t.1, b))

  pub net_to : IsNet (net_under m N)
  net_to = record {
    one_node = λ y k l i j h h'.
        let t = node_from m N y k i h in
        let u = node_from m N y l j h' in
        is_net.one_node t.0 k l i j t.1 (subst (λ x. HasNode N x l j) (one_name u.0 t.0 (sym u.2 ∙ t.2)) u.1);
    of_ports = λ P Q h.
        let t = link_from m N P Q h in
        let b = is_net.of_ports t.0 t.1 t.4 in (
          subst (λ P. IsPort (net_under m N) P) (sym t.2) (port_to t.0 b.0),
          subst (λ Q. IsPort (net_under m N) Q) (sym t.3) (port_to t.1 b.1),
        );
    one_link = λ P Q R h h'.
        let t = link_from m N P Q h in
        let u = link_from m N P R h' in
        let l : Linked N t.0 u.1 = subst (λ p. Linked N p u.1) (one_port m one_name u.0 t.0 (sym u.2 ∙ t.2)) u.4 in
        t.3 ∙ ap (port_under m) (is_net.one_link t.0 t.1 u.1 t.4 l) ∙ sym u.3;
    apart = λ P h.
        let t = link_from m N P P h in
        is_net.apart t.0 (subst (λ q. Linked N t.0 q) (one_port m one_name t.1 t.0 (sym t.3 ∙ t.2)) t.4);
    some_link = λ P h.
        let t = port_from P h in
        let l = is_net.some_link t.0 t.2 in (
          port_under m l.0,
          subst (λ P. Linked (net_under m N) P (port_under m l.0)) (sym t.1)
              (link_to m N t.0 l.0 l.1),
        );
  }

pub one_start : (x y : ℕ) → Init x ≡ Init y → x ≡ y
one_start x y e = cc

pub start_net : (N : NamedNet ℕ) → IsNet N → IsNet (net_under Init N)
start_net N n = net_to Init one_start N n

pub start_named : (N : NamedNet ℕ) → AreNamedBefore (net_under Init N) 0
start_named N x k i h = let t = node_from Init N x k i h in subst (λ x. comes_before x (Born 0 0) ≡ true) (sym t.2) refl
