-- The tree of a net is that of the same net, and that of the net under other names.
use Rattle.std.proofs.Common.{◌≡◌, ℕ, List, refl, sym, ap, ◌∙◌, subst}
use Rattle.std.proofs.lemmas.List.{length-map}
use Rattle.ol_net.specs.declared.parts.Kind.{Kind}
use Rattle.ol_net.specs.Nets.{NamedNet, NamedPort, free, slot, HasNode, Linked, IsPort, IsNet}
use Rattle.ol_net.specs.Nets.{SameNet, port_under, net_under}
use Rattle.ol_context.specs.Contexts.{Context}
use Rattle.ol_context.specs.Ways.{Way, start, on, WalkStands}
use Rattle.ol_readback.specs.Heads.{live}
use Rattle.ol_readback.specs.ReadTrees.{IsTree}
use Rattle.ol_readback.specs.declared.answers.ReadNode.{ReadNode}
use Rattle.ol_rules.proofs.Relation.{same_sym}
use Rattle.ol_rules.proofs.Renaming.{node_to, node_from, link_to, link_from}
use Rattle.ol_cli.proofs.Following.{Follows, tree_to}

-- ---- the same net

module _ {A : Type 0} (M N : NamedNet A) (same : SameNet M N) where
  way_same : {p : NamedPort A} {c : Context} {n : ℕ} {u : NamedPort A} {d : Context} → Way M p c n u d → Way N p c n u d
  way_same start = start
  way_same (on {u = u} {x = x} {k = k} {i = i} {s = s} w l h y) = on (way_same w)
      ((same.links u (slot x s)).0 l) ((same.nodes x k i).0 h) y

  follows_same : Follows M N
  follows_same = record {
    exits = λ p c n q X u w l. (u, way_same w, (same.links u (free q)).0 l);
    stands = λ p c n s. record {
      port = s.port;
      context = s.context;
      way = way_same s.way;
      node = s.node;
      at = s.at;
      linked = (same.links s.port (slot s.node s.at)).0 s.linked;
    };
  }

pub tree_same : {A : Type 0} (M N : NamedNet A) → SameNet M N → live M ≡ live N →
    (heads edges : ℕ) (ns : List ReadNode) → IsTree M heads edges ns → IsTree N heads edges ns
tree_same M N same size heads edges ns r = tree_to M N (follows_same M N same)
    (follows_same N M (same_sym M N same)) size heads edges ns r

-- ---- other names

module _ {A B : Type 0} (m : A → B) (N : NamedNet A) where
  way_to : {p : NamedPort A} {c : Context} {n : ℕ} {u : NamedPort A} {d : Context} →
      Way N p c n u d → Way (net_under m N) (port_under m p) c n (port_under m u) d
  way_to start = start
  way_to (on {u = u} {x = x} {k = k} {i = i} {s = s} w l h y) = on (way_to w)
      (link_to m N u (slot x s) l) (node_to m N x k i h) y

  follows_names : Follows N (net_under m N)
  follows_names = record {
    exits = λ p c n q X u w l. (port_under m u, way_to w, link_to m N u (free q) l);
    stands = λ p c n s. record {
      port = port_under m s.port;
      context = s.context;
      way = way_to s.way;
      node = m s.node;
      at = s.at;
      linked = link_to m N s.port (slot s.node s.at) s.linked;
    };
  }

module _ {A B : Type 0} (m : A → B) (N : NamedNet A) (is_net : IsNet N)
    (one_name : (x y : A) (k l : Kind) (i j : ℕ) → HasNode N x k i → HasNode N y l j → m x ≡ m y → x ≡ y) where
  -- a free port, or a slot of a node
  abbrev IsOfNode : NamedPort A → Type 0
  IsOfNode (free n) = Unit {0}
  IsOfNode (slot x s) = (k : Kind) × (i : ℕ) × HasNode N x k i

  of_node : (p : NamedPort A) → IsPort N p → IsOfNode p
  of_node (free n) h = tt
  of_node (slot x s) h = (h.0, h.1, h.2)

  one_port : (p q : NamedPort A) → IsOfNode p → IsOfNode q → port_under m p ≡ port_under m q → p ≡ q
  one_port (free u) (free v) a b e = let z : u ≡ v = cc in ap free z
  one_port (free u) (slot y t) a b e = absurd (cc)
  one_port (slot x s) (free v) a b e = absurd (cc)
  one_port (slot x s) (slot y t) a b e =
      let z : x ≡ y = one_name x y a.0 b.0 a.1 b.1 a.2 b.2 (cc) in
      let w : s ≡ t = cc in
      cc

  -- the other port of a link, behind its name
  record LinkBehind (u : NamedPort A) (P : NamedPort B) : Type 0 where
    port : NamedPort A
    named : P ≡ port_under m port
    has_node : IsOfNode port
    linked : Linked N u port

  link_behind : (u : NamedPort A) (U P : NamedPort B) → IsOfNode u → U ≡ port_under m u →
      Linked (net_under m N) U P → LinkBehind u P
  link_behind u U P a e l =
      let t = link_from m N U P l in
      let ports = is_net.of_ports t.0 t.1 t.4 in
      let q : u ≡ t.0 = one_port u t.0 a (of_node t.0 ports.0) (sym e ∙ t.2) in
      record {
        port = t.1;
        named = t.3;
        has_node = of_node t.1 ports.1;
        linked = subst (λ u. Linked N u t.1) (sym q) t.4;
      }

  exit_behind : (u : NamedPort A) (q : ℕ) → LinkBehind u (free q) → Linked N u (free q)
  exit_behind u q b = subst (λ p. Linked N u p) (sym (one_port (free q) b.port tt b.has_node b.named)) b.linked

  slot_behind : (u : NamedPort A) (x : A) (y : B) (s : ℕ) (k : Kind) (i : ℕ) → HasNode N x k i →
      y ≡ m x → LinkBehind u (slot y s) → Linked N u (slot x s)
  slot_behind u x y s k i h e b =
      subst (λ p. Linked N u p) (sym (one_port (slot x s) b.port (k, i, h) b.has_node
      (ap (λ y. slot y s) (sym e) ∙ b.named))) b.linked

  -- the way behind a way under the names
  record WayBehind (p : ℕ) (c : Context) (n : ℕ) (U : NamedPort B) (d : Context) : Type 0 where
    port : NamedPort A
    way : Way N (free p) c n port d
    named : U ≡ port_under m port
    has_node : IsOfNode port

  way_behind : {p : ℕ} {c : Context} {n : ℕ} {U : NamedPort B} {d : Context} →
      Way (net_under m N) (free p) c n U d → WayBehind p c n U d
  way_behind {p} start = record { port = free p; way = start; named = refl; has_node = tt }
  way_behind (on {u = U} {x = y} {k = k} {i = i} {s = s} {t = t} w l h z) =
      let b = way_behind w in
      let x = node_from m N y k i h in
      let l' = slot_behind b.port x.0 y s k i x.1 x.2 (link_behind b.port U (slot y s) b.has_node b.named l) in
      record { port = slot x.0 t; way = on b.way l' x.1 z; named = ap (λ y. slot y t) x.2; has_node = (k, i, x.1) }

  stands_at : (p : ℕ) (c : Context) (n : ℕ) (u : NamedPort A) (d : Context) (y : B) (s : ℕ) →
      Way N (free p) c n u d → LinkBehind u (slot y s) → WalkStands N (free p) c n
  stands_at p c n u d y s w b = go b.port b.named b.linked
    where
      go : (v : NamedPort A) → slot y s ≡ port_under m v → Linked N u v → WalkStands N (free p) c n
      go (free q) e l = absurd (cc)
      go (slot x t) e l = record { port = u; context = d; way = w; node = x; at = t; linked = l }

  follows_behind : Follows (net_under m N) N
  follows_behind = record {
    exits = λ p c n q X U w l. let b = way_behind w in
        (b.port, b.way, exit_behind b.port q (link_behind b.port U (free q) b.has_node b.named l));
    stands = λ p c n s. let b = way_behind s.way in
        stands_at p c n b.port s.context s.node s.at b.way
        (link_behind b.port s.port (slot s.node s.at) b.has_node b.named s.linked);
  }

  size : live N ≡ live (net_under m N)
  size = sym (length-map N.nodes (λ (n : A × Kind × ℕ). (m n.0, n.1, n.2)))

  pub tree_under : (heads edges : ℕ) (ns : List ReadNode) → IsTree N heads edges ns →
      IsTree (net_under m N) heads edges ns
  tree_under heads edges ns r = tree_to N (net_under m N) (follows_names m N) follows_behind size heads edges ns r
