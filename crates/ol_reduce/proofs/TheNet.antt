-- The net that is built of the finished table is the net that the words stand for.
use Rattle.std.proofs.Common.{◌≡◌, ◌≢◌, ℕ, ◌<◌, Bool, true, false, nat_lt, ltb-true, if◌then◌else◌, List, [], ◌∷◌}
use Rattle.std.proofs.Common.{length, Some, is_some, count_by, inl, inr, refl, sym, ap, ◌∙◌, subst, arith}
use Rattle.std.proofs.lemmas.Bool.{cases_lt}
use Rattle.ol_law_edges.specs.Edges.{IsIn}
use Rattle.ol_net.specs.declared.parts.Kind.{Kind}
use Rattle.ol_net.specs.declared.parts.Port.{Port}
use Rattle.ol_net.specs.Nets.{NamedPort, NamedNet, HasNode, Linked, IsPort, SameNet, net_under, port_under}
use Rattle.ol_net.specs.Numbered.{numbered_port, net_of, net_of_parts, all_live}
use Rattle.ol_net.specs.Graph.{Graph, kind_at, port_at}
use Rattle.ol_net.specs.Build.{Builds}
use Rattle.ol_net.specs.Pairing.{other}
use Rattle.ol_net.proofs.Numbered.{has_node}
use Rattle.ol_net.proofs.Linking.{length-all_live, count_by-all_live}
use Rattle.ol_rules.specs.declared.journal.NodeName.{NodeName}
use Rattle.ol_law_edges.proofs.Lists.{in_map, in_map_of}
use Rattle.ol_rules.proofs.Renaming.{node_to, node_from, link_to, link_from}
use Rattle.ol_rules.proofs.Lists.{in_each_of}
use Rattle.ol_wire.specs.declared.layout.Parts.{Parts}
use Rattle.ol_wire.specs.Layout.{cells_of}
use Rattle.ol_wire.specs.Closed.{ClosedTable}
use Rattle.ol_wire.specs.Standing.{WordsStandFor}
use Rattle.ol_reduce.specs.Left.{ranks_in, AreLeft}
use Rattle.ol_reduce.specs.Drafts.{frozen_top, all_links, link_row}
use Rattle.ol_reduce.specs.Frozen.{IsFrozen}
use Rattle.ol_reduce.specs.Found.{name_of, port_of, kind_of, IsPartial, AreMet, AreCelled}
use Rattle.ol_reduce.proofs.Sites.{names_rise, number_of, site_of_port}
use Rattle.ol_reduce.proofs.Linking.{within_table}
use Rattle.ol_reduce.proofs.Building.{link_of, link_in}
use Rattle.ol_reduce.proofs.Finished.{kind_there, kind_past, complete, all_known}

-- the links of the table, as links of numbered ports
module _ (ports : ℕ) (kinds : List (Kind × ℕ)) (partners : List ℕ)
    (paired : (k : ℕ) → other partners (other partners k) ≡ k) where
  abbrev parts : NamedNet ℕ
  parts = net_of_parts ports kinds (all_links ports partners)

  abbrev at : ℕ → NamedPort ℕ
  at a = numbered_port (port_at ports a)

  abbrev named : Port × Port → NamedPort ℕ × NamedPort ℕ
  named l = (numbered_port l.0, numbered_port l.1)

  pub linked_to : (a : ℕ) → other partners a ≢ a → Linked parts (at a) (at (other partners a))
  linked_to a d = elim (cases_lt a (other partners a)) [
    | inl lt ↦ inl (in_map named (link_of ports partners a)
        (all_links ports partners)
        (link_in ports partners (length partners) a (within_table partners a d) lt))
    | inr ge ↦
        let b : ℕ = other partners a in
        let up : other partners a < other partners (other partners a) = omega (arith, ge, d, paired a) in
        let low = within_table partners (other partners a) (λ e. omega (arith, up, e)) in
        let i = in_map named (link_of ports partners (other partners a))
        (all_links ports partners)
        (link_in ports partners (length partners) (other partners a) low up) in
        inr (subst (λ v. IsIn {X = NamedPort ℕ × NamedPort ℕ} (
          numbered_port (port_at ports (other partners a)),
          numbered_port (port_at ports v),
        ) parts.links) (paired a) i)
  ]

  pub record IsPair (p q : NamedPort ℕ) : Type 0 where
    pub a : ℕ
    pub has : other partners a ≢ a
    pub first : p ≡ at a
    pub second : q ≡ at (other partners a)

  in_row : (k : ℕ) (l : Port × Port) → IsIn l (link_row ports partners k) →
      (k < other partners k) × (l ≡ link_of ports partners k)
  in_row k l h = go (nat_lt k (other partners k)) refl h
    where
      go : (b : Bool) → nat_lt k (other partners k) ≡ b →
          IsIn l (if b then link_of ports partners k ∷ [] else []) →
          (k < other partners k) × (l ≡ link_of ports partners k)
      go true e (inl q) = (ltb-true k (other partners k) e, q)
      go true e (inr t) = elim t [ ]
      go false e t = elim t [ ]

  pair_of : (p q : NamedPort ℕ) → IsIn {X = NamedPort ℕ × NamedPort ℕ} (p, q) parts.links →
      (a : ℕ) × (a < other partners a) × (p ≡ at a) × (q ≡ at (other partners a))
  pair_of p q h =
      let t = in_map_of named (p, q) (all_links ports partners) h in
      let r = in_each_of t.0 (length partners) (link_row ports partners) t.1 in
      let k = in_row r.0 t.0 r.2 in (
        r.0,
        k.0,
        ap (λ (e : NamedPort ℕ × NamedPort ℕ). e.0) t.2
            ∙ ap (λ (l : Port × Port). numbered_port l.0) k.1,
        ap (λ (e : NamedPort ℕ × NamedPort ℕ). e.1) t.2 ∙ ap (λ (l : Port × Port). numbered_port l.1) k.1,
      )

  pub linked_from : (p q : NamedPort ℕ) → Linked parts p q → IsPair p q
  linked_from p q (inl h) = let t = pair_of p q h in
      record { a = t.0; has = λ e. omega (arith, t.1, e); first = t.2; second = t.3 }
  linked_from p q (inr h) =
      let t = pair_of q p h in
      record {
        a = other partners t.0;
        has = λ e. omega (arith, t.1, e, paired t.0);
        first = t.3;
        second = t.2 ∙ ap at (sym (paired t.0));
      }

module _ (w : ClosedTable) (places numbers : List ℕ)
    (left_are : AreLeft w (ranks_in w) places numbers) (N : NamedNet NodeName) (reached : ℕ → Bool)
    (s : WordsStandFor w N reached)
    (kinds : List (Kind × ℕ)) (partners met : List ℕ) (whole : IsPartial w N places kinds partners)
    (are : AreMet w N reached places partners met (length partners))
    (cells_are : AreCelled w N places partners (cells_of w.plan.parts))
    (g : Graph) (b : Builds frozen_top w.plan.parts.free kinds
    (all_links w.plan.parts.free partners) g) where
  abbrev z : Parts
  z = w.plan.parts

  abbrev names : ℕ → NodeName
  names n = name_of z places n

  known : (n : ℕ) → n < length places → HasNode N (name_of z places n) (kind_of kinds n).0 (kind_of kinds n).1
  known n lt = all_known w places numbers left_are N reached s kinds partners met whole are cells_are n lt

  nodes_from : (x : NodeName) (k : Kind) (i : ℕ) →
      HasNode (net_under (name_of z places) (net_of g)) x k i → HasNode N x k i
  nodes_from x k i h =
      let t = node_from (name_of z places) (net_of g) x k i h in
      let at : kind_at (all_live kinds) t.0 ≡ Some (k, i) = ap (λ ns. kind_at ns t.0)
      (sym b.same_nodes) ∙ (has_node g t.0 k i).0 t.1 in
      let lt = kind_past kinds t.0 (k, i) at in
      let q : Some (kind_of kinds t.0) ≡ Some (k, i) = sym (kind_there kinds t.0 lt) ∙ at in
      let e : kind_of kinds t.0 ≡ (k, i) = cc in
      subst (λ x. HasNode N x k i) (sym t.2)
      (subst (λ (f : Kind × ℕ). HasNode N (name_of z places t.0) f.0 f.1) e
      (known t.0 (omega (arith, lt, whole.kinds_long))))

  nodes_to : (x : NodeName) (k : Kind) (i : ℕ) → HasNode N x k i →
      HasNode (net_under (name_of z places) (net_of g)) x k i
  nodes_to x k i h =
      let n = number_of w places numbers left_are x (s.names x k i h) ((s.live x).0 (k, i, h)) in
      let t = s.is_net.one_node x (kind_of kinds n.0).0 k (kind_of kinds n.0).1 i
      (subst (λ x. HasNode N x (kind_of kinds n.0).0 (kind_of kinds n.0).1) n.2 (known n.0 n.1)) h in
      let pair : kind_of kinds n.0 ≡ (k, i) = (λ j. (t.0 j, t.1 j)) in
      let at : kind_at g.nodes n.0 ≡ Some (k, i) = ap (λ ns. kind_at ns n.0) b.same_nodes
      ∙ kind_there kinds n.0 (omega (arith, n.1, whole.kinds_long)) ∙ ap (λ f. Some f) pair in
      subst (λ x. HasNode (net_under (name_of z places) (net_of g)) x k i) n.2
      (node_to (name_of z places) (net_of g) n.0 k i ((has_node g n.0 k i).1 at))

  links_from : (p q : NamedPort NodeName) → Linked (net_under (name_of z places) (net_of g)) p q → Linked N p q
  links_from p q h =
      let t = link_from (name_of z places) (net_of g) p q h in
      let l = linked_from z.free kinds partners whole.paired t.0 t.1 ((b.same_net.links t.0 t.1).0 t.4) in
      subst (λ p. Linked N p q) (sym (t.2 ∙ ap (port_under (name_of z places)) l.first))
      (subst (λ q. Linked N (port_of z places l.a) q)
      (sym (t.3 ∙ ap (port_under (name_of z places)) l.second)) (whole.linked l.a l.has))

  links_to : (p q : NamedPort NodeName) → Linked N p q → Linked (net_under (name_of z places) (net_of g)) p q
  links_to p q h =
      let ip = (s.is_net.of_ports p q h).0 in
      let a = site_of_port w places numbers left_are N reached s p ip in
      let lt : a.0 < length partners = omega (arith, a.1, whole.partners_long) in
      let d = complete w places numbers left_are N reached s kinds partners met whole are cells_are
      a.0 lt (subst (λ p. IsPort N p) (sym a.2) ip) in
      let e : port_of z places (other partners a.0) ≡ q = s.is_net.one_link p
      (port_of z places (other partners a.0)) q
      (subst (λ p. Linked N p (port_of z places (other partners a.0))) a.2 (whole.linked a.0 d)) h in
      let l = (b.same_net.links (numbered_port (port_at z.free a.0))
      (numbered_port (port_at z.free (other partners a.0)))).1
      (linked_to z.free kinds partners whole.paired a.0 d) in
      let u = link_to (name_of z places) (net_of g) (numbered_port (port_at z.free a.0))
      (numbered_port (port_at z.free (other partners a.0))) l in
      subst (λ p. Linked (net_under (name_of z places) (net_of g)) p q) a.2
      (subst (λ q. Linked (net_under (name_of z places) (net_of g)) (port_of z places a.0) q) e u)

  pub is_frozen : IsFrozen N g
  is_frozen = record {
    names = names;
    rising = λ j k lt ltk. names_rise w places numbers left_are j k lt
        (omega (arith, ltk, ap (λ ns. length ns) b.same_nodes, length-all_live kinds, whole.kinds_long));
    whole = ap (λ ns. count_by is_some ns) b.same_nodes ∙ count_by-all_live kinds
        ∙ sym (length-all_live kinds) ∙ ap (λ ns. length ns) (sym b.same_nodes);
    same = record {
      nodes = λ x k i. (nodes_from x k i, nodes_to x k i);
      free_ports = b.same_free ∙ sym s.ports;
      links = λ p q. (links_from p q, links_to p q);
    };
  }

-- the same of each net that is the same
pub frozen_same : (M N : NamedNet NodeName) (g : Graph) → SameNet M N → IsFrozen M g → IsFrozen N g
frozen_same M N g m f = record {
  names = f.names;
  rising = f.rising;
  whole = f.whole;
  same = record {
    nodes = λ x k i. (
      (λ h. (m.nodes x k i).0 ((f.same.nodes x k i).0 h)),
      (λ h. (f.same.nodes x k i).1 ((m.nodes x k i).1 h)),
    );
    free_ports = f.same.free_ports ∙ m.free_ports;
    links = λ p q. ((λ h. (m.links p q).0 ((f.same.links p q).0 h)), (λ h. (f.same.links p q).1 ((m.links p q).1 h)));
  };
}
