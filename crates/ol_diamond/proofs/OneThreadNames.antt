-- Nets that are the same under birth names are one net under other names.
use Rattle.std.proofs.Common.{◌≡◌, ℕ, List, [], ◌∷◌, Bool, true, false, cond, inl, inr, refl, sym, ap, ◌∙◌, subst}
use Rattle.ol_law_edges.specs.Edges.{IsIn}
use Rattle.ol_net.specs.declared.parts.Kind.{Kind}
use Rattle.ol_net.specs.Nets.{NamedPort, free, slot, NamedNet, HasNode, Linked, IsPort, IsNet}
use Rattle.ol_net.specs.Nets.{SameNet, port_under, net_under}
use Rattle.ol_rules.specs.declared.journal.NodeName.{NodeName}
use Rattle.ol_rules.specs.declared.journal.NodeName.TheVariants.{Init}
use Rattle.ol_rules.proofs.Renaming.{node_to, node_from, link_to, link_from}
use Rattle.ol_diamond.specs.Births.{BirthName}
use Rattle.ol_diamond.proofs.Births.{same_name, name_test}
use Rattle.ol_diamond.proofs.Renaming.{IsRenamed}

-- no two nodes get one birth name
abbrev pub AreApart : (NodeName → BirthName) → NamedNet NodeName → Type 0
AreApart m N = (x y : NodeName) (k l : Kind) (i j : ℕ) → HasNode N x k i → HasNode N y l j → m x ≡ m y → x ≡ y

-- the first node of the list that has this birth name
behind : (NodeName → BirthName) → List (NodeName × Kind × ℕ) → BirthName → NodeName
behind m [] b = Init 0
behind m (n ∷ nodes) b = cond (same_name (m n.0) b) n.0 (behind m nodes b)

behind_is : (m : NodeName → BirthName) (nodes : List (NodeName × Kind × ℕ)) →
    ((x y : NodeName) (k l : Kind) (i j : ℕ) → IsIn (x, k, i) nodes → IsIn (y, l, j) nodes → m x ≡ m y → x ≡ y) →
    (x : NodeName) (k : Kind) (i : ℕ) → IsIn (x, k, i) nodes → behind m nodes (m x) ≡ x
unfolding behind
behind_is m [] apart x k i h = absurd h
behind_is m (n ∷ nodes) apart x k i h = go (same_name (m n.0) (m x)) refl h
    (λ h'. behind_is m nodes (λ x y k l i j a b. apart x y k l i j (inr a) (inr b)) x k i h')
  where
    go : (b : Bool) → same_name (m n.0) (m x) ≡ b → IsIn (x, k, i) (n ∷ nodes) →
        (IsIn (x, k, i) nodes → behind m nodes (m x) ≡ x) → cond b n.0 (behind m nodes (m x)) ≡ x
    go true e h rest = apart n.0 x n.1 k n.2 i (inl refl) h (name_test.tells (m n.0) (m x) e)
    go false e (inl q) rest =
        let q' : x ≡ n.0 = ap (λ (d : NodeName × Kind × ℕ). d.0) q in
        absurd (let z = sym (name_test.holds (m n.0)) ∙ ap (λ x. same_name (m n.0) (m x)) (sym q') ∙ e in cc)
    go false e (inr h) rest = rest h

module _ (m m' : NodeName → BirthName) (L M : NamedNet NodeName) (apart : AreApart m L)
    (apart' : AreApart m' M) (is_net : IsNet L) (is_net' : IsNet M)
    (same : SameNet (net_under m L) (net_under m' M)) where
  -- the node of M that has the birth name of a node of L
  pub across : NodeName → NodeName
  across x = behind m' M.nodes (m x)

  met : (x y : NodeName) (k : Kind) (i : ℕ) → HasNode M y k i → m x ≡ m' y → across x ≡ y
  unfolding across
  met x y k i h e = ap (behind m' M.nodes) e ∙ behind_is m' M.nodes apart' y k i h

  met_port : (p q : NamedPort NodeName) → IsPort M q → port_under m p ≡ port_under m' q → port_under across p ≡ q
  met_port (free u) (free v) b e = let z : u ≡ v = cc in ap free z
  met_port (free u) (slot y t) b e = absurd (cc)
  met_port (slot x s) (free v) b e = absurd (cc)
  met_port (slot x s) (slot y t) b e =
      let z : m x ≡ m' y = cc in
      let w : s ≡ t = cc in
      let v = met x y b.0 b.1 b.2 z in
      ap (λ y. slot y s) v ∙ ap (λ s. slot y s) w

  record Met (x : NodeName) (k : Kind) (i : ℕ) : Type 0 where
    node : NodeName
    has : HasNode M node k i
    named : m x ≡ m' node
    is : across x ≡ node

  meets : (x : NodeName) (k : Kind) (i : ℕ) → HasNode L x k i → Met x k i
  meets x k i h =
      let t = node_from m' M (m x) k i ((same.nodes (m x) k i).0 (node_to m L x k i h)) in
      record { node = t.0; has = t.1; named = t.2; is = met x t.0 k i t.1 t.2 }

  -- which is its own
  pub across_birth : (x : NodeName) (k : Kind) (i : ℕ) → HasNode L x k i → m x ≡ m' (across x)
  across_birth x k i h = let t = meets x k i h in t.named ∙ ap m' (sym t.is)

  pub across_renames : IsRenamed across L M
  across_renames = record {
    free_ports = sym same.free_ports;
    nodes_to = λ x k i h. let t = meets x k i h in subst (λ y. HasNode M y k i) (sym t.is) t.has;
    nodes_from = λ y k i h. let t = node_from m L (m' y) k i
        ((same.nodes (m' y) k i).1 (node_to m' M y k i h)) in (t.0, t.1, sym (met t.0 y k i h (sym t.2)));
    links_to = λ p q h.
        let t = link_from m' M (port_under m p) (port_under m q)
        ((same.links (port_under m p) (port_under m q)).0 (link_to m L p q h)) in
        let ports = is_net'.of_ports t.0 t.1 t.4 in
        subst (λ u. Linked M u (port_under across q)) (sym (met_port p t.0 ports.0 t.2))
        (subst (λ u. Linked M t.0 u) (sym (met_port q t.1 ports.1 t.3)) t.4);
    links_from = λ p q h.
        let t = link_from m L (port_under m' p) (port_under m' q)
        ((same.links (port_under m' p) (port_under m' q)).1 (link_to m' M p q h)) in
        let ports = is_net'.of_ports p q h in
        (t.0, t.1, t.4, sym (met_port t.0 p ports.0 (sym t.2)), sym (met_port t.1 q ports.1 (sym t.3)));
    apart = λ x y k l i j h h' e.
        let t = meets x k i h in
        let u = meets y l j h' in
        let z : t.node ≡ u.node = sym t.is ∙ e ∙ u.is in
        apart x y k l i j h h' (t.named ∙ ap m' z ∙ sym u.named);
  }
