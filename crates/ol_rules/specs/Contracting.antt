-- A step by contraction: the edges between vertices, which get their names afterwards, and what is
-- left once slots are taken out.
use Rattle.std.specs.Prelude.{◌≡◌, ℕ, zero, suc, ◌+◌, List, [], ◌∷◌, ◌++◌, map, filter, Bool, false}
use Rattle.std.specs.Prelude.{cond, not, ◌||◌, ◌&&◌, nat_eq, ◌↔◌}
use Rattle.ol_law_edges.specs.Edges.{Near, Ready, ends, contract_all}
use Rattle.ol_net.specs.Nets.{NamedPort, free, slot, NamedNet, HasNode, Linked, IsPort}
use Rattle.ol_net.specs.Parts.{arity}
use Rattle.ol_net.specs.declared.parts.Kind.{Kind}
use Rattle.ol_net.specs.declared.parts.Rule.{Rule}
use Rattle.ol_rules.specs.Listed.{each}
use Rattle.ol_rules.specs.Rewriting.{is_meeting, index_after}

abbrev pub port_same : {A : Type 0} → (A → A → Bool) → NamedPort A → NamedPort A → Bool
port_same same (free m) (free n) = nat_eq m n
port_same same (slot x s) (slot y t) = same x y && nat_eq s t
port_same same (free m) (slot y t) = false
port_same same (slot x s) (free n) = false

-- a net by its counts: each port stands in its links once
pub record IsCounted {A : Type 0} (same : A → A → Bool) (N : NamedNet A) : Type 0 where
  pub one_node : (x : A) (k l : Kind) (i j : ℕ) → HasNode N x k i → HasNode N x l j → (k ≡ l) × (i ≡ j)
  pub of_ports : (p q : NamedPort A) → Linked N p q → IsPort N p
  pub once : (p : NamedPort A) → IsPort N p → ends (port_same same) p N.links ≡ 1

-- Where edges end in a step: at a port of the net before it, or at a slot of a copy. The copy of f
-- at slot q + 1 of g is f_copy q, the copy of g at slot p + 1 of f is g_copy p.
pub data Vertex (A : Type 0) : Type 0 where
  old : NamedPort A → Vertex A
  f_copy : ℕ → ℕ → Vertex A
  g_copy : ℕ → ℕ → Vertex A

abbrev pub vertex_same : {A : Type 0} → (A → A → Bool) → Vertex A → Vertex A → Bool
vertex_same same (old p) (old q) = port_same same p q
vertex_same same (f_copy q s) (f_copy r t) = nat_eq q r && nat_eq s t
vertex_same same (g_copy q s) (g_copy r t) = nat_eq q r && nat_eq s t
vertex_same same _ _ = false

module _ {A : Type 0} (f g : A) where
  -- slots of the same number are joined
  abbrev pub meeting_joins : ℕ → List (Vertex A × Vertex A)
  meeting_joins n = each n (λ s. (old (slot f (suc s)), old (slot g (suc s))) ∷ [])

  -- the copies are joined to what the slots were joined to, and to one another
  abbrev pub crossing_joins : ℕ → ℕ → List (Vertex A × Vertex A)
  crossing_joins m n =
      each n (λ q. (f_copy q 0, old (slot g (suc q))) ∷ [])
      ++ (each m (λ p. (g_copy p 0, old (slot f (suc p))) ∷ [])
      ++ each n (λ q. each m (λ p. (f_copy q (suc p), g_copy p (suc q)) ∷ [])))

  abbrev pub joins_by : Rule → Kind → Kind → List (Vertex A × Vertex A)
  joins_by r k l = cond (is_meeting r) (meeting_joins (arity k)) (crossing_joins (arity k) (arity l))

  -- the slots that go, beside slot 0
  abbrev pub gone : ℕ → ℕ → List (Vertex A)
  gone m n = each m (λ p. old (slot f (suc p)) ∷ []) ++ each n (λ q. old (slot g (suc q)) ∷ [])

  -- the name that a vertex has afterwards
  abbrev pub name : ℕ → (ℕ → A) → Vertex A → NamedPort A
  name n born (old p) = p
  name n born (f_copy q s) = slot (born q) s
  name n born (g_copy p s) = slot (born (n + p)) s

  abbrev pub is_principal : (A → A → Bool) → NamedPort A → Bool
  is_principal same (free k) = false
  is_principal same (slot x zero) = same x f || same x g
  is_principal same (slot x (suc s)) = false

  -- the nodes born
  abbrev pub born_nodes : (ℕ → A) → Kind → ℕ → Kind → ℕ → List (A × Kind × ℕ)
  born_nodes born k i l j =
      each (arity l) (λ q. (born q, k, i) ∷ []) ++ each (arity k) (λ p. (born (arity l + p), l, j) ∷ [])

  module _ (same : A → A → Bool) (born : ℕ → A) (N : NamedNet A) where
    -- the nodes and the links that stay
    abbrev pub nodes_left : List (A × Kind × ℕ)
    nodes_left = filter (λ n. not (same n.0 f || same n.0 g)) N.nodes

    abbrev pub links_left : List (Vertex A × Vertex A)
    links_left = map (λ e. (old e.0, old e.1)) (filter (λ e. not (is_principal same e.0)) N.links)

    abbrev pub rewritten : List (A × Kind × ℕ) → List (Vertex A × Vertex A) → ℕ → ℕ → NamedNet A
    rewritten nodes joins m n = record {
      nodes = nodes_left ++ nodes;
      free_ports = N.free_ports;
      links = map (λ e. (name n born e.0, name n born e.1))
          (contract_all (vertex_same same) (gone m n) (joins ++ links_left));
    }

    -- f of kind k and index i against g of kind l and index j
    abbrev pub rewrite : Rule → Kind → ℕ → Kind → ℕ → NamedNet A
    rewrite r k i l j = cond (is_meeting r)
        (rewritten [] (meeting_joins (arity k)) (arity k) (arity l))
        (rewritten (born_nodes born k i l (index_after r j)) (crossing_joins (arity k) (arity l)) (arity k) (arity l))

-- The links of M are what is left of the edges, which are the joins and the links of N that stay,
-- once the slots of f and g were taken out one by one. Each slot that goes has two ends of edges,
-- and each other vertex one at most: so the slots can be taken out in any order.
pub record IsContracted {A : Type 0} (same : A → A → Bool) (born : ℕ → A) (N : NamedNet A) (f g : A) (k l : Kind)
    (joins : List (Vertex A × Vertex A)) (M : NamedNet A) : Type 0 where
  pub ready : Ready (vertex_same same) (gone f g (arity k) (arity l)) (joins ++ links_left f g same born N)
  pub links : (p q : NamedPort A) → Linked M p q
      ↔ Near (map (λ e. (name f g (arity l) born e.0, name f g (arity l) born e.1))
      (contract_all (vertex_same same) (gone f g (arity k) (arity l)) (joins ++ links_left f g same born N))) p q
