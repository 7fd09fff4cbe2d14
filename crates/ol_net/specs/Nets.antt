-- Nets over any names: nodes with a kind and an index, free ports, and links, each of two ports
-- (Lafont, Interaction Nets, 1990).
use Rattle.std.specs.Prelude.{◌≡◌, ℕ, ◌<◌, ◌≤◌, List, map, ◌↔◌, ◌⊎◌}
use Rattle.ol_law_edges.specs.Edges.{IsIn, Near}
use Rattle.ol_net.specs.declared.parts.Kind.{Kind}
use Rattle.ol_net.specs.Parts.{arity}

-- a free port, or a slot of the node of a name: slot 0 is its principal port, the others are auxiliary
pub data NamedPort (A : Type 0) : Type 0 where
  free : ℕ → NamedPort A
  slot : A → ℕ → NamedPort A

pub record NamedNet (A : Type 0) : Type 0 where
  pub nodes : List (A × Kind × ℕ)
  pub free_ports : ℕ
  pub links : List (NamedPort A × NamedPort A)

-- x is a node of kind k and index i
abbrev pub HasNode : {A : Type 0} → NamedNet A → A → Kind → ℕ → Type 0
HasNode N x k i = IsIn (x, k, i) N.nodes

-- p and q are the two ports of a link
abbrev pub Linked : {A : Type 0} → NamedNet A → NamedPort A → NamedPort A → Type 0
Linked N p q = Near N.links p q

-- the ports that a net has
abbrev pub IsPort : {A : Type 0} → NamedNet A → NamedPort A → Type 0
IsPort N (free n) = n < N.free_ports
IsPort N (slot x s) = (k : Kind) × (i : ℕ) × HasNode N x k i × (s ≤ arity k)

-- a name has one node, and each port stands in one link
pub record IsNet {A : Type 0} (N : NamedNet A) : Type 0 where
  pub one_node : (x : A) (k l : Kind) (i j : ℕ) → HasNode N x k i → HasNode N x l j → (k ≡ l) × (i ≡ j)
  pub of_ports : (p q : NamedPort A) → Linked N p q → IsPort N p × IsPort N q
  pub one_link : (p q r : NamedPort A) → Linked N p q → Linked N p r → q ≡ r
  pub apart : (p : NamedPort A) → Linked N p p → ⊥
  pub some_link : (p : NamedPort A) → IsPort N p → (q : NamedPort A) × Linked N p q

-- the same net, however its lists are ordered
pub record SameNet {A : Type 0} (M N : NamedNet A) : Type 0 where
  pub nodes : (x : A) (k : Kind) (i : ℕ) → HasNode M x k i ↔ HasNode N x k i
  pub free_ports : M.free_ports ≡ N.free_ports
  pub links : (p q : NamedPort A) → Linked M p q ↔ Linked N p q

-- a node of kind k and index i whose principal port is joined to that of a node of kind l and index j
pub record Faces {A : Type 0} (N : NamedNet A) (f g : A) (k : Kind) (i : ℕ) (l : Kind) (j : ℕ) : Type 0 where
  pub first : HasNode N f k i
  pub second : HasNode N g l j
  pub linked : Linked N (slot f 0) (slot g 0)

-- the principal ports of two nodes, and all their slots
abbrev pub IsPrincipalOf : {A : Type 0} → A → A → NamedPort A → Type 0
IsPrincipalOf f g p = (p ≡ slot f 0) ⊎ (p ≡ slot g 0)

abbrev pub IsSlotOf : {A : Type 0} → A → A → NamedPort A → Type 0
IsSlotOf f g p = (s : ℕ) × ((p ≡ slot f s) ⊎ (p ≡ slot g s))

-- the same port and the same net, each name x written m x
abbrev pub port_under : {A B : Type 0} → (A → B) → NamedPort A → NamedPort B
port_under m (free n) = free n
port_under m (slot x s) = slot (m x) s

abbrev pub net_under : {A B : Type 0} → (A → B) → NamedNet A → NamedNet B
net_under {A} m N = record {
  nodes = map (λ (n : A × Kind × ℕ). (m n.0, n.1, n.2)) N.nodes;
  free_ports = N.free_ports;
  links = map (λ (e : NamedPort A × NamedPort A). (port_under m e.0, port_under m e.1)) N.links;
}
