-- That edges between ends stand for a net.
use Rattle.std.specs.Prelude.{◌≡◌, ℕ, suc, ◌+◌, ◌<◌, Bool, true, nat_eq, List, ◌⊎◌, ◌↔◌}
use Rattle.ol_law_edges.specs.Edges.{EdgeOf, ends, Contracted}
use Rattle.ol_net.specs.declared.parts.Kind.{Kind}
use Rattle.ol_net.specs.Parts.{arity}
use Rattle.ol_net.specs.Nets.{NamedPort, free, slot, NamedNet, HasNode, Linked}
use Rattle.ol_rules.specs.declared.journal.NodeName.{NodeName}
use Rattle.ol_wire.specs.declared.layout.Parts.{Parts}
use Rattle.ol_wire.specs.References.{node_ref, wire_ref, slot_ref}
use Rattle.ol_wire.specs.Layout.{port_word, place_of}

-- the end that stands for a port of the net; that of a slot 0 tells kind and index
pub data IsEnd (z : Parts) (net : NamedNet NodeName) : NamedPort NodeName → ℕ → Type 0 where
  of_port : {n : ℕ} → n < net.free_ports → IsEnd z net (free n) (wire_ref (port_word n))
  principal : {x : NodeName} (k : Kind) (i : ℕ) → HasNode net x k i
      → IsEnd z net (slot x 0) (node_ref k i (place_of z x))
  auxiliary : {x : NodeName} {s : ℕ} (k : Kind) (i : ℕ) → HasNode net x k i → s < arity k
      → IsEnd z net (slot x (suc s)) (slot_ref (place_of z x + s))

-- the end of a wire that is reached
abbrev pub IsWireEnd : (ℕ → Bool) → ℕ → Type 0
IsWireEnd reached e = (w : ℕ) × (reached w ≡ true) × (e ≡ wire_ref w)

-- Each port of the net stands at one end of an edge, each reached wire at two, and nothing else at
-- any. Once the wires are taken out, the edges are the links of the net.
pub record StandsForNet (z : Parts) (net : NamedNet NodeName) (reached : ℕ → Bool) (edges : List (ℕ × ℕ)) : Type 0 where
  pub ports : (p : NamedPort NodeName) (e : ℕ) → IsEnd z net p e → ends nat_eq e edges ≡ 1
  pub wires : (e : ℕ) → IsWireEnd reached e → ends nat_eq e edges ≡ 2
  pub others : (e : ℕ) → 0 < ends nat_eq e edges → ((p : NamedPort NodeName) × IsEnd z net p e) ⊎ IsWireEnd reached e
  pub links : (p q : NamedPort NodeName) (d e : ℕ) → IsEnd z net p d → IsEnd z net q e
      → Linked net p q ↔ Contracted (EdgeOf edges) (IsWireEnd reached) d e
