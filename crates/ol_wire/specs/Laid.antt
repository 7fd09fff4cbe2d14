-- The words of a net at the start, by its ports.
use Rattle.std.specs.Prelude.{ℕ, suc, ◌+◌, ◌-◌, ◌==◌, if◌then◌else◌, length, Option, Some, None}
use Rattle.ol_net.specs.declared.parts.Kind.{Kind}
use Rattle.ol_net.specs.declared.parts.Port.{Port}
use Rattle.ol_net.specs.declared.parts.Port.TheVariants.{Free, Of}
use Rattle.ol_net.specs.Graph.{Graph, kind_at, partner_of}
use Rattle.ol_rules.specs.Listed.{each}
use Rattle.ol_wire.specs.declared.layout.Parts.{Parts}
use Rattle.ol_wire.specs.References.{node_ref, wire_ref}
use Rattle.ol_wire.specs.Layout.{port_word, start_node, start_wire}
use Rattle.ol_wire.specs.Starts.{comes_first, wire_at}

-- the reference of a node, or 0 where no live node has the number
abbrev pub ref_of : Parts → ℕ → Option (Kind × ℕ) → ℕ
ref_of z n None = 0
ref_of z n (Some k) = node_ref k.0 k.1 (start_node z n)

abbrev pub node_word : Graph → Parts → ℕ → ℕ
node_word net z n = ref_of z n (kind_at net.nodes n)

-- the number of wires that come before that of slot s + 1 of node n
abbrev pub wires_before : Graph → ℕ → ℕ → ℕ
wires_before net n s = length (each n (λ m. each 2 (wire_at net m))) + length (each s (wire_at net n))

-- the number of the wire between slot s + 1 of node n and slot u of node m: that of the slot which comes first
abbrev pub wire_number : Graph → ℕ → ℕ → ℕ → ℕ → ℕ
wire_number net n s m u = if comes_first n (suc s) m u then wires_before net n s else wires_before net m (u - 1)

-- the field of slot s + 1 of node n, by its partner
abbrev pub field_to : Graph → Parts → ℕ → ℕ → Option Port → ℕ
field_to net z n s None = 0
field_to net z n s (Some (Free m)) = wire_ref (port_word m)
field_to net z n s (Some (Of m u)) = if u == 0 then node_word net z m.0 else wire_ref
    (start_wire z (wire_number net n s m.0 u))

abbrev pub field_of : Graph → Parts → ℕ → ℕ → ℕ
field_of net z n s = field_to net z n s (partner_of net (Of (record { 0 = n }) (suc s)))
