-- How often a port stands in links, in wires and among the slots of nodes.
use Rattle.std.proofs.Common.{ℕ, ◌+◌, Bool, false, ◌&&◌, nat_eq, List, [], ◌∷◌, if◌then◌else◌}
use Rattle.ol_net.specs.declared.parts.Kind.{Kind}
use Rattle.ol_net.specs.declared.parts.Kind.TheVariants as kind
use Rattle.ol_net.specs.declared.parts.Port.{Port}
use Rattle.ol_net.specs.declared.parts.Port.TheVariants.{Free, Of}
use Rattle.ol_translate.specs.Translation.{Wires, slot_port}

abbrev pub port_eq : Port → Port → Bool
port_eq (Free m) (Free n) = nat_eq m n
port_eq (Free m) (Of k s) = false
port_eq (Of k s) (Free n) = false
port_eq (Of k s) (Of l t) = nat_eq k.0 l.0 && nat_eq s t

-- 1 where the two are one port
unfoldable pub hit : Port → Port → ℕ
hit p q = if port_eq p q then 1 else 0

-- how often p is an end of a link
abbrev pub uses : Port → List (Port × Port) → ℕ
uses p [] = 0
uses p (link ∷ links) = hit p link.0 + hit p link.1 + uses p links

-- how often p is the port of a wire
abbrev pub held : Port → Wires → ℕ
held p [] = 0
held p (w ∷ wires) = hit p w.1 + held p wires

-- how often p is a slot_port of a node of this kind and number
abbrev pub node_slots : Port → ℕ → Kind → ℕ
node_slots p k kind.Lam = hit p (slot_port k 0) + hit p (slot_port k 1) + hit p (slot_port k 2)
node_slots p k kind.App = hit p (slot_port k 0) + hit p (slot_port k 1) + hit p (slot_port k 2)
node_slots p k kind.Fan = hit p (slot_port k 0) + hit p (slot_port k 1) + hit p (slot_port k 2)
node_slots p k kind.Croissant = hit p (slot_port k 0) + hit p (slot_port k 1)
node_slots p k kind.Bracket = hit p (slot_port k 0) + hit p (slot_port k 1)
node_slots p k kind.Eraser = hit p (slot_port k 0)

-- how often p is a slot_port of these nodes, numbered from k on
abbrev pub slots : Port → ℕ → List (Kind × ℕ) → ℕ
slots p k [] = 0
slots p k (node ∷ nodes) = node_slots p k node.0 + slots p (k + 1) nodes

-- how often a variable has a wire
abbrev pub times : ℕ → Wires → ℕ
times v [] = 0
times v (w ∷ wires) = (if nat_eq w.0 v then 1 else 0) + times v wires

-- how often p is the free port of a name that has a wire
abbrev pub free_ends : Port → Wires → ℕ
free_ends p [] = 0
free_ends p (w ∷ wires) = hit p (Free (w.0 + 1)) + free_ends p wires
