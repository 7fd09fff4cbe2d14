-- The nodes and ports of a net are within its tables.
-- Used in Ends, Refs, Sites, Stands and Words.
use Rattle.std.proofs.Common.{◌≡◌, ℕ, ◌<◌, true, length, Some, arith}
use Rattle.std.proofs.lemmas.Bool.Decides.{nat_tests}
use Rattle.ol_net.specs.declared.parts.NodeId.{NodeId}
use Rattle.ol_net.specs.declared.parts.Port.{Port}
use Rattle.ol_net.specs.declared.parts.Port.TheVariants.{Free, Of}
use Rattle.ol_net.specs.Graph.{Graph, kind_at, has_port, partner_of}
use Rattle.ol_net.proofs.Places.{kind_at-within, has_slot-lt}
use Rattle.ol_net.proofs.Numbered.{partner_of-parts}

pub free_inside : (net : Graph) (m : ℕ) → has_port net.free net.nodes (Free m) ≡ true → m < net.free
free_inside net m h = grind (arith, nat_tests)

pub of_inside : (net : Graph) (m : NodeId) (s : ℕ) → has_port net.free net.nodes (Of m s) ≡ true →
    (m.0 < length net.nodes) × (s < 3)
of_inside net m s h = (kind_at-within net.nodes m.0 s h, has_slot-lt (kind_at net.nodes m.0) s h)

pub partner_node : (net : Graph) (p : Port) (m : NodeId) (s : ℕ) →
    partner_of net (Of m s) ≡ Some p → (m.0 < length net.nodes) × (s < 3)
partner_node net p m s e = of_inside net m s (partner_of-parts net (Of m s) p e).0
