-- Nodes that are in no active pair, and the two that are one.
use Rattle.std.proofs.Common.{◌≢◌, ℕ}
use Rattle.ol_net.specs.Graph.{Graph}
use Rattle.ol_net.specs.Nets.{NamedPort, slot, Linked, IsNet}
use Rattle.ol_net.specs.Numbered.{net_of}
use Rattle.ol_rules.proofs.FreshPairs.{linked_sym}
use Rattle.ol_diamond.specs.Replaying.{AreIdle}

-- two nodes whose principal ports aren't joined
pub unlinked : (g : Graph) (f h : ℕ) → (Linked (net_of g) (slot f 0) (slot h 0) → ⊥) → AreIdle (net_of g) f h
unlinked g f h n r = ((λ a. n a.faces.linked), (λ a. n (linked_sym (net_of g) (slot h 0) (slot f 0) a.faces.linked)))

-- the partner of f's principal port is another port
pub otherwise : (g : Graph) (f h : ℕ) (q : NamedPort ℕ) → IsNet (net_of g) →
    Linked (net_of g) (slot f 0) q → slot h 0 ≢ q → AreIdle (net_of g) f h
otherwise g f h q n l d = unlinked g f h (λ k. d (n.one_link (slot f 0) (slot h 0) q k l))
