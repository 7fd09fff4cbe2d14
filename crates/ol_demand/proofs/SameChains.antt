-- The same net, however its lists are ordered, has the same chains.
use Rattle.std.proofs.Common.{◌≡◌, ℕ, arith}
use Rattle.ol_net.specs.declared.parts.Rule.{Rule}
use Rattle.ol_net.specs.Nets.{NamedNet, NamedPort, free, slot, SameNet}
use Rattle.ol_context.specs.Contexts.{Context}
use Rattle.ol_context.specs.Paths.{Through, through}
use Rattle.ol_context.specs.Short.{live}
use Rattle.ol_rules.proofs.Relation.{same_sym}
use Rattle.ol_rules.proofs.Same.{active_same}
use Rattle.ol_demand.specs.Chains.{IsAtPair, IsAtNoPair, Chain, starts, crosses, End, Stands}
use Rattle.ol_demand.specs.Chains.{at_pair, at_port, barred, at_last, Ends}

at_pair_same : {A : Type 0} (M N : NamedNet A) → SameNet M N →
    (u : NamedPort A) (f g : A) (r : Rule) → IsAtPair M u f g r → IsAtPair N u f g r
at_pair_same M N s u f g r a = record { active = active_same M N s f g r a.active; principal = a.principal }

through_same : {A : Type 0} (M N : NamedNet A) → SameNet M N → (p q : NamedPort A) (d e : Context) →
    Through M p d q e → Through N p d q e
through_same M N s p q d e (through {x = x} {k = k} {i = i} h y) = through ((s.nodes x k i).0 h) y

module _ {A : Type 0} (M N : NamedNet A) (s : SameNet M N) (l : live M ≡ live N) where
  no_pair_same : (u : NamedPort A) → IsAtNoPair M u → IsAtNoPair N u
  no_pair_same u h f g r a = h f g r (at_pair_same N M (same_sym M N s) u f g r a)

  chain_same : {p : ℕ} {c : Context} {n : ℕ} {u : NamedPort A} {d : Context} → Chain M p c n u d → Chain N p c n u d
  chain_same starts = starts
  chain_same (crosses {u = u} {x = x} {k = k} {i = i} {s = t} h a b y z w) = crosses (chain_same h)
      (no_pair_same u a) (omega arith) ((s.links u (slot x t)).0 y) ((s.nodes x k i).0 z) w

  stands_same : {n : ℕ} {u : NamedPort A} {d : Context} {end : End A} → Stands M n u d end → Stands N n u d end
  stands_same {u = u} (at_pair {f = f} {g = g} {r = r} a) = at_pair (at_pair_same M N s u f g r a)
  stands_same {u = u} (at_port {q = q} y) = at_port ((s.links u (free q)).0 y)
  stands_same {u = u} {d = d} (barred {x = x} {s = t} a y b) = barred (no_pair_same u a)
      ((s.links u (slot x t)).0 y) (λ q e z. b q e (through_same N M (same_sym M N s) (slot x t) q d e z))
  stands_same {u = u} {d = d} (at_last {x = x} {s = t} {v = v} {e = e} a y z b) = at_last
      (no_pair_same u a) ((s.links u (slot x t)).0 y) (through_same M N s (slot x t) v d e z) (omega arith)

  pub ends_same : (p : ℕ) (c : Context) (end : End A) → Ends M p c end → Ends N p c end
  ends_same p c end h = record {
    made = h.made;
    port = h.port;
    context = h.context;
    chain = chain_same h.chain;
    stands = stands_same h.stands;
  }
