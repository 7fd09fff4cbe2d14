-- After a ticket the edges join what the net links.
-- Used in Ticket.Keeps.
use Rattle.std.proofs.Common.{ℕ, Bool, List, ◌↔◌, subst}
use Rattle.ol_law_edges.specs.Edges.{EdgeOf, Contracted}
use Rattle.ol_net.specs.declared.parts.Kind.{Kind}
use Rattle.ol_net.specs.declared.parts.Rule.{Rule}
use Rattle.ol_net.specs.Nets.{NamedNet, NamedPort, Linked}
use Rattle.ol_rules.specs.declared.journal.NodeName.{NodeName}
use Rattle.ol_wire.specs.declared.layout.Parts.{Parts}
use Rattle.ol_wire.specs.Stands.{IsEnd, IsWireEnd}
use Rattle.ol_wire.proofs.Ticket.Event.{Rewritten}
use Rattle.ol_wire.proofs.Links.Ends.{StandsAt, one_end, one_port, not_wire_after, rewrites, stands_after, apart_after}
use Rattle.ol_wire.proofs.Links.Joins.{ports_to_ends, ends_to_ports}
use Rattle.ol_wire.proofs.Links.Moved.{joined_both}

module _ (z : Parts) (N M : NamedNet NodeName) (x y : NodeName) (k l : Kind) (i j t : ℕ) (r : Rule)
    (a b : ℕ → ℕ) (es fs rest : List (ℕ × ℕ)) (reached reached' : ℕ → Bool)
    (c : Rewritten z N M x y k l i j t r a b es fs rest reached reached') where
  pub links_after : (p q : NamedPort NodeName) (d e : ℕ) → IsEnd z M p d → IsEnd z M q e →
      Linked M p q ↔ Contracted (EdgeOf fs) (IsWireEnd reached') d e
  links_after p q d e h h' = (to, from)
    where
      stands : StandsAt c p d
      stands = stands_after c p d h

      stands' : StandsAt c q e
      stands' = stands_after c q e h'

      to : Linked M p q → Contracted (EdgeOf fs) (IsWireEnd reached') d e
      to linked =
          let s = ((rewrites c).links p q).0 linked in
          record {
            first = not_wire_after c p d stands;
            second = not_wire_after c q e stands';
            apart = λ o. s.apart (one_port c p q e (subst (StandsAt c p) o stands) stands');
            joined = (joined_both c p q d e stands stands' (apart_after c p d h)
                (apart_after c q e h')).0 (ports_to_ends c p q d e stands stands' s.joined);
          }

      from : Contracted (EdgeOf fs) (IsWireEnd reached') d e → Linked M p q
      from s =
          ((rewrites c).links p q).1
          (record {
            first = apart_after c p d h;
            second = apart_after c q e h';
            apart = λ o. s.apart (one_end c q d e (subst (λ p. StandsAt c p d) o stands) stands');
            joined = ends_to_ports c p q d e stands stands' (apart_after c p d h)
                (apart_after c q e h') ((joined_both c p q d e stands stands' (apart_after c p d h)
                (apart_after c q e h')).1 s.joined);
          })
