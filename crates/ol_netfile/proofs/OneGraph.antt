-- A net has one graph, where none of its numbers is gone
use Rattle.std.proofs.Common.{◌≡◌, ℕ, ◌<◌, true, false, not, nat_eq, length, None, sym, ◌∙◌, ap, inl, inr, arith}
use Rattle.std.proofs.lemmas.List.{get_or_default, ext_get_or}
use Rattle.std.proofs.lemmas.Bool.{cases_Bool}
use Rattle.std.proofs.lemmas.Bool.Decides.{nat_tests}
use Rattle.ol_net.specs.declared.parts.Port.{Port}
use Rattle.ol_net.specs.Graph.{Graph, IsTabled, has_port, place, port_at}
use Rattle.ol_net.specs.Pairing.{other}
use Rattle.ol_net.specs.Nets.{SameNet}
use Rattle.ol_net.specs.Numbered.{numbered_port, net_of}
use Rattle.ol_net.proofs.Numbered.{same_kinds, linked, net_is_net, numbered_port-injective}
use Rattle.ol_net.proofs.Numbered.{partner_of-parts, partner_of-there}
use Rattle.ol_net.proofs.Places.{place-port_at}
use Rattle.ol_netfile.proofs.SameNets.{same-graph}

-- equal nets have the same nodes under the same numbers
-- the same place has the same partner in the tables of two graphs with these nodes
same-other : (g h : Graph) → IsTabled g.free g.nodes g.partners →
    IsTabled h.free h.nodes h.partners → SameNet (net_of g) (net_of h) → g.free ≡ h.free →
    g.nodes ≡ h.nodes → (k : ℕ) → other g.partners k ≡ other h.partners k
same-other g h t u same free nodes k = elim (cases_Bool (has_port g.free g.nodes (port_at g.free k))) [
  | inl has ↦
      let p : Port = port_at g.free k in
      let at : port_at h.free k ≡ p = ap (λ f. port_at f k) (sym free) in
      let has' : has_port h.free h.nodes p ≡ true = ap (λ f. has_port f h.nodes p) (sym free)
      ∙ ap (λ ns. has_port g.free ns p) (sym nodes) ∙ has in
      let q = partner_of-there g p has in
      let r = partner_of-there h p has' in
      let one : r.0 ≡ q.0 = numbered_port-injective r.0 q.0
      ((net_is_net h u).one_link (numbered_port p) (numbered_port r.0) (numbered_port q.0)
      (linked h p r.0 u r.1) ((same.links (numbered_port p) (numbered_port q.0)).0 (linked g p q.0 t q.1))) in
      let there : place g.free p ≡ k = place-port_at g.free k in
      let there' : place h.free p ≡ k = ap (λ f. place f p) (sym free) ∙ there in
      let a : place g.free q.0 ≡ other g.partners k = ap (place g.free)
      (sym (partner_of-parts g p q.0 q.1).1)
      ∙ place-port_at g.free (other g.partners (place g.free p)) ∙ ap (other g.partners) there in
      let b : place h.free r.0 ≡ other h.partners k = ap (place h.free)
      (sym (partner_of-parts h p r.0 r.1).1)
      ∙ place-port_at h.free (other h.partners (place h.free p)) ∙ ap (other h.partners) there' in
      sym a ∙ ap (λ q. place g.free q) (sym one) ∙ ap (λ f. place f r.0) free ∙ b
  | inr lacks ↦
      let lacks' : has_port h.free h.nodes (port_at h.free k) ≡ false = ap
      (λ f. has_port f h.nodes (port_at f k)) (sym free)
      ∙ ap (λ ns. has_port g.free ns (port_at g.free k)) (sym nodes) ∙ lacks in
      let a : nat_eq (other g.partners k) k ≡ true = t.ports k ∙ ap not lacks in
      let b : nat_eq (other h.partners k) k ≡ true = u.ports k ∙ ap not lacks' in
      let a' : other g.partners k ≡ k = grind (arith, nat_tests, a) in
      let b' : other h.partners k ≡ k = grind (arith, nat_tests, b) in
      a' ∙ sym b'
]

pub one_graph : (g h : Graph) → IsTabled g.free g.nodes g.partners →
    IsTabled h.free h.nodes h.partners → SameNet (net_of g) (net_of h) → length g.nodes ≡ length h.nodes → g ≡ h
one_graph g h t u same size =
    let free = same.free_ports in
    let nodes : g.nodes ≡ h.nodes = ext_get_or None g.nodes h.nodes size (λ k lt. same_kinds g h same k) in
    let long : length g.partners ≡ length h.partners = omega (arith, t.size, u.size, free, size) in
    let partners : g.partners ≡ h.partners = ext_get_or 0 g.partners h.partners long (λ k lt.
    let lt' : k < length h.partners = omega arith in
    get_or_default g.partners k 0 k lt ∙ same-other g h t u same free nodes k
    ∙ sym (get_or_default h.partners k 0 k lt')) in
    same-graph g.free h.free g.nodes h.nodes g.partners h.partners free nodes partners
