-- A port is the partner of its partner
use Rattle.std.proofs.Common.{◌≡◌, ◌≢◌, ℕ, ◌==◌, true, false, not, List, Option, Some, sym, ap, ◌∙◌, inl, inr, arith}
use Rattle.std.specs.Prelude.{IfSome}
use Rattle.std.proofs.lemmas.Bool.{cases_Bool}
use Rattle.std.proofs.lemmas.Bool.Decides.{nat_tests}
use Rattle.ol_net.specs.declared.parts.Kind.{Kind}
use Rattle.ol_net.specs.declared.parts.Port.{Port}
use Rattle.ol_net.specs.Pairing.{other}
use Rattle.ol_net.specs.Graph.{Graph, IsTabled, has_port, place, port_at, partner_in, partner_of}
use Rattle.ol_net.proofs.Places.{place-port_at, port_at-place, partner_in-some}

there : (free : ℕ) (nodes : List (Option (Kind × ℕ))) (xs : List ℕ) (p : Port) →
    IsTabled free nodes xs → has_port free nodes p ≡ true →
    (partner_in free nodes xs (port_at free (other xs (place free p))) ≡ Some p)
    × (port_at free (other xs (place free p)) ≢ p)
there free nodes xs p net has =
    let a = place free p in
    let b = other xs a in
    let back : other xs b ≡ a = net.paired a in
    let ta : (b == a) ≡ false = net.ports a
    ∙ ap not (ap (has_port free nodes) (port_at-place free nodes p has) ∙ has) in
    let ne : b ≢ a = λ e. grind (arith, nat_tests) in
    let nb : other xs b ≢ b = λ e. ne (sym e ∙ back) in
    let tb = net.ports b in
    let has_b : has_port free nodes (port_at free b) ≡ true = grind (arith, nat_tests) in
    let at : place free (port_at free b) ≡ b = place-port_at free b in (
      partner_in-some free nodes xs (port_at free b) has_b
          ∙ ap (λ k. Some (port_at free (other xs k))) at ∙ ap (λ k. Some (port_at free k)) back
          ∙ ap (λ q. Some q) (port_at-place free nodes p has),
      λ e. ne (sym at ∙ ap (place free) e),
    )

pub partner-mutual : (g : Graph) (p : Port) → IsTabled g.free g.nodes g.partners →
    IfSome (partner_of g p) (λ q. (partner_of g q ≡ Some p) × (q ≢ p))
partner-mutual g p net = elim (cases_Bool (has_port g.free g.nodes p)) [
  | inl has ↦ rw has (there g.free g.nodes g.partners p net has)
  | inr lacks ↦ rw lacks tt
]
