use Rattle.std.proofs.Common.{ℕ, ◌≡◌, sym, subst}
use Rattle.ol_net.specs.Nets.{free, slot, Linked}
use Rattle.ol_net.specs.Numbered.{net_of, numbered_port}
use Rattle.ol_rules.proofs.FreshPairs.{linked_sym}
use Rattle.ol_rules.proofs.facing.node_at.Goals as goal

pub returns-then-slot-eq0 : goal.returns-then-slot-eq0
returns-then-slot-eq0 c = λ x.
    let N = net_of c.args.net.now in
    let P = numbered_port c.args.port in
    let l = subst (λ q. Linked N P (numbered_port q)) c.in-Some-Of.field-0-is c.in-Some-Of.ensures.linked in (
      (λ h.
          let e : slot x 0 ≡ slot c.in-Some-Of.node.0 c.in-Some-Of.slot = c.is_net.ensures.net.one_link P
          (slot x 0) (slot c.in-Some-Of.node.0 c.in-Some-Of.slot) (linked_sym N (slot x 0) P h) l in
          cc),
      (λ e.
          let here : Linked N P (slot c.in-Some-Of.node.0 0) = subst
          (λ (s : ℕ). Linked N P (slot c.in-Some-Of.node.0 s)) c.if-slot-eq0.true l in
          subst (λ (y : ℕ). Linked N (slot y 0) P) (sym e) (linked_sym N P (slot c.in-Some-Of.node.0 0) here)),
    )

pub returns-else-slot-eq0 : goal.returns-else-slot-eq0
returns-else-slot-eq0 c = λ x h.
    let N = net_of c.args.net.now in
    let P = numbered_port c.args.port in
    let l = subst (λ q. Linked N P (numbered_port q)) c.in-Some-Of.field-0-is c.in-Some-Of.ensures.linked in
    let e : slot x 0 ≡ slot c.in-Some-Of.node.0 c.in-Some-Of.slot = c.is_net.ensures.net.one_link P
    (slot x 0) (slot c.in-Some-Of.node.0 c.in-Some-Of.slot) (linked_sym N (slot x 0) P h) l in
    c.if-slot-eq0.false (cc)

pub returns-in-Some-Free : goal.returns-in-Some-Free
returns-in-Some-Free c = λ x h.
    let N = net_of c.args.net.now in
    let P = numbered_port c.args.port in
    let l = subst (λ q. Linked N P (numbered_port q)) c.in-Some-Free.field-0-is c.in-Some-Free.ensures.linked in
    let e : slot x 0 ≡ free c.in-Some-Free.field-0-0 = c.is_net.ensures.net.one_link P (slot x 0)
    (free c.in-Some-Free.field-0-0) (linked_sym N (slot x 0) P h) l in
    cc

pub returns-in-None : goal.returns-in-None
returns-in-None c = λ x h. c.in-None.ensures.none
    (c.is_net.ensures.net.of_ports (slot x 0) (numbered_port c.args.port) h).1
