use Rattle.std.proofs.Common.{arith, sym, ap, ◌∙◌, ◌+◌, ◌-◌, Some}
use Rattle.ol_wire.proofs.Opening.Words.{wires_few, wire_comes_up, field_again_up}
use Rattle.ol_wire.proofs.net_words.field_of.Goals as goal

pub start_wire-requires : goal.start_wire-requires
start_wire-requires c = (
  c.requires.small.0,
  omega (
    arith,
    wires_few c.args.net.now c.args.node c.args.slot,
    c.requires.wires,
    c.requires.inside,
    c.requires.small.1.nodes,
  ),
)

pub returns-then-node-slot-clause-wires : goal.returns-then-node-slot-clause-wires
returns-then-node-slot-clause-wires c =
    let e = sym c.partner.ensures.table ∙ c.in-Some-Of.is ∙ ap (λ q. Some q) c.in-Some-Of.field-0-is in
    let h = wire_comes_up c.args.net.now c.args.node c.args.slot
    (c.args.slot + 1) c.in-Some-Of.other c.in-Some-Of.to (omega arith) c.if-to-eq0.false e
    (omega (arith, c.if-node-slot.true)) in
    omega (arith, h, c.requires.wires)

pub returns-else-node-slot-clause-field : goal.returns-else-node-slot-clause-field
returns-else-node-slot-clause-field c =
    let e = sym c.partner.ensures.table ∙ c.in-Some-Of.is ∙ ap (λ q. Some q) c.in-Some-Of.field-0-is in
    let back = (rw c.in-Some-Of.field-0-is at c.in-Some-Of.ensures).mutual in
    field_again_up c.args.net.now c.args.node c.args.slot
    (c.args.slot + 1) c.in-Some-Of.other c.in-Some-Of.to (omega arith) c.if-to-eq0.false e
    c.args.parts c.args.words.now (c.start_node.result +
    (c.in-Some-Of.to - 1)) c.requires.before back.0 back.1
    (omega (arith, c.if-node-slot.false)) c.requires.inside.1 (omega (arith, c.start_node.ensures))
