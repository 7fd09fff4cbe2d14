use Rattle.std.proofs.Common.{refl, ap, arith}
use Rattle.ol_wire.specs.declared.layout.Parts.{Parts}
use Rattle.ol_wire.specs.Layout.{table_size}
use Rattle.ol_reduce.proofs.Followed.{at_node, place_small, place_within, place_some, port_answer}
use Rattle.ol_reduce.proofs.Followed.{wire_answer, next_answer, never}
use Rattle.ol_reduce.proofs.chains.follow.Goals as goal

pub returns-then-is_node : goal.returns-then-is_node
returns-then-is_node c = at_node c.args.words.now c.args.first c.loop-step.step c.loop-step.at
    c.loop-step.invariant (c.is_node.ensures.0 c.if-is_node.true)

pub place_in-place-requires : goal.place_in-place-requires
place_in-place-requires c = place_small c.args.words.now c.args.first c.loop-step.step
    c.loop-step.at c.loop-step.invariant c.requires.first

pub overflow_sub-port : goal.overflow_sub-port
overflow_sub-port c =
    omega (
      arith,
      c.place_in-place.ensures,
      place_some c.args.words.now c.args.first c.loop-step.step c.loop-step.at
          c.loop-step.invariant c.requires.first c.is_node.result c.is_node.ensures c.if-is_node.false,
    )

pub returns-then-port-parts : goal.returns-then-port-parts
returns-then-port-parts c =
    port_answer c.args.words.now c.args.first c.loop-step.step c.loop-step.at c.loop-step.invariant
    c.requires.first c.is_node.result c.is_node.ensures c.if-is_node.false
    c.place_in-place.result c.place_in-place.ensures _ refl
    (omega (arith, c.if-port-parts.true, ap (λ (z : Parts). z.free) c.requires.parts))

pub word_at-next-requires : goal.word_at-next-requires
word_at-next-requires c = omega (
  arith,
  c.place_in-place.ensures,
  place_within c.args.words.now c.args.first c.loop-step.step c.loop-step.at c.loop-step.invariant c.requires.first,
)

pub returns-then-next-eq0 : goal.returns-then-next-eq0
returns-then-next-eq0 c =
    wire_answer c.args.words.now c.args.first c.loop-step.step c.loop-step.at c.loop-step.invariant
    c.requires.first c.is_node.result c.is_node.ensures c.if-is_node.false
    c.place_in-place.result c.place_in-place.ensures c.word_at-next.result
    (omega (
      arith,
      c.if-port-parts.false,
      ap (λ (z : Parts). z.free) c.requires.parts,
      c.place_in-place.ensures,
      place_some c.args.words.now c.args.first c.loop-step.step
          c.loop-step.at c.loop-step.invariant c.requires.first c.is_node.result c.is_node.ensures
          c.if-is_node.false,
    )) c.word_at-next.ensures c.if-next-eq0.true

pub loop-step-preserved : goal.loop-step-preserved
loop-step-preserved c =
    next_answer c.args.words.now c.args.first c.loop-step.step c.loop-step.at c.loop-step.invariant
    c.requires.first c.is_node.result c.is_node.ensures c.if-is_node.false
    c.place_in-place.result c.place_in-place.ensures c.word_at-next.result
    (omega (
      arith,
      c.if-port-parts.false,
      ap (λ (z : Parts). z.free) c.requires.parts,
      c.place_in-place.ensures,
      place_some c.args.words.now c.args.first c.loop-step.step
          c.loop-step.at c.loop-step.invariant c.requires.first c.is_node.result c.is_node.ensures
          c.if-is_node.false,
    )) c.word_at-next.ensures c.if-next-eq0.false

pub unreachable-requires : goal.unreachable-requires
unreachable-requires c =
    never c.args.words.now c.args.first c.loop-step.step c.loop-step.at c.loop-step.invariant c.requires.first
    (omega (arith, c.loop-step-test.false, c.size-step-end.ensures, ap (λ (z : Parts). table_size z) c.requires.parts))
