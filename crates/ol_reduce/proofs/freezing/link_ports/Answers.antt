use Rattle.std.proofs.Common.{◌≡◌, ap, arith}
use Rattle.ol_wire.specs.declared.layout.Parts.{Parts}
use Rattle.ol_reduce.proofs.Rounds.{port_word_at, met_at}
use Rattle.ol_reduce.proofs.freezing.link_ports.Goals as goal

pub link_one-requires-clause-word : goal.link_one-requires-clause-word
link_one-requires-clause-word c = port_word_at c.args.words.now c.args.live.now.places.items
    c.args.live.now.numbers.items c.requires.live c.stands.ensures.stands c.loop-port.port c.port_word.result
    (omega (arith, c.loop-port-test.true, ap (λ (z : Parts). z.free) c.parts-port-end.ensures)) c.port_word.ensures

pub returns-clause-after : goal.returns-clause-after
returns-clause-after c =
    let e : c.loop-port.port ≡ c.args.words.now.plan.parts.free = omega (
      arith,
      c.loop-port-test.false,
      c.loop-port.auto.port-end,
      ap (λ (z : Parts). z.free) c.parts-port-end.ensures,
    ) in (
      c.loop-port.invariant.partly,
      met_at c.args.words.now c.args.live.now.places.items
          c.args.live.now.numbers.items c.requires.live c.stands.ensures.stands
          c.loop-port.draft.partners.items c.loop-port.met.items c.loop-port.port
          c.args.words.now.plan.parts.free e c.loop-port.invariant.walked,
    )
