use Rattle.std.proofs.Common.{◌⊎◌, refl, sym, ap, ◌∙◌, subst, arith}
use Rattle.ol_wire.specs.declared.layout.Parts.{Parts}
use Rattle.ol_reduce.specs.Found.{wire_word, IsStartWire, IsBornWire}
use Rattle.ol_reduce.proofs.Arriving.{table_long}
use Rattle.ol_reduce.proofs.Walking.{empty_done, is_first, link_done, link_keeps, node_in, node_linked, port_within}
use Rattle.ol_reduce.proofs.Walking.{port_linked, port_known, wire_within, other_within, wire_done, wire_keeps, wire_at}
use Rattle.ol_reduce.proofs.freezing.link_one.Goals as goal

pub returns-then-first-eq0-clause-after : goal.returns-then-first-eq0-clause-after
returns-then-first-eq0-clause-after c =
    empty_done c.args.words.now c.args.live.now.places.items c.args.live.now.numbers.items
    c.requires.live c.stands.ensures.stands c.args.draft.now.kinds.items
    c.args.draft.now.partners.items c.args.met.now.items c.args.place c.args.at
    c.requires.place.0 c.requires.place.1 c.requires.word c.requires.before.0
    c.requires.before.1 c.word_at-first.result c.word_at-first.ensures c.if-first-eq0.true

pub arrive-other-requires-clause-node : goal.arrive-other-requires-clause-node
arrive-other-requires-clause-node c =
    node_in c.args.words.now c.args.live.now.places.items c.args.live.now.numbers.items
    c.requires.live c.stands.ensures.stands c.args.draft.now.kinds.items
    c.args.draft.now.partners.items c.args.met.now.items c.args.place c.args.at
    c.requires.place.0 c.requires.place.1 c.requires.word c.requires.before.0
    c.requires.before.1 c.word_at-first.result c.word_at-first.ensures c.if-first-eq0.false
    c.follow.result c.in-Node.reference c.in-Node.is c.follow.ensures

pub link-requires-in-Port : goal.link-requires-in-Port
link-requires-in-Port c = (
  c.requires.place.0,
  port_within c.args.words.now c.args.live.now.places.items
      c.args.live.now.numbers.items c.requires.live c.stands.ensures.stands
      c.args.draft.now.kinds.items c.args.draft.now.partners.items c.args.met.now.items
      c.args.place c.args.at c.requires.place.0 c.requires.place.1 c.requires.word
      c.requires.before.0 c.requires.before.1 c.word_at-first.result c.word_at-first.ensures
      c.if-first-eq0.false c.follow.result c.in-Port.port c.in-Port.is c.follow.ensures,
)

pub meet-requires-clause-wire : goal.meet-requires-clause-wire
meet-requires-clause-wire c =
    wire_within c.args.words.now c.args.live.now.places.items c.args.live.now.numbers.items
    c.requires.live c.stands.ensures.stands c.args.draft.now.kinds.items
    c.args.draft.now.partners.items c.args.met.now.items c.args.place c.args.at
    c.requires.place.0 c.requires.place.1 c.requires.word c.requires.before.0
    c.requires.before.1 c.word_at-first.result c.word_at-first.ensures c.if-first-eq0.false
    c.requires.met c.follow.result c.in-Wire.wire c.wire_number-number.result c.in-Wire.is
    (ap (λ (z : Parts). wire_word z c.wire_number-number.result) (sym c.parts-in-Wire.ensures)
    ∙ c.wire_number-number.ensures) c.follow.ensures

pub meet-requires-clause-other : goal.meet-requires-clause-other
meet-requires-clause-other c =
    other_within c.args.words.now c.args.live.now.places.items c.args.live.now.numbers.items
    c.requires.live c.stands.ensures.stands c.args.draft.now.kinds.items
    c.args.draft.now.partners.items c.args.met.now.items c.args.place c.args.at
    c.requires.place.0 c.requires.place.1 c.requires.word c.requires.before.0
    c.requires.before.1 c.word_at-first.result c.word_at-first.ensures c.if-first-eq0.false
    c.requires.met c.follow.result c.in-Wire.wire c.wire_number-number.result c.in-Wire.is
    (ap (λ (z : Parts). wire_word z c.wire_number-number.result) (sym c.parts-in-Wire.ensures)
    ∙ c.wire_number-number.ensures) c.follow.ensures

pub returns-in-Node-clause-keeps : goal.returns-in-Node-clause-keeps
returns-in-Node-clause-keeps c =
    link_keeps c.args.words.now c.args.live.now.places.items c.args.live.now.numbers.items
    c.requires.live c.stands.ensures.stands c.args.draft.now.kinds.items
    c.args.draft.now.partners.items c.args.met.now.items c.args.place c.args.at
    c.requires.place.0 c.requires.place.1 c.requires.word c.requires.before.0
    c.requires.before.1 c.word_at-first.result c.word_at-first.ensures
    c.arrive-other.new.draft.kinds.items c.link.new.self.kinds.items
    c.arrive-other.new.draft.partners.items c.link.new.self.partners.items c.arrive-other.result
    c.arrive-other.ensures.partners c.arrive-other.ensures.after c.arrive-other.ensures.within
    (node_linked c.args.words.now c.args.live.now.places.items c.args.live.now.numbers.items
    c.requires.live c.stands.ensures.stands c.args.draft.now.kinds.items
    c.args.draft.now.partners.items c.args.met.now.items c.args.place c.args.at
    c.requires.place.0 c.requires.place.1 c.requires.word c.requires.before.0
    c.requires.before.1 c.word_at-first.result c.word_at-first.ensures c.if-first-eq0.false
    c.follow.result c.in-Node.reference c.in-Node.is c.follow.ensures
    c.arrive-other.new.draft.kinds.items c.arrive-other.result c.arrive-other.ensures.site)
    (λ N reached s. (c.arrive-other.ensures.site N reached s).1) c.link.ensures.kinds c.link.ensures.partners

pub returns-in-Node-clause-after : goal.returns-in-Node-clause-after
returns-in-Node-clause-after c =
    link_done c.args.words.now c.args.live.now.places.items c.args.live.now.numbers.items
    c.requires.live c.stands.ensures.stands c.args.draft.now.kinds.items
    c.args.draft.now.partners.items c.args.met.now.items c.args.place c.args.at
    c.requires.place.0 c.requires.place.1 c.requires.word c.requires.before.0
    c.requires.before.1 c.word_at-first.result c.word_at-first.ensures
    c.arrive-other.new.draft.kinds.items c.link.new.self.kinds.items
    c.arrive-other.new.draft.partners.items c.link.new.self.partners.items c.arrive-other.result
    c.arrive-other.ensures.partners c.arrive-other.ensures.after c.arrive-other.ensures.within
    (node_linked c.args.words.now c.args.live.now.places.items c.args.live.now.numbers.items
    c.requires.live c.stands.ensures.stands c.args.draft.now.kinds.items
    c.args.draft.now.partners.items c.args.met.now.items c.args.place c.args.at
    c.requires.place.0 c.requires.place.1 c.requires.word c.requires.before.0
    c.requires.before.1 c.word_at-first.result c.word_at-first.ensures c.if-first-eq0.false
    c.follow.result c.in-Node.reference c.in-Node.is c.follow.ensures
    c.arrive-other.new.draft.kinds.items c.arrive-other.result c.arrive-other.ensures.site)
    (λ N reached s. (c.arrive-other.ensures.site N reached s).1) c.link.ensures.kinds c.link.ensures.partners

pub returns-in-Port-clause-keeps : goal.returns-in-Port-clause-keeps
returns-in-Port-clause-keeps c =
    link_keeps c.args.words.now c.args.live.now.places.items c.args.live.now.numbers.items
    c.requires.live c.stands.ensures.stands c.args.draft.now.kinds.items
    c.args.draft.now.partners.items c.args.met.now.items c.args.place c.args.at
    c.requires.place.0 c.requires.place.1 c.requires.word c.requires.before.0
    c.requires.before.1 c.word_at-first.result c.word_at-first.ensures
    c.args.draft.now.kinds.items c.link-in-Port.new.self.kinds.items
    c.args.draft.now.partners.items c.link-in-Port.new.self.partners.items c.in-Port.port refl c.requires.before.0
    (port_within c.args.words.now c.args.live.now.places.items c.args.live.now.numbers.items
    c.requires.live c.stands.ensures.stands c.args.draft.now.kinds.items
    c.args.draft.now.partners.items c.args.met.now.items c.args.place c.args.at
    c.requires.place.0 c.requires.place.1 c.requires.word c.requires.before.0
    c.requires.before.1 c.word_at-first.result c.word_at-first.ensures c.if-first-eq0.false
    c.follow.result c.in-Port.port c.in-Port.is c.follow.ensures)
    (port_linked c.args.words.now c.args.live.now.places.items c.args.live.now.numbers.items
    c.requires.live c.stands.ensures.stands c.args.draft.now.kinds.items
    c.args.draft.now.partners.items c.args.met.now.items c.args.place c.args.at
    c.requires.place.0 c.requires.place.1 c.requires.word c.requires.before.0
    c.requires.before.1 c.word_at-first.result c.word_at-first.ensures c.if-first-eq0.false
    c.follow.result c.in-Port.port c.in-Port.is c.follow.ensures)
    (port_known c.args.words.now c.args.live.now.places.items c.args.live.now.numbers.items
    c.requires.live c.stands.ensures.stands c.args.draft.now.kinds.items
    c.args.draft.now.partners.items c.args.met.now.items c.args.place c.args.at
    c.requires.place.0 c.requires.place.1 c.requires.word c.requires.before.0
    c.requires.before.1 c.word_at-first.result c.word_at-first.ensures c.if-first-eq0.false
    c.follow.result c.in-Port.port c.in-Port.is c.follow.ensures) c.link-in-Port.ensures.kinds
    c.link-in-Port.ensures.partners

pub returns-in-Port-clause-after : goal.returns-in-Port-clause-after
returns-in-Port-clause-after c =
    link_done c.args.words.now c.args.live.now.places.items c.args.live.now.numbers.items
    c.requires.live c.stands.ensures.stands c.args.draft.now.kinds.items
    c.args.draft.now.partners.items c.args.met.now.items c.args.place c.args.at
    c.requires.place.0 c.requires.place.1 c.requires.word c.requires.before.0
    c.requires.before.1 c.word_at-first.result c.word_at-first.ensures
    c.args.draft.now.kinds.items c.link-in-Port.new.self.kinds.items
    c.args.draft.now.partners.items c.link-in-Port.new.self.partners.items c.in-Port.port refl c.requires.before.0
    (port_within c.args.words.now c.args.live.now.places.items c.args.live.now.numbers.items
    c.requires.live c.stands.ensures.stands c.args.draft.now.kinds.items
    c.args.draft.now.partners.items c.args.met.now.items c.args.place c.args.at
    c.requires.place.0 c.requires.place.1 c.requires.word c.requires.before.0
    c.requires.before.1 c.word_at-first.result c.word_at-first.ensures c.if-first-eq0.false
    c.follow.result c.in-Port.port c.in-Port.is c.follow.ensures)
    (port_linked c.args.words.now c.args.live.now.places.items c.args.live.now.numbers.items
    c.requires.live c.stands.ensures.stands c.args.draft.now.kinds.items
    c.args.draft.now.partners.items c.args.met.now.items c.args.place c.args.at
    c.requires.place.0 c.requires.place.1 c.requires.word c.requires.before.0
    c.requires.before.1 c.word_at-first.result c.word_at-first.ensures c.if-first-eq0.false
    c.follow.result c.in-Port.port c.in-Port.is c.follow.ensures)
    (port_known c.args.words.now c.args.live.now.places.items c.args.live.now.numbers.items
    c.requires.live c.stands.ensures.stands c.args.draft.now.kinds.items
    c.args.draft.now.partners.items c.args.met.now.items c.args.place c.args.at
    c.requires.place.0 c.requires.place.1 c.requires.word c.requires.before.0
    c.requires.before.1 c.word_at-first.result c.word_at-first.ensures c.if-first-eq0.false
    c.follow.result c.in-Port.port c.in-Port.is c.follow.ensures) c.link-in-Port.ensures.kinds
    c.link-in-Port.ensures.partners

pub returns-in-Wire-clause-keeps : goal.returns-in-Wire-clause-keeps
returns-in-Wire-clause-keeps c =
    wire_keeps c.args.words.now c.args.live.now.places.items c.args.live.now.numbers.items
    c.requires.live c.stands.ensures.stands c.args.draft.now.kinds.items
    c.args.draft.now.partners.items c.args.met.now.items c.args.place c.args.at
    c.requires.place.0 c.requires.place.1 c.requires.word c.requires.before.0
    c.requires.before.1 c.word_at-first.result c.word_at-first.ensures c.if-first-eq0.false
    c.requires.met c.follow.result c.in-Wire.wire c.wire_number-number.result c.in-Wire.is
    (ap (λ (z : Parts). wire_word z c.wire_number-number.result) (sym c.parts-in-Wire.ensures)
    ∙ c.wire_number-number.ensures) c.follow.ensures c.meet.new.draft.kinds.items
    c.meet.new.draft.partners.items c.meet.new.met.items c.meet.ensures.kinds
    c.meet.ensures.waits c.meet.ensures.links

pub returns-in-Wire-clause-after : goal.returns-in-Wire-clause-after
returns-in-Wire-clause-after c =
    wire_done c.args.words.now c.args.live.now.places.items c.args.live.now.numbers.items
    c.requires.live c.stands.ensures.stands c.args.draft.now.kinds.items
    c.args.draft.now.partners.items c.args.met.now.items c.args.place c.args.at
    c.requires.place.0 c.requires.place.1 c.requires.word c.requires.before.0
    c.requires.before.1 c.word_at-first.result c.word_at-first.ensures c.if-first-eq0.false
    c.requires.met c.follow.result c.in-Wire.wire c.wire_number-number.result c.in-Wire.is
    (ap (λ (z : Parts). wire_word z c.wire_number-number.result) (sym c.parts-in-Wire.ensures)
    ∙ c.wire_number-number.ensures) c.follow.ensures c.meet.new.draft.kinds.items
    c.meet.new.draft.partners.items c.meet.new.met.items c.meet.ensures.kinds
    c.meet.ensures.waits c.meet.ensures.links

pub follow-requires-clause-first : goal.follow-requires-clause-first
follow-requires-clause-first c =
    is_first c.args.words.now c.args.live.now.places.items c.args.live.now.numbers.items
    c.requires.live c.stands.ensures.stands c.args.draft.now.kinds.items
    c.args.draft.now.partners.items c.args.met.now.items c.args.place c.args.at
    c.requires.place.0 c.requires.place.1 c.requires.word c.requires.before.0
    c.requires.before.1 c.word_at-first.result c.word_at-first.ensures c.if-first-eq0.false

pub meet-requires-clause-place : goal.meet-requires-clause-place
meet-requires-clause-place c =
    let t = table_long c.args.words.now c.args.live.now.places.items c.args.live.now.numbers.items
    c.requires.live c.stands.ensures.stands c.args.draft.now.kinds.items
    c.args.draft.now.partners.items c.requires.before.0 in
    (c.requires.place.0, omega (arith, c.requires.place.0, t.2))

pub wire_number-number-requires-clause-wire : goal.wire_number-number-requires-clause-wire
wire_number-number-requires-clause-wire c =
    subst (λ (z : Parts). IsStartWire z c.in-Wire.wire ⊎ IsBornWire z c.in-Wire.wire) (sym c.parts-in-Wire.ensures)
    (wire_at c.args.words.now c.args.live.now.places.items c.args.live.now.numbers.items
    c.requires.live c.stands.ensures.stands c.args.draft.now.kinds.items
    c.args.draft.now.partners.items c.args.met.now.items c.args.place c.args.at
    c.requires.place.0 c.requires.place.1 c.requires.word c.requires.before.0
    c.requires.before.1 c.word_at-first.result c.word_at-first.ensures c.if-first-eq0.false
    c.follow.result c.in-Wire.wire c.in-Wire.is c.follow.ensures)
