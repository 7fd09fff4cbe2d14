use Rattle.std.proofs.Common.{◌+◌, ◌*◌, slice_set, ap, ◌∙◌}
use Rattle.ol_wire.specs.References.{kind_in}
use Rattle.ol_reduce.proofs.Arriving.{node_place, node_small, arrived_after, arrived_site, arrived_keeps}
use Rattle.ol_reduce.proofs.freezing.arrive.Goals as goal

pub place_in-requires : goal.place_in-requires
place_in-requires c = node_small c.args.words.now c.args.live.now.places.items
    c.args.live.now.numbers.items c.requires.live c.stands.ensures.stands c.args.reference c.requires.node

pub number_at-node-requires-clause-place : goal.number_at-node-requires-clause-place
number_at-node-requires-clause-place c =
    node_place c.args.words.now c.args.live.now.places.items c.args.live.now.numbers.items
    c.requires.live c.stands.ensures.stands c.args.reference c.place_in.result c.requires.node c.place_in.ensures

pub returns-clause-after : goal.returns-clause-after
returns-clause-after c =
    arrived_after c.args.words.now c.args.live.now.places.items c.args.live.now.numbers.items
    c.requires.live c.stands.ensures.stands c.args.draft.now.kinds.items
    c.args.draft.now.partners.items c.requires.before c.args.reference c.requires.node
    c.number_at-node.result c.number_at-node.ensures.below
    (c.number_at-node.ensures.place ∙ c.place_in.ensures) c.set_kind.new.self.kinds.items
    c.set_kind.new.self.partners.items
    (c.set_kind.ensures.kinds ∙ ap (λ k.
    slice_set c.args.draft.now.kinds.items c.number_at-node.result
    (k, c.index_in.result)) c.kind_in.ensures
    ∙ ap (λ i. slice_set c.args.draft.now.kinds.items c.number_at-node.result
    (kind_in c.args.reference, i)) c.index_in.ensures)
    c.set_kind.ensures.partners

pub returns-clause-site : goal.returns-clause-site
returns-clause-site c =
    arrived_site c.args.words.now c.args.live.now.places.items c.args.live.now.numbers.items
    c.requires.live c.stands.ensures.stands c.args.draft.now.kinds.items
    c.args.draft.now.partners.items c.requires.before c.args.reference c.requires.node
    c.number_at-node.result c.number_at-node.ensures.below
    (c.number_at-node.ensures.place ∙ c.place_in.ensures) c.set_kind.new.self.kinds.items
    c.set_kind.new.self.partners.items
    (c.set_kind.ensures.kinds ∙ ap (λ k.
    slice_set c.args.draft.now.kinds.items c.number_at-node.result
    (k, c.index_in.result)) c.kind_in.ensures
    ∙ ap (λ i. slice_set c.args.draft.now.kinds.items c.number_at-node.result
    (kind_in c.args.reference, i)) c.index_in.ensures)
    c.set_kind.ensures.partners c.place_of.result
    (c.place_of.ensures ∙ ap (λ f. f + 3 * c.number_at-node.result + 0) (c.set_kind.ensures.free ∙ c.requires.free))

pub returns-clause-keeps : goal.returns-clause-keeps
returns-clause-keeps c =
    arrived_keeps c.args.words.now c.args.live.now.places.items c.args.live.now.numbers.items
    c.requires.live c.stands.ensures.stands c.args.draft.now.kinds.items
    c.args.draft.now.partners.items c.requires.before c.args.reference c.requires.node
    c.number_at-node.result c.number_at-node.ensures.below
    (c.number_at-node.ensures.place ∙ c.place_in.ensures) c.set_kind.new.self.kinds.items
    c.set_kind.new.self.partners.items
    (c.set_kind.ensures.kinds ∙ ap (λ k.
    slice_set c.args.draft.now.kinds.items c.number_at-node.result
    (k, c.index_in.result)) c.kind_in.ensures
    ∙ ap (λ i. slice_set c.args.draft.now.kinds.items c.number_at-node.result
    (kind_in c.args.reference, i)) c.index_in.ensures)
    c.set_kind.ensures.partners
