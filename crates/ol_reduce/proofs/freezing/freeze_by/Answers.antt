use Rattle.std.proofs.Common.{ap, ◌∙◌, arith}
use Rattle.ol_wire.specs.declared.layout.Parts.{Parts}
use Rattle.ol_reduce.proofs.Whole.{fresh_partly, few, completed, built}
use Rattle.ol_reduce.proofs.freezing.freeze_by.Goals as goal

pub link_cells-requires-clause-before : goal.link_cells-requires-clause-before
link_cells-requires-clause-before c =
    fresh_partly c.args.words.now c.in_ok-live.live.places.items c.in_ok-draft.draft.kinds.items
    c.in_ok-draft.draft.partners.items (c.in_ok-draft.ensures.kinds ∙ c.count.ensures)
    (omega (
      arith,
      c.in_ok-draft.ensures.places,
      c.count.ensures,
      ap (λ (z : Parts). z.free) c.parts.ensures,
    )) c.in_ok-draft.ensures.alone

pub build-requires-clause-few : goal.build-requires-clause-few
build-requires-clause-few c =
    few c.args.words.now c.in_ok-live.live.places.items c.in_ok-live.live.numbers.items
    c.in_ok-live.ensures c.stands.ensures.stands c.link_chains.new.draft.kinds.items
    c.link_chains.new.draft.partners.items
    c.in_ok-link_chains.ensures.after c.in_ok-link_chains.ensures.celled
    c.in_ok-link_chains.ensures.walked c.link_chains.new.draft.free
    (c.in_ok-link_chains.ensures.free ∙ c.link_cells.ensures.free ∙ c.in_ok-draft.ensures.free
    ∙ ap (λ (z : Parts). z.free) c.parts.ensures)

pub build-requires-clause-complete : goal.build-requires-clause-complete
build-requires-clause-complete c =
    completed c.args.words.now c.in_ok-live.live.places.items c.in_ok-live.live.numbers.items
    c.in_ok-live.ensures c.stands.ensures.stands c.link_chains.new.draft.kinds.items
    c.link_chains.new.draft.partners.items
    c.in_ok-link_chains.ensures.after c.in_ok-link_chains.ensures.celled
    c.in_ok-link_chains.ensures.walked c.link_chains.new.draft.free
    (c.in_ok-link_chains.ensures.free ∙ c.link_cells.ensures.free ∙ c.in_ok-draft.ensures.free
    ∙ ap (λ (z : Parts). z.free) c.parts.ensures)

pub returns-clause-frozen : goal.returns-clause-frozen
returns-clause-frozen c =
    built c.args.words.now c.in_ok-live.live.places.items c.in_ok-live.live.numbers.items
    c.in_ok-live.ensures c.stands.ensures.stands c.link_chains.new.draft.kinds.items
    c.link_chains.new.draft.partners.items
    c.in_ok-link_chains.ensures.after c.in_ok-link_chains.ensures.celled
    c.in_ok-link_chains.ensures.walked c.link_chains.new.draft.free
    (c.in_ok-link_chains.ensures.free ∙ c.link_cells.ensures.free ∙ c.in_ok-draft.ensures.free
    ∙ ap (λ (z : Parts). z.free) c.parts.ensures) c.runs.ensures.one c.in_ok-net.net c.in_ok-net.ensures
