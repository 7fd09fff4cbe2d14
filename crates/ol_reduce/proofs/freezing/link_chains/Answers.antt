use Rattle.std.proofs.Common.{◌∙◌}
use Rattle.ol_wire.specs.Layout.{cells_of}
use Rattle.ol_reduce.proofs.Rounds.{met_first, celled_kept, keeps_all, filled_zeros}
use Rattle.ol_reduce.proofs.freezing.link_chains.Goals as goal

pub link_ports-requires-clause-before : goal.link_ports-requires-clause-before
link_ports-requires-clause-before c = (
  c.requires.before.0,
  met_first c.args.words.now c.args.live.now.places.items c.args.live.now.numbers.items
      c.requires.live c.stands.ensures.stands c.args.draft.now.partners.items c.resize.new.self.items
      (filled_zeros c.resize.new.self.items c.new-met.result.items c.wires_used.result _
      c.new-met.ensures.items c.in_ok-resize.ensures.items),
)

pub returns-clause-celled : goal.returns-clause-celled
returns-clause-celled c =
    celled_kept c.args.words.now c.args.live.now.places.items c.args.draft.now.partners.items
    c.link_nodes.new.draft.partners.items (cells_of c.args.words.now.plan.parts) c.requires.before.1
    (keeps_all c.args.draft.now.partners.items c.link_ports.new.draft.partners.items
    c.link_nodes.new.draft.partners.items c.link_ports.ensures.keeps.0 c.link_nodes.ensures.keeps.0)
    (c.link_nodes.ensures.keeps.1 ∙ c.link_ports.ensures.keeps.1)
