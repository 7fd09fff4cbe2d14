use Rattle.ol_net.proofs.Reading.{kind_of-node, kind_of-none}
use Rattle.ol_net.proofs.graph.Net.kind_of.Goals as goal

pub returns-clause-node : goal.returns-clause-node
returns-clause-node c =
    rw (← c.self.view_is, c.kind_in.ensures, c.deref.ensures.value)
    (kind_of-node (record {
      free = c.self.inside.free;
      nodes = c.self.inside.nodes.items;
      partners = c.self.inside.partners.items;
    }) c.args.at.0)

pub returns-clause-none : goal.returns-clause-none
returns-clause-none c =
    rw (← c.self.view_is, c.kind_in.ensures, c.deref.ensures.value)
    (kind_of-none (record {
      free = c.self.inside.free;
      nodes = c.self.inside.nodes.items;
      partners = c.self.inside.partners.items;
    }) c.args.at.0)
