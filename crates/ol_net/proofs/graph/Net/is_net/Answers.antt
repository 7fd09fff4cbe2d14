use Rattle.ol_net.proofs.Numbered.{net_is_net}
use Rattle.ol_net.proofs.graph.Net.is_net.Goals as goal

pub returns : goal.returns
returns c =
    rw (← c.self.view_is) (record {
      net = net_is_net
          (record {
            free = c.self.inside.free;
            nodes = c.self.inside.nodes.items;
            partners = c.self.inside.partners.items;
          }) c.self.invariant.2;
    })
