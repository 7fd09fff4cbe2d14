use Rattle.ol_net.proofs.Reading.{facing-active, facing-stuck, facing-none}
use Rattle.ol_net.proofs.graph.Net.facing.Goals as goal

pub returns-clause-active : goal.returns-clause-active
returns-clause-active c =
    rw (← c.self.view_is, c.facing_in.ensures, c.deref.ensures.value, c.deref-2.ensures.value)
    (facing-active (record {
      free = c.self.inside.free;
      nodes = c.self.inside.nodes.items;
      partners = c.self.inside.partners.items;
    }) c.args.at c.self.invariant.2)

pub returns-clause-stuck : goal.returns-clause-stuck
returns-clause-stuck c =
    rw (← c.self.view_is, c.facing_in.ensures, c.deref.ensures.value, c.deref-2.ensures.value)
    (facing-stuck (record {
      free = c.self.inside.free;
      nodes = c.self.inside.nodes.items;
      partners = c.self.inside.partners.items;
    }) c.args.at c.self.invariant.2)

pub returns-clause-none : goal.returns-clause-none
returns-clause-none c =
    rw (← c.self.view_is, c.facing_in.ensures, c.deref.ensures.value, c.deref-2.ensures.value)
    (facing-none (record {
      free = c.self.inside.free;
      nodes = c.self.inside.nodes.items;
      partners = c.self.inside.partners.items;
    }) c.args.at c.self.invariant.2)
