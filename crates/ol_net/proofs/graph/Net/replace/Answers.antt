use Rattle.std.proofs.Common.{arith}
use Rattle.ol_net.specs.Graph.{Graph}
use Rattle.ol_net.proofs.Replacing.{Given-from, kept, two-live}
use Rattle.ol_net.proofs.Replaced.{Replaces-from}
use Rattle.ol_net.proofs.Indexes.{HasIndexes-kept}
use Rattle.ol_net.proofs.graph.Net.replace.Goals as goal

pub replace_in-requires-clause-given : goal.replace_in-requires-clause-given
replace_in-requires-clause-given c =
    let face = rw (← c.self.view_is) at c.requires.facing in
    let fit = rw (← c.self.view_is) at c.requires.fit in
    Given-from (record {
      free = c.self.inside.free;
      nodes = c.self.inside.nodes.items;
      partners = c.self.inside.partners.items;
    }) c.args.first c.args.second c.args.born.now
    c.args.joins.now c.self.invariant.2 face fit

pub overflow_sub-self : goal.overflow_sub-self
overflow_sub-self c =
    let face = rw (← c.self.view_is) at c.requires.facing in
    let fit = rw (← c.self.view_is) at c.requires.fit in
    let given = Given-from (record {
      free = c.self.inside.free;
      nodes = c.self.inside.nodes.items;
      partners = c.self.inside.partners.items;
    }) c.args.first c.args.second c.args.born.now
    c.args.joins.now c.self.invariant.2 face fit in
    omega (arith, two-live _ _ _ _ _ _ _ given, c.self.invariant.0)

pub invariant_of-self-2 : goal.invariant_of-self-2
invariant_of-self-2 c =
    let face = rw (← c.self.view_is) at c.requires.facing in
    let fit = rw (← c.self.view_is) at c.requires.fit in
    let few = rw (← c.self.view_is) at c.requires.few in
    let given = Given-from (record {
      free = c.self.inside.free;
      nodes = c.self.inside.nodes.items;
      partners = c.self.inside.partners.items;
    }) c.args.first c.args.second c.args.born.now
    c.args.joins.now c.self.invariant.2 face fit in
    let k = kept _ c.self.inside.live _ c.replace_in.new.nodes.items _
    c.replace_in.new.partners.items _ _ _ _ given c.self.invariant.0
    c.in_ok-replace_in.ensures.nodes c.in_ok-replace_in.ensures.partners in
    let may = rw (← c.self.view_is) at c.requires.indexes in
    let indexes = HasIndexes-kept _ _ _ _ _ c.self.invariant.3 may c.in_ok-replace_in.ensures.nodes k.1 in
    (k.0, omega (arith, k.1, few, c.requires.few_born), k.2, indexes)

pub returns-clause-ok : goal.returns-clause-ok
returns-clause-ok c =
    let face = rw (← c.self.view_is) at c.requires.facing in
    let fit = rw (← c.self.view_is) at c.requires.fit in
    let old : Graph = record {
      free = c.self.inside.free;
      nodes = c.self.inside.nodes.items;
      partners = c.self.inside.partners.items;
    } in
    let given = Given-from old c.args.first c.args.second c.args.born.now c.args.joins.now
    c.self.invariant.2 face fit in
    rw (← c.self.view_is) (Replaces-from old _ _ c.args.first c.args.second c.args.born.now
    c.args.joins.now given c.in_ok-replace_in.ensures.nodes c.in_ok-replace_in.ensures.partners)
