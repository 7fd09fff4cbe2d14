use Rattle.std.proofs.Common.{List, refl, sym, subst, arith}
use Rattle.std.proofs.lemmas.Option.{MatchOption-at_some}
use Rattle.ol_limits.specs.Limits.{most_fuel}
use Rattle.ol_net.specs.Numbered.{net_of}
use Rattle.ol_readback.specs.declared.answers.ReadNode.{ReadNode}
use Rattle.ol_readback.proofs.Forests.{heads_are_whole}
use Rattle.ol_readback.proofs.Named.{heads_are_named}
use Rattle.ol_decoding.specs.Parts.{IsBoehmTree}
use Rattle.ol_decoding.proofs.Heads.{heads_are_of_source}
use Rattle.ol_decoding.proofs.Reading.{over}
use Rattle.ol_decoding.proofs.boehm_trees.tree_of.Goals as goal

pub read-requires-clause-ready : goal.read-requires-clause-ready
read-requires-clause-ready c = let f = c.requires.few in omega arith

pub read-requires-clause-begins : goal.read-requires-clause-begins
read-requires-clause-begins c = record { same_depth = refl; same_fuel = refl; tree = λ ns y. y }

pub of-requires-clause-whole : goal.of-requires-clause-whole
of-requires-clause-whole c =
    let w = MatchOption-at_some _ _ c.in-Some.nodes c.in-Some.is c.in_ok-nodes.ensures.read in
    let t = over c.args.depth c.args.fuel.most c.args.net.now most_fuel c.read.new.asker.depth c.read.new.asker.fuel
    c.read.new.net c.read.new.asker.left c.args.heads.most w.0 c.in-Some.nodes.items w.1 w.2 in
    heads_are_whole (net_of c.args.net.now) _ c.in-Some.nodes.items
    (heads_are_of_source c.args.net.now c.args.depth c.args.heads.most c.args.fuel.most c.in-Some.nodes.items
    c.is_net.ensures.net t)

pub returns-clause-tree : goal.returns-clause-tree
returns-clause-tree c =
    let w = MatchOption-at_some _ _ c.in-Some.nodes c.in-Some.is c.in_ok-nodes.ensures.read in
    let t = over c.args.depth c.args.fuel.most c.args.net.now most_fuel c.read.new.asker.depth c.read.new.asker.fuel
    c.read.new.net c.read.new.asker.left c.args.heads.most w.0 c.in-Some.nodes.items w.1 w.2 in
    subst (λ (ns : List ReadNode). IsBoehmTree c.args.net.now c.args.depth c.args.heads.most c.args.fuel.most ns)
    (sym c.of.ensures) t

pub returns-clause-heads : goal.returns-clause-heads
returns-clause-heads c = heads_are_of_source c.args.net.now c.args.depth c.args.heads.most c.args.fuel.most c.of.result
    c.is_net.ensures.net (returns-clause-tree c)

pub returns-clause-named : goal.returns-clause-named
returns-clause-named c = heads_are_named (net_of c.args.net.now) _ c.of.result c.is_net.ensures.net
    (returns-clause-heads c)
