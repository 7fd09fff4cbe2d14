use Rattle.std.proofs.Common.{List, refl, sym, subst}
use Rattle.std.proofs.lemmas.Option.{MatchOption-at_some}
use Rattle.ol_net.specs.Numbered.{net_of}
use Rattle.ol_readback.specs.ReadTrees.{IsTree}
use Rattle.ol_readback.specs.declared.answers.ReadNode.{ReadNode}
use Rattle.ol_readback.proofs.Forests.{tree_is_whole}
use Rattle.ol_readback.proofs.Named.{tree_is_named}
use Rattle.ol_readback.proofs.Sources.{own_heads}
use Rattle.ol_readback.proofs.Walking.{walked_tree}
use Rattle.ol_readback.proofs.reading.read_back.Goals as goal

pub read-requires-clause-begins : goal.read-requires-clause-begins
read-requires-clause-begins c = record { graph = refl; budget = refl; tree = λ ns y. y }

pub of-requires-clause-whole : goal.of-requires-clause-whole
of-requires-clause-whole c =
    let w = MatchOption-at_some _ _ c.in-Some.nodes c.in-Some.is c.in_ok-nodes.ensures.read in
    let t = walked_tree c.args.net.now c.args.edges c.read.new.net.now c.read.new.asker.edges
    c.args.heads w.0 c.in-Some.nodes.items w.1 w.2 in
    tree_is_whole (net_of c.args.net.now) c.args.heads c.args.edges c.in-Some.nodes.items t

pub returns-clause-tree : goal.returns-clause-tree
returns-clause-tree c =
    let w = MatchOption-at_some _ _ c.in-Some.nodes c.in-Some.is c.in_ok-nodes.ensures.read in
    let t = walked_tree c.args.net.now c.args.edges c.read.new.net.now c.read.new.asker.edges
    c.args.heads w.0 c.in-Some.nodes.items w.1 w.2 in
    subst (λ (ns : List ReadNode). IsTree (net_of c.args.net.now) c.args.heads c.args.edges ns) (sym c.of.ensures) t

pub returns-clause-names : goal.returns-clause-names
returns-clause-names c = tree_is_named
    (net_of c.args.net.now) c.args.heads c.args.edges c.of.result c.is_net.ensures.net (returns-clause-tree c)

pub returns-clause-heads : goal.returns-clause-heads
returns-clause-heads c = (own_heads (net_of c.args.net.now) c.is_net.ensures.net c.args.heads
    c.args.edges c.of.result (returns-clause-tree c)).0

pub returns-clause-lost : goal.returns-clause-lost
returns-clause-lost c = (own_heads (net_of c.args.net.now) c.is_net.ensures.net c.args.heads
    c.args.edges c.of.result (returns-clause-tree c)).1
