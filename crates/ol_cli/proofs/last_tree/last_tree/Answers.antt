use Rattle.std.proofs.Common.{◌*◌, ◌-◌, ap, subst, arith}
use Rattle.ol_readback.specs.Texts.{AreNamed}
use Rattle.ol_net.specs.Numbered.{net_of}
use Rattle.ol_readback.specs.ReadTrees.{IsTree}
use Rattle.ol_cli.specs.Run.{journal_of}
use Rattle.ol_cli.proofs.LastTrees.{ports_stay, reads_last}
use Rattle.ol_cli.proofs.Worked.{spent_answer}
use Rattle.ol_cli.proofs.last_tree.last_tree.Goals as goal

pub returns-in-Spent-clause-reads : goal.returns-in-Spent-clause-reads
returns-in-Spent-clause-reads g c = λ tr t names n.
    spent_answer tr t names c.args.net.now n.same c.args.numbers.fuel.most c.args.numbers.workers.count
    c.args.numbers.heads.most (journal_of c.in-Spent.words) c.in-Spent.words
    (rw c.in-Spent.is at c.in_ok-reduced.ensures.reduced) c.is_net.ensures.net

pub read_back-requires-clause-root : goal.read_back-requires-clause-root
read_back-requires-clause-root g c =
    let e = ports_stay c.args.net.now c.args.numbers.fuel.most c.args.numbers.workers.count c.in-Done.last
    (journal_of c.in-Done.words) c.in-Done.words (rw c.in-Done.is at c.in_ok-reduced.ensures.reduced).0 in
    let r = c.requires.root in
    omega (arith, e, r)

pub returns-clause-reads : goal.returns-clause-reads
returns-clause-reads g c = λ tr t names n.
    let tree = subst (λ n. IsTree (net_of c.in-Done.last) c.args.numbers.heads.most
    (2 * n) c.in_ok-tree-in-Done.tree) c.nodes.ensures.nodes c.in_ok-tree-in-Done.ensures.tree in
    reads_last tr t names c.args.net.now n.same c.args.numbers.fuel.most c.args.numbers.workers.count
    c.args.numbers.heads.most c.in-Done.last (journal_of c.in-Done.words) c.in-Done.words c.in_ok-tree-in-Done.tree
    (rw c.in-Done.is at c.in_ok-reduced.ensures.reduced).0 c.is_net.ensures.net c.is_net-in-Done.ensures.net tree

pub returns-clause-names : goal.returns-clause-names
returns-clause-names g c =
    let e = ports_stay c.args.net.now c.args.numbers.fuel.most c.args.numbers.workers.count c.in-Done.last
    (journal_of c.in-Done.words) c.in-Done.words (rw c.in-Done.is at c.in_ok-reduced.ensures.reduced).0 in
    subst (λ n. AreNamed n c.in_ok-tree-in-Done.tree) (ap (λ n. n - 1) e) c.in_ok-tree-in-Done.ensures.names
