use Rattle.std.proofs.Common.{arith, subst}
use Rattle.ol_cli.specs.NetLines.{AreLinesOf}
use Rattle.ol_cli.specs.Run.{journal_of}
use Rattle.ol_cli.proofs.LastTrees.{ports_stay}
use Rattle.ol_cli.proofs.NetRuns.{spent_goes_on, done_prints, done_is_large}
use Rattle.ol_cli.proofs.commands.net.rewrite.Goals as goal

pub returns-in-Spent-clause-answer : goal.returns-in-Spent-clause-answer
returns-in-Spent-clause-answer g c =
    let d = rw c.in-Spent.is at c.in_ok-reduce_counted.ensures.reduced in
    rw c.text_alone.ensures (
      spent_goes_on c.args.net.now c.is_net.ensures.net c.args.fuel.most
          c.args.workers.count (journal_of c.in-Spent.words) c.in-Spent.words d,
      c.in_ok-text-in-Spent.ensures,
    )

pub returns-then-nodes-gt-MOST_NODES-clause-answer : goal.returns-then-nodes-gt-MOST_NODES-clause-answer
returns-then-nodes-gt-MOST_NODES-clause-answer g c =
    let e = rw c.in-Done.is at c.in_ok-reduce_counted.ensures.reduced in
    let d = e.0 in
    let many = c.nodes.ensures.nodes in
    let past = done_is_large c.args.net.now c.is_net.ensures.net c.args.fuel.most c.args.workers.count (journal_of c.in-Done.words)
    c.in-Done.words c.in-Done.last d c.stuck-stuck.result c.is_net-in-Done.ensures.net
    c.stuck-stuck.ensures.stuck (omega (arith, many, c.if-nodes-gt-MOST_NODES.true)) in
    rw c.text_alone-then-nodes-gt-MOST_NODES.ensures (past.0, (past.1, c.in_ok-text-in-Done.ensures))

pub net_lines-requires-clause-few_ports : goal.net_lines-requires-clause-few_ports
net_lines-requires-clause-few_ports g c =
    let e = ports_stay c.args.net.now c.args.fuel.most c.args.workers.count c.in-Done.last (journal_of c.in-Done.words)
    c.in-Done.words (rw c.in-Done.is at c.in_ok-reduce_counted.ensures.reduced).0 in
    omega (arith, e, c.requires.small.free)

pub returns-clause-answer : goal.returns-clause-answer
returns-clause-answer g c =
    let e = rw c.in-Done.is at c.in_ok-reduce_counted.ensures.reduced in
    let d = e.0 in
    let few = c.nodes.ensures.nodes in
    let lines = subst (λ k. AreLinesOf c.in-Done.last k c.stuck-stuck.result
    c.in_ok-text-in-Done-2.text.items) e.1 c.in_ok-text-in-Done-2.ensures in
    rw c.text_alone-in-Done.ensures
    (done_prints c.args.net.now c.is_net.ensures.net c.args.fuel.most c.args.workers.count (journal_of c.in-Done.words)
    c.in-Done.words c.in-Done.last d c.stuck-stuck.result c.is_net-in-Done.ensures.net c.stuck-stuck.ensures.stuck
    c.is_tabled.ensures.tables (omega (
      arith,
      few,
      c.if-nodes-gt-MOST_NODES.false,
    )) c.in_ok-text-in-Done-2.text.items lines)
