use Rattle.std.proofs.Common.{arith}
use Rattle.ol_cli.proofs.Traced.{spent_traces, spent_trace_hands, spent_leads, done_traces}
use Rattle.ol_cli.proofs.Traced.{done_trace_hands, done_leads}
use Rattle.ol_cli.proofs.commands.trace.trace_net.Goals as goal

pub trace_text_2-requires-clause-few : goal.trace_text_2-requires-clause-few
trace_text_2-requires-clause-few g c =
    let d = rw c.in-Spent.is at c.in_ok-reduced.ensures.reduced in
    let e = d.steps in
    let f = c.args.fuel.within in
    let s = c.requires.small.nodes in
    omega (arith, e, f, s)

pub trace_text_2-requires-clause-run : goal.trace_text_2-requires-clause-run
trace_text_2-requires-clause-run g c = spent_leads c.args.net.now c.args.fuel.most c.args.workers.count
    c.in-Spent.journal c.in-Spent.words (rw c.in-Spent.is at c.in_ok-reduced.ensures.reduced)

pub trace_text_2-requires-in-Done-clause-few : goal.trace_text_2-requires-in-Done-clause-few
trace_text_2-requires-in-Done-clause-few g c =
    let d = rw c.in-Done.is at c.in_ok-reduced.ensures.reduced in
    let e = d.within in
    let f = c.args.fuel.within in
    let s = c.requires.small.nodes in
    omega (arith, e, f, s)

pub trace_text_2-requires-in-Done-clause-run : goal.trace_text_2-requires-in-Done-clause-run
trace_text_2-requires-in-Done-clause-run g c = done_leads c.args.net.now c.args.fuel.most c.args.workers.count
    c.in-Done.journal c.in-Done.words c.in-Done.net (rw c.in-Done.is at c.in_ok-reduced.ensures.reduced)

pub returns-in-Spent-clause-answer : goal.returns-in-Spent-clause-answer
returns-in-Spent-clause-answer g c = λ tr t names n.
    spent_traces tr t names c.args.net.now n.same c.is_net.ensures.net c.args.fuel.most c.args.workers.count
    c.in-Spent.journal c.in-Spent.words c.in_ok-text-in-Spent.text.items c.in_ok-text-in-Spent.ensures.text
    (rw c.in-Spent.is at c.in_ok-reduced.ensures.reduced)

pub returns-in-Spent-clause-closed : goal.returns-in-Spent-clause-closed
returns-in-Spent-clause-closed g c = λ tr t names n.
    spent_trace_hands tr t names c.args.net.now n.same c.is_net.ensures.net c.args.fuel.most
    c.args.workers.count c.in-Spent.journal c.in-Spent.words c.in_ok-text-in-Spent.text.items
    c.in_ok-text-in-Spent.ensures.text (rw c.in-Spent.is at c.in_ok-reduced.ensures.reduced) c.once.ensures.once

pub returns-clause-answer : goal.returns-clause-answer
returns-clause-answer g c = λ tr t names n.
    done_traces tr t names c.args.net.now n.same c.is_net.ensures.net c.args.fuel.most c.args.workers.count
    c.in-Done.journal c.in-Done.words c.in_ok-text-in-Done.text.items
    c.in_ok-text-in-Done.ensures.text c.in-Done.net (rw c.in-Done.is at c.in_ok-reduced.ensures.reduced)

pub returns-clause-closed : goal.returns-clause-closed
returns-clause-closed g c = λ tr t names n.
    done_trace_hands tr t names c.args.net.now n.same c.is_net.ensures.net c.args.fuel.most
    c.args.workers.count c.in-Done.journal c.in-Done.words c.in_ok-text-in-Done.text.items
    c.in_ok-text-in-Done.ensures.text c.in-Done.net
    (rw c.in-Done.is at c.in_ok-reduced.ensures.reduced) c.once-in-Done.ensures.once
