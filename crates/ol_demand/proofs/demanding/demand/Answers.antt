use Rattle.std.proofs.Common.{List, sym, subst}
use Rattle.std.proofs.lemmas.Option.{MatchOption-at_some, MatchOption-at_none}
use Rattle.ol_readback.specs.declared.answers.ReadNode.{ReadNode}
use Rattle.ol_demand.specs.Answers.{IsAnswer}
use Rattle.ol_demand.specs.declared.answers.Demanded.TheVariants as answer
use Rattle.ol_demand.proofs.Onward.{first_running, first_reading, done_answer, done_heads, done_whole, done_names}
use Rattle.ol_demand.proofs.Onward.{done_needed, done_no_more, spent_answer, spent_needed, spent_more}
use Rattle.ol_demand.proofs.demanding.demand.Goals as goal
use Rattle.ol_law_edges.proofs.Options.{on_err}

pub read-requires-clause-ready : goal.read-requires-clause-ready
read-requires-clause-ready c = first_running c.args.net.now c.new-run.result c.args.heads
    c.args.fuel c.is_net.ensures.net c.new-run.ensures.start c.new-run.ensures.born
    c.new-run.ensures.journal c.requires.few

pub read-requires-clause-begins : goal.read-requires-clause-begins
read-requires-clause-begins c = first_reading c.args.net.now c.new-run.result c.args.heads
    c.args.fuel c.is_net.ensures.net c.new-run.ensures.start c.new-run.ensures.born c.new-run.ensures.journal

pub returns-in_err-nodes-clause-no_memory : goal.returns-in_err-nodes-clause-no_memory
returns-in_err-nodes-clause-no_memory c = on_err c.from_residual.result c.in_err-nodes.ensures.stopped

pub returns-in_default-clause-answer : goal.returns-in_default-clause-answer
returns-in_default-clause-answer c =
    let h = MatchOption-at_none _ _ c.in_default.is c.in_ok-nodes.ensures.read in
    spent_answer c.args.net.now c.read.new.net c.is_net.ensures.net c.read.new.asker.run
    c.args.heads c.args.fuel h.0 h.1

pub returns-in_default-clause-spent : goal.returns-in_default-clause-spent
returns-in_default-clause-spent c =
    let h = MatchOption-at_none _ _ c.in_default.is c.in_ok-nodes.ensures.read in
    spent_more c.args.net.now c.read.new.net c.is_net.ensures.net c.read.new.asker.run c.args.heads c.args.fuel h.0 h.1

pub returns-in_default-clause-needed : goal.returns-in_default-clause-needed
returns-in_default-clause-needed c =
    let h = MatchOption-at_none _ _ c.in_default.is c.in_ok-nodes.ensures.read in
    spent_needed c.args.net.now c.read.new.net c.is_net.ensures.net c.read.new.asker.run
    c.args.heads c.args.fuel h.0 h.1

pub of-requires-clause-whole : goal.of-requires-clause-whole
of-requires-clause-whole c =
    let w = MatchOption-at_some _ _ c.in-Some.nodes c.in-Some.is c.in_ok-nodes.ensures.read in
    done_whole c.args.net.now c.read.new.net c.is_net.ensures.net c.args.heads c.args.fuel
    c.in-Some.nodes.items c.read.new.asker.run.journal
    (done_answer c.args.net.now c.args.fuel c.read.new.net c.read.new.asker.run
    c.read.new.asker.fuel c.args.heads w.0 c.in-Some.nodes.items w.1 w.2)

pub returns-clause-answer : goal.returns-clause-answer
returns-clause-answer c =
    let w = MatchOption-at_some _ _ c.in-Some.nodes c.in-Some.is c.in_ok-nodes.ensures.read in
    subst (λ (ns : List ReadNode). IsAnswer c.args.net.now c.args.heads c.args.fuel c.read.new.net
    (answer.Done ns c.read.new.asker.run.journal)) (sym c.of.ensures)
    (done_answer c.args.net.now c.args.fuel c.read.new.net c.read.new.asker.run
    c.read.new.asker.fuel c.args.heads w.0 c.in-Some.nodes.items w.1 w.2)

pub returns-clause-spent : goal.returns-clause-spent
returns-clause-spent c = done_no_more c.args.net.now c.read.new.net c.is_net.ensures.net
    c.args.heads c.args.fuel c.of.result c.read.new.asker.run.journal (returns-clause-answer c)

pub returns-clause-needed : goal.returns-clause-needed
returns-clause-needed c = done_needed c.args.net.now c.read.new.net c.is_net.ensures.net
    c.args.heads c.args.fuel c.of.result c.read.new.asker.run.journal (returns-clause-answer c)

pub returns-clause-heads : goal.returns-clause-heads
returns-clause-heads c = done_heads c.args.net.now c.read.new.net c.is_net.ensures.net c.args.heads
    c.args.fuel c.of.result c.read.new.asker.run.journal (returns-clause-answer c)

pub returns-clause-names : goal.returns-clause-names
returns-clause-names c = done_names c.args.net.now c.read.new.net c.is_net.ensures.net c.args.heads
    c.args.fuel c.of.result c.read.new.asker.run.journal (returns-clause-answer c)
