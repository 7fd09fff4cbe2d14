use Rattle.std.proofs.lemmas.Result.{IfOk-weaker}
use Rattle.ol_term.specs.Trees.{tree_of}
use Rattle.ol_words.specs.declared.jobs.Job.TheVariants as jobs
use Rattle.ol_cli.proofs.TermJobs.{refused_comes, term_comes_if}
use Rattle.ol_cli.proofs.commands.trace.answer_trace.Goals as goal

pub returns-in-Refused-clause-comes : goal.returns-in-Refused-clause-comes
returns-in-Refused-clause-comes g c = λ files of.
    refused_comes (jobs.Trace c.args.translation c.args.workers.count c.args.fuel.most c.args.name.now) tt _
    c.in-Refused.answer (rw c.in-Refused.is at (c.in_ok-ready.ensures.comes files of))

pub returns-clause-comes : goal.returns-clause-comes
returns-clause-comes g c = λ files of.
    let r = rw c.in-Net.is at (c.in_ok-ready.ensures.comes files of) in
    let h = c.trace_net.ensures in
    let made = c.trace_net.result in
    let t = tree_of c.in-Net.file.term in
    let names = c.in-Net.file.names in
    term_comes_if (jobs.Trace c.args.translation c.args.workers.count c.args.fuel.most c.args.name.now) tt _
    c.in-Net.net c.in-Net.file r made
    (IfOk-weaker made _ _ (λ a each. each c.args.translation t names r.1.2.ready) h.answer)
    (IfOk-weaker made _ _ (λ a each. each c.args.translation t names r.1.2.ready) h.closed)
