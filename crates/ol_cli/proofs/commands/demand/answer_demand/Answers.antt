use Rattle.ol_words.specs.declared.jobs.Job.TheVariants as jobs
use Rattle.ol_cli.proofs.TermJobs.{refused_comes, term_comes_if}
use Rattle.ol_cli.proofs.commands.demand.answer_demand.Goals as goal

pub returns-in-Refused-clause-comes : goal.returns-in-Refused-clause-comes
returns-in-Refused-clause-comes g c = λ files of.
    refused_comes (jobs.Demand c.args.translation c.args.fuel.most c.args.heads.most c.args.name.now) tt _
    c.in-Refused.answer (rw c.in-Refused.is at (c.in_ok-ready.ensures.comes files of))

pub returns-in-Net-clause-comes : goal.returns-in-Net-clause-comes
returns-in-Net-clause-comes g c = λ files of.
    let h = c.demand_net.ensures in
    term_comes_if (jobs.Demand c.args.translation c.args.fuel.most c.args.heads.most c.args.name.now) tt _
    c.in-Net.net c.in-Net.file (rw c.in-Net.is at (c.in_ok-ready.ensures.comes files of))
    c.demand_net.result h.answer h.closed
