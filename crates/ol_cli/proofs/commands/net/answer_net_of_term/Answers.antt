use Rattle.std.proofs.Common.{None, refl, true}
use Rattle.ol_cli.specs.declared.status.Status.TheVariants.{Done}
use Rattle.ol_term.specs.Trees.{tree_of}
use Rattle.ol_words.specs.declared.jobs.Job.TheVariants as jobs
use Rattle.ol_cli.proofs.TermJobs.{refused_comes, term_comes}
use Rattle.ol_cli.proofs.commands.net.answer_net_of_term.Goals as goal

pub returns-in-Refused-clause-comes : goal.returns-in-Refused-clause-comes
returns-in-Refused-clause-comes g c = λ files of workers fuel.
    refused_comes (jobs.Net c.args.translation true workers fuel c.args.name.now) tt _
    c.in-Refused.answer (rw c.in-Refused.is at (c.in_ok-ready.ensures.comes files of))

pub returns-clause-comes : goal.returns-clause-comes
returns-clause-comes g c = λ files of workers fuel.
    let r = rw c.in-Net.is at (c.in_ok-ready.ensures.comes files of) in
    let h = c.in_ok-text-in-Net.ensures in
    rw c.text_alone.ensures
    (term_comes (jobs.Net c.args.translation true workers fuel c.args.name.now) tt _ c.in-Net.net
    c.in-Net.file r (record { text = c.in_ok-text-in-Net.text; status = Done; closed = None })
    (h c.args.translation (tree_of c.in-Net.file.term) c.in-Net.file.names r.1.2.ready) refl)
