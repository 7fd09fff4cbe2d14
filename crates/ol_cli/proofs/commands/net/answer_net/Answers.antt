use Rattle.ol_cli.specs.declared.files.FileKind.TheVariants as kind
use Rattle.ol_cli.specs.Cases.{given}
use Rattle.ol_cli.specs.Net.{NetFileAnswer}
use Rattle.ol_cli.proofs.FilesRead.{refused_file}
use Rattle.ol_cli.proofs.TermJobs.{net_comes}
use Rattle.ol_cli.proofs.commands.net.answer_net.Goals as goal

pub returns-in-Refused-clause-comes : goal.returns-in-Refused-clause-comes
returns-in-Refused-clause-comes g c = λ files of translation.
    let r = rw c.in-Refused.is at (c.in_ok-file.ensures.comes files of) in
    let a = c.in-Refused.answer in
    net_comes translation c.args.workers.count c.args.fuel.most c.args.name.now _ a
    (refused_file kind.Net _ c.args.name.now (NetFileAnswer c.args.fuel.most) a.status a.text.items r.0) r.1

pub returns-in_ok-answer-in-Bytes-clause-comes : goal.returns-in_ok-answer-in-Bytes-clause-comes
returns-in_ok-answer-in-Bytes-clause-comes g c = λ files of translation.
    let r = rw c.in-Bytes.is at (c.in_ok-file.ensures.comes files of) in
    let h = c.in_ok-answer-in-Bytes.ensures in
    net_comes translation c.args.workers.count c.args.fuel.most c.args.name.now _ c.in_ok-answer-in-Bytes.answer
    (given r.0 r.1 (rw c.deref.ensures.value at h.answer)) h.closed
