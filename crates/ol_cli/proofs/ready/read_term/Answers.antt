use Rattle.ol_cli.specs.declared.files.FileKind.TheVariants as kind
use Rattle.ol_cli.specs.Ready.{Refuses}
use Rattle.ol_cli.proofs.FilesRead.{made_net, made_ready, refused_file}
use Rattle.ol_cli.proofs.ready.read_term.Goals as goal

pub returns-in-Refused-clause-comes : goal.returns-in-Refused-clause-comes
returns-in-Refused-clause-comes g c = λ files of.
    let r = rw c.in-Refused.is at (c.in_ok-file.ensures.comes files of) in
    let a = c.in-Refused.answer in
    (refused_file kind.Term _ c.args.name.now (Refuses c.args.translation) a.status a.text.items r.0, r.1)

pub returns-in_ok-ready-in-Bytes-clause-comes : goal.returns-in_ok-ready-in-Bytes-clause-comes
returns-in_ok-ready-in-Bytes-clause-comes g c = λ files of.
    let r = rw c.in-Bytes.is at (c.in_ok-file.ensures.comes files of) in
    made_ready c.args.translation _ c.args.name.now c.in-Bytes.bytes.items r.0 r.1
    c.in_ok-ready-in-Bytes.ready (rw c.deref.ensures.value at c.in_ok-ready-in-Bytes.ensures.ready)

pub returns-in_ok-ready-in-Bytes-clause-net : goal.returns-in_ok-ready-in-Bytes-clause-net
returns-in_ok-ready-in-Bytes-clause-net g c =
    made_net c.args.translation _ c.in_ok-ready-in-Bytes.ready c.in_ok-ready-in-Bytes.ensures.ready
