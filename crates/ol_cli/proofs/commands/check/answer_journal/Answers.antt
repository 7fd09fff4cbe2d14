use Rattle.ol_cli.specs.declared.files.FileKind.TheVariants as kind
use Rattle.ol_cli.specs.Cases.{given}
use Rattle.ol_cli.specs.Check.{JournalAnswer}
use Rattle.std.proofs.Common.{◌≤◌, length, arith}
use Rattle.ol_cli.proofs.FilesRead.{refused_file}
use Rattle.ol_cli.proofs.JournalFound.{own_found}
use Rattle.ol_cli.proofs.commands.check.answer_journal.Goals as goal

pub returns-in-Refused-clause-caused : goal.returns-in-Refused-clause-caused
returns-in-Refused-clause-caused g c = λ files of tr t names n.
    let r = rw c.in-Refused.is at (c.in_ok-file.ensures.comes files of) in
    let a = c.in-Refused.answer in
    refused_file kind.Journal _ c.args.name.now (JournalAnswer tr t names) a.status a.text.items r.0

pub returns-in-Refused-clause-closed : goal.returns-in-Refused-clause-closed
returns-in-Refused-clause-closed g c =
    let r = rw c.in-Refused.is at (c.in_ok-file.ensures.comes
    (λ _. g.S.Source.contents c.args.src.now) c.in_ok-file.ensures.source.told) in
    r.1

pub returns-in_ok-text-in-Bytes-clause-caused : goal.returns-in_ok-text-in-Bytes-clause-caused
returns-in_ok-text-in-Bytes-clause-caused g c = λ files of tr t names n.
    let r = rw c.in-Bytes.is at (c.in_ok-file.ensures.comes files of) in
    let bytes = c.in-Bytes.bytes.items in
    let few : length bytes ≤ 402653184 = let e = r.1.counted in let within = r.1.within in omega (arith, e, within) in
    let only = own_found tr t names c.args.net.now n.same bytes c.in_ok-found-in-Bytes.found
    (rw c.deref.ensures.value at c.in_ok-found-in-Bytes.ensures.exact) in
    rw c.text_alone.ensures (given r.0 r.1
    (few, (c.in_ok-found-in-Bytes.found, only, c.in_ok-text-in-Bytes.ensures)))
