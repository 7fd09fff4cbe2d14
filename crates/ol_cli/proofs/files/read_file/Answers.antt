use Rattle.std.proofs.Common.{◌≤◌, length, arith}
use Rattle.ol_cli.specs.Files.{most_bytes}
use Rattle.ol_cli.proofs.Exact.{within_ok}
use Rattle.ol_cli.proofs.files.read_file.Goals as goal

pub returns-in-Ok-clause-comes : goal.returns-in-Ok-clause-comes
returns-in-Ok-clause-comes g c = λ files of.
    let r = c.in-Ok.ensures in (
      r.cause,
      record {
        whole = r.whole_of files of;
        counted = r.counted;
        within = rw c.most.ensures at (within_ok _ c.most.result _ r.too_long);
        to_end = r.ended;
      },
    )

pub returns-in-Ok-clause-short : goal.returns-in-Ok-clause-short
returns-in-Ok-clause-short g c =
    let r = c.in-Ok.ensures in
    let within = rw c.most.ensures at (within_ok _ c.most.result _ r.too_long) in
    let e = r.counted in
    let few : length c.in-Ok.bytes.items ≤ most_bytes c.args.kind = omega (arith, e, within) in few
