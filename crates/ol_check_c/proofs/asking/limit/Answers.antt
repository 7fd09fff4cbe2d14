use Rattle.std.proofs.Common.{◌<◌, ◌≤◌, length, sym, subst}
use Rattle.ol_check_c.specs.Verdicts.{too_long}
use Rattle.ol_check_c.specs.Asked.{AreTooLong}
use Rattle.ol_check_c.proofs.asking.limit.Goals as goal

pub returns-then-most-bytes-clause-long : goal.returns-then-most-bytes-clause-long
returns-then-most-bytes-clause-long c =
    let e = c.most_bytes-most.ensures in
    subst (AreTooLong c.args.subject c.args.bytes.now c.args.journal.now) (sym c.too_long.ensures)
    (subst (λ most. AreTooLong c.args.subject c.args.bytes.now c.args.journal.now (too_long most)) (sym e)
    (AreTooLong.first (subst (λ most. most < length c.args.bytes.now) e c.if-most-bytes.true)))

pub returns-then-journal-clause-long : goal.returns-then-journal-clause-long
returns-then-journal-clause-long c =
    let e = c.most_bytes-most.ensures in
    subst (AreTooLong c.args.subject c.args.bytes.now c.args.journal.now)
    (sym c.too_long-then-journal.ensures)
    (AreTooLong.second (subst (λ most. length c.args.bytes.now ≤ most) e c.if-most-bytes.false)
    c.if-journal.true)
