use Rattle.std.proofs.Common.{sym, subst}
use Rattle.ol_check_c.specs.Verdicts.{no_memory}
use Rattle.ol_check_c.specs.Asked.{IsCounted}
use Rattle.ol_check_c.proofs.Surely as surely
use Rattle.ol_check_c.proofs.asking.counted.Goals as goal

pub returns-in-Ok : goal.returns-in-Ok
returns-in-Ok c =
    surely.counts c.args.subject c.args.bytes.now c.args.journal.now c.in-Ok.counted.0 c.in-Ok.counted.1
    c.in-Ok.ensures.counted

pub returns-in-Err : goal.returns-in-Err
returns-in-Err c =
    subst (λ v. IsCounted c.args.subject c.args.bytes.now c.args.journal.now v c.no_counts.result)
    (sym c.no_memory.ensures)
    (subst (IsCounted c.args.subject c.args.bytes.now c.args.journal.now no_memory)
    (sym c.no_counts.ensures) (IsCounted.no_room c.in-Err.ensures.short))
