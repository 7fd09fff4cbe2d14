use Rattle.std.proofs.Common.{sym, subst}
use Rattle.ol_check_c.specs.Asked.{IsVerdict}
use Rattle.ol_check_c.proofs.Surely as surely
use Rattle.ol_check_c.proofs.asking.found.Goals as goal

pub returns-in-Ok : goal.returns-in-Ok
returns-in-Ok c =
    surely.verdict c.args.subject c.args.bytes.now c.args.journal.now c.in-Ok.verdict c.in-Ok.ensures.found

pub returns-in-Err : goal.returns-in-Err
returns-in-Err c = subst (IsVerdict c.args.subject c.args.bytes.now c.args.journal.now) (sym c.no_memory.ensures)
    (IsVerdict.no_room c.in-Err.ensures.short)
