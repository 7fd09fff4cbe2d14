use Rattle.std.proofs.Common.{sym, subst}
use Rattle.ol_check_c.specs.Asked.{IsWrittenOut}
use Rattle.ol_check_c.proofs.Surely as surely
use Rattle.ol_check_c.proofs.asking.told.Goals as goal

pub returns-in-Ok : goal.returns-in-Ok
returns-in-Ok c =
    surely.written c.args.subject c.args.bytes.now c.args.journal.now c.args.room.now c.in-Ok.count
    c.tell.new.room c.in-Ok.ensures.told

pub returns-in-Err : goal.returns-in-Err
returns-in-Err c =
    subst (IsWrittenOut c.args.subject c.args.bytes.now c.args.journal.now c.args.room.now 0)
    (sym c.in-Err.ensures.unwritten) IsWrittenOut.no_room
