use Rattle.std.proofs.Common.{◌∙◌, length, sym, ap, subst}
use Rattle.ol_check_c.specs.Asked.{IsWritten}
use Rattle.ol_check_c.specs.Found.{IsToldOut}
use Rattle.ol_check_c.proofs.asking.tell.Goals as goal

pub returns-in-Some-clause-told : goal.returns-in-Some-clause-told
returns-in-Some-clause-told c = IsToldOut.long c.in-Some.ensures.long

pub returns-in-Ok-clause-told : goal.returns-in-Ok-clause-told
returns-in-Ok-clause-told c =
    let e = c.deref.ensures.value in
    subst (λ n. IsToldOut c.args.subject c.args.bytes.now c.args.journal.now c.args.room.now n c.write.new.room)
    (sym (c.write.ensures.whole ∙ ap length e))
    (IsToldOut.written c.in_default.ensures.short c.in-Ok.ensures
    (subst (λ text. IsWritten text c.args.room.now c.write.new.room) e c.write.ensures.front))
