use Rattle.std.proofs.Common.{sym, subst}
use Rattle.ol_check_c.specs.Found.{IsFoundVerdict}
use Rattle.ol_check_c.proofs.asking.find.Goals as goal

pub returns-in-Some-clause-found : goal.returns-in-Some-clause-found
returns-in-Some-clause-found c = IsFoundVerdict.long c.in-Some.ensures.long

pub returns-in-Ok-clause-found : goal.returns-in-Ok-clause-found
returns-in-Ok-clause-found c =
    subst (IsFoundVerdict c.args.subject c.args.bytes.now c.args.journal.now) (sym c.verdict_of.ensures)
    (IsFoundVerdict.checked c.in_default.ensures.short c.in-Ok.ensures)
