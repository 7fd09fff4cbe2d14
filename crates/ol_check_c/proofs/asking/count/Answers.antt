use Rattle.std.proofs.Common.{sym, subst}
use Rattle.ol_check_c.specs.Verdicts.{verdict_of}
use Rattle.ol_check_c.specs.Found.{AreFoundCounts}
use Rattle.ol_check_c.proofs.asking.count.Goals as goal

pub returns-in-Some-clause-counted : goal.returns-in-Some-clause-counted
returns-in-Some-clause-counted c =
    subst (AreFoundCounts c.args.subject c.args.bytes.now c.args.journal.now c.in-Some.long) (sym c.no_counts.ensures)
    (AreFoundCounts.long c.in-Some.ensures.long)

pub returns-in-Ok-clause-counted : goal.returns-in-Ok-clause-counted
returns-in-Ok-clause-counted c =
    subst (λ v. AreFoundCounts c.args.subject c.args.bytes.now c.args.journal.now v c.counts_told.result)
    (sym c.verdict_of.ensures)
    (subst (AreFoundCounts c.args.subject c.args.bytes.now c.args.journal.now (verdict_of c.in-Ok.tally.finding))
    (sym c.counts_told.ensures) (AreFoundCounts.counted c.in_default.ensures.short c.in-Ok.ensures))
