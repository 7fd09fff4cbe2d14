use Rattle.std.proofs.Common.{sym, subst}
use Rattle.ol_reduce.specs.Reduced.{IsDone, IsSpent}
use Rattle.ol_reduce.proofs.Answered.{either_end}
use Rattle.ol_reduce.proofs.reducing.reduce.Goals as goal

pub returns-in_ok-last-in-Quiet-clause-reduced : goal.returns-in_ok-last-in-Quiet-clause-reduced
returns-in_ok-last-in-Quiet-clause-reduced g c =
    let done = c.in_ok-words.ensures.quiet c.in-Quiet.is c.in_ok-last-in-Quiet.last
    c.in_ok-last-in-Quiet.ensures.frozen in
    subst (λ j. IsDone c.args.net.now c.args.fuel c.args.workers c.in_ok-last-in-Quiet.last j c.in_ok-words.words)
    (sym c.in_ok-last-in-Quiet.ensures.journal) done

pub returns-in_ok-last-in-Quiet-clause-done : goal.returns-in_ok-last-in-Quiet-clause-done
returns-in_ok-last-in-Quiet-clause-done g c = ((λ d. c.in_ok-words.ensures.ends.0 c.in-Quiet.is), (λ within. tt))

pub returns-in_ok-journal-in-Spent-clause-reduced : goal.returns-in_ok-journal-in-Spent-clause-reduced
returns-in_ok-journal-in-Spent-clause-reduced g c =
    let spent = c.in_ok-words.ensures.spent c.in-Spent.is in
    subst (λ j. IsSpent c.args.net.now c.args.fuel c.args.workers j c.in_ok-words.words)
    (sym c.in_ok-journal-in-Spent.ensures) spent

pub returns-in_ok-journal-in-Spent-clause-done : goal.returns-in_ok-journal-in-Spent-clause-done
returns-in_ok-journal-in-Spent-clause-done g c = (
  (λ d. absurd d),
  λ within. either_end c.in_ok-words.end (c.in_ok-words.ensures.ends.1 within) c.in-Spent.is,
)
