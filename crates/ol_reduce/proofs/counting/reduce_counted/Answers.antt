use Rattle.ol_reduce.proofs.Answered.{either_end}
use Rattle.ol_reduce.proofs.counting.reduce_counted.Goals as goal

pub returns-in_ok-last-in-Quiet-clause-reduced : goal.returns-in_ok-last-in-Quiet-clause-reduced
returns-in_ok-last-in-Quiet-clause-reduced g c =
    let done = c.in_ok-words.ensures.quiet c.in-Quiet.is c.in_ok-last-in-Quiet.last
    c.in_ok-last-in-Quiet.ensures.frozen in
    (done, c.in_ok-last-in-Quiet.ensures.counts)

pub returns-in_ok-last-in-Quiet-clause-done : goal.returns-in_ok-last-in-Quiet-clause-done
returns-in_ok-last-in-Quiet-clause-done g c = ((λ d. c.in_ok-words.ensures.ends.0 c.in-Quiet.is), (λ within. tt))

pub returns-in-Spent-clause-reduced : goal.returns-in-Spent-clause-reduced
returns-in-Spent-clause-reduced g c = c.in_ok-words.ensures.spent c.in-Spent.is

pub returns-in-Spent-clause-done : goal.returns-in-Spent-clause-done
returns-in-Spent-clause-done g c = (
  (λ d. absurd d),
  λ within. either_end c.in_ok-words.end (c.in_ok-words.ensures.ends.1 within) c.in-Spent.is,
)
