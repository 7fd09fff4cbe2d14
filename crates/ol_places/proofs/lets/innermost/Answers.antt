use Rattle.ol_places.proofs.Innermost.{innermost_of, never_open, before_all}
use Rattle.ol_places.proofs.lets.innermost.Goals as goal

pub returns-then-not-branch-clause-innermost : goal.returns-then-not-branch-clause-innermost
returns-then-not-branch-clause-innermost c =
    never_open c.args.front.now _ c.in_ok-goes_on.ensures c.if-not-branch.true

pub returns-clause-innermost : goal.returns-clause-innermost
returns-clause-innermost c =
    innermost_of c.args.front.now c.in_ok-last.last (c.in_ok-goes_on.ensures.0 c.if-not-branch.false) c.in_ok-last.ensures

pub returns-clause-within : goal.returns-clause-within
returns-clause-within c = before_all c.args.front.now c.in_ok-last.last
    (innermost_of c.args.front.now c.in_ok-last.last (c.in_ok-goes_on.ensures.0 c.if-not-branch.false) c.in_ok-last.ensures)
