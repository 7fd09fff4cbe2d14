-- Call-by-need is never longer.
use Rattle.ol_law_optimality.proofs.call_by_need.Goals as goal
use Rattle.ol_law_optimality.proofs.CallByNeed.{need_goes_back, call_by_need_is_fewest, call_by_need_goes_on}

pub returns-clause-back : goal.returns-clause-back
returns-clause-back c = need_goes_back

pub returns-clause-fewest : goal.returns-clause-fewest
returns-clause-fewest c = call_by_need_is_fewest

pub returns-clause-goes_on : goal.returns-clause-goes_on
returns-clause-goes_on c = call_by_need_goes_on
