-- Call-by-need for the first heads is never longer.
use Rattle.ol_law_optimality.proofs.call_by_need_for_heads.Goals as goal
use Rattle.ol_law_optimality.proofs.FirstHeadsNeeds.{need_to_heads_goes_back, call_by_need_is_fewest_for_heads}
use Rattle.ol_law_optimality.proofs.FirstHeadsNeeds.{call_by_need_goes_on_to_heads}

pub returns-clause-back : goal.returns-clause-back
returns-clause-back c = need_to_heads_goes_back

pub returns-clause-fewest : goal.returns-clause-fewest
returns-clause-fewest c = call_by_need_is_fewest_for_heads

pub returns-clause-goes_on : goal.returns-clause-goes_on
returns-clause-goes_on c = call_by_need_goes_on_to_heads
