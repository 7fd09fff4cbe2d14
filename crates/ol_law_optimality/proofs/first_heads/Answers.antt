-- Terms that show their first heads.
use Rattle.ol_law_optimality.proofs.first_heads.Goals as goal
use Rattle.ol_law_optimality.proofs.FirstHeadsPrinted.{filled_has_heads, normal_has_heads, one_head_is_head_normal}

pub returns-clause-filled : goal.returns-clause-filled
returns-clause-filled c = filled_has_heads

pub returns-clause-normal : goal.returns-clause-normal
returns-clause-normal c = normal_has_heads

pub returns-clause-one : goal.returns-clause-one
returns-clause-one c = one_head_is_head_normal
