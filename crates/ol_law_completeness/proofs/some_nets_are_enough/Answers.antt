use Rattle.ol_law_completeness.proofs.some_nets_are_enough.Goals as goal
use Rattle.ol_law_completeness.proofs.AsItIs.{enough_as_it_is, enough_without_heads}
use Rattle.ol_law_completeness.proofs.CompleteRuns.{complete_is_enough}
use Rattle.ol_law_completeness.proofs.TheLeast.{enough_is_kept}
use Rattle.ol_law_completeness.proofs.ReadAsItIs.{read_as_it_is}

pub returns-clause-means : goal.returns-clause-means
returns-clause-means c = read_as_it_is

pub returns-clause-as_it_is : goal.returns-clause-as_it_is
returns-clause-as_it_is c = enough_as_it_is

pub returns-clause-without_heads : goal.returns-clause-without_heads
returns-clause-without_heads c = enough_without_heads

pub returns-clause-complete : goal.returns-clause-complete
returns-clause-complete c = complete_is_enough

pub returns-clause-kept : goal.returns-clause-kept
returns-clause-kept c = enough_is_kept
