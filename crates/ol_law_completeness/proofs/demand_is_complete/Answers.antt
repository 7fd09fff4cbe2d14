use Rattle.ol_law_completeness.proofs.demand_is_complete.Goals as goal
use Rattle.ol_law_completeness.proofs.Completing.{demand_is_complete}

pub returns : goal.returns
returns c = demand_is_complete
