-- The law of small terms.
use Rattle.ol_law_confluence.proofs.small_conversions.Goals as goal
use Rattle.ol_law_confluence.proofs.SmallConversions.{small_conversions}

pub returns : goal.returns
returns g = small_conversions
