-- A stuck pair alone is blocked.
-- Used for `blocked_example`.
use Rattle.ol_law_levels.proofs.Examples.{levels_allow_stuck_pairs}
use Rattle.ol_law_levels.specs.Examples.{stuck_net}
use Rattle.ol_law_levels.proofs.UnblockedRuns.{unblocked_is_unstuck}
use Rattle.ol_law_levels.specs.BlockedExample.{StuckNetIsBlocked}

pub stuck_net_is_blocked : StuckNetIsBlocked
stuck_net_is_blocked = (
  levels_allow_stuck_pairs.0,
  λ u. (unblocked_is_unstuck stuck_net levels_allow_stuck_pairs.0 u).0 0 1 levels_allow_stuck_pairs.1,
)
