use Rattle.ol_law_levels.proofs.BlockedExample as examples
use Rattle.ol_law_levels.proofs.blocked_example.Goals as goal

pub returns : goal.returns
returns c = examples.stuck_net_is_blocked
