use Rattle.std.proofs.Common.{ap, ◌∙◌}
use Rattle.ol_pool.specs.Owned.{ReachState}
use Rattle.ol_pool.proofs.Balances.{takes}
use Rattle.ol_pool.proofs.reach.Reach.look.Goals as goal

pub steal-requires-clause-takes : goal.steal-requires-clause-takes
steal-requires-clause-takes c = takes _ _ (ap (λ (r : ReachState). r.log.stage) c.self.view_is ∙ c.requires.open.0)
