use Rattle.ol_orders.proofs.KeptRuns.{begins}
use Rattle.ol_orders.proofs.replaying.Replay.new.Goals as goal

pub returns-clause-replay : goal.returns-clause-replay
returns-clause-replay c =
    begins c.args.net.now _ c.is_net.ensures.net c.in_ok-copy.ensures.copy c.new.ensures.journal
    c.new.ensures.start c.new.ensures.born c.in_ok-new.ensures.bases
