use Rattle.ol_orders.proofs.KeptRuns.{begins}
use Rattle.ol_orders.proofs.telling.begin.Goals as goal

pub returns-clause-replay : goal.returns-clause-replay
returns-clause-replay c =
    begins c.args.net.now _ c.is_net.ensures.net c.in_ok-net.ensures.copy c.new-run.ensures.journal
    c.new-run.ensures.start c.new-run.ensures.born c.in_ok-numbers.ensures.bases
