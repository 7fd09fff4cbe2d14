-- The law on the number of workers.
use Rattle.ol_cli.proofs.Workers.{workers_are_unseen}
use Rattle.ol_cli.proofs.laws.workers_are_not_seen.Goals as goal

pub returns : goal.returns
returns c = workers_are_unseen
