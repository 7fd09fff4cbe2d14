use Rattle.ol_pool.proofs.Balances.{begins}
use Rattle.ol_pool.proofs.own.Own.new.Goals as goal

pub fifo_as-requires : goal.fifo_as-requires
fifo_as-requires c = begins
