use Rattle.ol_pool.specs.Pools.{IsHandOf}
use Rattle.ol_net_tests.proofs.pools.take_all.Given as goal

abbrev pub invariant-loop : goal.invariant-loop
invariant-loop l = IsHandOf l.hand l.pool
