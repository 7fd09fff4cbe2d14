use Rattle.std.proofs.Common.{◌≡◌}
use Rattle.ol_pool.specs.Pools.{IsHandOf}
use Rattle.ol_net_tests.proofs.pools.two_threads_take_each_cell_once.Given as goal

abbrev pub invariant-loop-cell : goal.invariant-loop-cell
invariant-loop-cell g l = IsHandOf l.zero l.pool × IsHandOf l.one l.pool × (l.pool.cells ≡ 100)
