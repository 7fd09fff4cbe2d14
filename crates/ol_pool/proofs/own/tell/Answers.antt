use Rattle.std.proofs.Common.{ap}
use Rattle.ol_pool.specs.declared.deques.Log.{Log}
use Rattle.ol_pool.proofs.Balances.{tells, opens, never_empty}
use Rattle.ol_pool.proofs.own.tell.Goals as goal

pub push_as-requires-clause-pushes : goal.push_as-requires-clause-pushes
push_as-requires-clause-pushes c = tells _ _ c.args.bound c.requires.fresh.0

pub pop_as-requires-clause-fifo : goal.pop_as-requires-clause-fifo
pop_as-requires-clause-fifo c = λ _. opens _ _ (ap (λ (l : Log). l.stage) c.in-Ok.ensures.rule.0)

pub pop_as-requires-clause-empty : goal.pop_as-requires-clause-empty
pop_as-requires-clause-empty c = never_empty _ _
