use Rattle.std.proofs.Common.{◌∙◌, length, ap, arith}
use Rattle.crossbeam_deque.specs.Handles.{worker_view}
use Rattle.ol_pool.proofs.Balances.{takes, gave}
use Rattle.ol_pool.proofs.own.Own.next.Goals as goal

pub take-requires-clause-takes : goal.take-requires-clause-takes
take-requires-clause-takes c = takes _ _ c.self.invariant.3

pub invariant_of-self : goal.invariant_of-self
invariant_of-self c =
    let i = c.self.invariant in
    let s = c.take.ensures.same in
    let g = gave _ c.take.result (worker_view c.self.inside.deque)
    (worker_view c.take.new.deque) c.take.ensures.rule i.3 i.4 in
    let room = i.1 in
    let more = s.0.3 in
    let index = i.2 in
    let less = s.1 in
    let long = ap length g.2 in
    (s.0.1 ∙ i.0, omega arith, omega arith, g.0, g.1)
