use Rattle.std.proofs.Common.{ℕ, subst, arith}
use Rattle.std.proofs.lemmas.List.Elements.{All-weaker}
use Rattle.ol_pool.specs.Looks.{HasCounts}
use Rattle.ol_pool.specs.Owned.{ReachState, IsReach, reach_part}
use Rattle.ol_pool.specs.Pools.{HandState, part_of}
use Rattle.ol_pool.proofs.Places.{parts_hold, number_within}
use Rattle.ol_pool.proofs.hands.Hand.counts.Goals as goal

pub returns : goal.returns
returns c =
    let h = c.self.inside in
    let i = c.self.invariant.0 in
    subst (λ (s : HandState). (p : ℕ) → HasCounts (part_of s p)) c.self.view_is
    (parts_hold HasCounts h.number h.home.own h.home.empties h.others.items
    (number_within h.number h.home.own h.others.items i.deque) (omega arith, omega arith)
    (c.self.invariant.1, omega arith)
    (All-weaker (IsReach h.home.own.log.bound) (λ (r : ReachState). HasCounts (reach_part r))
    (λ r is. (is.4, is.5)) h.others.items i.others))
