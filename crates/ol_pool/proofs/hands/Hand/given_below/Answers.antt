use Rattle.std.proofs.Common.{ℕ, ◌<◌, All, subst}
use Rattle.std.proofs.lemmas.List.Elements.{All-weaker, All-nil}
use Rattle.ol_pool.specs.Looks.{Part}
use Rattle.ol_pool.specs.Owned.{ReachState, IsReach, reach_part}
use Rattle.ol_pool.specs.Pools.{HandState, part_of}
use Rattle.ol_pool.proofs.Places.{parts_hold, number_within}
use Rattle.ol_pool.proofs.hands.Hand.given_below.Goals as goal

abbrev AreBelow : ℕ → Part → Type 0
AreBelow bound part = All (λ cell. cell < bound) part.given

pub returns : goal.returns
returns c =
    let h = c.self.inside in
    let i = c.self.invariant.0 in
    let bound = h.home.own.log.bound in
    subst (λ (s : HandState). (p : ℕ) → AreBelow s.pool.cells (part_of s p)) c.self.view_is
    (parts_hold (AreBelow bound) h.number h.home.own h.home.empties h.others.items
    (number_within h.number h.home.own h.others.items i.deque) (All-nil (λ cell. cell < bound)) c.gave_below.ensures
    (All-weaker (IsReach bound) (λ (r : ReachState). AreBelow bound (reach_part r))
    (λ r is. is.3) h.others.items i.others))
