use Rattle.std.proofs.Common.{ℕ, ◌+◌, ◌<◌, ◌≤◌}
use Rattle.ol_net.specs.Nets.{slot, Linked}
use Rattle.ol_net.specs.Numbered.{net_of}
use Rattle.ol_rules.specs.Waiting.{AreAdded}
use Rattle.ol_rules.proofs.awaiting.await_beside.Given as goal

abbrev pub invariant-loop-slot : goal.invariant-loop-slot
invariant-loop-slot l = (1 ≤ l.slot)
    × AreAdded (λ (x : ℕ). (s : ℕ) × (s + 1 < l.slot) × Linked (net_of l.net) (slot x 0) (slot l.at.0 (s + 1)))
    l.initial.waiting l.waiting
