use Rattle.std.proofs.Common.{ℕ, ◌<◌, ◌≤◌}
use Rattle.ol_rules.specs.Waiting.{AreAdded, IsActiveIn}
use Rattle.ol_rules.proofs.awaiting.await_active.Given as goal

abbrev pub invariant-loop-n : goal.invariant-loop-n
invariant-loop-n l = (l.from ≤ l.n)
    × AreAdded (λ (x : ℕ). (x < l.n) × IsActiveIn l.net l.from l.to x) l.initial.waiting l.waiting
