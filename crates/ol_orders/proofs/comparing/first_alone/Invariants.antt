use Rattle.std.proofs.Common.{◌≡◌, ℕ, ◌<◌, Some}
use Rattle.ol_net.specs.declared.parts.Kind.{Kind}
use Rattle.ol_net.specs.Nets.{HasNode}
use Rattle.ol_net.specs.Numbered.{net_of}
use Rattle.ol_orders.specs.Meetings.{met_by}
use Rattle.ol_orders.proofs.comparing.first_alone.Given as goal

abbrev pub invariant-loop-n : goal.invariant-loop-n
invariant-loop-n l = (x : ℕ) → x < l.n → (k : Kind) (i : ℕ) → HasNode (net_of l.net) x k i →
    (y : ℕ) × (met_by l.table x ≡ Some y)
