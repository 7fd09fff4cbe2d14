-- Walks over a net: how long they are, and how often they come to a slot 0.
use Rattle.std.specs.Prelude.{ℕ, suc, ◌<◌, ◌≤◌, List, ◌∷◌}
use Rattle.ol_net.specs.declared.parts.Kind.{Kind}
use Rattle.ol_net.specs.Parts.{arity}
use Rattle.ol_net.specs.Nets.{NamedNet, NamedPort, free, slot, HasNode, Linked}
use Rattle.ol_context.specs.Contexts.{Context, up}
use Rattle.ol_context.specs.Ways.{Way}
use Rattle.ol_law_levels.specs.Unblocked.{Change, rise, fall, ComesOut}

-- No walk that leaves a node by its slot 0, with whatever context, makes more than b crossings.
abbrev pub AreBounded : {A : Type 0} → NamedNet A → ℕ → Type 0
AreBounded {A} N b = (x : A) (k : Kind) (i m : ℕ) (c d : Context) (q : NamedPort A) →
    HasNode N x k i → Way N (slot x 0) c m q d → m ≤ b

-- Each walk that has left a node by port p, after these changes, comes to an end, and before that
-- at most n times to slot 0 of a node, whether it can go on there or not. With no changes before,
-- it is there with all contexts at once; it goes on where some context does.
pub data ComesDown {A : Type 0} (N : NamedNet A) :
    NamedPort A → List Change → ℕ → Type 0 where
  leaves : {p : NamedPort A} {w : List Change} {n : ℕ} (q : ℕ) → Linked N p (free q) →
      ComesDown N p w n
  rises : {p : NamedPort A} {w : List Change} {n : ℕ} {x : A} {s : ℕ} (k : Kind) (i : ℕ) →
      Linked N p (slot x (suc s)) → HasNode N x k i → s < arity k →
      ComesDown N (slot x 0) (rise k i s ∷ w) n → ComesDown N p w n
  comes : {p : NamedPort A} {w : List Change} {n : ℕ} {x : A} (k : Kind) (i : ℕ) →
      Linked N p (slot x 0) → HasNode N x k i →
      ((s : ℕ) (d : Context) → s < arity k → ComesOut w (up k i s d) →
      ComesDown N (slot x (suc s)) (fall k i s ∷ w) n) → ComesDown N p w (suc n)
