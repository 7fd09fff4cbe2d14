-- A walk of a number of crossings, and where it can end.
use Rattle.std.specs.Prelude.{◌≡◌, ℕ, suc, ◌≤◌}
use Rattle.ol_net.specs.declared.parts.Kind.{Kind}
use Rattle.ol_net.specs.Nets.{NamedNet, NamedPort, slot, HasNode, Linked}
use Rattle.ol_context.specs.Contexts.{Context}
use Rattle.ol_context.specs.Paths.{Crosses, IsBarred, Path, crossings}

-- n crossings from port p with context c; the last one left by the port with that context
pub data Way {A : Type 0} (N : NamedNet A) (p : NamedPort A) (c : Context) : ℕ → NamedPort A → Context → Type 0 where
  start : Way N p c 0 p c
  on : {n : ℕ} {u : NamedPort A} {d e : Context} {x : A} {k : Kind} {i s t : ℕ} →
      Way N p c n u d → Linked N u (slot x s) → HasNode N x k i → Crosses k i s d t e → Way N p c (suc n) (slot x t) e

-- A path of n crossings, and of no more than edges, leads from port p to the free port q with context d.
pub record Exits {A : Type 0} (N : NamedNet A) (p : NamedPort A) (c : Context) (edges q : ℕ)
    (d : Context) (n : ℕ) : Type 0 where
  pub path : Path N p c q d
  pub long : crossings path ≡ n
  pub within : n ≤ edges

-- After n crossings the walk from port p stands at a node, which it would enter by the port at.
pub record WalkStands {A : Type 0} (N : NamedNet A) (p : NamedPort A) (c : Context) (n : ℕ) : Type 0 where
  pub port : NamedPort A
  pub context : Context
  pub way : Way N p c n port context
  pub node : A
  pub at : ℕ
  pub linked : Linked N port (slot node at)

-- The crossing that the walk from port p tries as number n, counted from 1 and of no more than edges, is not defined.
pub record Stops {A : Type 0} (N : NamedNet A) (p : NamedPort A) (c : Context) (edges n : ℕ) : Type 0 where
  pub made : ℕ
  pub tried : n ≡ suc made
  pub within : n ≤ edges
  pub stands : WalkStands N p c made
  pub barred : IsBarred N (slot stands.node stands.at) stands.context
