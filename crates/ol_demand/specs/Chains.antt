-- The chain of a frame and a number of abstractions: the walk that asks this frame for them, up to
-- the first active pair that it meets.
use Rattle.std.specs.Prelude.{ℕ, suc, ◌*◌, ◌<◌, ◌≤◌}
use Rattle.ol_net.specs.declared.parts.Kind.{Kind}
use Rattle.ol_net.specs.declared.parts.Rule.{Rule}
use Rattle.ol_net.specs.Nets.{NamedNet, NamedPort, free, slot, HasNode, Linked, IsPrincipalOf}
use Rattle.ol_net.specs.Pairs.{IsActive}
use Rattle.ol_context.specs.Contexts.{Context}
use Rattle.ol_context.specs.Paths.{Crosses, Through, IsBarred}
use Rattle.ol_context.specs.Short.{live}

-- The link of port p joins the principal ports of f and g, which are an active pair.
pub record IsAtPair {A : Type 0} (N : NamedNet A) (p : NamedPort A) (f g : A) (r : Rule) : Type 0 where
  pub active : IsActive N f g r
  pub principal : IsPrincipalOf f g p

-- it joins those of no active pair
abbrev pub IsAtNoPair : {A : Type 0} → NamedNet A → NamedPort A → Type 0
IsAtNoPair {A} N p = (f g : A) (r : Rule) → IsAtPair N p f g r → ⊥

-- From the free port p with context c, n crossings were made, of at most twice as many as there are
-- nodes, and no active pair was met before: the last node was left by this port with this context.
pub data Chain {A : Type 0} (N : NamedNet A) (p : ℕ) (c : Context) : ℕ → NamedPort A → Context → Type 0 where
  starts : Chain N p c 0 (free p) c
  crosses : {n : ℕ} {u : NamedPort A} {d e : Context} {x : A} {k : Kind} {i s t : ℕ} →
      Chain N p c n u d → IsAtNoPair N u → n < 2 * live N → Linked N u (slot x s) →
      HasNode N x k i → Crosses k i s d t e →
      Chain N p c (suc n) (slot x t) e

-- How it ends: it stands on the link of an active pair, or at a free port, or its next crossing
-- isn't defined, or this would be one crossing too many.
pub data End (A : Type 0) : Type 0 where
  met : A → A → Rule → End A
  left : ℕ → Context → End A
  undefined : End A
  budget : End A

-- After n crossings the last node was left by port u with context d, and there it ends.
pub data Stands {A : Type 0} (N : NamedNet A) (n : ℕ) (u : NamedPort A) (d : Context) : End A → Type 0 where
  at_pair : {f g : A} {r : Rule} → IsAtPair N u f g r → Stands N n u d (met f g r)
  at_port : {q : ℕ} → Linked N u (free q) → Stands N n u d (left q d)
  barred : {x : A} {s : ℕ} → IsAtNoPair N u → Linked N u (slot x s) → IsBarred N (slot x s) d → Stands N n u d undefined
  at_last : {x : A} {s : ℕ} {v : NamedPort A} {e : Context} → IsAtNoPair N u → Linked N u (slot x s) →
      Through N (slot x s) d v e → 2 * live N ≤ n → Stands N n u d budget

pub record Ends {A : Type 0} (N : NamedNet A) (p : ℕ) (c : Context) (end : End A) : Type 0 where
  pub made : ℕ
  pub port : NamedPort A
  pub context : Context
  pub chain : Chain N p c made port context
  pub stands : Stands N made port context end
