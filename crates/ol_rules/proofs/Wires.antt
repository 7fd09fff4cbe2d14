-- The edges of a step, before slots are taken out.
use Rattle.std.proofs.Common.{◌≢◌, ℕ, suc, ◌<◌}
use Rattle.ol_net.specs.Nets.{NamedPort, slot, NamedNet, Linked}
use Rattle.ol_net.specs.Parts.{arity}
use Rattle.ol_net.specs.declared.parts.Kind.{Kind}
use Rattle.ol_rules.specs.Contracting.{Vertex, old, f_copy, g_copy}
use Rattle.ol_rules.specs.Rewriting.{Action, meeting, crossing}

-- a port that isn't one of the two slots 0
pub record Off {A : Type 0} (f g : A) (p : NamedPort A) : Type 0 where
  pub first : p ≢ slot f 0
  pub second : p ≢ slot g 0

module _ {A : Type 0} (N : NamedNet A) (f g : A) (k : Kind) (i : ℕ) (l : Kind) (j : ℕ) where
  -- the joins of a step
  pub data Join : Action → Vertex A → Vertex A → Type 0 where
    meet : {s : ℕ} → s < arity k → Join meeting (old (slot f (suc s))) (old (slot g (suc s)))
    at_f : {j' p : ℕ} → p < arity k → Join (crossing j') (g_copy p 0) (old (slot f (suc p)))
    at_g : {j' q : ℕ} → q < arity l → Join (crossing j') (f_copy q 0) (old (slot g (suc q)))
    between : {j' p q : ℕ} → p < arity k → q < arity l → Join (crossing j') (f_copy q (suc p)) (g_copy p (suc q))

  -- the edges of a step, before slots are taken out
  pub data Wire (a : Action) : Vertex A → Vertex A → Type 0 where
    stays : {p q : NamedPort A} → Linked N p q → Off f g p → Off f g q → Wire a (old p) (old q)
    join : {u v : Vertex A} → Join a u v → Wire a u v
