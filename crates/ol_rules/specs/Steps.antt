-- One step of a graph in numbers: the born nodes take the next ones.
use Rattle.std.specs.Prelude.{◌≡◌, ◌≢◌, ℕ, ◌+◌, if◌then◌else◌, length, ◌⊎◌}
use Rattle.ol_net.specs.declared.parts.Kind.{Kind}
use Rattle.ol_net.specs.declared.parts.Rule.{Rule}
use Rattle.ol_net.specs.Parts.{arity}
use Rattle.ol_net.specs.declared.parts.NodeId.{NodeId}
use Rattle.ol_net.specs.declared.parts.Facing.TheVariants.{Active}
use Rattle.ol_net.specs.Graph.{Graph, facing_at}
use Rattle.ol_net.specs.Numbered.{net_of}
use Rattle.ol_rules.specs.Rewriting.{IsStep, is_meeting}

-- how many nodes a step of a node of kind k and one of kind l makes
abbrev pub births : Rule → Kind → Kind → ℕ
births r k l = if is_meeting r then 0 else arity l + arity k

-- the node is in no active pair
abbrev pub IsUnpaired : Graph → NodeId → Type 0
IsUnpaired g at = (r : Rule) → facing_at g at ≢ Active r

-- the graph after the active pair of node `at` was rewritten by rule r
pub record StepsAt (old new : Graph) (at : ℕ) (r : Rule) : Type 0 where
  pub f : ℕ
  pub g : ℕ
  pub one_of : (at ≡ f) ⊎ (at ≡ g)
  pub step : IsStep (λ place. length old.nodes + place) (net_of old) f g r (net_of new)
  pub numbers : length new.nodes ≡ length old.nodes + births r step.active.k step.active.l
