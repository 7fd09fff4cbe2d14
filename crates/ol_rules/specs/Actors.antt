-- Private: an active pair as the code holds it.
use Rattle.std.specs.Prelude.{◌≡◌, Option, Some, MatchOption, ◌⊎◌}
use Rattle.ol_net.specs.declared.parts.NodeId.{NodeId}
use Rattle.ol_net.specs.declared.parts.Facing.TheVariants.{Active}
use Rattle.ol_net.specs.Rules.{rule_of}
use Rattle.ol_net.specs.Graph.{Graph, facing_at, kind_at}
use Rattle.ol_net.specs.Parts.{arity}
use Rattle.ol_net.specs.Replace.{AreFacing, Replaces}
use Rattle.ol_rules.specs.Rewriting.{Action, action_of}
use Rattle.ol_rules.specs.BornLists.{born_of, joins_of}
use Rattle.ol_rules.specs.Steps.{IsUnpaired}
use Rattle.ol_rules.specs.declared.steps.Pair.{Pair}

-- f and g face each other, and have these kinds and indexes
pub record IsFacing (net : Graph) (pair : Pair) : Type 0 where
  pub facing : AreFacing net pair.f pair.g
  pub is_f : kind_at net.nodes pair.f.0 ≡ Some pair.of_f
  pub is_g : kind_at net.nodes pair.g.0 ≡ Some pair.of_g

-- the node stands in the active pair, whose f acts on its g
pub record IsItsPair (net : Graph) (at : NodeId) (pair : Pair) : Type 0 where
  pub one_of : (at ≡ pair.f) ⊎ (at ≡ pair.g)
  pub active : facing_at net at ≡ Active pair.rule
  pub facing : IsFacing net pair
  pub fits : rule_of pair.of_f.0 pair.of_f.1 pair.of_g.0 pair.of_g.1 ≡ Some pair.rule

-- the active pair of a node, or None where it is in none
abbrev pub FindsPair : Graph → NodeId → Option Pair → Type 0
FindsPair net at found = MatchOption found (IsUnpaired net at) (λ pair. IsItsPair net at pair)

-- what the rule of the pair does
abbrev pub action_in : Pair → Action
action_in pair = action_of pair.rule pair.of_g.1

-- the net after the two nodes went, and came what this action makes of them
abbrev pub IsRewritten : Action → Pair → Graph → Graph → Type 0
IsRewritten action pair old new =
    Replaces old new pair.f pair.g (born_of action pair.of_f pair.of_g)
    (joins_of action (arity pair.of_f.0) (arity pair.of_g.0))
