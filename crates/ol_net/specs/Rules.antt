-- The table of rules: what two nodes do whose principal ports are joined.
use Rattle.std.specs.Prelude.{ℕ, Option, Some, None, nat_lt, nat_eq, if◌then◌else◌}
use Rattle.ol_net.specs.declared.parts.Kind.{Kind}
use Rattle.ol_net.specs.declared.parts.Kind.TheVariants as kind
use Rattle.ol_net.specs.declared.parts.Rule.{Rule}
use Rattle.ol_net.specs.declared.parts.Rule.TheVariants as rule
use Rattle.ol_net.specs.declared.parts.Facing.{Facing}
use Rattle.ol_net.specs.declared.parts.Facing.TheVariants.{Active, Stuck}

-- two nodes of one index, neither an eraser
abbrev pub met : Kind → Kind → Option Rule
met kind.App kind.Lam = Some rule.Beta
met kind.Lam kind.App = Some rule.Beta
met kind.Fan kind.Fan = Some rule.Fan
met kind.Croissant kind.Croissant = Some rule.Croissant
met kind.Bracket kind.Bracket = Some rule.Bracket
met _ _ = None

-- the lower one of two nodes of different indexes, neither an eraser, crosses the other
abbrev pub crossed : Kind → Option Rule
crossed kind.Fan = Some rule.CrossFan
crossed kind.Croissant = Some rule.CrossCroissant
crossed kind.Bracket = Some rule.CrossBracket
crossed _ = None

abbrev pub by_index : Kind → ℕ → Kind → ℕ → Option Rule
by_index k i l j = if nat_eq i j then met k l else (if nat_lt i j then crossed k else None)

-- The rule of a node of kind k and index i, which acts, and one of kind l and index j: an eraser
-- acts on any node, and else the one of the lower index acts.
abbrev pub rule_of : Kind → ℕ → Kind → ℕ → Option Rule
rule_of kind.Eraser i l j = Some rule.Erase
rule_of k i kind.Eraser j = None
rule_of k i l j = by_index k i l j

-- the rule of the two, whichever of them acts
abbrev pub either : Option Rule → Option Rule → Facing
either (Some r) other = Active r
either None (Some r) = Active r
either None None = Stuck

abbrev pub facing_of_pair : Kind × ℕ → Kind × ℕ → Facing
facing_of_pair f g = either (rule_of f.0 f.1 g.0 g.1) (rule_of g.0 g.1 f.0 f.1)
