-- Nets in which no pair is left.
use Rattle.ol_net.specs.Nets.{NamedNet, IsNet}
use Rattle.ol_net.specs.Pairs.{IsActive, HasStuck}
use Rattle.ol_net.specs.declared.parts.Rule.{Rule}
use Rattle.ol_context.specs.Short.{HasNoFacing}

-- A net in which no pair is active, and none stuck, has no facing pairs.
abbrev pub NoPairsAreLeft : Type 0 → Type 0
NoPairsAreLeft A = (N : NamedNet A) → IsNet N → ((f g : A) (r : Rule) → IsActive N f g r → ⊥) →
    HasStuck N 0 → HasNoFacing N
