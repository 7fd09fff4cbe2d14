-- Birth names: what made a node, whenever it was made.
use Rattle.std.specs.Prelude.{◌≡◌, ℕ, ◌⊎◌}
use Rattle.ol_net.specs.declared.parts.Kind.{Kind}
use Rattle.ol_net.specs.Nets.{NamedNet, HasNode, IsNet}

-- a start node by its number, or the node that the rewrite of f, which acted, and g made at this place
pub data BirthName : Type 0 where
  init : ℕ → BirthName
  born : BirthName → BirthName → ℕ → BirthName

-- x is a proper part of the name
abbrev pub IsPart : BirthName → BirthName → Type 0
IsPart x (init n) = ⊥
IsPart x (born f g n) = ((x ≡ f) ⊎ IsPart x f) ⊎ ((x ≡ g) ⊎ IsPart x g)

-- a net of nodes with birth names, none of which is a proper part of another: so no node is there
-- already that a rewrite will make
pub record IsBirthNet (N : NamedNet BirthName) : Type 0 where
  pub net : IsNet N
  pub no_part : (x y : BirthName) (k l : Kind) (i j : ℕ) → HasNode N x k i → HasNode N y l j → IsPart x y → ⊥
