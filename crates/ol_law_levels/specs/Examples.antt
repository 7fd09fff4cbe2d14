-- Two small nets with a stuck pair.
use Rattle.std.specs.Prelude.{[], ◌∷◌, ℕ}
use Rattle.ol_net.specs.Nets.{NamedNet, free, slot}
use Rattle.ol_net.specs.Pairs.{IsStuck}
use Rattle.ol_net.specs.declared.parts.Kind.TheVariants as kind
use Rattle.ol_context.specs.Contexts.{Context}
use Rattle.ol_context.specs.Paths.{Path}
use Rattle.ol_invariance.specs.Tables.{two_facing}
use Rattle.ol_law_levels.specs.Levels.{IsLevelled}

-- A croissant and a fan of index 0 face each other, with free port 0 at the croissant's slot 1, 1
-- and 2 at those of the fan.
abbrev pub stuck_net : NamedNet ℕ
stuck_net = record {
  nodes = (0, kind.Croissant, 0) ∷ (1, kind.Fan, 0) ∷ [];
  free_ports = 3;
  links = (slot 0 0, slot 1 0) ∷ (free 0, slot 0 1) ∷ (free 1, slot 1 1) ∷ (free 2, slot 1 2) ∷ [];
}

-- This net is levelled, so levels don't exclude stuck pairs.
abbrev pub LevelsAllowStuckPairs : Type 0
LevelsAllowStuckPairs = IsLevelled stuck_net × IsStuck stuck_net 0 1

-- An abstraction and a fan of one index are a stuck pair too. In their net a path crosses it, and
-- it is not levelled.
abbrev pub UnlevelledPairsAreCrossed : Type 0
UnlevelledPairsAreCrossed = IsStuck (two_facing kind.Lam kind.Fan) 0 1
    × ((c : Context) → Path (two_facing kind.Lam kind.Fan) (free 0) c 2 c)
    × (IsLevelled (two_facing kind.Lam kind.Fan) → ⊥)
