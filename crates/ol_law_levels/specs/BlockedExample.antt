-- A small net that is excluded.
use Rattle.ol_law_levels.specs.Examples.{stuck_net}
use Rattle.ol_law_levels.specs.Levels.{IsLevelled}
use Rattle.ol_law_levels.specs.Unblocked.{IsUnblocked}

-- The net of a croissant and a fan of index 0 that face each other is levelled, and blocked.
abbrev pub StuckNetIsBlocked : Type 0
StuckNetIsBlocked = IsLevelled stuck_net × (IsUnblocked stuck_net → ⊥)
