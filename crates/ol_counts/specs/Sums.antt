-- All interactions of some counts.
use Rattle.std.specs.Prelude.{ℕ, ◌+◌}
use Rattle.ol_rules.specs.declared.journal.Counts.{Counts}

abbrev pub interactions : Counts → ℕ
interactions c = c.beta + c.fan + c.croissant + c.bracket + c.cross_fan + c.cross_croissant + c.cross_bracket + c.erase
