-- Counts with one entry more.
use Rattle.std.specs.Prelude.{ℕ, ◌+◌, ◌*◌, ◌<◌, Bool, if◌then◌else◌}
use Rattle.ol_net.specs.declared.parts.Rule.{Rule}
use Rattle.ol_net.specs.declared.parts.Rule.TheVariants as rule
use Rattle.ol_rules.specs.declared.journal.Counts.{Counts}
use Rattle.ol_rules.specs.Counting.{is_rule}

abbrev pub one_if : Bool → ℕ
one_if b = if b then 1 else 0

abbrev pub counted : Counts → Rule → Counts
counted c r = record {
  beta = c.beta + one_if (is_rule r rule.Beta);
  fan = c.fan + one_if (is_rule r rule.Fan);
  croissant = c.croissant + one_if (is_rule r rule.Croissant);
  bracket = c.bracket + one_if (is_rule r rule.Bracket);
  cross_fan = c.cross_fan + one_if (is_rule r rule.CrossFan);
  cross_croissant = c.cross_croissant + one_if (is_rule r rule.CrossCroissant);
  cross_bracket = c.cross_bracket + one_if (is_rule r rule.CrossBracket);
  erase = c.erase + one_if (is_rule r rule.Erase);
}

-- one more fits 32 bits
abbrev pub HaveRoom : Counts → Type 0
HaveRoom c = (c.beta < 4294967295) × (c.fan < 4294967295) × (c.croissant < 4294967295) × (c.bracket < 4294967295)
    × (c.cross_fan < 4294967295) × (c.cross_croissant < 4294967295) × (c.cross_bracket < 4294967295)
    × (c.erase < 4294967295)
