-- Private: a rewrite as the code has it: the rule, and the two nodes by their references, the one that acts first.
use Rattle.ol_wire.specs.declared.rewrite.Rewrite.{Rewrite}
use Rattle.ol_wire.specs.Events.{Event, rule_between, event_of}
use Rattle.std.specs.Prelude.{◌≡◌, ℕ, Some}

abbrev pub event_for : Rewrite → Event
event_for w = record { rule = w.rule; f = w.f; g = w.g }

-- the rewrite is that of two nodes that face each other, whichever of them acts
abbrev pub IsRewriteFor : ℕ → ℕ → Rewrite → Type 0
IsRewriteFor left right w = (event_for w ≡ event_of left right) × (rule_between w.f w.g ≡ Some w.rule)
