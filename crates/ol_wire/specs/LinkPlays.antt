-- What the steps tell that make the links of a rewrite.
use Rattle.std.specs.Prelude.{ℕ, nat_eq, if◌then◌else◌, List}
use Rattle.ol_rules.specs.declared.journal.Entry.{Entry}
use Rattle.ol_wire.specs.Weights.{pairs}

-- how often ticket t stands in the list
abbrev pub times_drawn : ℕ → List (ℕ × Entry) → ℕ
times_drawn t made = pairs (λ (n : ℕ) (x : Entry). if nat_eq n t then 1 else 0) made
