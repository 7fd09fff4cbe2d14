-- The texts of names, and of the two names of an entry.
use Rattle.std.specs.Prelude.{ℕ, ◌≤◌, List, [], ◌∷◌, ◌++◌}
use Rattle.std.specs.Fmt.{decimal}
use Rattle.ol_rules.specs.declared.journal.NodeName.{NodeName}
use Rattle.ol_rules.specs.declared.journal.NodeName.TheVariants.{Init, Born}

-- `k` for a start node, `ticket.place` for one that was born; numbers are decimal, without leading
-- zeros
abbrev pub name_text : NodeName → List ℕ
name_text (Init k) = decimal k
name_text (Born ticket place) = decimal ticket ++ (46 ∷ decimal place)

-- two names with one space between, and a line feed
abbrev pub line_text : NodeName → NodeName → List ℕ
line_text first second = name_text first ++ (32 ∷ name_text second ++ 10 ∷ [])

-- the names that may be written: numbers are at most 4294967295, and a place is one digit, 0 to 3
abbrev pub MayBeWritten : NodeName → Type 0
MayBeWritten (Init k) = k ≤ 4294967295
MayBeWritten (Born ticket place) = (ticket ≤ 4294967295) × (place ≤ 3)
