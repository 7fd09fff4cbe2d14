-- What the seat that draws a ticket writes into its block, and the links that it has to make. In a
-- crossing of f and g the copy of f at slot q + 1 of g is born at place q, and the copy of g at
-- slot p + 1 of f behind these.
use Rattle.std.specs.Prelude.{ℕ, ◌+◌, ◌-◌, nat_lt, if◌then◌else◌, List, [], ◌∷◌}
use Rattle.ol_net.specs.Parts.{arity}
use Rattle.ol_rules.specs.Rewriting.{is_meeting}
use Rattle.ol_wire.specs.declared.layout.Parts.{Parts}
use Rattle.ol_wire.specs.References.{kind_in, wire_ref}
use Rattle.ol_wire.specs.Layout.{born_wire}
use Rattle.ol_wire.specs.Events.{Event, earlier, later}

-- how many copies of f, and of g, an event makes
abbrev pub copies_of_f : Event → ℕ
copies_of_f e = if is_meeting e.rule then 0 else arity (kind_in e.g)

abbrev pub copies_of_g : Event → ℕ
copies_of_g e = if is_meeting e.rule then 0 else arity (kind_in e.f)

-- the field of its slot s + 1: slot p + 1 of the copy of f at q is joined to slot q + 1 of the copy of g at p
abbrev pub born_field : Parts → Event → ℕ → ℕ → ℕ → ℕ
born_field z e t i s =
    if nat_lt i (copies_of_f e) then (if nat_lt s (copies_of_g e) then wire_ref (born_wire z t i s) else 0)
    else if nat_lt i (copies_of_f e + copies_of_g e) then
    (if nat_lt s (copies_of_f e) then wire_ref (born_wire z t s (i - copies_of_f e)) else 0)
    else 0

-- the first ten words of the block
abbrev pub block_words : Parts → Event → ℕ → List ℕ
block_words z e t =
    earlier e.f e.g ∷ later e.f e.g
    ∷ born_field z e t 0 0 ∷ born_field z e t 0 1 ∷ born_field z e t 1 0 ∷ born_field z e t 1 1
    ∷ born_field z e t 2 0 ∷ born_field z e t 2 1 ∷ born_field z e t 3 0 ∷ born_field z e t 3 1 ∷ []
