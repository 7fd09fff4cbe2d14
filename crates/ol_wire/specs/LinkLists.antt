-- The links that a ticket leaves to be made, one for each join, and what it writes.
use Rattle.std.specs.Prelude.{ℕ, suc, ◌+◌, ◌-◌, ◌==◌, nat_lt, if◌then◌else◌, List, [], ◌∷◌}
use Rattle.ol_net.specs.Parts.{arity}
use Rattle.ol_rules.specs.declared.journal.NodeName.TheVariants.{Born}
use Rattle.ol_rules.specs.Rewriting.{is_meeting, index_after}
use Rattle.ol_rules.specs.Listed.{each}
use Rattle.ol_wire.specs.declared.layout.Parts.{Parts}
use Rattle.ol_wire.specs.declared.view.Link.{Link}
use Rattle.ol_wire.specs.References.{kind_in, index_in, node_ref}
use Rattle.ol_wire.specs.Layout.{place_of, born_cell}
use Rattle.ol_wire.specs.Events.{Event}
use Rattle.ol_wire.specs.Blocks.{copies_of_f, copies_of_g}

-- the reference of the node that ticket t makes at place i
abbrev pub born_ref : Parts → Event → ℕ → ℕ → ℕ
born_ref z e t i =
    if nat_lt i (copies_of_f e) then node_ref (kind_in e.f) (index_in e.f) (place_of z (Born t i))
    else node_ref (kind_in e.g) (index_after e.rule (index_in e.g)) (place_of z (Born t i))

-- those that aren't empty, each with its number, from w on
abbrev pub to_write : ℕ → List ℕ → List (ℕ × ℕ)
to_write w [] = []
to_write w (x ∷ xs) = if x == 0 then to_write (suc w) xs else (w, x) ∷ to_write (suc w) xs

-- the number of joins, and the link of join j, with the left word of its cell: `a` and `b` are what
-- the fields of f and of g hold, by slot - 1
abbrev pub joins_in : Event → ℕ
joins_in e = if is_meeting e.rule then arity (kind_in e.f) else copies_of_f e + copies_of_g e

abbrev pub link_of : Parts → Event → ℕ → (ℕ → ℕ) → (ℕ → ℕ) → ℕ → Link
link_of z e t a b j = record {
  cell = born_cell z t j;
  one = if is_meeting e.rule then a j else born_ref z e t j;
  two = if is_meeting e.rule then b j else if nat_lt j (copies_of_f e) then b j else a (j - copies_of_f e);
}

abbrev pub links_of : Parts → Event → ℕ → (ℕ → ℕ) → (ℕ → ℕ) → List Link
links_of z e t a b = each (joins_in e) (λ j. link_of z e t a b j ∷ [])
