-- Which part of the table each word is. A node's place is the number of the word of the field of
-- its slot 1, also where it has no such slot; the field of its slot 2 is the next word.
use Rattle.std.specs.Prelude.{ℕ, ◌+◌, ◌-◌, ◌*◌, ◌/◌, ◌%◌, ◌==◌, ◌<◌, ◌≤◌, nat_lt, if◌then◌else◌}
use Rattle.ol_rules.specs.declared.journal.NodeName.{NodeName}
use Rattle.ol_rules.specs.declared.journal.NodeName.TheVariants.{Init, Born}
use Rattle.ol_wire.specs.declared.layout.Parts.{Parts}

-- word 0 is the ticket word, and word 1 the live word
abbrev pub port_word : ℕ → ℕ
port_word k = 2 + k

abbrev pub start_node : Parts → ℕ → ℕ
start_node z k = 2 + z.free + 2 * k

abbrev pub start_wire : Parts → ℕ → ℕ
start_wire z j = 2 + z.free + 2 * z.nodes + j

-- the left word of a cell of the start; its right word is the next one
abbrev pub start_cell : Parts → ℕ → ℕ
start_cell z c = 2 + z.free + 2 * z.nodes + z.wires + 2 * c

-- The 22 words of a ticket: the two nodes of its entry, two fields for each of four nodes, four
-- wires, and the left and right words of four cells.
abbrev pub block : Parts → ℕ → ℕ
block z t = 2 + z.free + 2 * z.nodes + z.wires + 2 * z.cells + 22 * t

abbrev pub table_size : Parts → ℕ
table_size z = block z z.fuel

abbrev pub place_of : Parts → NodeName → ℕ
place_of z (Init k) = start_node z k
place_of z (Born t i) = block z t + 2 + 2 * i

-- the wire between the copy of f at slot q + 1 of g and the copy of g at slot p + 1 of f
abbrev pub born_wire : Parts → ℕ → ℕ → ℕ → ℕ
born_wire z t q p = block z t + 10 + 2 * q + p

-- the left word of the cell of join j
abbrev pub born_cell : Parts → ℕ → ℕ → ℕ
born_cell z t j = block z t + 14 + 2 * j

-- cells are numbered from 0: those of the start, and then four for each ticket
abbrev pub left_word : Parts → ℕ → ℕ
left_word z c = if nat_lt c z.cells then start_cell z c else born_cell z ((c - z.cells) / 4) ((c - z.cells) % 4)

abbrev pub cells_of : Parts → ℕ
cells_of z = z.cells + 4 * z.fuel

pub data WordPart : Type 0 where
  ticket : WordPart
  live_word : WordPart
  -- the word of a free port, by number
  port : ℕ → WordPart
  -- the field of slot s + 1 of a node
  field : NodeName → ℕ → WordPart
  -- a wire of the start, by number
  wire : ℕ → WordPart
  -- the wire between two copies that a ticket made, by q and p
  between : ℕ → ℕ → ℕ → WordPart
  left : WordPart
  right : WordPart
  entry : WordPart
  past : WordPart

abbrev pub part_in_block : ℕ → ℕ → WordPart
part_in_block t j =
    if nat_lt j 2 then entry
    else if nat_lt j 10 then field (Born t ((j - 2) / 2)) ((j - 2) % 2)
    else if nat_lt j 14 then between t ((j - 10) / 2) ((j - 10) % 2)
    else if j % 2 == 0 then left
    else right

abbrev pub part_of_word : Parts → ℕ → WordPart
part_of_word z w =
    if w == 0 then ticket
    else if w == 1 then live_word
    else if nat_lt w (start_node z 0) then port (w - 2)
    else if nat_lt w (start_wire z 0) then field (Init ((w - start_node z 0) / 2)) ((w - start_node z 0) % 2)
    else if nat_lt w (start_cell z 0) then wire (w - start_wire z 0)
    else if nat_lt w (block z 0) then (if (w - start_cell z 0) % 2 == 0 then left else right)
    else if nat_lt w (table_size z) then part_in_block ((w - block z 0) / 22) ((w - block z 0) % 22)
    else past

-- a word of the block of that ticket
abbrev pub IsInBlock : Parts → ℕ → ℕ → Type 0
IsInBlock z t w = (block z t ≤ w) × (w < block z t + 22)

-- a name that a node may have after so many tickets
abbrev pub IsPlaced : Parts → ℕ → NodeName → Type 0
IsPlaced z tickets (Init k) = k < z.nodes
IsPlaced z tickets (Born t i) = (t < tickets) × (i < 4)
