-- What a word of the table may hold, and the ends of edges. Each is a number whose two low bits
-- tell its sort: 1 for a node, with its kind, its index and its place; 2 for a wire or a free port,
-- by the place of its word; 3 for an auxiliary slot, by the place of its field. A word that holds
-- nothing is 0, and no word holds a slot.
use Rattle.std.specs.Prelude.{◌≡◌, ℕ, zero, suc, ◌+◌, ◌*◌, ◌/◌, ◌%◌, ◌⊎◌}
use Rattle.ol_net.specs.declared.parts.Kind.{Kind}
use Rattle.ol_net.specs.declared.parts.Kind.TheVariants as kind

abbrev pub kind_number : Kind → ℕ
kind_number kind.Lam = 0
kind_number kind.App = 1
kind_number kind.Fan = 2
kind_number kind.Croissant = 3
kind_number kind.Bracket = 4
kind_number kind.Eraser = 5

abbrev pub kind_numbered : ℕ → Kind
kind_numbered zero = kind.Lam
kind_numbered (suc zero) = kind.App
kind_numbered (suc (suc zero)) = kind.Fan
kind_numbered (suc (suc (suc zero))) = kind.Croissant
kind_numbered (suc (suc (suc (suc zero)))) = kind.Bracket
kind_numbered n = kind.Eraser

-- how many indexes a reference has room for, and the greatest of them
abbrev pub indexes : ℕ
indexes = 16777216

abbrev pub top_index : ℕ
top_index = 16777215

-- what a place of one more adds to a reference
abbrev pub place_step : ℕ
place_step = 536870912

-- a node stands for its slot 0
abbrev pub node_ref : Kind → ℕ → ℕ → ℕ
node_ref k i place = 1 + 4 * kind_number k + 32 * i + 536870912 * place

abbrev pub wire_ref : ℕ → ℕ
wire_ref place = 2 + 536870912 * place

abbrev pub slot_ref : ℕ → ℕ
slot_ref place = 3 + 536870912 * place

abbrev pub kind_in : ℕ → Kind
kind_in r = kind_numbered (r / 4 % 8)

abbrev pub index_in : ℕ → ℕ
index_in r = r / 32 % 16777216

abbrev pub place_in : ℕ → ℕ
place_in r = r / 536870912

abbrev pub IsNodeRef : ℕ → Type 0
IsNodeRef r = r % 4 ≡ 1

abbrev pub IsWireRef : ℕ → Type 0
IsWireRef r = r % 4 ≡ 2

-- what a word or a link may hold
abbrev pub IsRef : ℕ → Type 0
IsRef r = IsNodeRef r ⊎ IsWireRef r

-- a reference as it is written: no bit of it is without a meaning
abbrev pub IsWholeRef : ℕ → Type 0
IsWholeRef r = (r ≡ node_ref (kind_in r) (index_in r) (place_in r)) ⊎ (r ≡ wire_ref (place_in r))
