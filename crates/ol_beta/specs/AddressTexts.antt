-- The text of an address.
use Rattle.std.specs.Prelude.{List, [], ◌∷◌, ℕ, codes, flat_map}
use Rattle.std.specs.Fmt.{decimal}

-- an address: its moves, one digit each, or a dot for the root; 0 leads into the body of an abstraction, 1 into a
-- function, 2 into an argument
abbrev pub address_text : List ℕ → List ℕ
address_text [] = codes "."
address_text (m ∷ ms) = flat_map decimal (m ∷ ms)
