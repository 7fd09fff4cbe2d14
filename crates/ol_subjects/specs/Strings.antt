-- Strings and arrays of strings, as JSON writes them.
use Rattle.std.specs.Prelude.{ℕ, ◌+◌, ◌-◌, ◌/◌, ◌%◌, ◌==◌, nat_lt, Bool, not, ◌&&◌, if◌then◌else◌}
use Rattle.std.specs.Prelude.{List, [], ◌∷◌, ◌++◌, length, take, codes, flat_map}
use Rattle.std.specs.List.{slice_split}

-- ---- the lines of a text

-- what stands between line feeds
abbrev pub pieces_of : List ℕ → List (List ℕ)
pieces_of text = slice_split (λ b. b == 10) text

-- the lines of a text, each of which ends with a line feed: the last one is the last byte
abbrev pub lines_of : List ℕ → List (List ℕ)
lines_of text =
    if length text == 0 then [] else pieces_of (take (length text - 1) text)

-- ---- strings

-- The byte stands for itself in a string: it is a seen one of ASCII or a space, no `"` and no `\`.
abbrev pub stands : ℕ → Bool
stands b = nat_lt 31 b && (nat_lt b 127 && (not (b == 34) && not (b == 92)))

-- 0 to 9 and a to f
abbrev pub hex_digit : ℕ → ℕ
hex_digit n = if nat_lt n 10 then 48 + n else 97 + (n - 10)

-- What stands for a byte in a string: itself, or its number in two hexadecimal digits.
abbrev pub in_string : ℕ → List ℕ
in_string b =
    if stands b then b ∷ [] else codes "\\u00" ++ hex_digit (b / 16) ∷ hex_digit (b % 16) ∷ []

abbrev pub string : List ℕ → List ℕ
string bytes = codes "\"" ++ flat_map in_string bytes ++ codes "\""

-- ---- arrays

-- strings, with this before the first, and a comma between each two
abbrev pub strings_after : List ℕ → List (List ℕ) → List ℕ
strings_after before [] = []
strings_after before (line ∷ lines) = before ++ string line ++ strings_after (codes ",") lines

abbrev pub array_of : List (List ℕ) → List ℕ
array_of lines = codes "[" ++ strings_after [] lines ++ codes "]"
