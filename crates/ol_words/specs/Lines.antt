-- What the words after the command say: options with their values, and names.
use Rattle.std.specs.Prelude.{ℕ, Bool, false, not, ◌==◌, ◌&&◌, List, [], ◌∷◌}
use Rattle.std.specs.Prelude.{Option, None, Some, if◌then◌else◌, length, nat_lt, codes, option_map, option_and_then}
use Rattle.std.specs.List.{before_first, after_first, list_any, position_or_len}
use Rattle.std.specs.Str.{bytes_eq}
use Rattle.ol_words.specs.Texts.{Text}

-- the text begins with `-` and isn't `-` alone: it is no name and no value
abbrev pub is_dashed : Text → Bool
is_dashed [] = false
is_dashed (first ∷ rest) = first == 45 && not (length rest == 0)

abbrev pub is_end : Text → Bool
is_end word = bytes_eq word (codes "--")

-- the name is one of the options that a command has
abbrev pub is_option : List Text → Text → Bool
is_option options name = list_any (λ option. bytes_eq option name) options

abbrev pub is_equals : ℕ → Bool
is_equals byte = byte == 61

-- what follows two hyphens
abbrev pub after_hyphens : Text → Option Text
after_hyphens (first ∷ second ∷ rest) = if first == 45 && second == 45 then Some rest else None
after_hyphens _ = None

-- what stands behind the first `=`, if there is one
abbrev pub value_in : Text → Option Text
value_in text =
    if nat_lt (position_or_len is_equals text) (length text) then Some (after_first is_equals text) else None

-- the options that a command has, and those of them that take no value: the flags
pub record Known : Type 0 where
  pub options : List Text
  pub flags : List Text

-- a flag stands alone, and has the value 1 where it is written out
abbrev pub flag_alone : Text → Option Text → Option (Text × Option Text)
flag_alone flag None = Some (flag, Some (codes "1"))
flag_alone flag (Some value) = None

-- `name` or `name=value`
abbrev pub name_and_value : Known → Text → Option (Text × Option Text)
name_and_value known text = if is_option known.flags (before_first is_equals text)
    then flag_alone (before_first is_equals text) (value_in text)
    else (if is_option known.options (before_first is_equals text)
    then Some (before_first is_equals text, value_in text)
    else None)

-- the option that a word writes out whole, with its value where that is attached
abbrev pub option_of : Known → Text → Option (Text × Option Text)
option_of known word = option_and_then (name_and_value known) (after_hyphens word)

-- the options with their values, and the names, each in order
pub record Line : Type 0 where
  pub options : List (Text × Text)
  pub names : List Text

abbrev pub with_option : Text → Text → Line → Line
with_option option value line = record line { options = (option, value) ∷ line.options }

abbrev pub with_name : Text → Line → Line
with_name name line = record line { names = name ∷ line.names }

-- what follows a word that is no value and no name: nothing where the word writes out no option
abbrev pub after_option : Option (Text × Option Text) → (Text → Option Line) → Option Line → Option Line
after_option None waits line = None
after_option (Some (option, None)) waits line = waits option
after_option (Some (option, Some value)) waits line = option_map (with_option option value) line

-- the words are read where no option, or this one, waits for its value
unfoldable pub line_from : Known → Option Text → List Text → Option Line
line_from known None [] = Some (record { options = []; names = [] })
line_from known None (word ∷ rest) = if is_end word then Some (record { options = []; names = rest })
    else (if is_dashed word
    then after_option (option_of known word) (λ option. line_from known (Some option) rest) (line_from known None rest)
    else option_map (with_name word) (line_from known None rest))
line_from known (Some option) [] = None
line_from known (Some option) (value ∷ rest) =
    if is_dashed value then None else option_map (with_option option value) (line_from known None rest)

-- what the words of a command with these options say: a word `--name` is followed by its value where
-- the option takes one, a word `--name=value` has it, `--` ends the options, and every other word is
-- a name
abbrev pub line_of : Known → List Text → Option Line
line_of known words = line_from known None words
