-- The settings of a command line: the option of each, its number and the limits of that. A setting is a `Setting` of
-- src/settings.rt, and limits are `Limits` of src/numbers.rt.
use Rattle.std.specs.Prelude.{ℕ, ◌&&◌, List, [], ◌∷◌, Option, None, Some, Bool, true, false, codes, filter, map}
use Rattle.std.specs.Prelude.{if◌then◌else◌, length, nat_le}
use Rattle.std.specs.Str.{all_ascii_digits}
use Rattle.std.specs.Str.Parse.{digits_value}
use Rattle.ol_limits.specs.Limits.{most_edges, most_fuel, most_heads, most_steps, most_workers, plain_fuel, plain_heads, plain_workers}
use Rattle.ol_words.specs.Texts.{Text}
use Rattle.ol_words.specs.Lines.{Known}
use Rattle.ol_words.specs.declared.numbers.Limits.{Limits}
use Rattle.ol_words.specs.declared.settings.Setting.{Setting}
use Rattle.ol_words.specs.declared.settings.Setting.TheVariants as set

-- ---- numbers

-- 1 to 8 ASCII digits
abbrev pub is_number : Text → Bool
is_number text = nat_le 1 (length text) && (nat_le (length text) 8 && all_ascii_digits text)

-- limits by the least, the most and the default
abbrev pub from_to : ℕ → ℕ → ℕ → Limits
from_to least most default = record { least = least; most = most; default = default }

-- the number that a text gives within the limits
abbrev pub number_within : Limits → Text → Option ℕ
number_within limits text =
    if is_number text && (nat_le limits.least (digits_value 10 text) && nat_le (digits_value 10 text) limits.most)
    then Some (digits_value 10 text) else None

-- a setting by the values that are given to it: it is given at most once
abbrev pub setting : Limits → List Text → Option ℕ
setting limits [] = Some limits.default
setting limits (value ∷ []) = number_within limits value
setting limits (value ∷ again ∷ more) = None

-- ---- the table of settings

-- how a setting is given: its option, whether this is a flag, and what its number may be
pub record SettingRow : Type 0 where
  pub option : Text
  pub is_flag : Bool
  pub limits : Limits

-- an option with its least and its greatest number, and the number without the option
abbrev pub number : Text → ℕ → ℕ → ℕ → SettingRow
number option least most default = record { option = option; is_flag = false; limits = from_to least most default }

-- a flag takes no value: its number is 1 if it is given, and 0 otherwise
abbrev pub flag : Text → SettingRow
flag option = record { option = option; is_flag = true; limits = from_to 0 1 0 }

-- the table of settings
abbrev pub setting_row : Setting → SettingRow
setting_row set.Translation = number (codes "translation") 1 2 2
setting_row set.Workers = number (codes "workers") 1 most_workers plain_workers
setting_row set.Fuel = number (codes "fuel") 0 most_fuel plain_fuel
setting_row set.Heads = number (codes "heads") 1 most_heads plain_heads
setting_row set.Edges = number (codes "edges") 1 most_edges 100000
setting_row set.After = number (codes "after") 0 most_fuel 0
setting_row set.Steps = number (codes "steps") 0 most_steps 1000
setting_row set.Run = flag (codes "run")
setting_row set.FromTerm = flag (codes "from-term")

-- the options of settings
abbrev pub options_in : List Setting → List Text
options_in ss = map (λ s. (setting_row s).option) ss

-- and those of them that are flags
abbrev pub flags_in : List Setting → List Text
flags_in ss = options_in (filter (λ s. (setting_row s).is_flag) ss)

abbrev pub known_in : List Setting → Known
known_in ss = record { options = options_in ss; flags = flags_in ss }
