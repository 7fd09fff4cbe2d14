-- How many pairs each wave of a run has, by rule.
use Rattle.std.specs.Prelude.{◌≡◌, ℕ, zero, suc, ◌-◌, ◌<◌, ◌≤◌, max, nat_eq, if◌then◌else◌}
use Rattle.std.specs.Prelude.{List, [], ◌∷◌, ◌++◌, length, take, codes}
use Rattle.std.specs.Fmt.{decimal}
use Rattle.ol_rules.specs.declared.journal.Entry.{Entry}
use Rattle.ol_rules.specs.declared.journal.Counts.{Counts}
use Rattle.ol_rules.specs.Counting.{counts_of}

-- ---- what is counted

-- the entries of a journal that are of this wave, in order
abbrev pub in_wave : ℕ → List Entry → List ℕ → List Entry
in_wave w (e ∷ es) (v ∷ vs) = if nat_eq v w then e ∷ in_wave w es vs else in_wave w es vs
in_wave w _ _ = []

-- how many pairs a wave has
abbrev pub width : List Entry → List ℕ → ℕ → ℕ
width journal waves w = length (in_wave w journal waves)

-- the greatest wave, or 0 where there is none
abbrev pub last_wave : List ℕ → ℕ
last_wave [] = 0
last_wave (v ∷ vs) = max v (last_wave vs)

-- no wave has more pairs than this one, and each one before it has fewer
pub record IsWidest (journal : List Entry) (waves : List ℕ) (pairs wave : ℕ) : Type 0 where
  pub pairs_are : pairs ≡ width journal waves wave
  pub none_wider : (w : ℕ) → width journal waves w ≤ pairs
  pub first : (w : ℕ) → w < wave → width journal waves w < pairs

-- ---- the text

-- a number at the right end of so many columns, 16 at most
abbrev pub cell : ℕ → ℕ → List ℕ
cell columns n = take (columns - length (decimal n)) (codes "                ") ++ decimal n

abbrev pub header_text : List ℕ
header_text =
    codes "   wave   pairs    beta     fan croissant bracket cross-fan cross-croissant"
    ++ codes " cross-bracket   erase\n"

-- the line of a wave: its number, how many pairs it has, and how many of each rule
abbrev pub row_text : (wave pairs : ℕ) → Counts → List ℕ
row_text wave pairs c =
    cell 7 wave ++ cell 8 pairs ++ cell 8 c.beta ++ cell 8 c.fan ++ cell 10 c.croissant
    ++ cell 8 c.bracket ++ cell 10 c.cross_fan ++ cell 16 c.cross_croissant
    ++ cell 14 c.cross_bracket ++ cell 8 c.erase ++ codes "\n"

-- the lines of waves 1 to n
abbrev pub wave_rows : List Entry → List ℕ → ℕ → List ℕ
wave_rows journal waves zero = []
wave_rows journal waves (suc n) =
    wave_rows journal waves n
    ++ row_text (suc n) (width journal waves (suc n)) (counts_of (in_wave (suc n) journal waves))

-- a line of two numbers, each behind some words
abbrev pub two_numbers : List ℕ → ℕ → List ℕ → ℕ → List ℕ
two_numbers words m more n = words ++ decimal m ++ more ++ decimal n ++ codes "\n"

-- how many pairs a widest wave has, and its number
abbrev pub widest_text : (pairs wave : ℕ) → List ℕ
widest_text pairs wave = two_numbers (codes "widest ") pairs (codes " at wave ") wave

-- how many pairs a wave has in the mean
abbrev pub mean_text : (interactions waves : ℕ) → List ℕ
mean_text interactions waves = two_numbers (codes "mean ") interactions (codes "/") waves

-- how many waves and how many pairs there are
abbrev pub totals_text : (waves interactions : ℕ) → List ℕ
totals_text waves interactions = two_numbers (codes "waves ") waves (codes "\ninteractions ") interactions

abbrev pub left_text : ℕ → List ℕ
left_text fuel = codes "a pair is left after " ++ decimal fuel ++ codes " interactions\n"

-- the table of a journal with its waves
pub data IsTable (journal : List Entry) (waves : List ℕ) (text : List ℕ) : Type 0 where
  no_pair : journal ≡ [] → text ≡ totals_text 0 0 → IsTable journal waves text
  of_waves : {pairs wave : ℕ} → 0 < length journal → IsWidest journal waves pairs wave →
      text ≡ header_text ++ wave_rows journal waves (last_wave waves) ++ widest_text pairs wave
      ++ mean_text (length journal) (last_wave waves)
      ++ totals_text (last_wave waves) (length journal) → IsTable journal waves text
