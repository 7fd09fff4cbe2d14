-- Where a byte of some bytes stands: its line, its column, and the text that tells it.
use Rattle.std.specs.Prelude.{◌≡◌, ◌≢◌, ℕ, ◌+◌, ◌-◌, ◌<◌, ◌≤◌, Bool, ◌==◌, ◌||◌, nat_lt, if◌then◌else◌, List, [], ◌∷◌}
use Rattle.std.specs.Prelude.{◌++◌, length, take, drop, codes, count_by, slice_index, ◌⊎◌}
use Rattle.std.specs.Fmt.{decimal}
use Rattle.ol_subjects.specs.declared.answers.End.{End}
use Rattle.ol_subjects.specs.declared.answers.End.TheVariants.{Yes, No}

-- a line feed
abbrev pub is_feed : ℕ → Bool
is_feed b = b == 10

-- The line of a place, which is within the bytes or at their end: from `start` to before `end`.
pub record IsLineOf (bytes : List ℕ) (at start end : ℕ) : Type 0 where
  pub begins_before : start ≤ at
  pub ends_after : at ≤ end
  pub ends_within : end ≤ length bytes
  pub one_line : (k : ℕ) → start ≤ k → k < end → slice_index bytes k ≢ 10
  pub begins : (start ≡ 0) ⊎ (slice_index bytes (start - 1) ≡ 10)
  pub ends : (end ≡ length bytes) ⊎ (slice_index bytes end ≡ 10)

-- What is as wide as a byte: a tab for a tab, nothing for a later byte of a sign of several bytes,
-- else a space.
abbrev pub blank : ℕ → List ℕ
blank b = if b == 9 then 9 ∷ [] else (if nat_lt b 128 || nat_lt 191 b then 32 ∷ [] else [])

abbrev pub blanks : List ℕ → List ℕ
blanks [] = []
blanks (b ∷ bs) = blank b ++ blanks bs

-- the bytes from `start` to before `end`
abbrev pub piece : List ℕ → ℕ → ℕ → List ℕ
piece bytes start end = take (end - start) (drop start bytes)

-- the number of the line, which begins at `start`, and of the column, both from 1
abbrev pub line_and_column : List ℕ → ℕ → ℕ → List ℕ
line_and_column bytes at start = codes "line " ++ decimal (count_by is_feed (take start bytes) + 1)
    ++ codes ", column " ++ decimal (at - start + 1)

-- the numbers of the line and of the column; the line; and a caret below the place
abbrev pub place_text : List ℕ → ℕ → ℕ → ℕ → List ℕ
place_text bytes at start end =
    line_and_column bytes at start ++ codes "\n"
    ++ piece bytes start end ++ codes "\n"
    ++ blanks (piece bytes start at) ++ codes "^\n"

abbrev pub past_text : ℕ → List ℕ
past_text size = codes "past the end at byte " ++ decimal size ++ codes "\n"

-- The answer to where a byte stands, counted from 0.
pub data IsWhere (bytes : List ℕ) (at : ℕ) : List ℕ → End → Type 0 where
  place : {start end : ℕ} → IsLineOf bytes at start end →
      IsWhere bytes at (place_text bytes at start end) Yes
  past : length bytes < at → IsWhere bytes at (past_text (length bytes)) No
