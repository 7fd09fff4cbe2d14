-- Private: words of private contracts alone: the counts of each wave, side by side.
use Rattle.std.specs.Prelude.{◌≡◌, ℕ, zero, suc, ◌<◌, ◌≤◌, List, [], ◌++◌, length, slice_index_or}
use Rattle.ol_rules.specs.declared.journal.Entry.{Entry}
use Rattle.ol_rules.specs.declared.journal.Counts.{Counts}
use Rattle.ol_rules.specs.Counting.{counts_of}
use Rattle.ol_counts.specs.Sums.{interactions}
use Rattle.ol_counts.specs.Waves.{in_wave, row_text}

-- the counts at a place, or none
abbrev pub tally_at : List Counts → ℕ → Counts
tally_at tallies w = slice_index_or tallies w (counts_of [])

-- at each place stand the counts of that wave
abbrev pub AreTallied : List Counts → List Entry → List ℕ → Type 0
AreTallied tallies es ws = (w : ℕ) → w < length tallies → tally_at tallies w ≡ counts_of (in_wave w es ws)

-- of the first n places none has more interactions than this one, and each one before it has fewer
pub record IsWidestBelow (tallies : List Counts) (n pairs wave : ℕ) : Type 0 where
  pub pairs_are : pairs ≡ interactions (tally_at tallies wave)
  pub below : wave < n
  pub none_wider : (w : ℕ) → w < n → interactions (tally_at tallies w) ≤ pairs
  pub first : (w : ℕ) → w < wave → interactions (tally_at tallies w) < pairs

-- the lines of waves 1 to n
abbrev pub rows_text : List Counts → ℕ → List ℕ
rows_text tallies zero = []
rows_text tallies (suc n) = rows_text tallies n
    ++ row_text (suc n) (interactions (tally_at tallies (suc n))) (tally_at tallies (suc n))
