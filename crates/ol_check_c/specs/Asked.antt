-- What C is told of a file with a term or a net, and of one with a journal.
use Rattle.std.specs.Prelude.{◌≡◌, ℕ, ◌≤◌, ◌<◌, ◌==◌, ◌||◌, if◌then◌else◌, List, ◌++◌, length, take, drop, Option, None, Some}
use Rattle.ol_term.specs.declared.translations.Translation.TheVariants.{One, Two}
use Rattle.ol_rules.specs.declared.journal.Counts.{Counts}
use Rattle.ol_subjects.specs.declared.answers.End.{End}
use Rattle.ol_subjects.specs.declared.subjects.Subject.{Subject}
use Rattle.ol_subjects.specs.declared.subjects.Subject.TheVariants.{Term}
use Rattle.ol_explain.specs.declared.tallying.Finding.{Finding}
use Rattle.ol_subjects.specs.Subjects.{most_bytes}
use Rattle.ol_limits.specs.Limits.{most_journal_bytes}
use Rattle.ol_explain.specs.Tallies.{IsChecked, IsTallied}
use Rattle.ol_explain.specs.Explained.{IsExplained}
use Rattle.ol_check_c.specs.declared.answers.Verdict.{Verdict}
use Rattle.ol_check_c.specs.declared.answers.RuleCounts.{RuleCounts}
use Rattle.ol_check_c.specs.Verdicts.{verdict_of, too_long, no_memory, no_translation, no_counts, counts_told}

-- a file with a term, by the number of the translation; 0 stands for 2
abbrev pub subject_of : ℕ → Option Subject
subject_of number =
    if number == 1 then Some (Term One)
    else (if number == 0 || number == 2 then Some (Term Two) else None)

-- one of the two has too many bytes: the first is tried first
pub data AreTooLong (subject : Subject) (bytes journal : List ℕ) : Verdict → Type 0 where
  first : most_bytes subject < length bytes →
      AreTooLong subject bytes journal (too_long (most_bytes subject))
  second : length bytes ≤ most_bytes subject → most_journal_bytes < length journal →
      AreTooLong subject bytes journal (too_long most_journal_bytes)

-- neither has
abbrev pub AreShort : Subject → List ℕ → List ℕ → Type 0
AreShort subject bytes journal =
    (length bytes ≤ most_bytes subject) × (length journal ≤ most_journal_bytes)

-- What is told of the journal. Want of memory may stand in the place of all that isn't a limit.
pub data IsVerdict (subject : Subject) (bytes journal : List ℕ) : Verdict → Type 0 where
  long : {v : Verdict} → AreTooLong subject bytes journal v → IsVerdict subject bytes journal v
  no_room : AreShort subject bytes journal → IsVerdict subject bytes journal no_memory
  checked : {finding : Finding} → AreShort subject bytes journal →
      IsChecked bytes journal subject finding →
      IsVerdict subject bytes journal (verdict_of finding)

-- The same with the counts of the journal's rules.
pub data IsCounted (subject : Subject) (bytes journal : List ℕ) : Verdict → RuleCounts → Type 0 where
  long : {v : Verdict} → AreTooLong subject bytes journal v →
      IsCounted subject bytes journal v no_counts
  no_room : AreShort subject bytes journal → IsCounted subject bytes journal no_memory no_counts
  counted : {finding : Finding} {counts : Option Counts} → AreShort subject bytes journal →
      IsTallied bytes journal subject finding counts →
      IsCounted subject bytes journal (verdict_of finding) (counts_told counts)

-- Some room before and after the front of a text was written to it, as much as fits.
abbrev pub IsWritten : List ℕ → List ℕ → List ℕ → Type 0
IsWritten text old new = new ≡ take (length old) text ++ drop (length text) old

-- How many bytes the explanation has, the front of which was written; or 0, and nothing was, where
-- one of the files has too many bytes or no memory was found.
pub data IsWrittenOut (subject : Subject) (bytes journal old : List ℕ) : ℕ → List ℕ → Type 0 where
  long : {v : Verdict} → AreTooLong subject bytes journal v →
      IsWrittenOut subject bytes journal old 0 old
  no_room : IsWrittenOut subject bytes journal old 0 old
  written : {text new : List ℕ} {end : End} → AreShort subject bytes journal →
      IsExplained bytes journal text subject end → IsWritten text old new →
      IsWrittenOut subject bytes journal old (length text) new

-- The answers to a call with the number of a translation.
abbrev pub IsVerdictOf : Option Subject → ℕ → List ℕ → List ℕ → Verdict → Type 0
IsVerdictOf None number bytes journal v = v ≡ no_translation number
IsVerdictOf (Some subject) number bytes journal v = IsVerdict subject bytes journal v

abbrev pub IsVerdictBy : ℕ → List ℕ → List ℕ → Verdict → Type 0
IsVerdictBy number bytes journal v = IsVerdictOf (subject_of number) number bytes journal v

abbrev pub IsCountedOf : Option Subject → ℕ → List ℕ → List ℕ → Verdict → RuleCounts → Type 0
IsCountedOf None number bytes journal v counts = (v ≡ no_translation number) × (counts ≡ no_counts)
IsCountedOf (Some subject) number bytes journal v counts = IsCounted subject bytes journal v counts

abbrev pub IsCountedBy : ℕ → List ℕ → List ℕ → Verdict → RuleCounts → Type 0
IsCountedBy number bytes journal v counts =
    IsCountedOf (subject_of number) number bytes journal v counts

abbrev pub IsWrittenOutOf : Option Subject → List ℕ → List ℕ → List ℕ → ℕ → List ℕ → Type 0
IsWrittenOutOf None bytes journal old count new = (count ≡ 0) × (new ≡ old)
IsWrittenOutOf (Some subject) bytes journal old count new =
    IsWrittenOut subject bytes journal old count new

abbrev pub IsWrittenOutBy : ℕ → List ℕ → List ℕ → List ℕ → ℕ → List ℕ → Type 0
IsWrittenOutBy number bytes journal old count new =
    IsWrittenOutOf (subject_of number) bytes journal old count new
