-- Private: words of private contracts alone: what is told where memory is found.
use Rattle.std.specs.Prelude.{ℕ, List, length, Option}
use Rattle.ol_rules.specs.declared.journal.Counts.{Counts}
use Rattle.ol_subjects.specs.declared.answers.End.{End}
use Rattle.ol_subjects.specs.declared.subjects.Subject.{Subject}
use Rattle.ol_explain.specs.declared.tallying.Finding.{Finding}
use Rattle.ol_explain.specs.Tallies.{IsChecked, IsTallied}
use Rattle.ol_explain.specs.Explained.{IsExplained}
use Rattle.ol_check_c.specs.declared.answers.Verdict.{Verdict}
use Rattle.ol_check_c.specs.declared.answers.RuleCounts.{RuleCounts}
use Rattle.ol_check_c.specs.Verdicts.{verdict_of, no_counts, counts_told}
use Rattle.ol_check_c.specs.Asked.{AreTooLong, AreShort, IsWritten}

pub data IsFoundVerdict (subject : Subject) (bytes journal : List ℕ) : Verdict → Type 0 where
  long : {v : Verdict} → AreTooLong subject bytes journal v → IsFoundVerdict subject bytes journal v
  checked : {finding : Finding} → AreShort subject bytes journal →
      IsChecked bytes journal subject finding →
      IsFoundVerdict subject bytes journal (verdict_of finding)

-- the same with the counts of the journal's rules
pub data AreFoundCounts (subject : Subject) (bytes journal : List ℕ) : Verdict → RuleCounts → Type 0 where
  long : {v : Verdict} → AreTooLong subject bytes journal v →
      AreFoundCounts subject bytes journal v no_counts
  counted : {finding : Finding} {counts : Option Counts} → AreShort subject bytes journal →
      IsTallied bytes journal subject finding counts →
      AreFoundCounts subject bytes journal (verdict_of finding) (counts_told counts)

-- how many bytes the explanation has, the front of which was written; or 0, where a file is too long
pub data IsToldOut (subject : Subject) (bytes journal old : List ℕ) : ℕ → List ℕ → Type 0 where
  long : {v : Verdict} → AreTooLong subject bytes journal v →
      IsToldOut subject bytes journal old 0 old
  written : {text new : List ℕ} {end : End} → AreShort subject bytes journal →
      IsExplained bytes journal text subject end → IsWritten text old new →
      IsToldOut subject bytes journal old (length text) new
