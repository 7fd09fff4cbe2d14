-- What is told where memory is found may be told in any case.
use Rattle.std.proofs.Common.{◌≡◌, ℕ, List}
use Rattle.ol_subjects.specs.declared.subjects.Subject.{Subject}
use Rattle.ol_check_c.specs.declared.answers.Verdict.{Verdict}
use Rattle.ol_check_c.specs.declared.answers.RuleCounts.{RuleCounts}
use Rattle.ol_check_c.specs.Asked.{IsVerdict, IsCounted, IsWrittenOut}
use Rattle.ol_check_c.specs.Found.{IsFoundVerdict, AreFoundCounts, IsToldOut}

module _ (subject : Subject) (bytes journal : List ℕ) where
  pub verdict : (v : Verdict) → IsFoundVerdict subject bytes journal v → IsVerdict subject bytes journal v
  verdict v (IsFoundVerdict.long h) = IsVerdict.long h
  verdict v (IsFoundVerdict.checked s h) = IsVerdict.checked s h

  pub counts : (v : Verdict) (c : RuleCounts) → AreFoundCounts subject bytes journal v c →
      IsCounted subject bytes journal v c
  counts v c (AreFoundCounts.long h) = IsCounted.long h
  counts v c (AreFoundCounts.counted s h) = IsCounted.counted s h

  pub written : (old : List ℕ) (n : ℕ) (new : List ℕ) → IsToldOut subject bytes journal old n new →
      IsWrittenOut subject bytes journal old n new
  written old n new (IsToldOut.long h) = IsWrittenOut.long h
  written old n new (IsToldOut.written s h w) = IsWrittenOut.written s h w
