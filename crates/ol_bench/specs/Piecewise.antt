-- Private: words of private contracts alone: a trace that is judged while it is read.
use Rattle.std.specs.Prelude.{◌≡◌, ℕ, ◌≤◌, Bool, true, false, List, [], ◌⊎◌, length, Option, Some, Result, Ok, Err}
use Rattle.std.specs.Prelude.{IfOk, IsErrOf}
use Rattle.ol_io.specs.Readings.{Reading, gave, closed, IsReadOf}
use Rattle.ol_io.specs.declared.calls.ReadAll.{ReadAll}
use Rattle.ol_io.specs.declared.calls.ReadAll.TheVariants as read
use Rattle.ol_limits.specs.Limits.{most_journal_bytes}
use Rattle.ol_limits.specs.declared.NoMemory.{NoMemory}
use Rattle.ol_net.specs.Graph.{Graph}
use Rattle.ol_subjects.specs.declared.layouts.Layout.{Layout}
use Rattle.ol_subjects.specs.declared.answers.Answer.{Answer}
use Rattle.ol_subjects.specs.declared.subjects.Subject as of
use Rattle.ol_view.specs.declared.answers.Check.{Check}
use Rattle.ol_view.specs.Checks.{start_net_of_graph, OnlyIsFound}
use Rattle.ol_view.specs.Feeding.{IsFixed}
use Rattle.ol_bench.specs.Traces.{ComesOfTrace, IsOpenAtLimit, IsOpenBeforeLast, IsReadNoFurther}

-- These bytes were read, to the end or not, and no more than a trace may have. This is found of all that begins so, or of
-- them where they are all.
abbrev pub IsFoundBy : Graph → Bool → List ℕ → Check → Type 0
IsFoundBy net ended front check = (length front ≤ most_journal_bytes)
    × (IsFixed (start_net_of_graph net) front check
    ⊎ ((ended ≡ true) × OnlyIsFound (start_net_of_graph net) front check))

-- a call of the source failed
abbrev pub judging_failed : Result Check ReadAll → Bool
judging_failed (Ok check) = false
judging_failed (Err read.Fault) = true
judging_failed (Err read.TooLong) = false
judging_failed (Err read.NoMemory) = false

-- The last reading grew by this front of what was left, to its end or not; and this is what is found of it, or why
-- nothing is.
pub record Judges (net : Graph) (left : Option (List ℕ)) (ended : Bool) (old new : List Reading)
    (result : Result Check ReadAll) : Type 0 where
  pub front : List ℕ
  pub grown : new ≡ closed ended (gave front old)
  pub told : IsReadOf left ended front
  pub found : IfOk result (λ check. IsFoundBy net ended front check)
  pub long : IsErrOf result read.TooLong → IsOpenAtLimit net (Some front)
  pub needed : (front ≡ []) ⊎ IsOpenBeforeLast net front

-- The last reading grew by this front of what was left, to its end or not; and this comes of each file that was read so.
pub record AnswersCheck (bytes : List ℕ) (s : of.Subject) (layout : Layout) (left : Option (List ℕ)) (ended : Bool)
    (faults faults' : ℕ) (old new : List Reading) (result : Result Answer NoMemory) : Type 0 where
  pub front : List ℕ
  pub grown : new ≡ closed ended (gave front old)
  pub told : IsReadOf left ended front
  pub caused : (file : Option (List ℕ)) → IsReadOf file ended front →
      IfOk result (λ a. ComesOfTrace layout s bytes file faults faults' a.text.items a.end)
  pub no_further : IsReadNoFurther s bytes front
