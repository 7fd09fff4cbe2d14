-- What is said of the other translation, where a term's journal isn't one of a run under the one that was asked.
use Rattle.std.specs.Prelude.{◌≢◌, ℕ, Bool, true, false, if◌then◌else◌, List, [], codes}
use Rattle.ol_term.specs.declared.translations.Translation.{Translation}
use Rattle.ol_term.specs.declared.translations.Translation.TheVariants.{One, Two}
use Rattle.ol_view.specs.declared.answers.Check.TheVariants.{Complete, Run, BadText, NotARun}
use Rattle.ol_subjects.specs.declared.answers.End.{End}
use Rattle.ol_subjects.specs.declared.answers.End.TheVariants as end
use Rattle.ol_subjects.specs.declared.subjects.Subject.{Subject}
use Rattle.ol_subjects.specs.declared.subjects.Subject.TheVariants.{Term, Net}
use Rattle.ol_explain.specs.declared.tallying.Finding.{Finding}
use Rattle.ol_explain.specs.declared.tallying.Finding.TheVariants.{Refused, Found}
use Rattle.ol_explain.specs.Afters.{line_with}
use Rattle.ol_explain.specs.Tallies.{IsChecked}

-- the other one of the two
abbrev pub other_of : Translation → Translation
other_of One = Two
other_of Two = One

abbrev pub translation_number : Translation → ℕ
translation_number One = 1
translation_number Two = 2

-- it is one of a run, complete or not
abbrev pub is_run_found : Finding → Bool
is_run_found Refused = false
is_run_found (Found Complete) = true
is_run_found (Found (Run k)) = true
is_run_found (Found (NotARun line)) = false
is_run_found (Found (BadText line)) = false

-- that the journal is one of a run of this translation, where that is found
abbrev pub run_line : Translation → Finding → List ℕ
run_line t f =
    if is_run_found f then line_with (codes "it is a run of translation ") (translation_number t) else []

-- What is said of the other translation below an answer that ends so: nothing of a net, nothing of a
-- term's journal that is one of a run or isn't in the grammar, and else whether it is one of a run
-- of the other translation, by what it is found to be against that one's net.
pub data TellsOther (bytes journal : List ℕ) : Subject → End → List ℕ → Type 0 where
  of_net : {e : End} → TellsOther bytes journal Net e []
  needless : {t : Translation} {e : End} → e ≢ end.NotARun → TellsOther bytes journal (Term t) e []
  tried : {t : Translation} {f : Finding} → IsChecked bytes journal (Term (other_of t)) f →
      TellsOther bytes journal (Term t) end.NotARun (run_line (other_of t) f)
