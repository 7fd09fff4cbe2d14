-- Private: words of private contracts alone: an answer whose first line tells what is found.
use Rattle.std.specs.Prelude.{◌≡◌, ℕ, List, ◌++◌}
use Rattle.ol_net.specs.Graph.{Graph}
use Rattle.ol_view.specs.declared.answers.Check.{Check}
use Rattle.ol_subjects.specs.declared.answers.End.{End}
use Rattle.ol_explain.specs.Explained.{IsExplainedOf}
use Rattle.ol_explain.specs.Judged.{end_of, found_line}

-- the text has the line of what is found, and below it this
abbrev pub IsBelow : Check → List ℕ → List ℕ → Type 0
IsBelow found text below = text ≡ found_line found ++ below

-- What is said of the journal, and that it begins with the line of what is found.
pub record IsExplanation (g : Graph) (journal text : List ℕ) (e : End) (found : Check) : Type 0 where
  pub explained : IsExplainedOf g journal text e
  pub end_is : e ≡ end_of found
  pub below : List ℕ
  pub text_is : IsBelow found text below
