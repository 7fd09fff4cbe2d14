-- The line of `ol check`, and how a command ends that answers with it.
use Rattle.std.specs.Prelude.{◌≡◌, ℕ, List, codes}
use Rattle.ol_net.specs.Graph.{Graph}
use Rattle.ol_view.specs.declared.answers.Check.{Check}
use Rattle.ol_view.specs.declared.answers.Check.TheVariants as check
use Rattle.ol_view.specs.Checks.{start_net_of_graph, OnlyIsFound}
use Rattle.ol_subjects.specs.declared.answers.End.{End}
use Rattle.ol_subjects.specs.declared.answers.End.TheVariants as end
use Rattle.ol_subjects.specs.declared.subjects.Subject.{Subject}
use Rattle.ol_subjects.specs.Subjects.{IsSubject, Refuses}
use Rattle.ol_explain.specs.Afters.{line_with}

-- the line of what a journal is found to be
abbrev pub found_line : Check → List ℕ
found_line check.Complete = codes "complete\n"
found_line (check.Run k) = line_with (codes "run ") k
found_line (check.NotARun line) = line_with (codes "not a run at line ") line
found_line (check.BadText line) = line_with (codes "bad text at line ") line

-- each of the four ends in a way of its own
abbrev pub end_of : Check → End
end_of check.Complete = end.Yes
end_of (check.Run k) = end.Run
end_of (check.NotARun line) = end.NotARun
end_of (check.BadText line) = end.BadText

-- The answer to a file with a term or a net, and to one with a journal.
pub data IsJudged (bytes journal text : List ℕ) (subject : Subject) : End → Type 0 where
  refused : Refuses subject bytes text → IsJudged bytes journal text subject end.Refused
  found : {g : Graph} (c : Check) → IsSubject subject bytes g →
      OnlyIsFound (start_net_of_graph g) journal c → text ≡ found_line c →
      IsJudged bytes journal text subject (end_of c)
