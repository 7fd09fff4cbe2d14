-- The answers of `check` and `explain`, each as one JSON object on one line.
use Rattle.std.specs.Prelude.{◌≡◌, ℕ, List, ◌++◌, codes}
use Rattle.std.specs.Fmt.{decimal}
use Rattle.ol_net.specs.Graph.{Graph}
use Rattle.ol_view.specs.declared.answers.Check.{Check}
use Rattle.ol_view.specs.declared.answers.Check.TheVariants as check
use Rattle.ol_view.specs.Checks.{start_net_of_graph, OnlyIsFound}
use Rattle.ol_subjects.specs.declared.answers.End.{End}
use Rattle.ol_subjects.specs.declared.answers.End.TheVariants as end
use Rattle.ol_subjects.specs.declared.subjects.Subject.{Subject}
use Rattle.ol_subjects.specs.Subjects.{IsSubject, Refuses}
use Rattle.ol_subjects.specs.declared.layouts.Layout.{Layout}
use Rattle.ol_subjects.specs.declared.layouts.Layout.TheVariants.{Lines, Object}
use Rattle.ol_subjects.specs.Strings.{array_of, lines_of}
use Rattle.ol_explain.specs.Explained.{IsExplained}
use Rattle.ol_explain.specs.Judged.{end_of, found_line}

-- the members that tell what a journal is found to be
abbrev pub found_members : Check → List ℕ
found_members check.Complete = codes "\"verdict\":\"complete\""
found_members (check.Run k) = codes "\"verdict\":\"run\",\"entries\":" ++ decimal k
found_members (check.NotARun line) = codes "\"verdict\":\"not a run\",\"line\":" ++ decimal line
found_members (check.BadText line) = codes "\"verdict\":\"bad text\",\"line\":" ++ decimal line

-- the member that has these lines
abbrev pub why_member : List ℕ → List ℕ
why_member lines = codes ",\"why\":" ++ array_of (lines_of lines)

-- an object of these members, and a line feed
abbrev pub object_line : List ℕ → List ℕ
object_line members = codes "{" ++ members ++ codes "}\n"

-- what tells what a journal is found to be, in this layout
abbrev pub found_in : Layout → Check → List ℕ
found_in Lines c = found_line c
found_in Object c = object_line (found_members c)

-- The object for the line that `check` answers. A file that is refused is by its line, as ever.
pub data IsJudgedObject (bytes journal text : List ℕ) (subject : Subject) : End → Type 0 where
  refused : Refuses subject bytes text → IsJudgedObject bytes journal text subject end.Refused
  found : {g : Graph} (c : Check) → IsSubject subject bytes g →
      OnlyIsFound (start_net_of_graph g) journal c → text ≡ object_line (found_members c) →
      IsJudgedObject bytes journal text subject (end_of c)

-- The object for the lines that `explain` answers: what the first one tells, and those below it.
pub data IsExplainedObject (bytes journal text : List ℕ) (subject : Subject) : End → Type 0 where
  refused : Refuses subject bytes text → IsExplainedObject bytes journal text subject end.Refused
  explained : (c : Check) (below : List ℕ) →
      IsExplained bytes journal (found_line c ++ below) subject (end_of c) →
      text ≡ object_line (found_members c ++ why_member below) →
      IsExplainedObject bytes journal text subject (end_of c)
