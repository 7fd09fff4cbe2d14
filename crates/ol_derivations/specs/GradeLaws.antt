-- What holds of grades.
use Rattle.std.specs.Prelude.{◌≡◌, ◌≢◌, ℕ, ◌<◌, ◌^◌, Bool, List, ◌++◌}
use Rattle.std.specs.List.{AllZip}
use Rattle.ol_equal.specs.declared.answers.Compared.{Compared}
use Rattle.ol_equal.specs.declared.answers.Compared.TheVariants.{Equal}
use Rattle.ol_derivations.specs.Lines.{lines_of}
use Rattle.ol_subjects.specs.declared.answers.End.{End}
use Rattle.ol_derivations.specs.declared.reading.Bounds.{Bounds}
use Rattle.ol_derivations.specs.declared.read_trees.Seen.{Seen}
use Rattle.ol_derivations.specs.declared.grading.Student.{Student}
use Rattle.ol_derivations.specs.declared.grading.Work.{Work}
use Rattle.ol_derivations.specs.Reads.{HasWholeTree}
use Rattle.ol_derivations.specs.Grades.{AreInputs, IsTermText, Compares, HaveThere, heads_words, IsGradeOf, IsGraded}

-- If a student's tree isn't the solution's, the two texts of what they have at the first place where they don't agree
-- differ. Fewer than 2 ^ 32 subterms are asked, as they are by each `Heads`.
abbrev pub HeadsDiffer : Type 0
HeadsDiffer = (bounds : Bounds) (student solution line : List ℕ) (wanted : Seen) (c : Compared)
    (expected found : List ℕ) → bounds.heads.most < 2 ^ 32 → IsTermText student → IsTermText solution →
    IsTermText line → HasWholeTree bounds solution line wanted → (h : Compares bounds student line wanted c) →
    c ≢ Equal → HaveThere wanted h.got expected found → expected ≢ found

-- So what is said of a student, among the inputs of a file and the trees of a solution, never ends in one text twice, as
-- `expected HEAD, got HEAD` would.
abbrev pub NoHeadTwice : Type 0
NoHeadTwice = (bounds : Bounds) (inputs solution : List ℕ) (kept : List (List ℕ)) (wanted : List Seen) (work : Work)
    (words head : List ℕ) (fine : Bool) → bounds.heads.most < 2 ^ 32 → AreInputs (lines_of inputs) kept →
    IsTermText solution → AllZip (HasWholeTree bounds solution) kept wanted →
    IsGradeOf bounds kept wanted work (words ++ heads_words head head) fine → ⊥

-- the same files, followed as far, have one answer
abbrev pub OneGrading : Type 0
OneGrading = (inputs solution : List ℕ) (students : List Student) (bounds : Bounds) (text other : List ℕ) (e f : End) →
    IsGraded inputs solution students bounds text e → IsGraded inputs solution students bounds other f →
    (text ≡ other) × (e ≡ f)
