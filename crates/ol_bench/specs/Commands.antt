-- The commands: what each asks of its files, and what is answered.
use Rattle.std.specs.Prelude.{◌≡◌, ℕ, ◌+◌, ◌≤◌, List, [], ◌∷◌, ◌++◌, ◌⊎◌, length, Option, None, Some, codes, string_bytes}
use Rattle.std.specs.declared.vec.Vec.{Vec}
use Rattle.std.specs.declared.alloc.Global.{Global}
use Rattle.ol_io.specs.Outside.{Rose, IsLonger}
use Rattle.ol_io.specs.Readings.{Reading}
use Rattle.ol_limits.specs.Limits.{most_fuel}
use Rattle.ol_term.specs.declared.translations.Translation.TheVariants as translation
use Rattle.ol_subjects.specs.declared.answers.End.{End}
use Rattle.ol_subjects.specs.declared.subjects.Subject as of
use Rattle.ol_subjects.specs.declared.subjects.Subject.TheVariants as subject
use Rattle.ol_bench.specs.declared.asked.Content.{Content}
use Rattle.ol_bench.specs.declared.asked.Content.TheVariants.{Subject, Journal}
use Rattle.ol_bench.specs.declared.asked.Given.{Given}
use Rattle.ol_bench.specs.declared.asked.Given.TheVariants as given
use Rattle.ol_bench.specs.declared.asked.OnOne.{OnOne}
use Rattle.ol_bench.specs.declared.asked.OnOne.TheVariants as one
use Rattle.ol_bench.specs.declared.asked.OnTwo.{OnTwo}
use Rattle.ol_bench.specs.declared.asked.OnTwo.TheVariants as two
use Rattle.ol_bench.specs.declared.asked.Asked.{Asked}
use Rattle.ol_bench.specs.declared.asked.Asked.TheVariants as asked
use Rattle.ol_bench.specs.Inputs.{Files, ComesOf, IsAllWithin, IsNamed, after_taking, most_of, told_of}
use Rattle.ol_bench.specs.Traces.{ComesOfTrace, IsJudgedIn, IsReadNoFurther}
use Rattle.ol_places.specs.Places.{IsWhere}
use Rattle.ol_places.specs.Wanted.{IsStop}
use Rattle.ol_steps.specs.Steps.{IsStepsOf}
use Rattle.ol_derivations.specs.Derivations.{IsDerivation}
use Rattle.ol_counts.specs.Counted.{IsCounted}
use Rattle.ol_orders.specs.Orders.{IsJournal}
use Rattle.ol_explain.specs.Afters.{IsPausedAnswer}
use Rattle.ol_explain.specs.Explained.{IsExplained}
use Rattle.ol_explain.specs.Objects.{IsExplainedObject}
use Rattle.ol_subjects.specs.declared.layouts.Layout.{Layout}
use Rattle.ol_subjects.specs.declared.layouts.Layout.TheVariants.{Lines, Object}
use Rattle.ol_orders.specs.Same.{IsSame}
use Rattle.ol_places.specs.Frees.{IsFree}
use Rattle.ol_counts.specs.WaveAnswers.{IsWavesAnswer}
use Rattle.ol_orders.specs.Stories.{IsStoryAnswer}
use Rattle.ol_decoding.specs.declared.frame_walks.Wanted.{Wanted}
use Rattle.ol_decoding.specs.WalkAnswers.{IsFrameWalk}
use Rattle.ol_derivations.specs.declared.grading.Student.{Student}
use Rattle.ol_derivations.specs.declared.grading.Work.{Work}
use Rattle.ol_derivations.specs.declared.grading.Work.TheVariants as work
use Rattle.ol_derivations.specs.declared.reading.Bounds.{Bounds}
use Rattle.ol_derivations.specs.Grades.{IsGraded}
use Rattle.ol_decoding.specs.Shown.{IsShown}
use Rattle.ol_decoding.specs.ToldTrees.{IsTreeAnswer}

-- ---- a command on one file

-- what stands in the file
abbrev pub content_of : OnOne → Content
content_of (one.Where byte) = Journal
content_of one.Stop = Subject (subject.Term translation.Two)
content_of one.Derivation = Subject (subject.Term translation.Two)
content_of (one.Steps how most) = Subject (subject.Term translation.Two)
content_of (one.Counts s bounds columns layout) = Subject s
content_of (one.Journal s order fuel heads) = Subject s
content_of one.Free = Subject (subject.Term translation.Two)
content_of (one.Waves s fuel) = Subject s
content_of (one.Story s fuel) = Subject s
content_of (one.Show translation fuel heads) = Subject (subject.Term translation)
content_of (one.Tree translation depth fuel heads) = Subject (subject.Term translation)

-- the answer to the bytes of the file
abbrev pub IsAnswerToOne : OnOne → List ℕ → List ℕ → End → Type 0
IsAnswerToOne (one.Where byte) bytes text e = IsWhere bytes byte text e
IsAnswerToOne one.Stop bytes text e = IsStop bytes text e
IsAnswerToOne one.Derivation bytes text e = IsDerivation bytes text e
IsAnswerToOne (one.Steps how most) bytes text e = IsStepsOf bytes how most text e
IsAnswerToOne (one.Counts s bounds columns layout) bytes text e =
    IsCounted bytes bounds columns layout text s e
IsAnswerToOne (one.Journal s order fuel heads) bytes text e =
    IsJournal bytes order fuel.most heads.most text s e
IsAnswerToOne one.Free bytes text e = IsFree bytes text e
IsAnswerToOne (one.Waves s fuel) bytes text e = IsWavesAnswer bytes fuel.most text s e
IsAnswerToOne (one.Story s fuel) bytes text e = IsStoryAnswer bytes fuel.most text s e
IsAnswerToOne (one.Show translation fuel heads) bytes text e =
    IsShown bytes translation fuel.most heads.most text e
IsAnswerToOne (one.Tree translation depth fuel heads) bytes text e =
    IsTreeAnswer bytes translation depth heads.most fuel.most text e

-- ---- a command on two files

-- what stands in the first file, and in the second one
abbrev pub contents_of : OnTwo → Content × Content
contents_of (two.After s lines weights) = (Subject s, Journal)
contents_of (two.Check s layout) = (Subject s, Journal)
contents_of (two.Explain s layout) = (Subject s, Journal)
contents_of two.Same = (Subject subject.Net, Subject subject.Net)

-- the subject and the layout of `check`
abbrev pub as_check : OnTwo → Option (of.Subject × Layout)
as_check (two.Check s layout) = Some (s, layout)
as_check _ = None

-- its numbers are within their bounds
abbrev pub IsTwoWithin : OnTwo → Type 0
IsTwoWithin (two.After s lines weights) = (1 ≤ lines) × (lines ≤ most_fuel + 1)
IsTwoWithin (two.Check s layout) = Unit {0}
IsTwoWithin (two.Explain s layout) = Unit {0}
IsTwoWithin two.Same = Unit {0}

-- what a trace is found to be, and why, in this layout
abbrev pub IsExplainedIn : Layout → (bytes journal text : List ℕ) → of.Subject → End → Type 0
IsExplainedIn Lines bytes journal text s e = IsExplained bytes journal text s e
IsExplainedIn Object bytes journal text s e = IsExplainedObject bytes journal text s e

-- the answer to the bytes of the first file and to those of the second one
abbrev pub IsAnswerToTwo : OnTwo → List ℕ → List ℕ → List ℕ → End → Type 0
IsAnswerToTwo (two.After s lines weights) bytes more text e =
    IsPausedAnswer weights bytes more lines text s e
IsAnswerToTwo (two.Check s layout) bytes more text e = IsJudgedIn layout bytes more text s e
IsAnswerToTwo (two.Explain s layout) bytes more text e = IsExplainedIn layout bytes more text s e
IsAnswerToTwo two.Same bytes more text e = IsSame bytes more text e

-- ---- students' functions

-- the most files of students
abbrev pub most_students : ℕ
most_students = 1000

-- what stands in each file
abbrev pub of_term : Content
of_term = Subject (subject.Term translation.Two)

-- the name of a file, or the option behind which a text stands
abbrev pub student_name : Given → List ℕ
student_name (given.Name file) = string_bytes file
student_name (given.Text text) = codes "-e"

-- What there is of a student's file, by the calls of the source that had failed before and that now have. A call failed;
-- or the file has too many bytes; or these are its bytes.
pub data IsWork (file : Option (List ℕ)) (faults faults' : ℕ) : Work → Type 0 where
  unread : Rose faults faults' → IsWork file faults faults' work.Unread
  too_long : faults' ≡ faults → IsLonger file (most_of of_term) → IsWork file faults faults' work.TooLong
  readable : {bytes : Vec ℕ Global} → faults' ≡ faults → IsAllWithin (most_of of_term) file bytes.items →
      IsWork file faults faults' (work.Text bytes)

-- a student with this file
pub record IsStudent (file : Given) (files : Files) (faults faults' : ℕ) (s : Student) : Type 0 where
  pub name : s.name.items ≡ student_name file
  pub work : IsWork (told_of files file) faults faults' s.work

-- The answer on these inputs and this solution, where the files of these students were read, or couldn't be, and then the
-- files that are left are read. None of these refuses the answer.
abbrev pub IsCauseOfStudents : Bounds → (inputs solution : List ℕ) → List Student → List Given → Files →
    (faults faults' : ℕ) → List ℕ → End → Type 0
IsCauseOfStudents bounds inputs solution read [] files faults faults' text e =
    (faults' ≡ faults) × IsGraded inputs solution read bounds text e
IsCauseOfStudents bounds inputs solution read (file ∷ left) files faults faults' text e =
    (s : Student) × (between : ℕ) × IsStudent file files faults between s
    × IsCauseOfStudents bounds inputs solution (read ++ s ∷ []) left (after_taking file files)
    between faults' text e

-- the answer on these inputs, where the solution and the students' files are read
abbrev pub IsCauseOfSolution : Bounds → (inputs : List ℕ) → Given → List Given → Files →
    (faults faults' : ℕ) → List ℕ → End → Type 0
IsCauseOfSolution bounds inputs file students files faults faults' text e =
    ComesOf of_term (told_of files file) faults faults'
    (λ solution text e. IsCauseOfStudents bounds inputs solution [] students
    (after_taking file files) faults faults' text e) text e

-- the answer, where all files are read
abbrev pub IsCauseOfGrade : Bounds → (inputs solution : Given) → List Given → Files →
    (faults faults' : ℕ) → List ℕ → End → Type 0
IsCauseOfGrade bounds inputs solution students files faults faults' text e =
    ComesOf of_term (told_of files inputs) faults faults'
    (λ bytes text e. IsCauseOfSolution bounds bytes solution students (after_taking inputs files)
    faults faults' text e) text e

-- ---- what is asked

-- the numbers are within their bounds
abbrev pub IsWithinBounds : Asked → Type 0
IsWithinBounds (asked.One file command) = Unit {0}
IsWithinBounds (asked.Two file other command) = IsTwoWithin command
IsWithinBounds (asked.Walk file wanted) = Unit {0}
IsWithinBounds (asked.Grade inputs solution students bounds) = length students.items ≤ most_students

-- one of these files has this name
abbrev pub HaveName : List Given → List ℕ → Type 0
HaveName [] name = ⊥
HaveName (file ∷ files) name = IsNamed file name ⊎ HaveName files name

-- a file of this name is asked for
abbrev pub Names : Asked → List ℕ → Type 0
Names (asked.One file command) name = IsNamed file name
Names (asked.Two file other command) name = IsNamed file name ⊎ IsNamed other name
Names (asked.Walk file wanted) name = IsNamed file name
Names (asked.Grade inputs solution students bounds) name =
    IsNamed inputs name ⊎ (IsNamed solution name ⊎ HaveName students.items name)

-- The answer of a command on one file, whose bytes are told, by the calls of the source that had
-- failed before and that now have.
abbrev pub IsCauseOfOne : OnOne → Given → Files → (faults faults' : ℕ) → List ℕ → End → Type 0
IsCauseOfOne command file files faults faults' text e =
    ComesOf (content_of command) (told_of files file) faults faults'
    (λ bytes text e. (faults' ≡ faults) × IsAnswerToOne command bytes text e) text e

-- The answer of a command on two files, where the first one has these bytes, and the second one is read to its end.
abbrev pub IsCauseOfWhole : OnTwo → List ℕ → Given → Files → (faults faults' : ℕ) → List ℕ → End → Type 0
IsCauseOfWhole command bytes other files faults faults' text e =
    ComesOf (contents_of command).1 (told_of files other) faults faults'
    (λ more text e. (faults' ≡ faults) × IsAnswerToTwo command bytes more text e) text e

-- The answer of a command on two files, where the first one has these bytes. A trace in a file is judged by `check`
-- while it is read.
abbrev pub IsCauseOnward : OnTwo → List ℕ → Given → Files → (faults faults' : ℕ) → List ℕ → End →
    Type 0
IsCauseOnward (two.Check s layout) bytes (given.Name file) files faults faults' text e =
    ComesOfTrace layout s bytes (files 0 (string_bytes file)) faults faults' text e
IsCauseOnward command bytes other files faults faults' text e =
    IsCauseOfWhole command bytes other files faults faults' text e

-- the answer of a command on two files
abbrev pub IsCauseOfTwo : OnTwo → (file other : Given) → Files → (faults faults' : ℕ) → List ℕ →
    End → Type 0
IsCauseOfTwo command file other files faults faults' text e =
    ComesOf (contents_of command).0 (told_of files file) faults faults'
    (λ bytes text e. IsCauseOnward command bytes other (after_taking file files)
    faults faults' text e) text e

-- the answer where a place of a term is wanted
abbrev pub IsCauseOfWalk : Wanted → Given → Files → (faults faults' : ℕ) → List ℕ → End → Type 0
IsCauseOfWalk wanted file files faults faults' text e =
    ComesOf of_term (told_of files file) faults faults'
    (λ bytes text e. (faults' ≡ faults) × IsFrameWalk bytes wanted text e) text e

-- the answer to what is asked
abbrev pub IsCause : Asked → Files → (faults faults' : ℕ) → List ℕ → End → Type 0
IsCause (asked.One file command) files faults faults' text e =
    IsCauseOfOne command file files faults faults' text e
IsCause (asked.Two file other command) files faults faults' text e =
    IsCauseOfTwo command file other files faults faults' text e
IsCause (asked.Walk file wanted) files faults faults' text e =
    IsCauseOfWalk wanted file files faults faults' text e
IsCause (asked.Grade inputs solution students bounds) files faults faults' text e =
    IsCauseOfGrade bounds inputs solution students.items files faults faults' text e

-- ---- how far a trace is read

-- A trace in a file that `check` judges is read once, and no further than it has to be, where the first file has these
-- bytes.
abbrev pub ReadsOnward : OnTwo → List ℕ → Given → (old new : List Reading) → Type 0
ReadsOnward (two.Check s layout) bytes (given.Name file) old new =
    (trace : Reading) × (new ≡ trace ∷ old) × IsReadNoFurther s bytes trace.bytes
ReadsOnward command bytes other old new = Unit {0}

-- The first file is read once, and then nothing, or the second one as above.
abbrev pub ReadsTwo : OnTwo → (file other : Given) → (old new : List Reading) → Type 0
ReadsTwo command (given.Name file) other old new =
    (first : Reading) × ((new ≡ first ∷ old) ⊎ ReadsOnward command first.bytes other (first ∷ old) new)
ReadsTwo command (given.Text text) other old new =
    (new ≡ old) ⊎ ReadsOnward command (string_bytes text) other old new

-- the same of all that is asked
abbrev pub ReadsNoFurther : Asked → (old new : List Reading) → Type 0
ReadsNoFurther (asked.Two file other command) old new = ReadsTwo command file other old new
ReadsNoFurther _ old new = Unit {0}
