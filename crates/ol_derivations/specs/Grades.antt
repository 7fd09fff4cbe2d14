-- What is said of students' functions, each compared with a solution on the same inputs.
use Rattle.std.specs.Prelude.{◌≡◌, ◌≢◌, ℕ, ◌+◌, ◌-◌, ◌<◌, ◌≤◌, Bool, true, false, ◌&&◌, if◌then◌else◌}
use Rattle.std.specs.Prelude.{List, [], ◌∷◌, ◌++◌, length, take, slice_index_or, codes}
use Rattle.std.specs.Fmt.{decimal}
use Rattle.std.specs.List.{AllZip}
use Rattle.std.specs.declared.vec.Vec.{Vec}
use Rattle.std.specs.declared.alloc.Global.{Global}
use Rattle.ol_limits.specs.Limits.{most_depth, most_term_bytes}
use Rattle.ol_term.specs.Trees.{Tree, depth}
use Rattle.ol_parse.specs.Texts.{IsRefusedAt}
use Rattle.ol_parse.specs.Parsed.{IsFileOf, IsTooDeep}
use Rattle.ol_equal.specs.Comparing.{TreeWithNames, IsComparison, IsFirstApart}
use Rattle.ol_equal.specs.Texts.{compared_text}
use Rattle.ol_equal.specs.declared.answers.Compared.{Compared}
use Rattle.ol_equal.specs.declared.answers.Compared.TheVariants.{Equal}
use Rattle.ol_derivations.specs.Heads.{all_names, IsHeadText}
use Rattle.ol_derivations.specs.Lines.{lines_of, is_left_out}
use Rattle.ol_derivations.specs.Derivations.{IsTermLine, IsNoTermLine, line_text}
use Rattle.ol_subjects.specs.Limited.{bytes_words, depth_words}
use Rattle.ol_subjects.specs.declared.answers.End.{End}
use Rattle.ol_subjects.specs.declared.answers.End.TheVariants.{Yes, No, Refused}
use Rattle.ol_derivations.specs.declared.reading.Bounds.{Bounds}
use Rattle.ol_derivations.specs.declared.read_trees.Seen.{Seen}
use Rattle.ol_derivations.specs.declared.reading.Lack.{Lack}
use Rattle.ol_derivations.specs.declared.grading.Student.{Student}
use Rattle.ol_derivations.specs.declared.grading.Work.{Work}
use Rattle.ol_derivations.specs.declared.grading.Work.TheVariants as work
use Rattle.ol_derivations.specs.Reads.{HasTree, HasNoTree, HasWholeTree, HasNoWholeTree, lack_words}

-- ---- the inputs

-- the lines that have terms, where each other line is left out of account
pub data AreInputs : List (List ℕ) → List (List ℕ) → Type 0 where
  none : AreInputs [] []
  left_out : {line : List ℕ} {lines inputs : List (List ℕ)} → is_left_out line ≡ true → AreInputs lines inputs →
      AreInputs (line ∷ lines) inputs
  input : {line : List ℕ} {lines inputs : List (List ℕ)} {t : Tree} {names : List (List ℕ)} →
      is_left_out line ≡ false → IsTermLine line t names → AreInputs lines inputs →
      AreInputs (line ∷ lines) (line ∷ inputs)

-- the line of text that tells the first line that is neither, of lines from line n on, and why
pub data HasNoInputs : ℕ → List (List ℕ) → List ℕ → Type 0 where
  here : {n : ℕ} {line words : List ℕ} {lines : List (List ℕ)} → is_left_out line ≡ false → IsNoTermLine line words →
      HasNoInputs n (line ∷ lines) (line_text n words)
  behind : {n : ℕ} {line text : List ℕ} {lines kept : List (List ℕ)} → AreInputs (line ∷ []) kept →
      HasNoInputs (n + 1) lines text → HasNoInputs n (line ∷ lines) text

-- ---- a function's text by itself

pub record IsTermText (bytes : List ℕ) : Type 0 where
  pub term : Tree
  pub names : List (List ℕ)
  pub short : length bytes ≤ most_term_bytes
  pub file : IsFileOf bytes term names
  pub shallow : depth term ≤ most_depth

-- line and column of a place, both from 1, columns in bytes: of the lines of what stands before it, the last one is cut
-- off at the place
abbrev pub place_words : List ℕ → ℕ → List ℕ
place_words bytes at = let front = lines_of (take at bytes) in
    codes "line " ++ decimal (length front) ++ codes ", column "
    ++ decimal (length (slice_index_or front (length front - 1) []) + 1)

-- why some bytes are no function: too many of them, not in the grammar, or a term that is too deep
pub data IsNoTermText (bytes : List ℕ) : List ℕ → Type 0 where
  long : most_term_bytes < length bytes → IsNoTermText bytes bytes_words
  syntax_at : {at : ℕ} → length bytes ≤ most_term_bytes → IsRefusedAt bytes at →
      IsNoTermText bytes (codes "syntax, " ++ place_words bytes at)
  deep : {d : ℕ} → length bytes ≤ most_term_bytes → IsTooDeep bytes d →
      IsNoTermText bytes depth_words

-- ---- a student against the solution

-- what is said on input k, counted from 1
abbrev pub on_input : List ℕ → ℕ → List ℕ
on_input words k = words ++ codes " on " ++ decimal k

-- the free names of two trees
abbrev pub names_of : (wanted got : Seen) → TreeWithNames
names_of wanted got = record { a = wanted.names; b = got.names }

-- what the comparison with the wanted tree answers
pub record Compares (bounds : Bounds) (student line : List ℕ) (wanted : Seen) (c : Compared) : Type 0 where
  pub got : Seen
  pub has : HasTree bounds student line got
  pub is : IsComparison (names_of wanted got) wanted.tree got.tree c

-- on this input the student's tree is the wanted one
abbrev pub IsRight : Bounds → List ℕ → List ℕ → Seen → Type 0
IsRight bounds student line wanted = Compares bounds student line wanted Equal

-- The texts of what two trees have at the first place where they aren't heads that agree. Letters of binders are free in
-- neither.
pub record HaveThere (wanted got : Seen) (expected found : List ℕ) : Type 0 where
  pub place : ℕ
  pub path : List ℕ
  pub first : IsFirstApart (names_of wanted got) wanted.tree got.tree place path
  pub of_wanted : IsHeadText (all_names (names_of wanted got)) wanted.names wanted.tree place expected
  pub of_got : IsHeadText (all_names (names_of wanted got)) got.names got.tree place found

-- the words of both
abbrev pub heads_words : (expected found : List ℕ) → List ℕ
heads_words expected found = codes ": expected " ++ expected ++ codes ", got " ++ found

-- and on this one, input k, it isn't: the two trees differ, or one of them isn't whole; or the student has none
pub data IsWrong (bounds : Bounds) (student line : List ℕ) (wanted : Seen) (k : ℕ) : List ℕ → Type 0 where
  apart : {c : Compared} {expected found : List ℕ} → (h : Compares bounds student line wanted c) → c ≢ Equal →
      HaveThere wanted h.got expected found →
      IsWrong bounds student line wanted k (on_input (compared_text c) k ++ heads_words expected found)
  no_tree : {lack : Lack} → HasNoTree bounds student line lack →
      IsWrong bounds student line wanted k (on_input (lack_words lack) k)

-- What is said of a student's text. The first input on which it is wrong decides.
pub data IsGrade (bounds : Bounds) (inputs : List (List ℕ)) (wanted : List Seen) (student : List ℕ) : List ℕ → Bool →
    Type 0 where
  bad_text : {words : List ℕ} → IsNoTermText student words → IsGrade bounds inputs wanted student words false
  equal : IsTermText student → AllZip (IsRight bounds student) inputs wanted →
      IsGrade bounds inputs wanted student
      (codes "equal on " ++ decimal (length inputs) ++ codes " of " ++ decimal (length inputs)) true
  wrong : (before after : List (List ℕ)) (passed others : List Seen) {line words : List ℕ} {w : Seen} →
      IsTermText student → inputs ≡ before ++ (line ∷ after) → wanted ≡ passed ++ (w ∷ others) →
      AllZip (IsRight bounds student) before passed → IsWrong bounds student line w (length before + 1) words →
      IsGrade bounds inputs wanted student words false

-- what is said of a student: of his text, or why there is none
pub data IsGradeOf (bounds : Bounds) (inputs : List (List ℕ)) (wanted : List Seen) : Work → List ℕ → Bool → Type 0 where
  of_text : {bytes : Vec ℕ Global} {words : List ℕ} {fine : Bool} →
      IsGrade bounds inputs wanted bytes.items words fine →
      IsGradeOf bounds inputs wanted (work.Text bytes) words fine
  unread : IsGradeOf bounds inputs wanted work.Unread (codes "can't be read") false
  too_long : IsGradeOf bounds inputs wanted work.TooLong bytes_words false

-- a line about a file
abbrev pub file_line : (name words : List ℕ) → List ℕ
file_line name words = name ++ codes ": " ++ words ++ codes "\n"

-- a line for each student, and whether all of them are equal on all inputs
pub data AreGrades (bounds : Bounds) (inputs : List (List ℕ)) (wanted : List Seen) : List Student → List ℕ → Bool →
    Type 0 where
  none : AreGrades bounds inputs wanted [] [] true
  more : {student : Student} {students : List Student} {words text : List ℕ} {fine all : Bool} →
      IsGradeOf bounds inputs wanted student.work words fine →
      AreGrades bounds inputs wanted students text all →
      AreGrades bounds inputs wanted (student ∷ students)
      (file_line student.name.items words ++ text) (fine && all)

-- ---- the solution

-- why the solution is none: it is no function; or on some input, the first such, it has no whole tree
pub data IsNoSolution (bounds : Bounds) (inputs : List (List ℕ)) (solution : List ℕ) : List ℕ → Type 0 where
  bad_text : {words : List ℕ} → IsNoTermText solution words → IsNoSolution bounds inputs solution words
  no_tree : (before after : List (List ℕ)) (passed : List Seen) {line words : List ℕ} → IsTermText solution →
      inputs ≡ before ++ (line ∷ after) → AllZip (HasWholeTree bounds solution) before passed →
      HasNoWholeTree bounds solution line words →
      IsNoSolution bounds inputs solution (on_input words (length before + 1))

-- ---- the answer

-- A file with the inputs, one with the solution, and those of students. Yes: each student is equal on all inputs.
pub data IsGraded (inputs solution : List ℕ) (students : List Student) (bounds : Bounds) : List ℕ → End → Type 0 where
  bad_inputs : {text : List ℕ} → HasNoInputs 1 (lines_of inputs) text →
      IsGraded inputs solution students bounds (codes "inputs: " ++ text) Refused
  no_inputs : AreInputs (lines_of inputs) [] →
      IsGraded inputs solution students bounds (file_line (codes "inputs") (codes "none")) Refused
  no_solution : {kept : List (List ℕ)} {words : List ℕ} → AreInputs (lines_of inputs) kept → kept ≢ [] →
      IsNoSolution bounds kept solution words →
      IsGraded inputs solution students bounds (file_line (codes "solution") words) Refused
  graded : {kept : List (List ℕ)} {wanted : List Seen} {text : List ℕ} {all : Bool} → AreInputs (lines_of inputs) kept →
      kept ≢ [] → IsTermText solution → AllZip (HasWholeTree bounds solution) kept wanted →
      AreGrades bounds kept wanted students text all →
      IsGraded inputs solution students bounds text (if all then Yes else No)
