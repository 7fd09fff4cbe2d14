-- Private: what is found on the way to an answer.
use Rattle.std.specs.Prelude.{◌≡◌, ◌≢◌, ℕ, ◌<◌, ◌≤◌, Bool, if◌then◌else◌, List, ◌++◌, length, map}
use Rattle.std.specs.Prelude.{Option, Some, None, All}
use Rattle.std.specs.List.{AllZip}
use Rattle.std.specs.Borrow.{Bor}
use Rattle.std.specs.declared.vec.Vec.{Vec}
use Rattle.std.specs.declared.alloc.Global.{Global}
use Rattle.ol_limits.specs.Limits.{most_depth}
use Rattle.ol_term.specs.Trees.{Tree, tree_of, depth, EachOccurs}
use Rattle.ol_term.specs.declared.term_file.TermFile.{TermFile}
use Rattle.ol_derivations.specs.Applied.{IsApplied}
use Rattle.ol_derivations.specs.Applications.{IsFunction, IsInput}
use Rattle.ol_derivations.specs.declared.applying.Input.{Input}
use Rattle.ol_derivations.specs.declared.functions.Parsed.{Parsed}
use Rattle.ol_derivations.specs.declared.functions.Parsed.TheVariants as parsed
use Rattle.ol_derivations.specs.Reads.{HasTree, HasNoTree, HasWholeTree, HasNoWholeTree}
use Rattle.ol_net.specs.Graph.{Graph}
use Rattle.ol_rules.specs.declared.journal.Entry.{Entry}
use Rattle.ol_demand.specs.declared.answers.Demanded.TheVariants.{Done}
use Rattle.ol_demand.specs.Answers.{start_of, IsAnswer}
use Rattle.ol_demand.specs.Demands.{HasMoreSteps}
use Rattle.ol_readback.specs.Texts.{AreNamed}
use Rattle.ol_equal.specs.Comparing.{IsComparison}
use Rattle.ol_equal.specs.Paths.{IsPathTo}
use Rattle.ol_equal.specs.Texts.{compared_text}
use Rattle.ol_equal.specs.declared.answers.Compared.{Compared}
use Rattle.ol_equal.specs.declared.answers.Compared.TheVariants.{Equal, Different, Cut}
use Rattle.ol_derivations.specs.Heads.{all_names, IsHeadText}
use Rattle.ol_subjects.specs.declared.answers.End.{End}
use Rattle.ol_subjects.specs.declared.answers.End.TheVariants.{Yes, No}
use Rattle.ol_derivations.specs.Grades.{IsTermText, IsNoTermText, IsRight, IsWrong, AreInputs, HasNoInputs, IsNoSolution, AreGrades, HaveThere, names_of, on_input, heads_words}
use Rattle.ol_derivations.specs.declared.grading.Student.{Student}
use Rattle.ol_derivations.specs.declared.reading.Bounds.{Bounds}
use Rattle.ol_derivations.specs.declared.read_trees.Seen.{Seen}
use Rattle.ol_derivations.specs.declared.reading.Found.{Found}
use Rattle.ol_derivations.specs.declared.reading.Found.TheVariants as found
use Rattle.ol_derivations.specs.declared.reading.Lack.TheVariants as lacks
use Rattle.ol_derivations.specs.declared.inputs.Inputs.{Inputs}
use Rattle.ol_derivations.specs.declared.inputs.Inputs.TheVariants as inputs
use Rattle.ol_derivations.specs.declared.grading.Solved.{Solved}
use Rattle.ol_derivations.specs.declared.grading.Solved.TheVariants as solved
use Rattle.ol_derivations.specs.declared.grading.Wanted.{Wanted}
use Rattle.ol_derivations.specs.declared.grading.Wanted.TheVariants as wanting

-- the lines that are seen through slices
abbrev pub seen_lines : List (Bor (List ℕ)) → List (List ℕ)
seen_lines lines = map (λ x. x.now) lines

-- the lines of inputs
abbrev pub texts_of : List Input → List (List ℕ)
texts_of inputs = map (λ i. i.text.now) inputs

-- the term of the function applied to the line, or None where it is too deep
abbrev pub IsAppliedFile : (function line : List ℕ) → Option TermFile → Type 0
IsAppliedFile function line (Some file) = IsApplied function line (tree_of file.term) file.names
    × (depth (tree_of file.term) ≤ most_depth) × EachOccurs (length file.names) (tree_of file.term)
IsAppliedFile function line None =
    (t : Tree) × (names : List (List ℕ)) × IsApplied function line t names × (most_depth < depth t)

abbrev pub IsFound : Bounds → (function line : List ℕ) → Found → Type 0
IsFound bounds function line (found.Tree seen) = HasTree bounds function line seen
IsFound bounds function line (found.Without lack) = HasNoTree bounds function line lack

-- what `demand` reads of a net
abbrev pub IsReadOf : Graph → List (List ℕ) → Bounds → Found → Type 0
IsReadOf g names bounds (found.Tree seen) = (seen.names ≡ names) × AreNamed (length names) seen.tree
    × (last : Graph) × (journal : List Entry)
    × IsAnswer g bounds.heads.most bounds.fuel.most last (Done seen.tree journal)
IsReadOf g names bounds (found.Without lack) =
    (lack ≡ lacks.Fuel) × HasMoreSteps (start_of g) bounds.heads.most bounds.fuel.most

-- the function of a text, or the words that say why the text is none
abbrev pub IsParsed : List ℕ → Parsed → Type 0
IsParsed text (parsed.Function f) = (f.text.now ≡ text) × IsFunction f
IsParsed text (parsed.Fault words) = IsNoTermText text words.items

-- what is said on input k, where it isn't right
abbrev pub IsOn : Bounds → (student line : List ℕ) → Seen → ℕ → Option (Vec ℕ Global) → Type 0
IsOn bounds student line wanted k None = IsRight bounds student line wanted
IsOn bounds student line wanted k (Some words) = IsWrong bounds student line wanted k words.items

-- the path that a comparison tells
abbrev pub IsPathOf : Compared → List ℕ → Type 0
IsPathOf Equal path = ⊥
IsPathOf (Different told) path = told ≡ path
IsPathOf (Cut told) path = told ≡ path

-- a text, and behind it what two trees have at the place of a path
pub record AddsHeads (wanted got : Seen) (path text new : List ℕ) : Type 0 where
  pub expected : List ℕ
  pub found : List ℕ
  pub of_wanted : (k : ℕ) → IsPathTo wanted.tree k path →
      IsHeadText (all_names (names_of wanted got)) wanted.names wanted.tree k expected
  pub of_got : (k : ℕ) → IsPathTo got.tree k path →
      IsHeadText (all_names (names_of wanted got)) got.names got.tree k found
  pub told : new ≡ text ++ heads_words expected found

-- what is said of two trees that aren't equal
pub record IsToldApart (wanted got : Seen) (k : ℕ) (words : List ℕ) : Type 0 where
  pub c : Compared
  pub is : IsComparison (names_of wanted got) wanted.tree got.tree c
  pub apart : c ≢ Equal
  pub expected : List ℕ
  pub found : List ℕ
  pub there : HaveThere wanted got expected found
  pub told : words ≡ on_input (compared_text c) k ++ heads_words expected found

-- what the comparison of two trees says on input k
abbrev pub IsSaid : (wanted got : Seen) → ℕ → Option (Vec ℕ Global) → Type 0
IsSaid wanted got k None = IsComparison (names_of wanted got) wanted.tree got.tree Equal
IsSaid wanted got k (Some words) = IsToldApart wanted got k words.items

pub record AreAllGrades (bounds : Bounds) (inputs : List (List ℕ)) (wanted : List Seen) (students : List Student)
    (text : List ℕ) (end : End) : Type 0 where
  pub all : Bool
  pub are : AreGrades bounds inputs wanted students text all
  pub end_is : end ≡ (if all then Yes else No)

abbrev pub IsInputs : List (List ℕ) → Inputs → Type 0
IsInputs lines (inputs.Lines kept) = AreInputs lines (texts_of kept.items) × All IsInput kept.items
IsInputs lines (inputs.Fault text) = HasNoInputs 1 lines text.items

-- what a solution has on input k, which is this line
abbrev pub IsWanted : Bounds → (solution line : List ℕ) → ℕ → Wanted → Type 0
IsWanted bounds solution line k (wanting.Whole seen) = HasWholeTree bounds solution line seen
IsWanted bounds solution line k (wanting.Fault words) =
    (why : List ℕ) × (words.items ≡ on_input why k) × HasNoWholeTree bounds solution line why

abbrev pub IsSolved : Bounds → List (List ℕ) → (solution : List ℕ) → Solved → Type 0
IsSolved bounds inputs solution (solved.Trees trees) =
    IsTermText solution × AllZip (HasWholeTree bounds solution) inputs trees.items
IsSolved bounds inputs solution (solved.Fault words) = IsNoSolution bounds inputs solution words.items

-- there is a wanted tree for each input, and each free name in it is one of its names
abbrev pub AreWanted : List (List ℕ) → List Seen → Type 0
AreWanted inputs wanted = AllZip (λ line w. AreNamed (length w.names) w.tree) inputs wanted
