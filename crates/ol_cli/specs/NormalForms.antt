-- What the first line that is written says of the normal form of a job's term, and what the lines of
-- counts say.
use Rattle.std.specs.Prelude.{◌≡◌, ◌≤◌, ◌⊎◌, ℕ, ◌+◌, true, false, List, [], ◌∷◌, ◌++◌, Option, Some, String, codes}
use Rattle.std.specs.declared.alloc.Global.{Global}
use Rattle.ol_io.specs.Outside.{Appended}
use Rattle.ol_term.specs.declared.translations.Translation.{Translation}
use Rattle.ol_term.specs.Trees.{Tree, var, free, lam, app}
use Rattle.ol_parse.specs.Grammar.{Named}
use Rattle.ol_parse.specs.Numbered.{names_of}
use Rattle.ol_parse.specs.Texts.{IsLine, IsText}
use Rattle.ol_beta.specs.Leftmost.{IsNormal}
use Rattle.ol_law_meaning.specs.Shows.{BetaReduces}
use Rattle.ol_law_optimality.specs.Labels.{Labelled, erased}
use Rattle.ol_law_optimality.specs.Families.{HaveOwnLetters}
use Rattle.ol_law_optimality.specs.Steps.{steps_of}
use Rattle.ol_law_optimality.specs.FirstHeads.{HasFirstHeads, HaveHeads, ReducesToHeads}
use Rattle.ol_law_optimality.specs.Reductions.{NoFamilyReductionIsShorter, FamilyReductionOfLength}
use Rattle.ol_readback.specs.Texts.{IsTextOf}
use Rattle.ol_readback.specs.declared.answers.ReadNode.{ReadNode}
use Rattle.ol_rules.specs.declared.journal.Counts.{Counts}
use Rattle.ol_law_confluence.specs.NormalForms.{by_names_of, IsNormalFormOf, HasNoNormalForm, AreConvertible}
use Rattle.ol_words.specs.Texts.{Text, texts_of}
use Rattle.ol_words.specs.Lines.{is_dashed}
use Rattle.ol_words.specs.declared.jobs.Job.{Job}
use Rattle.ol_words.specs.declared.jobs.Job.TheVariants as jobs
use Rattle.ol_cli.specs.Jobs.{AskFor, Files}
use Rattle.ol_cli.specs.Texts.{answer_text}

-- these jobs write a term, and it stands on the first line
abbrev pub PrintsTerm : Job → Type 0
PrintsTerm (jobs.Run translation workers fuel heads name) = Unit {0}
PrintsTerm (jobs.Walk translation edges heads name) = Unit {0}
PrintsTerm (jobs.Gen translation true k) = Unit {0}
PrintsTerm (jobs.Demand translation fuel heads name) = Unit {0}
PrintsTerm _ = ⊥

-- What was appended, where the sink tells it, begins with a line, of which this is said: bytes
-- without a line feed, and a line feed.
pub record FirstLine (Says : List ℕ → Type 0) (old new : Option (List ℕ)) : Type 0 where
  pub line : List ℕ
  pub rest : List ℕ
  pub one : IsLine line
  pub written : Appended old (line ++ 10 ∷ rest) new
  pub says : Says line

-- The job writes a term, its own term is the source, and this is said of the source and the line.
abbrev pub LineSays : (Job → Named → List ℕ → Type 0) → List (String Global) → List ℕ →
    Option (List ℕ) → Option (List ℕ) → Type 0
LineSays Says words bytes old new = (job : Job) → AskFor words job → PrintsTerm job →
    (source : Named) → IsText bytes source → FirstLine (Says job source) old new

-- if the line is a text of a term, this term is the normal form of the source
abbrev pub IsItsNormalForm : Job → Named → List ℕ → Type 0
IsItsNormalForm job source line = (result : Named) → IsText line result → IsNormalFormOf source result

-- if a question mark stands in the line, the source has no normal form; of `walk` this isn't said
abbrev pub TellsOfNone : Job → Named → List ℕ → Type 0
TellsOfNone (jobs.Walk translation edges heads name) source line = Unit {0}
TellsOfNone job source line = (before after : List ℕ) → line ≡ before ++ 63 ∷ after → HasNoNormalForm source

-- in how many places a term has a variable, bound or free
abbrev pub count_of_variables : Tree → ℕ
count_of_variables (var k) = 1
count_of_variables (free k) = 1
count_of_variables (lam t) = count_of_variables t
count_of_variables (app f a) = count_of_variables f + count_of_variables a

-- if the source has a normal form, in which variables stand in at most so many places, the line is a
-- text of it
abbrev pub IsFoundWithin : (heads : ℕ) → Named → List ℕ → Type 0
IsFoundWithin heads source line = (v : Tree) → BetaReduces (by_names_of source source) v → IsNormal v →
    count_of_variables v ≤ heads → (result : Named) × IsText line result × IsNormalFormOf source result

-- it is found where these places are no more than heads were demanded
abbrev pub IsFoundOnDemand : Job → Named → List ℕ → Type 0
IsFoundOnDemand (jobs.Demand translation fuel heads name) source line = IsFoundWithin heads source line
IsFoundOnDemand job source line = Unit {0}

-- `equal` says that the two terms are convertible, and `different` that they aren't.
abbrev pub SaysOfTwo : Named → Named → List ℕ → Type 0
SaysOfTwo t u line = (line ≡ codes "equal" → AreConvertible t u)
    × ((rest : List ℕ) → line ≡ codes "different" ++ rest → AreConvertible t u → ⊥)

-- the line of `equal` says this of the terms of its two files
abbrev pub LineSaysOfTwo : List (String Global) → Files → Option (List ℕ) → Option (List ℕ) → Type 0
LineSaysOfTwo words files old new = (translation : Translation) (workers fuel heads : ℕ) (a b : Text) →
    AskFor words (jobs.Equal translation workers fuel heads a b) →
    (bytes bytes' : List ℕ) → files 0 a ≡ Some bytes → files 1 b ≡ Some bytes' →
    (t u : Named) → IsText bytes t → IsText bytes' u → FirstLine (SaysOfTwo t u) old new

-- ---- the lines of counts

-- the job writes a term and the counts of its run
abbrev pub PrintsCounts : Job → Type 0
PrintsCounts (jobs.Run translation workers fuel heads name) = Unit {0}
PrintsCounts (jobs.Gen translation true k) = Unit {0}
PrintsCounts (jobs.Demand translation fuel heads name) = Unit {0}
PrintsCounts _ = ⊥

-- What was appended, where the sink tells it, is a line and the nine lines of counts: no pair is
-- stuck, and this is said of the line and the number of beta steps.
pub record CountsSay (Says : List ℕ → ℕ → Type 0) (old new : Option (List ℕ)) : Type 0 where
  pub line : List ℕ
  pub counts : Counts
  pub one : IsLine line
  pub written : Appended old (answer_text line counts 0) new
  pub says : Says line counts.beta

-- a job that writes counts writes `stuck 0` on their last line
abbrev pub NoneIsStuck : List (String Global) → List ℕ → Option (List ℕ) → Option (List ℕ) → Type 0
NoneIsStuck words bytes old new = (job : Job) → AskFor words job → PrintsCounts job →
    (source : Named) → IsText bytes source → CountsSay (λ line beta. Unit {0}) old new

-- No reduction of the source to a term of this sort, of whatever redexes in whatever order, has fewer than n beta steps.
-- Nor has a reduction by family steps, which contract any redexes of one degree at once (Lévy), fewer than n of them,
-- where each subterm of the source has a letter of its own as its label.
pub record NoReductionIsShorter (Goal : Tree → Type 0) (source : Named) (n : ℕ) : Type 0 where
  pub plain : (v : Tree) (r : BetaReduces (by_names_of source source) v) → Goal v → n ≤ steps_of r
  pub families : (T : Labelled) → erased T ≡ by_names_of source source → HaveOwnLetters T →
      NoFamilyReductionIsShorter Goal T n

-- some reduction by family steps has exactly n
abbrev pub OneIsAsLong : (Tree → Type 0) → Named → ℕ → Type 0
OneIsAsLong Goal source n = (T : Labelled) → erased T ≡ by_names_of source source → HaveOwnLetters T →
    FamilyReductionOfLength Goal T n

-- No reduction of the source to a normal form has fewer steps than there are beta steps; and if the line is a text of a
-- term, some reduction by family steps has exactly as many.
abbrev pub AreFewest : Named → List ℕ → ℕ → Type 0
AreFewest source line beta = NoReductionIsShorter IsNormal source beta
    × ((result : Named) → IsText line result → OneIsAsLong IsNormal source beta)

-- so it is with the beta steps of `demand`, whatever its options are
abbrev pub BetasAreFewest : List (String Global) → List ℕ → Option (List ℕ) → Option (List ℕ) →
    Type 0
BetasAreFewest words bytes old new = (translation : Translation) (fuel heads : ℕ) (name : Text) →
    AskFor words (jobs.Demand translation fuel heads name) →
    (source : Named) → IsText bytes source → CountsSay (AreFewest source) old new

-- The same for so many heads: the first ones, in preorder, of the source's Böhm tree. No reduction of the source to a term
-- that shows them has fewer steps than there are beta steps. The line is a text of these places. If the source reduces to a
-- term that shows so many heads, each of the first so many places has a head; and if each has, some reduction by family
-- steps has exactly as many steps.
pub record AreFewestForHeads (heads : ℕ) (source : Named) (line : List ℕ) (beta : ℕ) : Type 0 where
  pub fewest : NoReductionIsShorter (HasFirstHeads heads) source beta
  pub places : List ReadNode
  pub shown : IsTextOf (names_of source) places line
  pub found : ReducesToHeads heads (by_names_of source source) → HaveHeads heads places
  pub as_long : HaveHeads heads places → OneIsAsLong (HasFirstHeads heads) source beta

abbrev pub BetasAreFewestForHeads : List (String Global) → List ℕ → Option (List ℕ) → Option (List ℕ) → Type 0
BetasAreFewestForHeads words bytes old new = (translation : Translation) (fuel heads : ℕ) (name : Text) →
    AskFor words (jobs.Demand translation fuel heads name) →
    (source : Named) → IsText bytes source → CountsSay (AreFewestForHeads heads source) old new

-- ---- words without options

-- the words are the program's name, this verb and the name of a file, which is no option
pub record ArePlain (words : List (String Global)) (verb name : Text) : Type 0 where
  pub program : Text
  pub are : texts_of words ≡ program ∷ verb ∷ name ∷ []
  pub is_name : is_dashed name ≡ false

-- The line is that of one of these verbs, `run`, `demand` or `walk`, for this source. If it is a
-- text of a term, that term is the normal form of the source; if `run` or `demand` has put a
-- question mark in it, the source has none.
abbrev pub LineIsOf : Text → Named → List ℕ → Type 0
LineIsOf verb source line = ((result : Named) → IsText line result → IsNormalFormOf source result)
    × ((verb ≡ codes "walk" → ⊥) → (before after : List ℕ) → line ≡ before ++ 63 ∷ after → HasNoNormalForm source)

abbrev pub PlainLineSays : List (String Global) → Files → Option (List ℕ) → Option (List ℕ) → Type 0
PlainLineSays words files old new = (verb name : Text) → ArePlain words verb name →
    (verb ≡ codes "run") ⊎ ((verb ≡ codes "demand") ⊎ (verb ≡ codes "walk")) →
    (bytes : List ℕ) → files 0 name ≡ Some bytes → (source : Named) → IsText bytes source →
    FirstLine (LineIsOf verb source) old new

-- after `demand` this is said of the source and of what was appended
abbrev pub PlainDemandSays : (Named → Option (List ℕ) → Option (List ℕ) → Type 0) →
    List (String Global) → Files → Option (List ℕ) → Option (List ℕ) → Type 0
PlainDemandSays Says words files old new = (name : Text) → ArePlain words (codes "demand") name →
    (bytes : List ℕ) → files 0 name ≡ Some bytes → (source : Named) → IsText bytes source →
    Says source old new

-- the words are the program's name, `equal` and the names of two files: no options, and not
-- standard input for both
pub record ArePlainTwo (words : List (String Global)) (a b : Text) : Type 0 where
  pub program : Text
  pub are : texts_of words ≡ program ∷ codes "equal" ∷ a ∷ b ∷ []
  pub is_first : is_dashed a ≡ false
  pub is_second : is_dashed b ≡ false
  pub not_both : a ≡ codes "-" → b ≡ codes "-" → ⊥

-- after `equal` the line says whether the terms of the two files are convertible
abbrev pub PlainEqualSays : List (String Global) → Files → Option (List ℕ) → Option (List ℕ) → Type 0
PlainEqualSays words files old new = (a b : Text) → ArePlainTwo words a b →
    (bytes bytes' : List ℕ) → files 0 a ≡ Some bytes → files 1 b ≡ Some bytes' →
    (t u : Named) → IsText bytes t → IsText bytes' u → FirstLine (SaysOfTwo t u) old new
