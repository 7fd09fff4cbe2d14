-- What is known of a text that is fed piece by piece, before its end has come.
use Rattle.std.specs.Prelude.{◌≡◌, ◌≢◌, ℕ, suc, ◌+◌, ◌*◌, ◌≤◌, List, [], ◌∷◌, ◌++◌, length, Option, None, Some}
use Rattle.std.specs.Prelude.{slice_index_or}
use Rattle.ol_net.specs.declared.parts.Rule.{Rule}
use Rattle.ol_net.specs.Graph.{Graph}
use Rattle.ol_net.specs.Nets.{NamedNet, IsNet}
use Rattle.ol_net.specs.Numbered.{net_of}
use Rattle.ol_rules.specs.declared.journal.NodeName.{NodeName}
use Rattle.ol_rules.specs.declared.journal.Entry.{Entry}
use Rattle.ol_diamond.specs.PortWeights.{WeighsEntry}
use Rattle.ol_view.specs.declared.answers.Check.{Check}
use Rattle.ol_view.specs.declared.answers.Check.TheVariants.{BadText}
use Rattle.ol_view.specs.declared.forms.Form.{Form}
use Rattle.ol_view.specs.declared.line_reading.Line.{Line}
use Rattle.ol_view.specs.declared.feeding.Checker.{Checker}
use Rattle.ol_view.specs.Checks.{start_net_of_graph, IsRunTold, BeginsWithRun, OnlyIsFound}
use Rattle.ol_view.specs.Forms.{header_of, text_of}
use Rattle.ol_view.specs.LineReading.{TellsOf}
use Rattle.ol_view.specs.Standing.{BeginsWithTold}
use Rattle.ol_limits.specs.Limits.{most_fuel}

-- This is found of each text that begins with this front, and nothing else is.
abbrev pub IsFixed : NamedNet NodeName → List ℕ → Check → Type 0
IsFixed net front check = (more : List ℕ) → OnlyIsFound net (front ++ more) check

-- ---- lines

-- no byte is a line feed
abbrev pub HasNoFeed : List ℕ → Type 0
HasNoFeed [] = Unit {0}
HasNoFeed (b ∷ bs) = (b ≢ 10) × HasNoFeed bs

-- the most bytes of a line of the grammar, its line feed aside
abbrev pub most_of_line : ℕ
most_of_line = 52

-- the front of a line that isn't ended, and isn't too long for the grammar
pub record IsOpenLine (line : List ℕ) : Type 0 where
  pub open_yet : HasNoFeed line
  pub short : length line ≤ most_of_line

-- a line, its line feed last
pub record IsWholeLine (line : List ℕ) : Type 0 where
  pub body : List ℕ
  pub ended : line ≡ body ++ 10 ∷ []
  pub plain : HasNoFeed body

-- ---- what was replayed

-- A copy of the net, and no port of it weighs anything.
pub record IsCopied (net g : Graph) (bases weights : List ℕ) : Type 0 where
  pub same : g ≡ net
  pub numbers : bases ≡ length net.nodes ∷ []
  pub sized : length weights ≡ net.free + 3 * length net.nodes
  pub weightless : (k : ℕ) → slice_index_or weights k 0 ≡ 0

-- These whole lines, the first line and those of so many entries, were replayed from the net. They led to this graph.
pub data AreReplayed (form : Form) (net : Graph) : List ℕ → ℕ → Graph → (bases weights : List ℕ) → Type 0 where
  first : {g : Graph} {bases weights : List ℕ} → IsCopied net g bases weights →
      AreReplayed form net (header_of form) 0 g bases weights
  then : {lines line : List ℕ} {n : ℕ} {g g' : Graph} {bases bases' weights weights' : List ℕ}
      (told : Line) (rule : Rule) (wave : ℕ) → AreReplayed form net lines n g bases weights →
      BeginsWithTold form line told [] → TellsOf told.told rule wave →
      WeighsEntry g g' bases bases' weights weights'
      (record { rule = rule; first = told.first; second = told.second }) wave →
      AreReplayed form net (lines ++ line) (suc n) g' bases' weights'

-- The same, where the first line may still be to come.
abbrev pub AreLinesReplayed : Option Form → Graph → List ℕ → ℕ → Graph → (bases weights : List ℕ) → Type 0
AreLinesReplayed None net lines n g bases weights =
    (lines ≡ []) × (n ≡ 0) × IsCopied net g bases weights
AreLinesReplayed (Some form) net lines n g bases weights = AreReplayed form net lines n g bases weights

-- This text was fed, and each line of it but the last one was replayed.
pub record IsReplayedTo (net : Graph) (text : List ℕ) (c : Checker) : Type 0 where
  pub is_net : IsNet (net_of net)
  pub few : length net.nodes ≤ 1000000
  pub lines : List ℕ
  pub text_is : text ≡ lines ++ c.line.items
  pub replayed : AreLinesReplayed c.form net lines c.entries c.replay.net c.replay.numbers.bases.items c.replay.weights.items
  pub most : c.entries ≤ most_fuel

-- This text was fed. Its lines were replayed, and what is behind them is the front of a line.
pub record IsFed (net : Graph) (text : List ℕ) (c : Checker) : Type 0 where
  pub lines_read : IsReplayedTo net text c
  pub line_open : IsOpenLine c.line.items

-- The answer is fixed by what was fed; or none is told yet.
abbrev pub IsAnswered : Graph → List ℕ → Option Check → Checker → Type 0
IsAnswered net text None c = IsFed net text c
IsAnswered net text (Some check) c = IsFixed (start_net_of_graph net) text check

-- where a line isn't one of the grammar
abbrev pub bad_at : Option Form → ℕ → Check
bad_at None n = BadText 1
bad_at (Some form) n = BadText (n + 2)

-- ---- runs

-- As far as its lines have ended, the text is the trace of a run from the net: none has ended yet, or those that have are
-- such a trace. What is behind them is a line that isn't ended.
pub data IsRunSoFar (net : NamedNet NodeName) (text : List ℕ) : Type 0 where
  in_first_line : IsOpenLine text → IsRunSoFar net text
  behind_run : {form : Form} {journal : List Entry} {waves : List ℕ} {last : NamedNet NodeName}
      {rest : List ℕ} → BeginsWithRun form net text journal waves last rest → IsOpenLine rest →
      IsRunSoFar net text

-- What was fed and has no answer yet is a run, as far as its lines have ended.
abbrev pub FedIsARun : Type 0
FedIsARun = (net : Graph) (text : List ℕ) (c : Checker) → IsFed net text c →
    IsRunSoFar (start_net_of_graph net) text

-- No answer is fixed by the front of the trace of a run of at most 8,000,000 entries, nor by the whole of it.
abbrev pub RunIsNotAnswered : Type 0
RunIsNotAnswered = (net : Graph) (front more : List ℕ) (form : Form) (journal : List Entry)
    (waves : List ℕ) (last : NamedNet NodeName) (check : Check) → IsNet (net_of net) →
    length net.nodes ≤ 1000000 → length journal ≤ most_fuel →
    IsRunTold form (start_net_of_graph net) journal waves last →
    front ++ more ≡ text_of form journal waves →
    IsFixed (start_net_of_graph net) front check → ⊥
