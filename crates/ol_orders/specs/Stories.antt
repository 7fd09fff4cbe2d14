-- A run told step by step.
use Rattle.std.specs.Prelude.{◌≡◌, ℕ, ◌<◌, true, List, [], ◌∷◌, ◌++◌, length}
use Rattle.ol_net.specs.Graph.{Graph}
use Rattle.ol_net.specs.Nets.{net_under}
use Rattle.ol_net.specs.Numbered.{net_of}
use Rattle.ol_net.specs.Pairs.{IsComplete}
use Rattle.ol_rules.specs.declared.journal.NodeName.{NodeName}
use Rattle.ol_rules.specs.declared.journal.NodeName.TheVariants.{Init}
use Rattle.ol_rules.specs.declared.journal.Entry.{Entry}
use Rattle.ol_rules.specs.Names.{comes_before}
use Rattle.ol_rules.specs.Runs.{IsEntryStep, RunsTo, RanOut}
use Rattle.ol_diamond.specs.Waves.{IsWavesOf}
use Rattle.ol_view.specs.declared.forms.Form.TheVariants.{Two}
use Rattle.ol_view.specs.Forms.{header_of}
use Rattle.ol_subjects.specs.declared.answers.End.{End}
use Rattle.ol_subjects.specs.declared.answers.End.TheVariants.{Yes, No, Refused}
use Rattle.ol_subjects.specs.declared.subjects.Subject.{Subject}
use Rattle.ol_subjects.specs.Subjects.{IsSubject, Refuses}
use Rattle.ol_orders.specs.Turns.{left_text, turn_text}

-- The step of an entry, whose nodes have the numbers x and y. What had a name keeps it, and what is
-- born has later names: greater numbers are named later.
pub record IsTurn (ticket : ℕ) (e : Entry) (x y : ℕ) (m : ℕ → NodeName) (g : Graph)
    (n : ℕ → NodeName) (h : Graph) : Type 0 where
  pub below : (x < length g.nodes) × (y < length g.nodes)
  pub named : (m x ≡ e.first) × (m y ≡ e.second)
  pub step : IsEntryStep (net_under m (net_of g)) ticket e (net_under n (net_of h))
  pub kept : (k : ℕ) → k < length g.nodes → n k ≡ m k
  pub rising : (j k : ℕ) → j < k → k < length h.nodes → comes_before (n j) (n k) ≡ true

-- The text tells the first entries of a run from the graph, in their waves. They lead to h, under
-- these names. The first lines are that of a journal and the pairs at the start.
pub data IsTold (g : Graph) : List Entry → List ℕ → (ℕ → NodeName) → Graph → List ℕ → Type 0 where
  begin : {m : ℕ → NodeName} → ((k : ℕ) → k < length g.nodes → m k ≡ Init k) →
      IsTold g [] [] m g (header_of Two ++ left_text m g)
  turn : {es : List Entry} {ws : List ℕ} {m n : ℕ → NodeName} {h i : Graph} {text : List ℕ}
      {e : Entry} {x y : ℕ} (wave : ℕ) → IsTold g es ws m h text → IsTurn (length es) e x y m h n i →
      IsTold g (es ++ e ∷ []) (ws ++ wave ∷ []) n i (text ++ turn_text e wave x y m h n i)

-- the text tells a whole journal
pub record IsStory (g : Graph) (journal : List Entry) (waves text : List ℕ) : Type 0 where
  pub names : ℕ → NodeName
  pub last : Graph
  pub told : IsTold g journal waves names last text

-- ---- the answer

-- The story of the one-thread run from the graph. Yes where it is complete, and No where it goes on
-- beyond the fuel.
pub data IsStoryOfNet (g : Graph) (fuel : ℕ) (text : List ℕ) : End → Type 0 where
  ended : {journal : List Entry} {last : Graph} {waves : List ℕ} → RunsTo g fuel journal last →
      IsComplete (net_of last) → IsWavesOf g journal waves → IsStory g journal waves text →
      IsStoryOfNet g fuel text Yes
  goes_on : {journal : List Entry} {last : Graph} {waves : List ℕ} → RunsTo g fuel journal last →
      RanOut fuel journal last → IsWavesOf g journal waves → IsStory g journal waves text →
      IsStoryOfNet g fuel text No

-- The answer to a file with a term or a net.
pub data IsStoryAnswer (bytes : List ℕ) (fuel : ℕ) (text : List ℕ) : Subject → End → Type 0 where
  refused : {subject : Subject} → Refuses subject bytes text →
      IsStoryAnswer bytes fuel text subject Refused
  answered : {subject : Subject} {g : Graph} {e : End} → IsSubject subject bytes g →
      IsStoryOfNet g fuel text e → IsStoryAnswer bytes fuel text subject e
