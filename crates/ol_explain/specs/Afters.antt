-- The net after the first lines of a journal. Lines are numbered from 1, as `ol check` numbers them:
-- the first one tells the form, and the line of entry k, from 0, is line k + 2.
use Rattle.std.specs.Prelude.{◌≡◌, ℕ, suc, ◌+◌, ◌<◌, ◌≤◌, Bool, true, false, List, [], ◌∷◌, ◌++◌, codes, length}
use Rattle.std.specs.Fmt.{decimal}
use Rattle.ol_net.specs.Graph.{Graph}
use Rattle.ol_net.specs.declared.parts.Port.{Port}
use Rattle.ol_net.specs.Nets.{NamedNet, SameNet, net_under, port_under}
use Rattle.ol_net.specs.Numbered.{net_of, numbered_port}
use Rattle.ol_rules.specs.declared.journal.NodeName.{NodeName}
use Rattle.ol_rules.specs.declared.journal.NodeName.TheVariants.{Born}
use Rattle.ol_rules.specs.declared.journal.Entry.{Entry}
use Rattle.ol_rules.specs.Names.{comes_before, IsNamed}
use Rattle.ol_diamond.specs.Waves.{WeightedNet, weightless, IsWaveStep}
use Rattle.ol_view.specs.declared.forms.Form.{Form}
use Rattle.ol_view.specs.declared.answers.Check.TheVariants.{BadText, NotARun}
use Rattle.ol_view.specs.Checks.{start_net_of_graph, BeginsWithRun, IsFound}
use Rattle.ol_view.specs.Laws.{IsTable}
use Rattle.ol_subjects.specs.declared.answers.End.{End}
use Rattle.ol_subjects.specs.declared.answers.End.TheVariants.{Yes, Nothing, Refused}
use Rattle.ol_subjects.specs.declared.subjects.Subject.{Subject}
use Rattle.ol_subjects.specs.Subjects.{IsSubject, Refuses}
use Rattle.ol_explain.specs.NamedTexts.{no_words, named_text}

-- a line of these words and a number
abbrev pub line_with : List ℕ → ℕ → List ℕ
line_with words n = words ++ decimal n ++ codes "\n"

-- a net under names, after so many steps, and what stands beside the partners of its ports
abbrev pub shown_text : (ℕ → NodeName) → (Port → Port → List ℕ) → ℕ → Graph → List ℕ
shown_text names beside steps g = line_with (codes "step ") steps ++ named_text names beside g

-- So many lines of the journal are those of a run from the graph, and this is its last net under the
-- names of the run, the nodes in the order of their names.
pub record IsPaused (g : Graph) (journal : List ℕ) (lines : ℕ) : Type 0 where
  pub form : Form
  pub entries : List Entry
  pub waves : List ℕ
  pub names : ℕ → NodeName
  pub last : Graph
  pub rest : List ℕ
  pub begins : BeginsWithRun form (start_net_of_graph g) journal entries waves
      (net_under names (net_of last)) rest
  pub count : length entries + 1 ≡ lines
  pub tabled : IsTable last
  pub rising : (j k : ℕ) → j < k → k < length last.nodes → comes_before (names j) (names k) ≡ true

-- the text is that of the net after so many lines
pub record IsNetAfter (g : Graph) (journal : List ℕ) (lines : ℕ) (text : List ℕ) : Type 0 where
  pub paused : IsPaused g journal lines
  pub text_is : text ≡ shown_text paused.names no_words (length paused.entries) paused.last

-- M is N after the step of the entry with this ticket, in this wave
pub record IsWeighedStep (N : WeightedNet NodeName) (ticket : ℕ) (e : Entry) (wave : ℕ)
    (M : WeightedNet NodeName) : Type 0 where
  pub f : NodeName
  pub g : NodeName
  pub named : IsNamed e f g
  pub step : IsWaveStep (λ place. Born ticket place) N f g e.rule wave M

-- M is N after these entries in order, the first of which has this ticket, each in its wave
pub data IsWeighedRun : WeightedNet NodeName → ℕ → List Entry → List ℕ → WeightedNet NodeName →
    Type 0 where
  ended : {N : WeightedNet NodeName} {t : ℕ} → IsWeighedRun N t [] [] N
  first : {N M P : WeightedNet NodeName} {t : ℕ} {e : Entry} {es : List Entry} {w : ℕ} {ws : List ℕ} →
      IsWeighedStep N t e w M → IsWeighedRun M (suc t) es ws P →
      IsWeighedRun N t (e ∷ es) (w ∷ ws) P

-- a colon, and what the link of two ports weighs
abbrev pub weight_words : (ℕ → NodeName) → WeightedNet NodeName → Port → Port → List ℕ
weight_words names W p q =
    58 ∷ decimal (W.weight (port_under names (numbered_port p)) (port_under names (numbered_port q)))

-- The text is that of the net after so many lines, with the weight of each link beside it: weights by
-- which the run of these lines, from the net whose links weigh nothing, ends in the same net.
pub record IsWeighedAfter (g : Graph) (journal : List ℕ) (lines : ℕ) (text : List ℕ) : Type 0 where
  pub paused : IsPaused g journal lines
  pub waves : List ℕ
  pub weighed : WeightedNet NodeName
  pub run : IsWeighedRun (weightless (start_net_of_graph g)) 0 paused.entries waves weighed
  pub same : SameNet weighed.net (net_under paused.names (net_of paused.last))
  pub text_is : text ≡ shown_text paused.names (weight_words paused.names weighed)
      (length paused.entries) paused.last

-- with the weights or without
abbrev pub Shows : Bool → Graph → List ℕ → ℕ → List ℕ → Type 0
Shows false = IsNetAfter
Shows true = IsWeighedAfter

-- The journal is one of a run, and has so many lines.
pub record HasLines (g : Graph) (journal : List ℕ) (lines : ℕ) : Type 0 where
  pub form : Form
  pub entries : List Entry
  pub waves : List ℕ
  pub last : NamedNet NodeName
  pub begins : BeginsWithRun form (start_net_of_graph g) journal entries waves last []
  pub count : length entries + 1 ≡ lines

-- The net after so many lines, or why there is none: what `ol check` finds at one of these lines, or
-- that the journal has fewer.
pub data IsAfterOf (weights : Bool) (g : Graph) (journal : List ℕ) (lines : ℕ) (text : List ℕ)
    : End → Type 0 where
  shown : Shows weights g journal lines text → IsAfterOf weights g journal lines text Yes
  bad_text : {line : ℕ} → IsFound (start_net_of_graph g) journal (BadText line) → line ≤ lines →
      text ≡ line_with (codes "bad text at line ") line →
      IsAfterOf weights g journal lines text Nothing
  not_a_run : {line : ℕ} → IsFound (start_net_of_graph g) journal (NotARun line) → line ≤ lines →
      text ≡ line_with (codes "not a run at line ") line →
      IsAfterOf weights g journal lines text Nothing
  too_few : {has : ℕ} → HasLines g journal has → has < lines →
      text ≡ line_with (codes "the last line is line ") has →
      IsAfterOf weights g journal lines text Nothing

-- The answer to a file with a term or a net, and to one with a journal, with weights or without.
pub data IsPausedAnswer (weights : Bool) (bytes journal : List ℕ) (lines : ℕ) (text : List ℕ)
    : Subject → End → Type 0 where
  refused : {subject : Subject} → Refuses subject bytes text →
      IsPausedAnswer weights bytes journal lines text subject Refused
  answered : {subject : Subject} {g : Graph} {e : End} → IsSubject subject bytes g →
      IsAfterOf weights g journal lines text e →
      IsPausedAnswer weights bytes journal lines text subject e

abbrev pub IsAfter : List ℕ → List ℕ → ℕ → List ℕ → Subject → End → Type 0
IsAfter = IsPausedAnswer false

abbrev pub IsAfterWithWeights : List ℕ → List ℕ → ℕ → List ℕ → Subject → End → Type 0
IsAfterWithWeights = IsPausedAnswer true
