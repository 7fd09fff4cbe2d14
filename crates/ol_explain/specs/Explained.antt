-- What a journal is found to be: the pairs that are left after a run, what bad text wants, and of a line that isn't one of a run why.
use Rattle.std.specs.Prelude.{◌≡◌, ◌≢◌, ℕ, zero, suc, ◌+◌, ◌-◌, ◌≤◌, ◌<◌, List, [], ◌∷◌, ◌++◌, length, take, codes, slice_get, Some, ◌⊎◌}
use Rattle.std.specs.Fmt.{decimal}
use Rattle.ol_net.specs.declared.parts.Kind.{Kind}
use Rattle.ol_net.specs.declared.parts.Rule.{Rule}
use Rattle.ol_net.specs.Graph.{Graph}
use Rattle.ol_net.specs.Nets.{NamedNet, free, slot, HasNode, Linked}
use Rattle.ol_net.specs.Pairs.{IsStuck}
use Rattle.ol_rules.specs.declared.journal.NodeName.{NodeName}
use Rattle.ol_rules.specs.declared.journal.NodeName.TheVariants.{Init, Born}
use Rattle.ol_rules.specs.declared.journal.Entry.{Entry}
use Rattle.ol_rules.specs.Runs.{IsRun}
use Rattle.ol_view.specs.declared.answers.Check.TheVariants.{Complete, Run, BadText, NotARun}
use Rattle.ol_view.specs.declared.forms.Form.{Form}
use Rattle.ol_view.specs.declared.forms.Form.TheVariants.{Two}
use Rattle.ol_view.specs.TraceTexts.{name_text}
use Rattle.ol_view.specs.RuleNames.{rule_text}
use Rattle.ol_view.specs.Forms.{BeginsWithEntry}
use Rattle.ol_view.specs.Checks.{start_net_of_graph, IsRunTold, BeginsWithRun, IsFound}
use Rattle.ol_subjects.specs.declared.answers.End.{End}
use Rattle.ol_subjects.specs.declared.answers.End.TheVariants as end
use Rattle.ol_subjects.specs.declared.subjects.Subject.{Subject}
use Rattle.ol_subjects.specs.Subjects.{IsSubject, Refuses}
use Rattle.ol_explain.specs.Afters.{line_with}
use Rattle.ol_explain.specs.Left.{TellsLeft}
use Rattle.ol_explain.specs.Wanted.{IsBadLine}
use Rattle.ol_explain.specs.Others.{TellsOther}
use Rattle.ol_explain.specs.declared.causes.Cause.{Cause}
use Rattle.ol_explain.specs.declared.causes.Cause.TheVariants as cause

-- x is a node of the net, and x is none
abbrev pub IsThere : NamedNet NodeName → NodeName → Type 0
IsThere N x = (k : Kind) × (i : ℕ) × HasNode N x k i

abbrev pub IsGone : NamedNet NodeName → NodeName → Type 0
IsGone N x = (k : Kind) (i : ℕ) → HasNode N x k i → ⊥

-- the entry names the node
abbrev pub Names : Entry → NodeName → Type 0
Names e x = (e.first ≡ x) ⊎ (e.second ≡ x)

-- no entry names it
abbrev pub NoneNames : List Entry → NodeName → Type 0
NoneNames journal x = (m : ℕ) (e : Entry) → slice_get journal m ≡ Some e → Names e x → ⊥

-- a start node, or one that an entry of the journal might have made
abbrev pub IsOfBefore : List Entry → NodeName → Type 0
IsOfBefore journal (Init k) = Unit {0}
IsOfBefore journal (Born ticket place) = ticket < length journal

-- The name that decides: the first one of the entry, or the second where the first is a node.
abbrev pub Decides : NamedNet NodeName → Entry → NodeName → Type 0
Decides last e x = (x ≡ e.first) ⊎ ((x ≡ e.second) × IsThere last e.first)

-- both names are nodes of the net
abbrev pub AreThere : NamedNet NodeName → Entry → Type 0
AreThere last e = IsThere last e.first × IsThere last e.second

-- The principal port of x is joined to that of the node with this ticket and this place, and y is of
-- the same ticket and has another place.
pub record FacesCopy (N : NamedNet NodeName) (x y : NodeName) (ticket place : ℕ) : Type 0 where
  pub faces : Linked N (slot x 0) (slot (Born ticket place) 0)
  pub other : ℕ
  pub of_ticket : y ≡ Born ticket other
  pub otherwise : other ≢ place

abbrev pub FacesNoCopy : NamedNet NodeName → NodeName → NodeName → Type 0
FacesNoCopy N x y = (ticket place : ℕ) → FacesCopy N x y ticket place → ⊥

-- neither of the entry's nodes faces a node that the other one's ticket made at another place
abbrev pub FaceNoCopies : NamedNet NodeName → Entry → Type 0
FaceNoCopies N e = FacesNoCopy N e.first e.second × FacesNoCopy N e.second e.first

-- The principal ports of a and b are joined after so many entries of the journal, and before that
-- they aren't.
pub record IsJoinedAfter (net : NamedNet NodeName) (journal : List Entry) (a b : NodeName) (n : ℕ) : Type 0 where
  pub within : n ≤ length journal
  pub after : NamedNet NodeName
  pub run : IsRun net 0 (take n journal) after
  pub joined : Linked after (slot a 0) (slot b 0)
  pub first : (k : ℕ) (N : NamedNet NodeName) → k < n → IsRun net 0 (take k journal) N →
      Linked N (slot a 0) (slot b 0) → ⊥

-- Why a line that tells this entry and this wave isn't the next one of a run, whose entries and
-- waves lead from the net to the last one. Line m + 2 is that of entry m. A wave is one more than
-- the weight of the link of its two nodes.
pub data IsCause (form : Form) (net : NamedNet NodeName) (journal : List Entry) (waves : List ℕ)
    (last : NamedNet NodeName) (e : Entry) (wave : ℕ) : Cause → Type 0 where
  not_born : {ticket place : ℕ} → Decides last e (Born ticket place) → length journal ≤ ticket →
      IsCause form net journal waves last e wave (cause.NotBorn (Born ticket place))
  gone : {x : NodeName} {line : ℕ} (m : ℕ) (d : Entry) → Decides last e x → IsGone last x →
      slice_get journal m ≡ Some d → Names d x → line ≡ m + 2 →
      IsCause form net journal waves last e wave (cause.Gone x line)
  never : {x : NodeName} → Decides last e x → IsGone last x → IsOfBefore journal x →
      NoneNames journal x → IsCause form net journal waves last e wave (cause.Never x)
  faces_copy : {ticket place : ℕ} → AreThere last e → FacesCopy last e.first e.second ticket place →
      IsCause form net journal waves last e wave (cause.FacesCopy e.first ticket place)
  copy_faces : {ticket place : ℕ} → AreThere last e → FacesNoCopy last e.first e.second →
      FacesCopy last e.second e.first ticket place →
      IsCause form net journal waves last e wave (cause.FacesCopy e.second ticket place)
  faces_free : {k : ℕ} → AreThere last e → FaceNoCopies last e →
      Linked last (slot e.first 0) (free k) →
      IsCause form net journal waves last e wave (cause.FacesFree k)
  faces_slot : {y : NodeName} {s : ℕ} → AreThere last e → FaceNoCopies last e →
      Linked last (slot e.first 0) (slot y s) → slot y s ≢ slot e.second 0 →
      IsCause form net journal waves last e wave (cause.FacesSlot y s)
  no_rule : IsStuck last e.first e.second →
      IsCause form net journal waves last e wave cause.NoRule
  other_rule : {r : Rule} {next : NamedNet NodeName} → form ≡ Two →
      IsRun net 0 (journal ++ record { rule = r; first = e.first; second = e.second } ∷ []) next →
      r ≢ e.rule → IsCause form net journal waves last e wave (cause.OtherRule r)
  other_wave : {w joined : ℕ} {next : NamedNet NodeName} → form ≡ Two →
      IsRunTold Two net (journal ++ e ∷ []) (waves ++ w ∷ []) next → w ≢ wave →
      IsJoinedAfter net journal e.first e.second joined →
      IsCause form net journal waves last e wave (cause.OtherWave w joined)

-- where a name that never was a node would have come from
abbrev pub never_text : NodeName → List ℕ
never_text (Init k) = codes "the net has no node " ++ decimal k
never_text (Born ticket place) =
    codes "line " ++ decimal (ticket + 2) ++ codes " created no " ++ name_text (Born ticket place)

-- the name of a node, and why a node of the same line may be expected in its place
abbrev pub copy_text : ℕ → ℕ → List ℕ
copy_text ticket place = name_text (Born ticket place) ++ codes ": line " ++ decimal (ticket + 2)
    ++ codes " numbers its nodes otherwise, links are crossed, or the first net differs; see bisect"

-- by which line a link came, the first ones of the net or that of entry n, and what it weighs
abbrev pub link_text : ℕ → ℕ → List ℕ
link_text zero weight = codes "the first net has the link, of weight " ++ decimal weight
link_text (suc n) weight =
    codes "line " ++ decimal (n + 2) ++ codes " created the link, of weight " ++ decimal weight

-- the words of a cause, by the two names of the line
abbrev pub cause_words : NodeName → NodeName → Cause → List ℕ
cause_words a b (cause.NotBorn x) = name_text x ++ codes " isn't created yet"
cause_words a b (cause.Gone x line) = name_text x ++ codes " is gone, by line " ++ decimal line
cause_words a b (cause.Never x) = never_text x
cause_words a b (cause.FacesCopy x ticket place) =
    name_text x ++ codes " is linked to " ++ copy_text ticket place
cause_words a b (cause.FacesFree k) = name_text a ++ codes " is linked to free port " ++ decimal k
cause_words a b (cause.FacesSlot y s) =
    name_text a ++ codes " is linked to port " ++ decimal s ++ codes " of " ++ name_text y
cause_words a b cause.NoRule = name_text a ++ codes " and " ++ name_text b ++ codes " have no rule"
cause_words a b (cause.OtherRule r) = codes "the rule is " ++ rule_text r
cause_words a b (cause.OtherWave w joined) =
    codes "the wave is " ++ decimal w ++ codes ": " ++ link_text joined (w - 1)

-- The line of this number is one of the grammar and isn't the next one of a run, and these words
-- tell its cause.
pub record IsOffLine (g : Graph) (journal : List ℕ) (line : ℕ) (words : List ℕ) : Type 0 where
  pub form : Form
  pub entries : List Entry
  pub waves : List ℕ
  pub last : NamedNet NodeName
  pub rest : List ℕ
  pub entry : Entry
  pub wave : ℕ
  pub more : List ℕ
  pub begins : BeginsWithRun form (start_net_of_graph g) journal entries waves last rest
  pub line_is : length entries + 2 ≡ line
  pub here : BeginsWithEntry form rest entry wave more
  pub cause : Cause
  pub is : IsCause form (start_net_of_graph g) entries waves last entry wave cause
  pub words_are : words ≡ cause_words entry.first entry.second cause

-- The line of `ol check`; and below it, of a run that isn't complete, the pairs that are left, of
-- text that isn't in the grammar, what is wanted at which byte, and of a line that isn't the next
-- one of a run, its cause.
pub data IsExplainedOf (g : Graph) (journal text : List ℕ) : End → Type 0 where
  complete : IsFound (start_net_of_graph g) journal Complete → text ≡ codes "complete\n" →
      IsExplainedOf g journal text end.Yes
  run : {k : ℕ} {left : List ℕ} → IsFound (start_net_of_graph g) journal (Run k) →
      TellsLeft g journal left → text ≡ line_with (codes "run ") k ++ left →
      IsExplainedOf g journal text end.Run
  bad_text : {line : ℕ} {words : List ℕ} → IsFound (start_net_of_graph g) journal (BadText line) →
      IsBadLine g journal line words →
      text ≡ line_with (codes "bad text at line ") line ++ words ++ codes "\n" →
      IsExplainedOf g journal text end.BadText
  not_a_run : {line : ℕ} {words : List ℕ} → IsFound (start_net_of_graph g) journal (NotARun line) →
      IsOffLine g journal line words →
      text ≡ line_with (codes "not a run at line ") line ++ words ++ codes "\n" →
      IsExplainedOf g journal text end.NotARun

-- The answer to a file with a term or a net, and to one with a journal: what is found against its
-- net, and below it what is said of the other translation.
pub data IsExplained (bytes journal text : List ℕ) : Subject → End → Type 0 where
  refused : {subject : Subject} → Refuses subject bytes text → IsExplained bytes journal text subject end.Refused
  answered : {subject : Subject} {g : Graph} {e : End} {found more : List ℕ} → IsSubject subject bytes g →
      IsExplainedOf g journal found e → TellsOther bytes journal subject e more →
      text ≡ found ++ more → IsExplained bytes journal text subject e
