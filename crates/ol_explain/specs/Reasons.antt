-- Private: words of private contracts alone: what a cause is said to be on the way to it.
use Rattle.std.specs.Prelude.{◌≡◌, ◌≢◌, ℕ, ◌+◌, List, ◌++◌, length, codes, Option, None, Some, IfSome}
use Rattle.ol_net.specs.declared.parts.Kind.{Kind}
use Rattle.ol_net.specs.declared.parts.NodeId.{NodeId}
use Rattle.ol_net.specs.Graph.{Graph}
use Rattle.ol_net.specs.Nets.{NamedNet, HasNode, Linked, slot}
use Rattle.ol_net.specs.Numbered.{net_of}
use Rattle.ol_rules.specs.declared.journal.NodeName.{NodeName}
use Rattle.ol_rules.specs.declared.journal.NodeName.TheVariants.{Born}
use Rattle.ol_rules.specs.declared.journal.Entry.{Entry}
use Rattle.ol_diamond.specs.declared.weighing.Rewritten.{Rewritten}
use Rattle.ol_diamond.specs.Replaying.{AreIdle}
use Rattle.ol_view.specs.declared.forms.Form.{Form}
use Rattle.ol_view.specs.declared.line_reading.Line.{Line}
use Rattle.ol_view.specs.Checks.{start_net_of_graph}
use Rattle.ol_explain.specs.declared.causes.Cause.{Cause}
use Rattle.ol_orders.specs.declared.replaying.Replay.{Replay}
use Rattle.ol_orders.specs.Replays.{names_of, IsReplay, net_here}
use Rattle.ol_explain.specs.Followed.{IsOff}
use Rattle.ol_explain.specs.Afters.{line_with}
use Rattle.ol_explain.specs.Explained.{Decides, FacesNoCopy, IsCause, cause_words}

-- it is the run from some graph
abbrev pub IsReplayed : Replay → Type 0
IsReplayed r = (old : Graph) × IsReplay old r

-- the node is there
abbrev pub IsLive : Replay → NodeId → Type 0
IsLive r at = (k : Kind) × (i : ℕ) × HasNode (net_of r.net) at.0 k i

-- it is there, and has this name
abbrev pub IsNodeNamed : Replay → NodeName → NodeId → Type 0
IsNodeNamed r x at = (names_of r at.0 ≡ x) × IsLive r at

-- the cause of a line by a name that is none of a node
abbrev pub IsCauseAway : Replay → NodeName → Cause → Type 0
IsCauseAway r x c = (form : Form) (net : NamedNet NodeName) (waves : List ℕ) (e : Entry) (wave : ℕ) →
    Decides (net_here r) e x → IsCause form net r.run.journal waves (net_here r) e wave c

-- The principal port of x is joined to that of the node of this name, or to none of a node.
abbrev pub IsFaced : Replay → NodeId → Option NodeName → Type 0
IsFaced r x (Some z) = Linked (net_here r) (slot (names_of r x.0) 0) (slot z 0)
IsFaced r x None = (z : NodeName) → Linked (net_here r) (slot (names_of r x.0) 0) (slot z 0) → ⊥

-- what makes y another copy of the ticket that z is of
abbrev pub IsOtherCopy : NodeName → NodeName → ℕ → ℕ → Type 0
IsOtherCopy z y ticket place =
    (z ≡ Born ticket place) × (other : ℕ) × (y ≡ Born ticket other) × (other ≢ place)

-- neither node faces a node that the other one's ticket made at another place
abbrev pub NoCopies : Replay → NodeId → NodeId → Type 0
NoCopies r x y = FacesNoCopy (net_here r) (names_of r x.0) (names_of r y.0)
    × FacesNoCopy (net_here r) (names_of r y.0) (names_of r x.0)

-- the cause of a line by two nodes that are no active pair
abbrev pub IsCauseIdle : Replay → ℕ → ℕ → Cause → Type 0
IsCauseIdle r x y c = (form : Form) (net : NamedNet NodeName) (waves : List ℕ) (e : Entry) (wave : ℕ) →
    names_of r x ≡ e.first → names_of r y ≡ e.second → AreIdle (net_here r) e.first e.second →
    IsCause form net r.run.journal waves (net_here r) e wave c

-- the pair of which this was made is of two nodes that are joined
abbrev pub AreJoined : Replay → Line → Option Rewritten → Type 0
AreJoined r line made = IfSome made (λ of. Linked (net_here r) (slot line.first 0) (slot line.second 0))

-- the cause of a line by what was made of its pair
abbrev pub IsCauseOff : Graph → Replay → Line → Option Rewritten → Cause → Type 0
IsCauseOff old r line made c = (form : Form) (waves : List ℕ) (text : List ℕ) (at : ℕ) →
    (o : IsOff form waves old r text at line made) →
    IsCause form (start_net_of_graph old) r.run.journal waves (net_here r) o.entry o.wave c

-- the text of a line that isn't the next one of the run
pub record IsOffBy (old : Graph) (r : Replay) (line : Line) (made : Option Rewritten) (text : List ℕ) : Type 0 where
  pub cause : Cause
  pub is : IsCauseOff old r line made cause
  pub text_is : text ≡ line_with (codes "not a run at line ") (length r.run.journal + 2)
      ++ cause_words line.first line.second cause ++ codes "\n"
