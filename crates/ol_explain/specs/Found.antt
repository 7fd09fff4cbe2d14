-- Private: words of private contracts alone: the active pairs of a net, as they are found node by node.
use Rattle.std.specs.Prelude.{◌≡◌, ℕ, ◌-◌, ◌<◌, ◌≤◌, ◌↔◌, true, List, [], length, take, Option, None, Some, ◌⊎◌}
use Rattle.ol_law_edges.specs.Edges.{IsIn}
use Rattle.ol_net.specs.Graph.{Graph}
use Rattle.ol_net.specs.Nets.{NamedNet}
use Rattle.ol_net.specs.Pairs.{IsActive}
use Rattle.ol_rules.specs.declared.journal.NodeName.{NodeName}
use Rattle.ol_rules.specs.declared.journal.Entry.{Entry}
use Rattle.ol_rules.specs.Names.{comes_before}
use Rattle.ol_diamond.specs.Waves.{AreWaves}
use Rattle.ol_view.specs.declared.forms.Form.{Form}
use Rattle.ol_view.specs.Checks.{start_net_of_graph, BeginsWithRun}
use Rattle.ol_orders.specs.declared.replaying.Replay.{Replay}
use Rattle.ol_orders.specs.Replays.{names_of, net_here, AreRising}
use Rattle.ol_explain.specs.Left.{AreLeft, left_text}

-- the entry tells an active pair of the net, the smaller name first
abbrev pub IsOfPair : NamedNet NodeName → Entry → Type 0
IsOfPair N e = (comes_before e.first e.second ≡ true)
    × (IsActive N e.first e.second e.rule ⊎ IsActive N e.second e.first e.rule)

-- it tells the one whose first node has this number
abbrev pub IsPairAt : Replay → ℕ → Entry → Type 0
IsPairAt r n e = (e.first ≡ names_of r n) × IsOfPair (net_here r) e

-- what there is at this number
abbrev pub IsPairOf : Replay → ℕ → Option Entry → Type 0
IsPairOf r n None = (e : Entry) → IsPairAt r n e → ⊥
IsPairOf r n (Some e) = IsPairAt r n e

-- these are the ones whose first nodes have numbers below n
pub record AreBelow (r : Replay) (n : ℕ) (es : List Entry) : Type 0 where
  pub all : (e : Entry) → IsIn e es ↔ ((k : ℕ) × (k < n) × IsPairAt r k e)
  pub rising : AreRising es

-- the first 20 of them, and how many others there are
pub record AreFound (r : Replay) (n : ℕ) (told : List Entry) (more : ℕ) : Type 0 where
  pub pairs : List Entry
  pub below : AreBelow r n pairs
  pub few : length pairs ≤ n
  pub told_is : told ≡ take 20 pairs
  pub more_is : more ≡ length pairs - 20

-- the text tells the pairs that are left after the run
pub record IsLeftText (old : Graph) (r : Replay) (text : List ℕ) : Type 0 where
  pub waves : List ℕ
  pub waves_are : AreWaves (start_net_of_graph old) r.run.journal (net_here r) waves
  pub pairs : List (Entry × ℕ)
  pub left : AreLeft (start_net_of_graph old) r.run.journal waves pairs
  pub text_is : text ≡ left_text pairs

-- the whole text is that of the run
pub record IsToldBy (old : Graph) (text : List ℕ) (r : Replay) : Type 0 where
  pub form : Form
  pub waves : List ℕ
  pub begins : BeginsWithRun form (start_net_of_graph old) text r.run.journal waves (net_here r) []
