-- A run on its way, and what a rewrite adds to it.
use Rattle.std.specs.Prelude.{◌≡◌, ℕ, suc, ◌+◌, ◌*◌, ◌<◌, ◌≤◌, true, List, [], ◌∷◌, ◌++◌, length, Some, slice_get}
use Rattle.ol_law_edges.specs.Edges.{IsIn}
use Rattle.ol_net.specs.Graph.{Graph}
use Rattle.ol_net.specs.Nets.{NamedNet, slot, Linked, IsNet, net_under}
use Rattle.ol_net.specs.Numbered.{net_of}
use Rattle.ol_rules.specs.declared.journal.NodeName.{NodeName}
use Rattle.ol_rules.specs.declared.journal.NodeName.TheVariants.{Init, Born}
use Rattle.ol_rules.specs.declared.journal.Entry.{Entry}
use Rattle.ol_rules.specs.Names.{comes_before}
use Rattle.ol_rules.specs.Runs.{IsRun}
use Rattle.ol_rules.specs.UnderWay.{name_by, node_number, Advances}
use Rattle.ol_diamond.specs.Replaying.{AreIdle}
use Rattle.ol_view.specs.Checks.{start_net_of_graph}
use Rattle.ol_orders.specs.declared.replaying.Replay.{Replay}

-- the names of its numbers
abbrev pub names_of : Replay → ℕ → NodeName
names_of r = name_by r.run.names

-- The last net of a run, under its names.
abbrev pub net_here : Replay → NamedNet NodeName
net_here r = net_under (names_of r) (net_of r.net)

-- Names of all numbers: a start node's number names it, a greater number has a later name, and from
-- next on come the nodes that this ticket will make.
pub record AreNames (start next ticket : ℕ) (m : ℕ → NodeName) : Type 0 where
  pub room : start ≤ next
  pub initial : (k : ℕ) → k < start → m k ≡ Init k
  pub rising : (j k : ℕ) → j < k → comes_before (m j) (m k) ≡ true
  pub born : (p : ℕ) → m (next + p) ≡ Born ticket p

-- The journal is that of a run from the graph to the net, under these names.
pub record IsReplay (old : Graph) (r : Replay) : Type 0 where
  pub m : ℕ → NodeName
  pub named : AreNames (length old.nodes) (length r.net.nodes) (length r.run.journal) m
  pub start : r.run.names.start ≡ length old.nodes
  pub sized : r.run.names.start + length r.run.names.born.items ≡ length r.net.nodes
  pub listed : (k : ℕ) → k < length r.net.nodes → names_of r k ≡ m k
  pub is_net : IsNet (net_of r.net)
  pub few : length r.net.nodes ≤ length old.nodes + 4 * length r.run.journal
  pub run : IsRun (start_net_of_graph old) 0 r.run.journal (net_under m (net_of r.net))
  pub tickets : length r.numbers.bases.items ≡ suc (length r.run.journal)
  pub given : slice_get r.numbers.bases.items (length r.run.journal) ≡ Some (length r.net.nodes)
  pub finds : (k : ℕ) → k < length r.net.nodes → node_number r.numbers.bases.items (m k) ≡ Some k
  pub found : (x : NodeName) (k : ℕ) → node_number r.numbers.bases.items x ≡ Some k →
      (k < length r.net.nodes) × (m k ≡ x)

-- The second is the first after the step of x and y, of which x has the smaller number.
pub record ReplaysPair (old new : Replay) (x y : ℕ) : Type 0 where
  pub lesser : x < y
  pub linked : Linked (net_of old.net) (slot x 0) (slot y 0)
  pub old_net : IsNet (net_of old.net)
  pub advances : Advances old.run new.run old.net new.net x y
  pub bases : new.numbers.bases.items ≡ old.numbers.bases.items ++ length new.net.nodes ∷ []

-- the second is the first after the step of the nodes of two names
pub record ReplaysNamed (old new : Replay) (first second : NodeName) : Type 0 where
  pub x : ℕ
  pub y : ℕ
  pub first_is : node_number old.numbers.bases.items first ≡ Some x
  pub second_is : node_number old.numbers.bases.items second ≡ Some y
  pub pair : ReplaysPair old new x y

-- no two nodes of these names, the first of which has the smaller number, are an active pair
abbrev pub AreApart : Replay → NodeName → NodeName → Type 0
AreApart r first second =
    (x y : ℕ) → node_number r.numbers.bases.items first ≡ Some x →
    node_number r.numbers.bases.items second ≡ Some y → x < y → AreIdle (net_of r.net) x y

-- the smaller name of each entry comes before those of the later ones
abbrev pub AreRising : List Entry → Type 0
AreRising [] = Unit {0}
AreRising (e ∷ es) =
    ((d : Entry) → IsIn d es → comes_before e.first d.first ≡ true) × AreRising es
