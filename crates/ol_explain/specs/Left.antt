-- The pairs that are left after a run: each told by the line with which the journal could go on.
use Rattle.std.specs.Prelude.{◌≡◌, ℕ, zero, suc, ◌-◌, ◌↔◌, true, List, [], ◌∷◌, ◌++◌, length, take, codes}
use Rattle.std.specs.Fmt.{decimal}
use Rattle.ol_law_edges.specs.Edges.{IsIn}
use Rattle.ol_net.specs.Graph.{Graph}
use Rattle.ol_net.specs.Nets.{NamedNet}
use Rattle.ol_rules.specs.declared.journal.NodeName.{NodeName}
use Rattle.ol_rules.specs.declared.journal.Entry.{Entry}
use Rattle.ol_rules.specs.Names.{comes_before}
use Rattle.ol_diamond.specs.Waves.{AreWaves}
use Rattle.ol_view.specs.declared.forms.Form.{Form}
use Rattle.ol_view.specs.declared.forms.Form.TheVariants.{Two}
use Rattle.ol_view.specs.Forms.{line_of}
use Rattle.ol_view.specs.Checks.{start_net_of_graph, IsRunTold, BeginsWithRun}

-- the run of these entries and waves goes on with this entry in this wave
abbrev pub GoesOnWith : NamedNet NodeName → List Entry → List ℕ → Entry → ℕ → Type 0
GoesOnWith net journal waves e wave = (next : NamedNet NodeName)
    × IsRunTold Two net (journal ++ e ∷ []) (waves ++ wave ∷ []) next

-- in the order of their first names
abbrev pub AreInOrder : List (Entry × ℕ) → Type 0
AreInOrder [] = Unit {0}
AreInOrder (p ∷ ps) =
    ((q : Entry × ℕ) → IsIn q ps → comes_before p.0.first q.0.first ≡ true) × AreInOrder ps

-- These are all entries with which the run goes on, each once and in its wave.
pub record AreLeft (net : NamedNet NodeName) (journal : List Entry) (waves : List ℕ)
    (pairs : List (Entry × ℕ)) : Type 0 where
  pub all : (e : Entry) (wave : ℕ) → IsIn (e, wave) pairs ↔ GoesOnWith net journal waves e wave
  pub order : AreInOrder pairs

-- a line of a journal that tells rules and waves, for each
abbrev pub lines_of : List (Entry × ℕ) → List ℕ
lines_of [] = []
lines_of (p ∷ ps) = line_of Two p.0 p.1 ++ lines_of ps

-- how many others there are, if there are some
abbrev pub more_text : ℕ → List ℕ
more_text zero = []
more_text (suc n) = codes "and " ++ decimal (suc n) ++ codes " more\n"

-- the lines of the first 20, and how many others there are
abbrev pub left_text : List (Entry × ℕ) → List ℕ
left_text pairs = lines_of (take 20 pairs) ++ more_text (length pairs - 20)

-- The journal is the text of a run from the graph, and this text tells the pairs that are left.
pub record TellsLeft (g : Graph) (journal text : List ℕ) : Type 0 where
  pub form : Form
  pub entries : List Entry
  pub waves : List ℕ
  pub last : NamedNet NodeName
  pub begins : BeginsWithRun form (start_net_of_graph g) journal entries waves last []
  pub waves_are : AreWaves (start_net_of_graph g) entries last waves
  pub pairs : List (Entry × ℕ)
  pub left : AreLeft (start_net_of_graph g) entries waves pairs
  pub text_is : text ≡ left_text pairs
