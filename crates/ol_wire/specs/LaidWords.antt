-- Private: the words of the start, row by row, as they are laid out.
use Rattle.std.specs.Prelude.{◌≡◌, ℕ, suc, ◌+◌, ◌*◌, ◌<◌, ◌≤◌, ◌==◌, nat_lt, if◌then◌else◌, List}
use Rattle.std.specs.Prelude.{[], ◌∷◌, length, Option, Some, None, slice_index, slice_get, ◌++◌}
use Rattle.ol_net.specs.declared.parts.Port.{Port}
use Rattle.ol_net.specs.declared.parts.Port.TheVariants.{Free, Of}
use Rattle.ol_net.specs.Graph.{Graph, partner_of}
use Rattle.ol_rules.specs.Listed.{each}
use Rattle.ol_wire.specs.declared.layout.Parts.{Parts}
use Rattle.ol_wire.specs.References.{wire_ref}
use Rattle.ol_wire.specs.Layout.{port_word, start_node, start_wire, start_cell, block, table_size}
use Rattle.ol_wire.specs.Starts.{facing_pairs, pair_at}
use Rattle.std.specs.declared.vec.Vec.{Vec}
use Rattle.std.specs.declared.alloc.Global.{Global}
use Rattle.ol_wire.specs.Laid.{field_of, node_word}

-- The word of free port n, by its partner. Of two free ports that of the smaller number names the
-- other; an auxiliary slot names the port in its own field.
abbrev pub word_to : Graph → Parts → ℕ → Option Port → ℕ
word_to net z n None = 0
word_to net z n (Some (Free m)) = if nat_lt n m then wire_ref (port_word m) else 0
word_to net z n (Some (Of m s)) = if s == 0 then node_word net z m.0 else 0

abbrev pub word_of_port : Graph → Parts → ℕ → ℕ
word_of_port net z n = word_to net z n (partner_of net (Free n))

-- The net is laid out in these words.
pub record IsLaid (net : Graph) (z : Parts) (words : List ℕ) : Type 0 where
  pub wide : length words ≡ table_size z
  pub ticket : slice_index words 0 ≡ 0
  pub ports : (n : ℕ) → n < z.free → slice_index words (port_word n) ≡ word_of_port net z n
  pub fields : (n s : ℕ) → n < z.nodes → s < 2 → slice_index words (start_node z n + s) ≡ field_of net z n s
  pub wires : (j : ℕ) → j < z.wires → slice_index words (start_wire z j) ≡ 0
  pub cells : (c : ℕ) (p : ℕ × ℕ) → slice_get (facing_pairs net) c ≡ Some p
      → (slice_index words (start_cell z c) ≡ node_word net z p.0)
      × (slice_index words (suc (start_cell z c)) ≡ node_word net z p.1)
  pub blocks : (w : ℕ) → block z 0 ≤ w → slice_index words w ≡ 0

-- what is added for each free port, and for each node
abbrev pub port_row : Graph → Parts → ℕ → List ℕ
port_row net z n = word_of_port net z n ∷ []

abbrev pub field_row : Graph → Parts → ℕ → List ℕ
field_row net z n = field_of net z n 0 ∷ field_of net z n 1 ∷ []

-- the two words of each pair
abbrev pub cell_words : Graph → Parts → List (ℕ × ℕ) → List ℕ
cell_words net z [] = []
cell_words net z (p ∷ ps) = node_word net z p.0 ∷ node_word net z p.1 ∷ cell_words net z ps

-- While it is laid out: the fields before slot s + 1 of node n are there, and nothing is behind them.
pub record HasFields (net : Graph) (z : Parts) (words : List ℕ) (n s : ℕ) : Type 0 where
  pub long : length words ≡ start_node z n + s
  pub before : (m u : ℕ) → u < 2 → 2 * m + u < 2 * n + s → slice_index words (start_node z m + u) ≡ field_of net z m u

-- what a list of words gained at its end
abbrev pub Gains : Vec ℕ Global → Vec ℕ Global → List ℕ → Type 0
Gains old new more = new.items ≡ old.items ++ more

-- the fields of all nodes
abbrev pub field_rows : Graph → Parts → List ℕ
field_rows net z = each (length net.nodes) (field_row net z)

-- the words of the cell that node n comes first in, and those of all cells
abbrev pub cell_row : Graph → Parts → ℕ → List ℕ
cell_row net z n = cell_words net z (pair_at net n)

abbrev pub cell_rows : Graph → Parts → List ℕ
cell_rows net z = cell_words net z (facing_pairs net)
