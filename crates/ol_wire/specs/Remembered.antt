-- What a view remembers of its last claim, so far as the words keep it: which pair it was, and of which cell.
use Rattle.std.specs.Prelude.{◌≡◌, ◌≢◌, ℕ, suc, ◌<◌, ◌⊎◌, List, slice_index}
use Rattle.ol_law_edges.specs.Edges.{IsIn}
use Rattle.ol_wire.specs.declared.plan.Plan.{Plan}
use Rattle.ol_wire.specs.declared.view.View.{View}
use Rattle.ol_wire.specs.Layout.{left_word, cells_of}
use Rattle.ol_wire.specs.Events.{IsStuckPair}
use Rattle.ol_wire.specs.Rule.{Table, IsView}

-- y stands in the left word w, or a seat has claimed it there
abbrev pub Stays : Table → ℕ → ℕ → Type 0
Stays s w y = (slice_index s.words w ≡ y) ⊎ ((u : View) × IsView s u × IsIn (w, y) u.taken)

-- The right word of the cell with left word w was read, and never changes. A pair without a rule stays in its cell.
pub record IsRead (s : Table) (last : ℕ × ℕ) (w : ℕ) : Type 0 where
  pub some : last.1 ≢ 0
  pub right : slice_index s.words (suc w) ≡ last.1
  pub left : IsStuckPair last.0 last.1 → Stays s w last.0

-- the pair is claimed, and its right word isn't read yet
abbrev pub IsUnread : ℕ × ℕ → List (ℕ × ℕ) → ℕ → Type 0
IsUnread last taken w = (last.1 ≡ 0) × IsIn (w, last.0) taken

-- the last claim was of cell c, and found a pair
pub record Recalls (p : Plan) (s : Table) (c : ℕ) (last : ℕ × ℕ) (taken : List (ℕ × ℕ)) : Type 0 where
  pub low : c < cells_of p.parts
  pub pair : IsRead s last (left_word p.parts c) ⊎ IsUnread last taken (left_word p.parts c)

-- Each view tells the truth of its last claim, where this found a pair; and a pair that a view has
-- claimed is that of its last claim.
pub record Remembered (p : Plan) (s : Table) : Type 0 where
  pub last : (v : View) → IsView s v → v.last.0 ≢ 0 → Recalls p s v.cell v.last v.taken
  pub taken : (v : View) (w y : ℕ) → IsView s v → IsIn (w, y) v.taken → (w ≡ left_word p.parts v.cell) × (y ≡ v.last.0)
