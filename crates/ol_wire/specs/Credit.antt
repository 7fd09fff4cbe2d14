-- The live word: how many active pairs there are, and may still come.
use Rattle.std.specs.Prelude.{◌≡◌, ℕ, suc, ◌+◌, ◌*◌, ◌==◌, ◌≤◌, if◌then◌else◌, List, length, Option}
use Rattle.std.specs.Prelude.{None, true, slice_index}
use Rattle.ol_net.specs.declared.parts.Rule.{Rule}
use Rattle.ol_wire.specs.declared.layout.Parts.{Parts}
use Rattle.ol_wire.specs.declared.plan.Plan.{Plan}
use Rattle.ol_wire.specs.declared.view.View.{View}
use Rattle.ol_wire.specs.Layout.{left_word, cells_of}
use Rattle.ol_wire.specs.Events.{rule_between}
use Rattle.ol_wire.specs.Weights.{total, sum_below}
use Rattle.ol_wire.specs.Rule.{Table, IsView, Kept}
use Rattle.ol_wire.specs.Remembered.{Remembered}

-- whether one of two nodes has a rule with the other, as a number
abbrev pub ruled : Option Rule → Option Rule → ℕ
ruled None None = 0
ruled other more = 1

-- whether the pair of two references is active, as a number: a test of these two alone. Where the
-- left one is empty there is no pair.
abbrev pub active_in : ℕ → ℕ → ℕ
active_in left right = if left == 0 then 0 else ruled (rule_between left right) (rule_between right left)

-- whether a pair that stands in the cell with left word w is active
abbrev pub active_at : List ℕ → ℕ → ℕ
active_at words w = active_in (slice_index words w) (slice_index words (suc w))

-- the number of published cells whose pair is active
abbrev pub active_cells : Parts → List ℕ → ℕ
active_cells z words = sum_below (cells_of z) (λ c. active_at words (left_word z c))

-- The claimed pairs of a view that are active and have no ticket. The left reference is in the
-- view, and the right one is still in its word.
abbrev pub active_claims : List ℕ → View → ℕ
active_claims words v = total (λ (x : ℕ × ℕ). active_in x.1 (slice_index words (suc x.0))) v.taken

-- What the live word says.
pub record Credited (p : Plan) (s : Table) : Type 0 where
  pub live : slice_index s.words 1 ≡ active_cells p.parts s.words + total
      (active_claims s.words) s.views + total (λ (v : View). v.owed) s.views
  -- each link that is to be made is owed
  pub links : (v : View) → IsView s v → length v.pending ≤ v.owed
  -- what a seat owes is for an active pair that it has claimed, or for tickets that it has drawn
  pub owes : (v : View) → IsView s v → v.owed ≤ 5 * (active_claims s.words v + length v.made)
  -- a seat has a claimed pair with four joins, or a rewritten one with these
  pub few : (v : View) → IsView s v → v.owed + length v.taken ≤ 5 * v.holds
  -- once a seat has read 0 there the word stays 0
  pub settled : (v : View) → IsView s v → v.settled ≡ true → slice_index s.words 1 ≡ 0

-- the rule of a table, with its live word, and with what each view remembers of its last claim
abbrev pub IsRuled : Plan → Table → Type 0
IsRuled p s = Kept p s × Credited p s × Remembered p s

-- what the one says of a table, the other says too
abbrev pub IsImplied : (Plan → Table → Type 0) → (Plan → Table → Type 0) → Type 0
IsImplied A B = (p : Plan) (s : Table) → A p s → B p s
