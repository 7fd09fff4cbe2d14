-- What a look at the table tells: a moment of it.
use Rattle.std.specs.Prelude.{◌≡◌, ◌↔◌, ℕ, suc, Bool, true, List, [], ◌∷◌, ◌++◌, slice_index}
use Rattle.ol_net.specs.Pairs.{IsComplete}
use Rattle.ol_wire.specs.declared.plan.Plan.{Plan}
use Rattle.ol_wire.specs.declared.view.View.{View}
use Rattle.ol_wire.specs.Rule.{Table, IsView, Kept}
use Rattle.ol_wire.specs.Credit.{Credited}
use Rattle.ol_wire.specs.Remembered.{Remembered}

-- The words and the views of a table that was made by this plan, at a moment at which the view
-- stood among them: they met the rule.
pub record Moment (p : Plan) (v : View) : Type 0 where
  pub table : Table
  pub kept : Kept p table
  pub credit : Credited p table
  pub told : Remembered p table
  pub seen : IsView table v

-- the list ends with this number
abbrev pub EndsWith : List ℕ → ℕ → Type 0
EndsWith xs n = (ys : List ℕ) × (xs ≡ ys ++ n ∷ [])

-- A moment at which it was asked whether no active pair is left: the live word was what the view
-- says that it read last, and it was quiet exactly where that is 0. Where it was quiet, the net of
-- its journal has no active pair.
abbrev pub IsMomentAsked : Plan → View → Bool → Type 0
IsMomentAsked p v quiet = (m : Moment p v) × EndsWith v.looked (slice_index m.table.words 1)
    × ((quiet ≡ true) ↔ (slice_index m.table.words 1 ≡ 0)) × (quiet ≡ true → IsComplete m.kept.net)

-- a moment at which word w was empty
abbrev pub MomentEmpty : Plan → ℕ → View → Type 0
MomentEmpty p w v = (m : Moment p v) × (slice_index m.table.words w ≡ 0)

-- a moment at which the cell with left word w held the pair that the view says it claimed last
abbrev pub MomentHolding : Plan → ℕ → View → Type 0
MomentHolding p w v = (m : Moment p v) × (slice_index m.table.words w ≡ v.last.0)
    × (slice_index m.table.words (suc w) ≡ v.last.1)

-- a moment at which the seat had just these links to make
abbrev pub WasPending : Plan → View → Type 0
WasPending p n = (v : View) × Moment p v × (v.pending ≡ n.pending)
