-- Private: what a seat has in hand in the midst of a turn, and what it has read of its nodes.
use Rattle.std.specs.Prelude.{◌≡◌, ℕ, zero, suc, ◌+◌, ◌<◌, List, [], ◌∷◌, ◌++◌, ◌⊎◌, slice_index}
use Rattle.std.specs.Prelude.{MatchOption, Option, false, ◌≢◌}
use Rattle.ol_law_edges.specs.Edges.{IsIn}
use Rattle.ol_net.specs.Parts.{arity}
use Rattle.ol_wire.specs.declared.layout.Parts.{Parts}
use Rattle.ol_wire.specs.declared.view.View.{View}
use Rattle.ol_wire.specs.References.{kind_in, place_in}
use Rattle.ol_wire.specs.Events.{entry_of}
use Rattle.ol_wire.specs.LinkLists.{links_of, joins_in}
use Rattle.ol_wire.specs.Plays.{event_in, cell_at, swept_on}
use Rattle.ol_wire.specs.StepPlays.{IsNodeOf, IsRefOf, cell_in_hand, paired, ticketed, late}
use Rattle.ol_wire.specs.Stand.{TableState}
use Rattle.ol_wire.specs.Layout.{left_word}
use Rattle.ol_wire.specs.Hands.{claiming, missed}

-- a claim of cell c has taken its left word, and the right one isn't read yet
abbrev pub HasClaimed : TableState → View → ℕ → ℕ → View → Type 0
HasClaimed b v c left n = n ≡ record (claiming v c (left, 0)) { taken = (left_word b.plan.parts c, left) ∷ [] }

-- the left word of the pair in hand is that of the cell with left word w
abbrev pub HoldsLeft : View → ℕ → Type 0
HoldsLeft v w = v.taken ≡ (w, v.last.0) ∷ []

-- the right word of cell c is read
abbrev pub HasPaired : TableState → View → ℕ → ℕ → View → Type 0
HasPaired b v c right n = n ≡ paired v (suc (left_word b.plan.parts c)) right

-- a ticket below the fuel is drawn, or the fuel is used up
abbrev pub HasDrawn : TableState → View → Option ℕ → View → Type 0
HasDrawn b v ticket n = MatchOption ticket (n ≡ late v) (λ t. (t < b.plan.parts.fuel) × (n ≡ ticketed v t))

-- the pair is in the seat: w is the cell's left word
abbrev pub in_hand : View → ℕ → ℕ → ℕ × ℕ → View
in_hand v w c pair = record (claiming v c pair) { taken = (w, pair.0) ∷ []; known = (suc w, pair.1) ∷ v.known }

-- The pair of the cell with left word w is in the seat, and the seat has looked at its right word.
pub record IsInHand (v : View) (w : ℕ) : Type 0 where
  pub taken : v.taken ≡ (w, v.last.0) ∷ []
  pub right : IsIn (suc w, v.last.1) v.known
  pub nodes : IsNodeOf v.parts v.last.0 × IsNodeOf v.parts v.last.1

-- one of the two nodes of the pair that was claimed last
abbrev pub IsOfPair : View → ℕ → Type 0
IsOfPair v r = (r ≡ v.last.0) ⊎ (r ≡ v.last.1)

-- what is known of the fields of a node with n of them
abbrev pub fields_known : ℕ → ℕ → List ℕ → List (ℕ × ℕ)
fields_known zero place found = []
fields_known (suc zero) place found = (place + 0, slice_index found 0) ∷ []
fields_known (suc (suc n)) place found = (place + 1, slice_index found 1) ∷ (place + 0, slice_index found 0) ∷ []

-- y, and nothing else, is known of word w
abbrev pub IsSure : List (ℕ × ℕ) → ℕ → ℕ → Type 0
IsSure known w y = IsIn (w, y) known × ((x : ℕ) → IsIn (w, x) known → x ≡ y)

-- these are the fields of the node
abbrev pub AreFields : List (ℕ × ℕ) → ℕ → List ℕ → Type 0
AreFields known node found = (s : ℕ) → s < arity (kind_in node) → IsSure known (place_in node + s) (slice_index found s)

-- what the fields of the node hold are references
abbrev pub AreRefs : Parts → ℕ → List ℕ → Type 0
AreRefs z node found = (s : ℕ) → s < arity (kind_in node) → IsRefOf z (slice_index found s)

-- The pair in hand has become ticket t: its words are written, and its links are pending, by what
-- the fields of the two nodes held.
pub record Rewrote (v : View) (t : ℕ) (of_f of_g : List ℕ) (n : View) : Type 0 where
  pub view : n ≡ record v {
    taken = [];
    known = [];
    swept = swept_on v (cell_at v.parts (cell_in_hand v.taken));
    made = v.made ++ (t, entry_of v.parts (event_in v)) ∷ [];
    pending = n.pending;
    owed = suc (joins_in (event_in v));
  }
  pub links : n.pending ≡ links_of v.parts (event_in v) t (λ s. slice_index of_f s) (λ s. slice_index of_g s)

-- a pair was taken from cell c, or the cell was empty
abbrev pub HasTaken : TableState → View → ℕ → Option (ℕ × ℕ) → View → Type 0
HasTaken b v c found n = MatchOption found (n ≡ missed v c)
    (λ (pair : ℕ × ℕ). (pair.0 ≢ 0) × (n ≡ in_hand v (left_word b.plan.parts c) c pair))

abbrev pub AreNodesOf : Parts → ℕ × ℕ → Type 0
AreNodesOf z pair = IsNodeOf z pair.0 × IsNodeOf z pair.1

-- the view has nothing to write and no link to make, no ticket at or above the fuel, and owes nothing
abbrev pub MayDraw : View → Type 0
MayDraw v = (v.due ≡ []) × (v.pending ≡ []) × (v.over ≡ false) × (v.owed ≡ 0)

-- each pair in hand stays there
abbrev pub KeepsInHand : View → View → Type 0
KeepsInHand v n = (w : ℕ) → IsInHand v w → IsInHand n w

-- what is known of the fields of a node, once they are read
abbrev pub looked_at : View → ℕ → List ℕ → View
looked_at v node found = record v { known = fields_known (arity (kind_in node)) (place_in node) found ++ v.known }

-- what was sure stays so
abbrev pub KeepsSure : List (ℕ × ℕ) → List (ℕ × ℕ) → Type 0
KeepsSure old new = (w y : ℕ) → IsSure old w y → IsSure new w y
