-- Private: a link that a seat makes: its two ends, and what is left once it is made.
use Rattle.std.specs.Prelude.{◌≡◌, ℕ, ◌<◌, ◌⊎◌, ◌-◌, List, [], ◌∷◌, ◌++◌, MatchOption, Option, None, Some, ◌+◌, ◌≤◌}
use Rattle.ol_wire.specs.declared.layout.Parts.{Parts}
use Rattle.ol_wire.specs.declared.view.Link.{Link}
use Rattle.ol_wire.specs.declared.view.View.{View}
use Rattle.ol_wire.specs.References.{place_in, IsNodeRef, IsWireRef}
use Rattle.ol_wire.specs.Layout.{table_size}
use Rattle.ol_wire.specs.LinkSteps.{IsBetween, spread}
use Rattle.ol_wire.specs.Plays.{cell_at}
use Rattle.ol_wire.specs.StepPlays.{rest, IsRefOf, linked, moved}
use Rattle.ol_wire.specs.Stand.{TableState}

abbrev pub link_between : ℕ → ℕ → ℕ → Link
link_between w a b = record { cell = w; one = a; two = b }

-- what an end of a link has to be: a node, or a wire or a free port by a word of the table
abbrev pub IsEndOf : Parts → ℕ → Type 0
IsEndOf z r = IsNodeRef r ⊎ (IsWireRef r × (place_in r < table_size z))

-- nothing is to be written before the links, and the first of them is that from a to b, of the cell with left word w
abbrev pub IsNext : View → ℕ → ℕ → ℕ → Type 0
IsNext v w a b = (v.due ≡ []) × (v.pending ≡ link_between w a b ∷ rest v.pending)

-- the ends of the first link, in either order
pub record AreNext (v : View) (a b : ℕ) : Type 0 where
  pub due : v.due ≡ []
  pub link : Link
  pub pending : v.pending ≡ link ∷ rest v.pending
  pub between : IsBetween link a b

-- the cell with left word w, where its pair was published, and whether the pair is active, as a number
abbrev pub cell_published : Parts → ℕ → Option ℕ → List ℕ
cell_published z w None = []
cell_published z w (Some active) = cell_at z w ∷ []

abbrev pub active_published : Option ℕ → ℕ
active_published None = 0
active_published (Some active) = active

-- The first link, of the cell with left word w, is made. Wires may have died, and its pair may have been published.
pub record IsLinked (v : View) (w : ℕ) (published : Option ℕ) (n : View) : Type 0 where
  pub dead : (ws : List ℕ) × (n.dead ≡ v.dead ++ ws)
  pub view : n ≡ record v {
    pending = rest v.pending;
    known = n.known;
    published = v.published ++ cell_published v.parts w published;
    dead = n.dead;
    owed = v.owed - active_published published;
  }

-- an end that is no node, and the other one
abbrev pub AreOpenEnds : ℕ → ℕ → ℕ × ℕ → Type 0
AreOpenEnds a b ends = (IsNodeRef ends.0 → ⊥) × (((ends.0 ≡ a) × (ends.1 ≡ b)) ⊎ ((ends.0 ≡ b) × (ends.1 ≡ a)))

-- an exchange of an end into the word of a wire has made the first link, or the link goes on with what it found
abbrev pub HasExchanged : View → ℕ → ℕ → Option ℕ → View → Type 0
HasExchanged v wire end found n = MatchOption found (n ≡ linked v) (λ c. n ≡ moved v (place_in wire) end c)

abbrev pub AreRefsOf : Parts → ℕ → ℕ → Type 0
AreRefsOf z a b = IsRefOf z a × IsRefOf z b

-- one wire more is dead: of these there are no more than words
abbrev pub LosesWire : TableState → View → View → Type 0
LosesWire b v n = (spread (table_size b.plan.parts) n.dead ≡ spread (table_size b.plan.parts) v.dead + 1)
    × (spread (table_size b.plan.parts) n.dead ≤ table_size b.plan.parts)
