-- Private: what the steps that make a link tell.
use Rattle.std.specs.Prelude.{◌≡◌, ◌≢◌, ℕ, zero, suc, ◌+◌, ◌≤◌, ◌⊎◌, List, []}
use Rattle.ol_net.specs.Graph.{Graph}
use Rattle.ol_wire.specs.declared.layout.Parts.{Parts}
use Rattle.ol_wire.specs.declared.view.Link.{Link}
use Rattle.ol_wire.specs.declared.view.View.{View}
use Rattle.ol_wire.specs.Layout.{table_size}
use Rattle.ol_wire.specs.Edges.{times_in}
use Rattle.ol_wire.specs.Views.{fresh}
use Rattle.ol_wire.specs.StepPlays.{Play, linked, moved, knowing, publishing, IsRefOf}
use Rattle.ol_wire.specs.LinkPlays.{times_drawn}

-- the link is between a and b, either way round
abbrev pub IsBetween : Link → ℕ → ℕ → Type 0
IsBetween l a b = ((l.one ≡ a) × (l.two ≡ b)) ⊎ ((l.one ≡ b) × (l.two ≡ a))

-- how often the numbers below n stand in the list
abbrev pub spread : ℕ → List ℕ → ℕ
spread zero xs = 0
spread (suc n) xs = spread n xs + times_in n xs

-- An exchange of one end of the first pending link into the word of the wire or free port at its
-- other end. The word was empty, or the link goes on between the two ends, and one wire more is
-- dead: of these there are no more than words.
abbrev pub links : Play
links s m r n = (n.1 ≡ m.1) × (r ≡ 0 → n.0 ≡ linked m.0)
    × (r ≢ 0 → (n.0 ≡ moved m.0 s.word s.first r) × IsRefOf m.0.parts s.first × IsRefOf m.0.parts r
    × (spread (table_size m.0.parts) n.0.dead ≡ spread (table_size m.0.parts) m.0.dead + 1)
    × (spread (table_size m.0.parts) n.0.dead ≤ table_size m.0.parts))

-- the second node of the first pending link is written into the right word of its cell
abbrev pub places : Play
places s m r n = (n.1 ≡ m.1) × (n.0 ≡ knowing m.0 s.word s.first)

-- and then the first one into the left word
abbrev pub publishes : Play
publishes s m r n = (n.1 ≡ m.1) × (n.0 ≡ publishing m.0 s.word)

-- a look at the ticket word, which tells that no seat stands for more than there are, and has no ticket twice
abbrev pub reads_tickets_joined : Play
reads_tickets_joined s m r n = (n.1 ≡ m.1) × (n.0 ≡ m.0) × (m.0.holds ≤ m.0.seats)
    × ((t : ℕ) → times_drawn t m.0.made ≤ 1)

-- what a seat is left with that was joined to another: nothing, of no table
abbrev pub no_parts : Parts
no_parts = record { free = 0; nodes = 0; wires = 0; cells = 0; fuel = 0 }

abbrev pub no_net : Graph
no_net = record { free = 0; nodes = []; partners = [] }

abbrev pub spent_view : View
spent_view = fresh no_parts no_net 0 0
