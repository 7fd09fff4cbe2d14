-- The edges that words and views stand for.
use Rattle.std.specs.Prelude.{ℕ, zero, suc, ◌==◌, nat_eq, nat_lt, if◌then◌else◌, Bool, true, false}
use Rattle.std.specs.Prelude.{not, ◌&&◌, ◌||◌, List, [], ◌∷◌, ◌++◌, map, Option, Some, None}
use Rattle.std.specs.Prelude.{slice_index, slice_get}
use Rattle.ol_net.specs.declared.parts.Kind.{Kind}
use Rattle.ol_net.specs.Parts.{arity}
use Rattle.ol_net.specs.Nets.{NamedNet}
use Rattle.ol_rules.specs.declared.journal.NodeName.{NodeName}
use Rattle.ol_rules.specs.declared.journal.NodeName.TheVariants.{Init, Born}
use Rattle.ol_rules.specs.Rewriting.{is_meeting}
use Rattle.ol_wire.specs.declared.layout.Parts.{Parts}
use Rattle.ol_wire.specs.declared.view.Link.{Link}
use Rattle.ol_wire.specs.declared.view.View.{View}
use Rattle.ol_wire.specs.References.{kind_in, wire_ref, slot_ref}
use Rattle.ol_wire.specs.Layout.{WordPart, ticket, live_word, port, field, wire, between, left}
use Rattle.ol_wire.specs.Layout.{right, entry, past, part_of_word, table_size}
use Rattle.ol_wire.specs.Events.{Event}
use Rattle.ol_wire.specs.Weights.{total}

abbrev pub same_name : NodeName → NodeName → Bool
same_name (Init m) (Init n) = nat_eq m n
same_name (Born t p) (Born u q) = nat_eq t u && nat_eq p q
same_name x y = false

-- whether the net has a node of that name
abbrev pub is_listed : NodeName → List (NodeName × Kind × ℕ) → Bool
is_listed x [] = false
is_listed x (n ∷ nodes) = same_name x n.0 || is_listed x nodes

abbrev pub is_live : NamedNet NodeName → NodeName → Bool
is_live net x = is_listed x net.nodes

-- whether a crossing made the wire of q and p
abbrev pub crosses_at : Option Event → ℕ → ℕ → Bool
crosses_at None q p = false
crosses_at (Some e) q p = not (is_meeting e.rule) && (nat_lt q (arity (kind_in e.g)) && nat_lt p (arity (kind_in e.f)))

-- whether the word is that of a wire that has been made
abbrev pub is_wire_made : List Event → WordPart → Bool
is_wire_made log (wire j) = true
is_wire_made log (between t q p) = crosses_at (slice_get log t) q p
is_wire_made log other = false

abbrev pub is_made : Parts → List Event → ℕ → Bool
is_made z log w = is_wire_made log (part_of_word z w)

-- how often the list has the number
abbrev pub times_in : ℕ → List ℕ → ℕ
times_in w ws = total (λ x. if nat_eq x w then 1 else 0) ws

-- how often a view has the wire of that word as dead
abbrev pub deaths : ℕ → List View → ℕ
deaths w views = total (λ (v : View). times_in w v.dead) views

-- a wire is reached from its making until an exchange makes it dead
abbrev pub is_reached : Parts → List Event → List View → ℕ → Bool
is_reached z log views w = is_made z log w && nat_eq (deaths w views) 0

-- the edge from an end to what a word holds, if it holds something
abbrev pub edge_to : ℕ → ℕ → List (ℕ × ℕ)
edge_to end word = if word == 0 then [] else (end, word) ∷ []

-- the edge of one word: `next` is the word after it
abbrev pub edge_in : NamedNet NodeName → Bool → WordPart → ℕ → ℕ → ℕ → List (ℕ × ℕ)
edge_in net reached (port k) w word next = edge_to (wire_ref w) word
edge_in net reached (field x s) w word next = if is_live net x then edge_to (slot_ref w) word else []
edge_in net reached (wire j) w word next = if reached then edge_to (wire_ref w) word else []
edge_in net reached (between t q p) w word next = if reached then edge_to (wire_ref w) word else []
edge_in net reached left w word next = if word == 0 then [] else (word, next) ∷ []
edge_in net reached right w word next = []
edge_in net reached entry w word next = []
edge_in net reached ticket w word next = []
edge_in net reached live_word w word next = []
edge_in net reached past w word next = []

-- The edges of the first n words: of each free port, each field of a live node, each reached wire
-- and each cell that isn't empty.
abbrev pub edges_in : Parts → NamedNet NodeName → (ℕ → Bool) → List ℕ → ℕ → List (ℕ × ℕ)
edges_in z net reached words zero = []
edges_in z net reached words (suc n) =
    edges_in z net reached words n
    ++ edge_in net (reached n) (part_of_word z n) n (slice_index words n) (slice_index words (suc n))

abbrev pub links_in : List Link → List (ℕ × ℕ)
links_in links = map (λ (l : Link). (l.one, l.two)) links

-- the pending links of the views
abbrev pub pending_in : List View → List (ℕ × ℕ)
pending_in [] = []
pending_in (v ∷ views) = links_in v.pending ++ pending_in views

-- All edges. In `words` each view's words are written already, and the pairs that the views have
-- claimed stand in their cells again.
abbrev pub edges_of : Parts → NamedNet NodeName → List Event → List ℕ → List View → List (ℕ × ℕ)
edges_of z net log words views = edges_in z net (is_reached z log views) words (table_size z) ++ pending_in views
