-- What holds of the words and the views between any two steps.
use Rattle.std.specs.Prelude.{◌≡◌, ◌≢◌, ℕ, suc, ◌+◌, ◌<◌, ◌≤◌, ◌==◌, ◌⊎◌, true, nat_eq}
use Rattle.std.specs.Prelude.{if◌then◌else◌, List, [], length, map, is_some, count_by, Some}
use Rattle.std.specs.Prelude.{slice_index, slice_get}
use mathlib.Core.Option.{some}
use lib.ListN.{get_elem?}
use Rattle.atomic_table.specs.Table.{State}
use Rattle.ol_law_edges.specs.Edges.{IsIn, bit}
use Rattle.ol_net.specs.declared.parts.Kind.{Kind}
use Rattle.ol_net.specs.Nets.{NamedNet, HasNode, IsNet}
use Rattle.ol_net.specs.Numbered.{net_of}
use Rattle.ol_net.specs.Indexes.{top_index_of}
use Rattle.ol_net.specs.Parts.{arity, is_eraser}
use Rattle.ol_rules.specs.declared.journal.NodeName.{NodeName}
use Rattle.ol_rules.specs.declared.journal.Entry.{Entry}
use Rattle.ol_rules.specs.Runs.{IsRun}
use Rattle.ol_net.specs.Pairs.{HasActive}
use Rattle.ol_wire.specs.declared.layout.Parts.{Parts}
use Rattle.ol_wire.specs.declared.plan.Plan.{Plan}
use Rattle.ol_wire.specs.declared.view.Link.{Link}
use Rattle.ol_wire.specs.declared.view.View.{View}
use Rattle.ol_wire.specs.References.{node_ref, place_in, IsNodeRef, IsRef, IsWholeRef}
use Rattle.ol_wire.specs.Starts.{facing_pairs, start_net_of_plan, AreParts}
use Rattle.ol_wire.specs.Laid.{field_of, node_word}
use Rattle.ol_wire.specs.Layout.{WordPart, field, left, right, entry, part_of_word, place_of}
use Rattle.ol_wire.specs.Layout.{start_node, start_cell, left_word, block, table_size, IsInBlock}
use Rattle.ol_wire.specs.Layout.{IsPlaced}
use Rattle.ol_wire.specs.Weights.{total, pairs, weighed_by_place, weigh, Empties}
use Rattle.ol_wire.specs.Events.{Event, rule_between, entry_of, IsStuckPair, IsPlayed}
use Rattle.ol_wire.specs.Blocks.{block_words}
use Rattle.ol_wire.specs.Sizes.{IsSmall}
use Rattle.ol_wire.specs.Edges.{is_made, is_reached, times_in, deaths, edges_of, links_in}
use Rattle.ol_wire.specs.Stands.{StandsForNet}
use Rattle.ol_wire.specs.Views.{IsSpentView, past_fuel}
use Rattle.ol_wire.specs.Plays.{cell_at}

abbrev pub Table : Type 0
Table = State (Unit {0}) View

abbrev pub entries_of : Parts → List Event → List Entry
entries_of z log = map (entry_of z) log

-- the view stands among the views
abbrev pub IsView : Table → View → Type 0
IsView s v = (id : ℕ) × (get_elem? s.views id ≡ some v)

-- the view has what the table was told when it was made
abbrev pub KnowsPlan : Plan → View → Type 0
KnowsPlan p v = (v.parts ≡ p.parts) × (v.seats ≡ p.seats) × (v.start ≡ p.start.value)

-- how many links are those of the cell with left word w
abbrev pub links_at : ℕ → List Link → ℕ
links_at w links = total (λ (l : Link). if nat_eq l.cell w then 1 else 0) links

-- how often the cell with left word w was published
abbrev pub times_published : Parts → ℕ → List View → ℕ
times_published z w views = total (λ (v : View). times_in (cell_at z w) v.published) views

-- whether a word holds something, as a number
abbrev pub filled : ℕ → ℕ
filled word = if word == 0 then 0 else 1

-- a word that never changes once it isn't empty: a field, or the right word of a cell
abbrev pub IsLasting : WordPart → Type 0
IsLasting (field x s) = Unit {0}
IsLasting right = Unit {0}
IsLasting other = ⊥

-- a word that the seat with the ticket writes before it makes links: a field, or a node of the entry
abbrev pub IsOwn : WordPart → Type 0
IsOwn (field x s) = Unit {0}
IsOwn entry = Unit {0}
IsOwn other = ⊥

-- The ticket word: it has the number of tickets, and at or above the fuel all have been drawn.
pub record Drawn (fuel word tickets : ℕ) : Type 0 where
  pub few : tickets ≤ fuel
  pub below : word < fuel → tickets ≡ word
  pub above : fuel ≤ word → tickets ≡ fuel

-- The start is a net, all its numbers are those of live nodes, and no index is great.
pub record IsStarted (p : Plan) : Type 0 where
  pub net : IsNet (net_of p.start.value)
  pub whole : count_by is_some p.start.value.nodes ≡ length p.start.value.nodes
  pub low : top_index_of p.start.value.nodes ≤ 1000000

-- The parts are those of this net, and so small that each number fits its word.
pub record PlanKeeps (p : Plan) : Type 0 where
  pub started : IsStarted p
  pub parts : AreParts p.start.value p.parts.fuel p.parts
  pub small : IsSmall p.parts
  pub seats : (0 < p.seats) × (p.seats ≤ 64)

-- The journal so far is a run of the start net, and this is the net after it.
pub record JournalKeeps (p : Plan) (log : List Event) (net : NamedNet NodeName) : Type 0 where
  pub run : IsRun (start_net_of_plan p) 0 (entries_of p.parts log) net
  -- each event has the references of the two nodes that it rewrote
  pub played : IsPlayed p.parts (start_net_of_plan p) 0 log net
  pub rules : (t : ℕ) (e : Event) → slice_get log t ≡ Some e → rule_between e.f e.g ≡ Some e.rule
  pub is_net : IsNet net
  pub ports : net.free_ports ≡ p.parts.free
  pub names : (x : NodeName) (k : Kind) (i : ℕ) → HasNode net x k i → IsPlaced p.parts (length log) x
  pub indexes : (x : NodeName) (k : Kind) (i : ℕ) → HasNode net x k i → i ≤ 1000000 + length log
  pub erasers : (x : NodeName) (k : Kind) (i : ℕ) → HasNode net x k i → is_eraser k ≡ true → i ≡ 0

-- a reference as it is written, to something that has been made
abbrev pub IsMadeRef : Parts → List Event → ℕ → Type 0
IsMadeRef z log r = IsRef r × IsWholeRef r × (place_in r < block z (length log))

-- the right word of a cell whose join is a pending link: it is empty, or the link is about to be published
abbrev pub IsRightOf : View → Link → ℕ → Type 0
IsRightOf v l word = (word ≡ 0) ⊎ (IsNodeRef l.one × IsNodeRef l.two × (word ≡ l.two) × (v.due ≡ []))

-- The cell of a pair of the start, by its left word: its nodes l and r, or r alone once the pair was claimed.
abbrev pub HoldsStart : List ℕ → ℕ → ℕ → ℕ → Type 0
HoldsStart full w l r = ((slice_index full w ≡ 0) ⊎ (slice_index full w ≡ l)) × (slice_index full (suc w) ≡ r)

-- The words, once each view has written what it holds, are `full`. A word that a view holds is
-- empty, and no other view holds it.
pub record WordsKeep (p : Plan) (s : Table) (log : List Event) (full : List ℕ) : Type 0 where
  pub wide : length s.words ≡ table_size p.parts
  pub full_wide : length full ≡ table_size p.parts
  pub written : (h : ℕ → ℕ → ℕ) → Empties h
      → weigh h s.words (table_size p.parts) + total
      (λ (v : View). pairs h v.due + pairs h v.taken) s.views ≡ weigh h full (table_size p.parts)
  -- each word behind the ticket word and the live word holds a reference, and the words of a cell hold nodes
  pub refs : (w : ℕ) → 1 < w → slice_index full w ≢ 0 → IsMadeRef p.parts log (slice_index full w)
  pub cells : (w : ℕ) → part_of_word p.parts w ≡ left → slice_index full w ≢ 0
      → IsNodeRef (slice_index full w) × IsNodeRef (slice_index full (suc w))
  -- a field of the start is as it was, and so is a cell, or its left word is empty
  pub fields : (n c : ℕ) → n < p.parts.nodes → c < 2
      → slice_index full (start_node p.parts n + c) ≡ field_of p.start.value p.parts n c
  pub starts : (c : ℕ) (n : ℕ × ℕ) → slice_get (facing_pairs p.start.value) c ≡ Some n
      → HoldsStart full (start_cell p.parts c) (node_word p.start.value p.parts n.0)
      (node_word p.start.value p.parts n.1)
  -- the blocks of tickets that weren't drawn are empty
  pub fresh : (w : ℕ) → block p.parts (length log) ≤ w → slice_index full w ≡ 0
  -- each other block begins with the nodes of its entry and the fields of the nodes that it made
  pub entries : (t j : ℕ) (e : Event) → slice_get log t ≡ Some e → j < 10
      → slice_index full (block p.parts t + j) ≡ slice_index (block_words p.parts e t) j
  -- what a view knows stands there
  pub known : (v : View) (w y : ℕ) → IsView s v → IsIn (w, y) v.known
      → (slice_index s.words w ≡ y) × (y ≢ 0) × IsLasting (part_of_word p.parts w)

-- one of the two nodes of an event
abbrev pub IsNodeOfEvent : ℕ → Event → Type 0
IsNodeOfEvent r e = (r ≡ e.f) ⊎ (r ≡ e.g)

-- ticket t rewrote the pair of the cell with left word w
abbrev pub IsUsedBy : Plan → List Event → List ℕ → ℕ → ℕ → Type 0
IsUsedBy p log full t w = (part_of_word p.parts w ≡ left) × (w < block p.parts t) × (slice_index full w ≡ 0)
    × ((e : Event) → slice_get log t ≡ Some e → IsNodeOfEvent (slice_index full (suc w)) e)

-- the cell with left word w holds no active pair
abbrev pub HoldsNoActive : List ℕ → ℕ → Type 0
HoldsNoActive full w = (slice_index full w ≡ 0) ⊎ IsStuckPair (slice_index full w) (slice_index full (suc w))

-- the cell of a pending link, in which nothing was published
abbrev pub IsUnpublished : Plan → List ℕ → List ℕ → View → Link → Type 0
IsUnpublished p from full v l = (part_of_word p.parts l.cell ≡ left) × (slice_index full l.cell ≡ 0)
    × IsRightOf v l (slice_index full (suc l.cell)) × ((t w : ℕ) → slice_get from t ≡ Some w → w ≢ l.cell)

-- The cells. `from` has, for each ticket, the left word of the cell whose pair it rewrote; that
-- word stays empty, and the right word stays one of the two nodes.
pub record CellsKeep (p : Plan) (s : Table) (log : List Event) (from full : List ℕ) : Type 0 where
  pub tickets : length from ≡ length log
  pub used : (t w : ℕ) → slice_get from t ≡ Some w → IsUsedBy p log full t w
  -- a cell whose join is a pending link hasn't been published, and has no other pending link
  pub unpublished : (v : View) (l : Link) → IsView s v → IsIn l v.pending → IsUnpublished p from full v l
  pub one_link : (w : ℕ) → total (λ (v : View). links_at w v.pending) s.views ≤ 1
  pub link_refs : (v : View) (l : Link) → IsView s v → IsIn l v.pending
      → IsMadeRef p.parts log l.one × IsMadeRef p.parts log l.two
  -- no cell that was swept holds an active pair, and none will be published
  pub swept : (v : View) (c : ℕ) → IsView s v → c < v.swept
      → (v.holds ≡ p.seats) × HoldsNoActive full (left_word p.parts c)
      × ((l : Link) → IsIn l v.pending → l.cell ≢ left_word p.parts c)
  -- a pair stands in the cell of a block, or was rewritten, as often as the cell is in a view's
  -- list of those that it published
  pub published : (w : ℕ) → part_of_word p.parts w ≡ left → block p.parts 0 ≤ w
      → times_published p.parts w s.views ≡ filled (slice_index full w) + times_in w from

-- a word of the block of a ticket that the view has drawn
abbrev pub IsInOwnBlock : Parts → View → ℕ → Type 0
IsInOwnBlock z v w = (t : ℕ) × (x : Entry) × IsIn (t, x) v.made × IsInBlock z t w

-- slot c + 1 of a node of the net whose reference is the first end of one of these links
abbrev pub IsLinkedField : Parts → NamedNet NodeName → List Link → NodeName → ℕ → Type 0
IsLinkedField z net links x c = (k : Kind) × (i : ℕ) × HasNode net x k i × (c < arity k) × (d : ℕ)
    × IsIn (node_ref k i (place_of z x), d) (links_in links)

-- The seats, and what each view holds, which is known to it alone.
pub record SeatsKeep (p : Plan) (s : Table) (log : List Event) (net : NamedNet NodeName) : Type 0 where
  pub all : total (λ (v : View). v.holds) s.views ≡ p.seats
  -- each seat draws one ticket at most at or above the fuel
  pub calm : slice_index s.words 0 ≤ p.parts.fuel + total past_fuel s.views
  pub over : (v : View) → IsView s v → v.over ≡ true → (p.parts.fuel ≤ slice_index s.words 0) × HasActive net
  pub plans : (v : View) → IsView s v → 0 < v.holds → KnowsPlan p v
  pub spent : (v : View) → IsView s v → v.holds ≡ 0 → IsSpentView v
  -- a claimed pair is that of a cell
  pub taken : (v : View) (w y : ℕ) → IsView s v → IsIn (w, y) v.taken → (part_of_word p.parts w ≡ left) × (y ≢ 0)
  -- what a view has to write and to link is in the block of its own ticket
  pub due : (v : View) (w y : ℕ) → IsView s v → IsIn (w, y) v.due
      → (y ≢ 0) × IsOwn (part_of_word p.parts w) × IsInOwnBlock p.parts v w
  pub links : (v : View) (l : Link) → IsView s v → IsIn l v.pending → IsInOwnBlock p.parts v l.cell
  -- a field that a view has to write is that of a live node, and the one edge at this node's slot 0
  -- is that of one of the view's own links
  pub due_fields : (v : View) (w y : ℕ) (x : NodeName) (c : ℕ) → IsView s v → IsIn (w, y) v.due
      → part_of_word p.parts w ≡ field x c → IsLinkedField p.parts net v.pending x c
  -- each ticket below the fuel is one view's
  pub made : (h : ℕ → Entry → ℕ) → total
      (λ (v : View). pairs h v.made) s.views ≡ weighed_by_place h 0 (entries_of p.parts log)
  -- a wire is dead in one view at most, and only where it was made
  pub dead : (w : ℕ) → deaths w s.views ≤ bit (is_made p.parts log w)

-- The rule.
pub record Kept (p : Plan) (s : Table) : Type 0 where
  pub log : List Event
  pub net : NamedNet NodeName
  pub full : List ℕ
  pub from : List ℕ
  pub plan : PlanKeeps p
  pub tickets : Drawn p.parts.fuel (slice_index s.words 0) (length log)
  pub journal : JournalKeeps p log net
  pub words : WordsKeep p s log full
  pub cells : CellsKeep p s log from full
  pub seats : SeatsKeep p s log net
  -- the edges of the words and of the pending links stand for the net
  pub stands : StandsForNet p.parts net (is_reached p.parts log s.views) (edges_of p.parts net log full s.views)
