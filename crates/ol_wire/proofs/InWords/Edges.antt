-- The edges of the words before and after a ticket.
-- Used in LinkSteps, Opening and Ticket.
use Rattle.std.proofs.Common.{◌≡◌, ◌≢◌, ℕ, zero, suc, ◌+◌, ◌==◌, ◌<◌, ◌≤◌, Bool, true, false}
use Rattle.std.proofs.Common.{if◌then◌else◌, ne_eqb, get_or-set_other, List, [], ◌∷◌, ◌++◌}
use Rattle.std.proofs.Common.{slice_index, slice_set, ◌⊎◌, inl, inr, refl, sym, ap, ◌∙◌, arith}
use Rattle.ol_law_edges.specs.Edges.{IsIn}
use Rattle.ol_net.specs.declared.parts.Kind.{Kind}
use Rattle.ol_net.specs.Parts.{arity}
use Rattle.ol_net.specs.Nets.{NamedNet, HasNode}
use Rattle.ol_rules.specs.declared.journal.NodeName.{NodeName}
use Rattle.ol_rules.specs.declared.journal.NodeName.TheVariants.{Init, Born}
use Rattle.ol_rules.proofs.Born.{at_most_two}
use Rattle.ol_wire.specs.declared.layout.Parts.{Parts}
use Rattle.ol_wire.specs.References.{node_ref, wire_ref, slot_ref}
use Rattle.ol_wire.specs.Layout.{WordPart, ticket, live_word, port, field, wire, between, left}
use Rattle.ol_wire.specs.Layout.{right, entry, part_of_word, table_size, place_of, IsPlaced}
use Rattle.ol_wire.specs.Weights.{total, pairs}
use Rattle.ol_wire.specs.EvenWeights.{Even}
use Rattle.ol_wire.specs.Edges.{is_live, edge_to, edge_in, edges_in}
use Rattle.ol_wire.proofs.InWords.Places.{part_field, is_left, place_before, place_same, At, at_ticket, at_live}
use Rattle.ol_wire.proofs.InWords.Places.{at_port, at_field, at_wire, at_between, at_left, at_right, at_entry, at_past}
use Rattle.ol_wire.proofs.InWords.Places.{where_is}
use Rattle.ol_wire.proofs.InWords.Alike.{Alike, pairs_append}
use Rattle.ol_wire.proofs.Ticket.Event.{field_edges, old_edges}
use Rattle.ol_wire.proofs.InWords.EdgeList.{word_edge, live_there}
use Rattle.ol_wire.proofs.InWords.PlaceSums.{sum_to, AreApart, five_apart, sum_longer, sum_but, pairs_each}
use Rattle.ol_wire.proofs.Ticket.NetBut.{net_but, first_gone, second_gone, others_stay}

-- the edges weigh what the words' edges weigh together
pub edges_weigh : (h : ℕ → ℕ → ℕ) (z : Parts) (net : NamedNet NodeName) (reached : ℕ → Bool)
    (words : List ℕ) (n : ℕ) → pairs h (edges_in z net reached words n) ≡ sum_to
    (λ w. pairs h (word_edge z net reached words w)) n
edges_weigh h z net reached words zero = refl
edges_weigh h z net reached words (suc n) = omega (
  arith,
  pairs_append h (edges_in z net reached words n) (word_edge z net reached words n),
  edges_weigh h z net reached words n,
)

pub edge_some : (h : ℕ → ℕ → ℕ) (end word : ℕ) → word ≢ 0 → pairs h (edge_to end word) ≡ h end word
edge_some h end word d = ap (λ b. pairs h (if b then [] else (end, word) ∷ [])) (ne_eqb word 0 d)
    ∙ (let e : h end word + 0 ≡ h end word = omega arith in e)

pub edge_none : (end word : ℕ) → word ≡ 0 → edge_to end word ≡ []
edge_none end word e = ap (edge_to end) e

-- a name that came before a ticket is one that came before a later one
pub placed_later : (z : Parts) (t u : ℕ) (x : NodeName) → t ≤ u → IsPlaced z t x → IsPlaced z u x
placed_later z t u (Init k) le h = h
placed_later z t u (Born v i) le h = (omega (arith, h.0), h.1)

-- the edge of a word whose part is known
pub edge_as : (z : Parts) (net : NamedNet NodeName) (reached : ℕ → Bool) (words : List ℕ) (w : ℕ)
    (p : WordPart) → part_of_word z w ≡ p →
    word_edge z net reached words w ≡ edge_in net (reached w) p w (slice_index words w) (slice_index words (suc w))
edge_as z net reached words w p e = ap
    (λ p. edge_in net (reached w) p w (slice_index words w) (slice_index words (suc w))) e

-- The pair of x and y stands in the cell whose left word is w, either way round; the fields of x
-- hold a, and those of y hold b.
pub record PairStands (z : Parts) (N : NamedNet NodeName) (full : List ℕ) (x y : NodeName)
    (k l : Kind) (i j t w : ℕ) (a b : ℕ → ℕ) : Type 0 where
  pub drawn : t < z.fuel
  pub first : HasNode N x k i
  pub second : HasNode N y l j
  pub apart : x ≢ y
  pub first_placed : IsPlaced z t x
  pub second_placed : IsPlaced z t y
  pub cell : part_of_word z w ≡ left
  pub pair : ((slice_index full w ≡ node_ref k i (place_of z x))
      × (slice_index full (suc w) ≡ node_ref l j (place_of z y)))
      ⊎ ((slice_index full w ≡ node_ref l j (place_of z y)) × (slice_index full (suc w) ≡ node_ref k i (place_of z x)))
  pub a_there : (s : ℕ) → s < arity k → slice_index full (place_of z x + s) ≡ a s
  pub a_some : (s : ℕ) → s < arity k → a s ≢ 0
  pub a_none : (s : ℕ) → arity k ≤ s → s < 2 → slice_index full (place_of z x + s) ≡ 0
  pub b_there : (s : ℕ) → s < arity l → slice_index full (place_of z y + s) ≡ b s
  pub b_some : (s : ℕ) → s < arity l → b s ≢ 0
  pub b_none : (s : ℕ) → arity l ≤ s → s < 2 → slice_index full (place_of z y + s) ≡ 0

-- a word set to 0 is empty
pub emptied : (ws : List ℕ) (w : ℕ) → slice_index (slice_set ws w 0) w ≡ 0
emptied [] w = refl
emptied (x ∷ ws) zero = refl
emptied (x ∷ ws) (suc w) = emptied ws w

module _ (z : Parts) (N : NamedNet NodeName) (full : List ℕ) (reached : ℕ → Bool) (x y : NodeName)
    (k l : Kind) (i j t w : ℕ) (a b : ℕ → ℕ)
    (c : PairStands z N full x y k l i j t w a b) where
  abbrev rest : NamedNet NodeName
  rest = net_but x y N

  abbrev less : List ℕ
  less = slice_set full w 0

  -- the places of the pair and of its fields
  abbrev places : List ℕ
  places = w ∷ (place_of z x + 0) ∷ (place_of z x + 1) ∷ (place_of z y + 0) ∷ (place_of z y + 1) ∷ []

  x_there : IsPlaced z z.fuel x
  x_there = placed_later z t z.fuel x (omega (arith, c.drawn)) c.first_placed

  y_there : IsPlaced z z.fuel y
  y_there = placed_later z t z.fuel y (omega (arith, c.drawn)) c.second_placed

  cell_apart : (u : NodeName) (s : ℕ) → IsPlaced z z.fuel u → s < 2 → w ≢ place_of z u + s
  cell_apart u s p lt e =
      let f : part_of_word z w ≡ field u s = ap (part_of_word z) e ∙ part_field z u s p lt in
      let g : left ≡ field u s = sym c.cell ∙ f in
      absurd (cc)

  nodes_apart : (s u : ℕ) → s < 2 → u < 2 → place_of z x + s ≢ place_of z y + u
  nodes_apart s u hs hu e = c.apart (place_same z x y s u t c.first_placed c.second_placed hs hu e).0

  places_apart : AreApart places
  places_apart =
      let px = place_of z x in
      let py = place_of z y in
      five_apart w (px + 0) (px + 1) (py + 0) (py + 1) (cell_apart x 0 x_there (omega arith))
      (cell_apart x 1 x_there (omega arith)) (cell_apart y 0 y_there (omega arith))
      (cell_apart y 1 y_there (omega arith))
      (λ e. omega arith) (nodes_apart 0 0 (omega arith) (omega arith))
      (nodes_apart 0 1 (omega arith) (omega arith))
      (nodes_apart 1 0 (omega arith) (omega arith)) (nodes_apart 1 1 (omega arith) (omega arith)) (λ e. omega arith)

  places_below : (p : ℕ) → IsIn p places → p < table_size z
  places_below p (inl e) = omega (arith, e, (is_left z w c.cell).1)
  places_below p (inr (inl e)) = omega (arith, e, place_before z x t c.first_placed, c.drawn)
  places_below p (inr (inr (inl e))) = omega (arith, e, place_before z x t c.first_placed, c.drawn)
  places_below p (inr (inr (inr (inl e)))) = omega (arith, e, place_before z y t c.second_placed, c.drawn)
  places_below p (inr (inr (inr (inr (inl e))))) = omega (arith, e, place_before z y t c.second_placed, c.drawn)
  places_below p (inr (inr (inr (inr (inr h))))) = absurd h

  -- the words but w stay
  word_stays : (v : ℕ) → v ≢ w → slice_index full v ≡ slice_index less v
  word_stays v d = sym (get_or-set_other full w v 0 0 d)

  in_x : (v s : ℕ) → s < 2 → v ≡ place_of z x + s → IsIn v places
  in_x v zero lt e = inr (inl e)
  in_x v (suc zero) lt e = inr (inr (inl e))
  in_x v (suc (suc s)) lt e = absurd (omega arith)

  in_y : (v s : ℕ) → s < 2 → v ≡ place_of z y + s → IsIn v places
  in_y v zero lt e = inr (inr (inr (inl e)))
  in_y v (suc zero) lt e = inr (inr (inr (inr (inl e))))
  in_y v (suc (suc s)) lt e = absurd (omega arith)

  -- all other words have the same edges
  others_same : (v : ℕ) → v < table_size z → (IsIn v places → ⊥) → At z v →
      word_edge z N reached full v ≡ word_edge z rest reached less v
  others_same v lt n (at_ticket e) = let q : part_of_word z v ≡ ticket = ap (part_of_word z) e in
      edge_as z N reached full v ticket q ∙ sym (edge_as z rest reached less v ticket q)
  others_same v lt n (at_live e) = let q : part_of_word z v ≡ live_word = ap (part_of_word z) e in
      edge_as z N reached full v live_word q ∙ sym (edge_as z rest reached less v live_word q)
  others_same v lt n (at_port m b e q) = edge_as z N reached full v (port m) q
      ∙ ap (edge_to (wire_ref v)) (word_stays v (λ d. n (inl d))) ∙ sym (edge_as z rest reached less v (port m) q)
  others_same v lt n (at_field u s p b e q) =
      let live : is_live N u ≡ is_live rest u = sym
      (others_stay x y N u (λ d. n (in_x v s b (e ∙ ap (λ u. place_of z u + s) d)))
      (λ d. n (in_y v s b (e ∙ ap (λ u. place_of z u + s) d)))) in
      edge_as z N reached full v (field u s) q
      ∙ ap (λ b. if b then edge_to (slot_ref v) (slice_index full v) else []) live
      ∙ ap (λ word. if is_live rest u then edge_to (slot_ref v) word else []) (word_stays v (λ d. n (inl d)))
      ∙ sym (edge_as z rest reached less v (field u s) q)
  others_same v lt n (at_wire m b e q) = edge_as z N reached full v (wire m) q
      ∙ ap (λ word. if reached v then edge_to (wire_ref v) word else [])
      (word_stays v (λ d. n (inl d))) ∙ sym (edge_as z rest reached less v (wire m) q)
  others_same v lt n (at_between u m p a b d e q) =
      edge_as z N reached full v (between u m p) q
      ∙ ap (λ word. if reached v then edge_to (wire_ref v) word else [])
      (word_stays v (λ d. n (inl d))) ∙ sym (edge_as z rest reached less v (between u m p) q)
  others_same v lt n (at_left q q' b) =
      let behind : suc v ≢ w = λ e. let f : right ≡ left = sym q' ∙ ap (part_of_word z) e ∙ c.cell in absurd (cc) in
      edge_as z N reached full v left q ∙ ap
      (λ word. if word == 0 then [] else (word, slice_index full (suc v)) ∷ []) (word_stays v (λ d. n (inl d)))
      ∙ ap (λ next. if slice_index less v == 0 then [] else (slice_index less v, next) ∷ [])
      (word_stays (suc v) behind) ∙ sym (edge_as z rest reached less v left q)
  others_same v lt n (at_right q) = edge_as z N reached full v right q ∙ sym (edge_as z rest reached less v right q)
  others_same v lt n (at_entry u m a b e q) = edge_as z N reached full v entry q
      ∙ sym (edge_as z rest reached less v entry q)
  others_same v lt n (at_past ge) = absurd (omega arith)

  -- the edge of the cell
  cell_before : (h : ℕ → ℕ → ℕ) → Even h →
      pairs h (word_edge z N reached full w) ≡ h (node_ref k i (place_of z x)) (node_ref l j (place_of z y))
  cell_before h even = go c.pair
    where
      shown : (f g : ℕ) → slice_index full w ≡ f → slice_index full (suc w) ≡ g → f ≢ 0 →
          pairs h (word_edge z N reached full w) ≡ h f g
      shown f g p q d =
          ap (pairs h) (edge_as z N reached full w left c.cell
          ∙ ap (λ word. if word == 0 then [] else (word, slice_index full (suc w)) ∷ []) p
          ∙ ap (λ next. if f == 0 then [] else (f, next) ∷ []) q
          ∙ ap (λ b. if b then [] else (f, g) ∷ []) (ne_eqb f 0 d)) ∙ (let e : h f g + 0 ≡ h f g = omega arith in e)

      go : ((slice_index full w ≡ node_ref k i (place_of z x))
          × (slice_index full (suc w) ≡ node_ref l j (place_of z y)))
          ⊎ ((slice_index full w ≡ node_ref l j (place_of z y))
          × (slice_index full (suc w) ≡ node_ref k i (place_of z x)))
          → pairs h (word_edge z N reached full w) ≡ h (node_ref k i (place_of z x)) (node_ref l j (place_of z y))
      go (inl p) = shown (node_ref k i (place_of z x)) (node_ref l j (place_of z y)) p.0 p.1 (λ e. omega arith)
      go (inr p) = shown (node_ref l j (place_of z y)) (node_ref k i (place_of z x)) p.0 p.1
          (λ e. omega arith) ∙ even (node_ref l j (place_of z y)) (node_ref k i (place_of z x))

  cell_after : word_edge z rest reached less w ≡ []
  cell_after = edge_as z rest reached less w left c.cell
      ∙ ap (λ word. if word == 0 then [] else (word, slice_index less (suc w)) ∷ []) (emptied full w)

  -- the edges of fields of a node
  field_before : (u : NodeName) (s : ℕ) → IsPlaced z z.fuel u → s < 2 → is_live N u ≡ true →
      word_edge z N reached full (place_of z u + s) ≡ edge_to (slot_ref (place_of z u + s))
      (slice_index full (place_of z u + s))
  field_before u s p lt live = edge_as z N reached full (place_of z u + s) (field u s)
      (part_field z u s p lt) ∙ ap (λ b. if b then edge_to (slot_ref (place_of z u + s))
      (slice_index full (place_of z u + s)) else []) live

  field_after : (u : NodeName) (s : ℕ) → IsPlaced z z.fuel u → s < 2 → is_live rest u ≡ false →
      word_edge z rest reached less (place_of z u + s) ≡ []
  field_after u s p lt live = edge_as z rest reached less (place_of z u + s) (field u s)
      (part_field z u s p lt) ∙ ap (λ b. if b then edge_to (slot_ref (place_of z u + s))
      (slice_index less (place_of z u + s)) else []) live

  fields_weigh : (h : ℕ → ℕ → ℕ) (u : NodeName) (m : Kind) (held : ℕ → ℕ) → IsPlaced z z.fuel u →
      is_live N u ≡ true → ((s : ℕ) → s < arity m → slice_index full (place_of z u + s) ≡ held s)
      → ((s : ℕ) → s < arity m → held s ≢ 0) → ((s : ℕ) → arity m ≤ s → s < 2 → slice_index full (place_of z u + s) ≡ 0)
      → sum_to (λ s. pairs h (word_edge z N reached full (place_of z u + s))) 2 ≡ pairs h
      (field_edges (place_of z u) (arity m) held)
  fields_weigh h u m held p live there some none =
      let few : arity m ≤ 2 = at_most_two m in
      sum_longer (λ s. pairs h (word_edge z N reached full (place_of z u + s)))
      (λ s. pairs h ((slot_ref (place_of z u + s), held s) ∷ [])) (arity m) 2 few
      (λ s lt.
      let e : pairs h (word_edge z N reached full (place_of z u + s)) ≡ pairs h
      (edge_to (slot_ref (place_of z u + s)) (slice_index full (place_of z u + s))) = ap
      (pairs h) (field_before u s p (omega arith) live) in
      let f : pairs h (edge_to (slot_ref (place_of z u + s)) (held s)) ≡ h
      (slot_ref (place_of z u + s)) (held s) = edge_some h (slot_ref (place_of z u + s)) (held s) (some s lt) in
      let g : h (slot_ref (place_of z u + s)) (held s) ≡ h (slot_ref (place_of z u + s)) (held s) + 0 = omega arith in
      e ∙ ap (λ word. pairs h (edge_to (slot_ref (place_of z u + s)) word)) (there s lt) ∙ f ∙ g)
      (λ s ge lt. ap (pairs h) (field_before u s p lt live
      ∙ edge_none (slot_ref (place_of z u + s)) (slice_index full (place_of z u + s)) (none s ge lt)))
      ∙ sym (pairs_each h (arity m) (λ s. (slot_ref (place_of z u + s), held s) ∷ []))

  none_after : (h : ℕ → ℕ → ℕ) → total (λ v. pairs h (word_edge z rest reached less v)) places ≡ 0
  none_after h =
      let p : pairs h (word_edge z rest reached less w) ≡ 0 = ap (pairs h) cell_after in
      let q : (s : ℕ) → s < 2 → pairs h (word_edge z rest reached less
      (place_of z x + s)) ≡ 0 = λ s lt. ap (pairs h) (field_after x s x_there lt (first_gone x y N)) in
      let r : (s : ℕ) → s < 2 → pairs h (word_edge z rest reached less
      (place_of z y + s)) ≡ 0 = λ s lt. ap (pairs h) (field_after y s y_there lt (second_gone x y N)) in
      omega (arith, p, q 0 (omega arith), q 1 (omega arith), r 0 (omega arith), r 1 (omega arith))

  pub before : Alike (edges_in z N reached full (table_size z))
      (old_edges (node_ref k i (place_of z x)) (node_ref l j (place_of z y)) (place_of z x)
      (place_of z y) (arity k) (arity l) a b ++ edges_in z (net_but x y N) reached (slice_set full w 0) (table_size z))
  before h even =
      let F : ℕ → ℕ = λ v. pairs h (word_edge z N reached full v) in
      let G : ℕ → ℕ = λ v. pairs h (word_edge z rest reached less v) in
      let old : List (ℕ × ℕ) = old_edges (node_ref k i (place_of z x)) (node_ref l j (place_of z y))
      (place_of z x) (place_of z y) (arity k) (arity l) a b in
      let s : sum_to F (table_size z) + total G places ≡ sum_to G
      (table_size z) + total F places = sum_but F G
      (table_size z) places places_apart places_below
      (λ v lt n. ap (pairs h) (others_same v lt n (where_is z v))) in
      let whole : pairs h (edges_in z N reached full (table_size z)) ≡ sum_to F
      (table_size z) = edges_weigh h z N reached full (table_size z) in
      let part : pairs h (edges_in z rest reached less (table_size z)) ≡ sum_to G
      (table_size z) = edges_weigh h z rest reached less (table_size z) in
      let both : pairs h (old ++ edges_in z rest reached less
      (table_size z)) ≡ pairs h old + pairs h
      (edges_in z rest reached less (table_size z)) = pairs_append h old
      (edges_in z rest reached less (table_size z)) in
      let first : sum_to (λ s. F (place_of z x + s)) 2 ≡ pairs h
      (field_edges (place_of z x) (arity k) a) = fields_weigh h x k a x_there
      (live_there N x k i c.first) c.a_there c.a_some c.a_none in
      let second : sum_to (λ s. F (place_of z y + s)) 2 ≡ pairs h
      (field_edges (place_of z y) (arity l) b) = fields_weigh h y l b y_there
      (live_there N y l j c.second) c.b_there c.b_some c.b_none in
      let fields : pairs h (field_edges (place_of z x) (arity k) a ++ field_edges (place_of z y)
      (arity l) b) ≡ pairs h (field_edges (place_of z x) (arity k) a) + pairs h
      (field_edges (place_of z y) (arity l) b)
      = pairs_append h (field_edges (place_of z x) (arity k) a) (field_edges (place_of z y) (arity l) b) in
      let some : total F places ≡ pairs h old = omega (arith, cell_before h even, first, second, fields) in
      omega (arith, s, whole, part, both, none_after h, some)
