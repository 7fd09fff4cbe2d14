-- Each word of a start net that isn't empty holds a whole reference to a node, a wire or a free port of the start.
-- Used in Keeps.
use Rattle.std.proofs.Common.{◌≡◌, ◌≢◌, ℕ, zero, suc, ◌<◌, Bool, true, List, [], slice_index}
use Rattle.std.proofs.Common.{Option, Some, None, refl, sym, ap, ◌∙◌, subst, arith, inl, inr}
use Rattle.std.proofs.lemmas.Bool.{cases_lt}
use Rattle.ol_net.specs.declared.parts.Kind.{Kind}
use Rattle.ol_net.specs.declared.parts.NodeId.{NodeId}
use Rattle.ol_net.specs.declared.parts.Port.{Port}
use Rattle.ol_net.specs.declared.parts.Port.TheVariants.{Free, Of}
use Rattle.ol_net.specs.Graph.{Graph, has_port, partner_of}
use Rattle.ol_net.specs.Nets.{NamedNet, net_under}
use Rattle.ol_net.specs.Numbered.{net_of}
use Rattle.ol_rules.specs.declared.journal.NodeName.{NodeName}
use Rattle.ol_rules.specs.declared.journal.NodeName.TheVariants.{Init}
use Rattle.ol_wire.specs.declared.layout.Parts.{Parts}
use Rattle.ol_wire.specs.References.{node_ref, wire_ref, index_in, place_in, IsNodeRef, IsWholeRef}
use Rattle.ol_wire.specs.Layout.{part_of_word, port_word, start_node, start_wire, start_cell}
use Rattle.ol_wire.specs.Layout as part
use Rattle.ol_wire.specs.Starts.{facing_pairs}
use Rattle.ol_wire.specs.Laid.{node_word, field_to, wire_number}
use Rattle.ol_wire.specs.LaidWords.{word_to}
use Rattle.ol_wire.specs.Rule.{IsMadeRef}
use Rattle.ol_wire.proofs.InWords.References.{kind_of_ref, index_of_ref, place_of_ref}
use Rattle.ol_wire.proofs.InWords.References.{place_of_wire, node_sort, wire_sort}
use Rattle.ol_wire.proofs.InWords.Places.{part_port, part_field, part_start_cell}
use Rattle.ol_wire.proofs.Opening.Ports.{free_inside, of_inside}
use Rattle.ol_wire.proofs.Opening.Words.{sooner, not_sooner, not_zero}
use Rattle.ol_wire.proofs.Opening.Each.{pair_of}
use Rattle.ol_wire.proofs.Opening.Ends.{Live, live_of}
use Rattle.ol_wire.proofs.Opening.Sites.{Given, Where, where_at, first, second, port, field, wire, left, right, later}
use Rattle.ol_wire.proofs.Opening.Sites as sites
use Rattle.ol_wire.proofs.Opening.Stands.{num_small}
use Rattle.ol_law_edges.proofs.Lists.{get_there}

-- a reference is whole as it is made
pub node_whole : (k : Kind) (i place : ℕ) → i < 16777216 → IsWholeRef (node_ref k i place)
node_whole k i place small =
    let r = node_ref k i place in
    inl (sym (ap (λ l. node_ref l (index_in r) (place_in r)) (kind_of_ref k i place)
    ∙ ap (λ j. node_ref k j (place_in r)) (index_of_ref k i place small)
    ∙ ap (node_ref k i) (place_of_ref k i place small)))

pub wire_whole : (place : ℕ) → IsWholeRef (wire_ref place)
wire_whole place = inr (sym (ap wire_ref (place_of_wire place)))

-- the references of the start
node_made : (z : Parts) (k : Kind) (i n : ℕ) → i < 16777216 → n < z.nodes →
    IsMadeRef z [] (node_ref k i (start_node z n))
node_made z k i n small lt = (
  inl (node_sort k i (start_node z n)),
  node_whole k i (start_node z n) small,
  (let e = place_of_ref k i (start_node z n) small in omega (arith, e, lt)),
)

port_made : (z : Parts) (n : ℕ) → n < z.free → IsMadeRef z [] (wire_ref (port_word n))
port_made z n lt = (
  inr (wire_sort (port_word n)),
  wire_whole (port_word n),
  (let e = place_of_wire (port_word n) in omega (arith, e, lt)),
)

wire_made : (z : Parts) (j : ℕ) → j < z.wires → IsMadeRef z [] (wire_ref (start_wire z j))
wire_made z j lt = (
  inr (wire_sort (start_wire z j)),
  wire_whole (start_wire z j),
  (let e = place_of_wire (start_wire z j) in omega (arith, e, lt)),
)

module _ (net : Graph) (z : Parts) (words : List ℕ) (reached : ℕ → Bool)
    (g : Given net z words (net_under Init (net_of net)) reached) where
  abbrev N : NamedNet NodeName
  N = net_under Init (net_of net)

  abbrev Link : Port → Port → Type 0
  Link p q = partner_of net p ≡ Some q

  other_is : (p q : Port) → Link p q → has_port net.free net.nodes q ≡ true
  other_is p q e = sites.has_other net z words N reached g p q e

  -- what stands in the word of a node that has this slot, of a free port, and of a slot
  node_held : (n : NodeId) (s : ℕ) → has_port net.free net.nodes (Of n s) ≡ true → IsMadeRef z [] (node_word net z n.0)
  node_held n s h =
      let l = live_of net z g.low n s h in
      let b = of_inside net n s h in
      subst (λ r. IsMadeRef z [] r) (sym l.word) (node_made z l.kind l.index n.0 l.low (omega (arith, b.0, g.nodes)))

  port_held : (n : ℕ) (o : Option Port) → partner_of net (Free n) ≡ o → word_to net z n o ≢ 0 →
      IsMadeRef z [] (word_to net z n o)
  port_held n None e some = absurd (some refl)
  port_held n (Some (Free m)) e some = elim (cases_lt n m) [
    | inl lt ↦
        let b = free_inside net m (other_is (Free n) (Free m) e) in
        subst (λ r. IsMadeRef z [] r) (sym (sooner n m lt (wire_ref (port_word m)) 0))
        (port_made z m (omega (arith, b, g.free)))
    | inr le ↦ absurd (some (not_sooner n m le (wire_ref (port_word m)) 0))
  ]
  port_held n (Some (Of m zero)) e some = node_held m 0 (other_is (Free n) (Of m 0) e)
  port_held n (Some (Of m (suc s))) e some = absurd
      (some (not_zero (suc s) (λ q. omega (arith, q)) (node_word net z m.0) 0))

  field_held : (n : NodeId) (s : ℕ) (o : Option Port) → partner_of net (Of n (suc s)) ≡ o →
      field_to net z n.0 s o ≢ 0 → IsMadeRef z [] (field_to net z n.0 s o)
  field_held n s None e some = absurd (some refl)
  field_held n s (Some (Free m)) e some = let b = free_inside net m
      (other_is (Of n (suc s)) (Free m) e) in port_made z m (omega (arith, b, g.free))
  field_held n s (Some (Of m zero)) e some = node_held m 0 (other_is (Of n (suc s)) (Of m 0) e)
  field_held n s (Some (Of m (suc u))) e some =
      let w = wire_number net n.0 s m.0 (suc u) in
      subst (λ r. IsMadeRef z [] r) (sym (not_zero (suc u) (λ q. omega (arith, q))
      (node_word net z m.0) (wire_ref (start_wire z w))))
      (wire_made z w (num_small net z words reached g n m s u e))

  -- what stands in the two words of a cell
  record CellHolds (c : ℕ) : Type 0 where
    left_made : IsMadeRef z [] (slice_index words (start_cell z c))
    left_node : IsNodeRef (slice_index words (start_cell z c))
    right_made : IsMadeRef z [] (slice_index words (suc (start_cell z c)))
    right_node : IsNodeRef (slice_index words (suc (start_cell z c)))

  live_node : (n : ℕ) (x : ℕ) → Live net z n → x ≡ node_word net z n → IsNodeRef x
  live_node n x l e = subst IsNodeRef (sym (e ∙ l.word)) (node_sort l.kind l.index (start_node z n))

  cell_holds : (c : ℕ) → c < z.cells → CellHolds c
  cell_holds c lt =
      let x = get_there (facing_pairs net) c (omega (arith, lt, g.cells)) in
      let p = pair_of net c x.0 x.1 in
      let both = g.laid.cells c x.0 x.1 in
      let at_left : slice_index words (start_cell z c) ≡ node_word net z p.n = both.0
      ∙ ap (λ (w : ℕ × ℕ). node_word net z w.0) (sym p.is) in
      let at_right : slice_index words (suc (start_cell z c)) ≡ node_word net z p.m.0 = both.1
      ∙ ap (λ (w : ℕ × ℕ). node_word net z w.1) (sym p.is) in
      let one = sites.has net z words N reached g (Of (record { 0 = p.n }) 0) (Of p.m 0) p.linked in
      let two = other_is (Of (record { 0 = p.n }) 0) (Of p.m 0) p.linked in
      record {
        left_made = subst (λ r. IsMadeRef z [] r) (sym at_left) (node_held (record { 0 = p.n }) 0 one);
        left_node = live_node p.n (slice_index words (start_cell z c))
            (live_of net z g.low (record { 0 = p.n }) 0 one) at_left;
        right_made = subst (λ r. IsMadeRef z [] r) (sym at_right) (node_held p.m 0 two);
        right_node = live_node p.m.0 (slice_index words (suc (start_cell z c)))
            (live_of net z g.low p.m 0 two) at_right;
      }

  held_at : (w x : ℕ) → slice_index words w ≡ x → (x ≢ 0 → IsMadeRef z [] x) →
      slice_index words w ≢ 0 → IsMadeRef z [] (slice_index words w)
  held_at w x e h some = subst (λ r. IsMadeRef z [] r) (sym e) (h (λ q. some (e ∙ q)))

  pub start_refs : (w : ℕ) → 1 < w → slice_index words w ≢ 0 → IsMadeRef z [] (slice_index words w)
  start_refs w past some = go (where_at z w)
    where
      go : Where z w → IsMadeRef z [] (slice_index words w)
      go (first e) = absurd (some (ap (slice_index words) e ∙ g.laid.ticket))
      go (second e) = absurd (omega (arith, past, e))
      go (port n lt e) = held_at w (word_to net z n (partner_of net (Free n)))
          (ap (slice_index words) e ∙ g.laid.ports n lt) (port_held n (partner_of net (Free n)) refl) some
      go (field n s lt less e) =
          let q = partner_of net (Of (record { 0 = n }) (suc s)) in
          held_at w (field_to net z n s q) (ap (slice_index words) e ∙ g.laid.fields n s lt less)
          (field_held (record { 0 = n }) s q refl) some
      go (wire j lt e) = absurd (some (ap (slice_index words) e ∙ g.laid.wires j lt))
      go (left c lt e) = held_at w (slice_index words (start_cell z c)) (ap (slice_index words) e)
          (λ t. (cell_holds c lt).left_made) some
      go (right c lt e) = held_at w (slice_index words (suc (start_cell z c)))
          (ap (slice_index words) e) (λ t. (cell_holds c lt).right_made) some
      go (later ge) = absurd (some (g.laid.blocks w ge))

  -- the words of a cell hold nodes
  pub start_cells : (w : ℕ) → part_of_word z w ≡ part.left → slice_index words w ≢ 0 →
      IsNodeRef (slice_index words w) × IsNodeRef (slice_index words (suc w))
  start_cells w is some = go (where_at z w)
    where
      go : Where z w → IsNodeRef (slice_index words w) × IsNodeRef (slice_index words (suc w))
      go (first e) = absurd (some (ap (slice_index words) e ∙ g.laid.ticket))
      go (second e) = absurd (let bad : part.live_word ≡ part.left = sym (ap (part_of_word z) e) ∙ is in cc)
      go (port n lt e) = absurd (let bad : part.port n ≡ part.left = sym (part_port z n lt)
          ∙ ap (part_of_word z) (sym e) ∙ is in cc)
      go (field n s lt less e) = absurd (let bad : part.field (Init n) s ≡ part.left = sym
          (part_field z (Init n) s lt less) ∙ ap (part_of_word z) (sym e) ∙ is in cc)
      go (wire j lt e) = absurd (some (ap (slice_index words) e ∙ g.laid.wires j lt))
      go (left c lt e) = let h = cell_holds c lt in
          subst (λ v. IsNodeRef (slice_index words v) × IsNodeRef (slice_index words (suc v)))
          (sym e) (h.left_node, h.right_node)
      go (right c lt e) = absurd (let bad : part.right ≡ part.left = sym (part_start_cell z c lt).1
          ∙ ap (part_of_word z) (sym e) ∙ is in cc)
      go (later ge) = absurd (some (g.laid.blocks w ge))
