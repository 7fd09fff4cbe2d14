-- The edge of each word of a start net: of what link it is, and where the edge of a link stands.
-- Used in Keeps, Refs and Stands.
use Rattle.std.proofs.Common.{◌≡◌, ◌≢◌, ℕ, zero, suc, ◌+◌, ◌-◌, ◌/◌, ◌%◌, ◌<◌, ◌≤◌, ◌==◌, nat_lt, if◌then◌else◌, true}
use Rattle.std.proofs.Common.{false, Bool, List, [], ◌∷◌, length, slice_index, Option, Some, None, refl, sym, ap, ◌∙◌}
use Rattle.std.proofs.Common.{arith, inl, inr, ◌⊎◌, eq-eqb, ne_eqb}
use Rattle.std.proofs.lemmas.Bool.{cases_eq, cases_lt}
use Rattle.ol_net.specs.declared.parts.Kind.{Kind}
use Rattle.ol_net.specs.declared.parts.NodeId.{NodeId}
use Rattle.ol_net.specs.declared.parts.Port.{Port}
use Rattle.ol_net.specs.declared.parts.Port.TheVariants.{Free, Of}
use Rattle.ol_net.specs.Graph.{Graph, IsTabled, kind_at, has_port, partner_of}
use Rattle.ol_net.specs.Nets.{NamedNet}
use Rattle.ol_net.specs.Indexes.{top_index_of}
use Rattle.ol_net.proofs.Numbered.{partner_of-parts, partner_of-back}
use Rattle.ol_rules.specs.declared.journal.NodeName.{NodeName}
use Rattle.ol_rules.specs.declared.journal.NodeName.TheVariants.{Init}
use Rattle.ol_wire.specs.declared.layout.Parts.{Parts}
use Rattle.ol_wire.specs.References.{wire_ref, slot_ref}
use Rattle.ol_wire.specs.Layout.{WordPart, part_of_word, port_word, start_node, start_wire, start_cell, block}
use Rattle.ol_wire.specs.Layout as part
use Rattle.ol_wire.specs.Edges.{is_live, edge_to, edge_in}
use Rattle.ol_wire.specs.Starts.{facing_pairs, aux_links}
use Rattle.ol_wire.specs.Laid.{node_word, field_to, field_of, wire_number}
use Rattle.ol_wire.specs.LaidWords.{word_to, word_of_port, IsLaid}
use Rattle.ol_wire.proofs.InWords.Places.{part_port, part_field, part_start_cell}
use Rattle.ol_wire.proofs.Opening.Ports.{free_inside, of_inside}
use Rattle.ol_wire.proofs.Opening.Words.{sooner, not_sooner, not_zero}
use Rattle.ol_wire.proofs.Opening.Each.{pair_get, pair_of, cell_number}
use Rattle.ol_wire.proofs.Opening.Ends.{end_of, live_of}
use Rattle.std.proofs.lemmas.Option.{slice_get_within}
use Rattle.ol_wire.proofs.InWords.Edges.{edge_none}
use Rattle.ol_law_edges.proofs.Lists.{get_there}

-- a net, its parts, and words that it is laid out in
pub record Given (net : Graph) (z : Parts) (words : List ℕ) (N : NamedNet NodeName) (reached : ℕ → Bool) : Type 0 where
  pub free : z.free ≡ net.free
  pub nodes : z.nodes ≡ length net.nodes
  pub wires : z.wires ≡ length (aux_links net)
  pub cells : z.cells ≡ length (facing_pairs net)
  pub low : top_index_of net.nodes ≤ 1000000
  pub tabled : IsTabled net.free net.nodes net.partners
  pub laid : IsLaid net z words
  pub live : (n : ℕ) (k : Kind) (i : ℕ) → kind_at net.nodes n ≡ Some (k, i) → is_live N (Init n) ≡ true
  pub reaches : (j : ℕ) → j < z.wires → reached (start_wire z j) ≡ true
  pub only : (w : ℕ) → reached w ≡ true → (j : ℕ) × (j < z.wires) × (w ≡ start_wire z j)

-- the two ports are not both auxiliary
abbrev pub Plain : Port → Port → Type 0
Plain (Of n (suc s)) (Of m (suc u)) = ⊥
Plain p q = Unit {0}

-- the word that has the edge of a link; of two auxiliary slots the first one's
abbrev pub seat : Graph → Parts → Port → Port → ℕ
seat net z (Of n (suc s)) q = start_node z n.0 + s
seat net z (Free n) (Free m) = if nat_lt n m then port_word n else port_word m
seat net z (Free n) (Of m zero) = port_word n
seat net z (Free n) (Of m (suc s)) = start_node z m.0 + s
seat net z (Of n zero) (Free m) = port_word m
seat net z (Of n zero) (Of m zero) = start_cell z (cell_number net (if nat_lt n.0 m.0 then n.0 else m.0))
seat net z (Of n zero) (Of m (suc s)) = start_node z m.0 + s

-- where a word stands
pub data Where (z : Parts) (w : ℕ) : Type 0 where
  first : w ≡ 0 → Where z w
  second : w ≡ 1 → Where z w
  port : (n : ℕ) → n < z.free → w ≡ port_word n → Where z w
  field : (n s : ℕ) → n < z.nodes → s < 2 → w ≡ start_node z n + s → Where z w
  wire : (j : ℕ) → j < z.wires → w ≡ start_wire z j → Where z w
  left : (c : ℕ) → c < z.cells → w ≡ start_cell z c → Where z w
  right : (c : ℕ) → c < z.cells → w ≡ suc (start_cell z c) → Where z w
  later : block z 0 ≤ w → Where z w

pub where_at : (z : Parts) (w : ℕ) → Where z w
where_at z w = elim (cases_eq w 0) [
  | inl e ↦ first e
  | inr some ↦ elim (cases_eq w 1) [
    | inl e ↦ second e
    | inr more ↦ elim (cases_lt w (start_node z 0)) [
      | inl a ↦ port (w - 2) (omega (arith, some, more, a)) (omega (arith, some, more))
      | inr a ↦ elim (cases_lt w (start_wire z 0)) [
        | inl b ↦ field ((w - start_node z 0) / 2) ((w - start_node z 0) % 2) (omega (arith, a, b))
            (omega arith) (omega (arith, a, b))
        | inr b ↦ elim (cases_lt w (start_cell z 0)) [
          | inl d ↦ wire (w - start_wire z 0) (omega (arith, b, d)) (omega (arith, b, d))
          | inr d ↦ elim (cases_lt w (block z 0)) [
            | inl f ↦ elim (cases_eq ((w - start_cell z 0) % 2) 0) [
              | inl even ↦ left ((w - start_cell z 0) / 2) (omega (arith, d, f, even)) (omega (arith, d, even))
              | inr odd ↦ right ((w - start_cell z 0) / 2) (omega (arith, d, f, odd)) (omega (arith, d, odd))
            ]
            | inr f ↦ later f
          ]
        ]
      ]
    ]
  ]
]

edge_some : (end word : ℕ) → word ≢ 0 → edge_to end word ≡ (end, word) ∷ []
edge_some end word some = ap (λ b. if b then [] else (end, word) ∷ []) (ne_eqb word 0 some)

if_none : (b : Bool) (xs : List (ℕ × ℕ)) → xs ≡ [] → (if b then xs else []) ≡ []
if_none true xs e = e
if_none false xs e = refl

pub empty_edge : (N : NamedNet NodeName) (r : Bool) (p : WordPart) (w word next : ℕ) → word ≡ 0 →
    edge_in N r p w word next ≡ []
empty_edge N r part.ticket w word next e = refl
empty_edge N r part.live_word w word next e = refl
empty_edge N r (part.port k) w word next e = edge_none (wire_ref w) word e
empty_edge N r (part.field x s) w word next e = if_none (is_live N x) (edge_to (slot_ref w) word)
    (edge_none (slot_ref w) word e)
empty_edge N r (part.wire j) w word next e = if_none r (edge_to (wire_ref w) word) (edge_none (wire_ref w) word e)
empty_edge N r (part.between t q p) w word next e = if_none r (edge_to (wire_ref w) word)
    (edge_none (wire_ref w) word e)
empty_edge N r part.left w word next e = ap (λ b. if b then [] else (word, next) ∷ []) (eq-eqb word 0 e)
empty_edge N r part.right w word next e = refl
empty_edge N r part.entry w word next e = refl
empty_edge N r part.past w word next e = refl

module _ (net : Graph) (z : Parts) (words : List ℕ) (N : NamedNet NodeName) (reached : ℕ → Bool)
    (g : Given net z words N reached) where
  abbrev pub edge : ℕ → List (ℕ × ℕ)
  edge w = edge_in N (reached w) (part_of_word z w) w (slice_index words w) (slice_index words (suc w))

  abbrev pub Link : Port → Port → Type 0
  Link p q = partner_of net p ≡ Some q

  abbrev pub EdgeIs : ℕ → ℕ → ℕ → Type 0
  EdgeIs w x y = (edge w ≡ (x, y) ∷ []) ⊎ (edge w ≡ (y, x) ∷ [])

  pub back : (p q : Port) → Link p q → Link q p
  back p q e = (partner_of-back net p q g.tabled e).0

  pub other : (p q : Port) → Link p q → q ≢ p
  other p q e = (partner_of-back net p q g.tabled e).1

  pub has : (p q : Port) → Link p q → has_port net.free net.nodes p ≡ true
  has p q e = (partner_of-parts net p q e).0

  pub has_other : (p q : Port) → Link p q → has_port net.free net.nodes q ≡ true
  has_other p q e = has q p (back p q e)

  node_some : (n : NodeId) (s : ℕ) (q : Port) → Link (Of n s) q → node_word net z n.0 ≢ 0
  node_some n s q e zero_word = let l = live_of net z g.low n s (has (Of n s) q e) in
      let w = l.word in omega (arith, w, zero_word)

  port_edge : (n x : ℕ) (q : Port) → Link (Free n) q → word_of_port net z n ≡ x → x ≢ 0 →
      edge (port_word n) ≡ (wire_ref (port_word n), x) ∷ []
  port_edge n x q e is some =
      let lt : n < z.free = let b = free_inside net n (has (Free n) q e) in omega (arith, b, g.free) in
      let w = port_word n in
      let word : slice_index words w ≡ x = g.laid.ports n lt ∙ is in
      ap (λ pt. edge_in N (reached w) pt w (slice_index words w) (slice_index words (suc w)))
      (part_port z n lt) ∙ ap (edge_to (wire_ref w)) word ∙ edge_some (wire_ref w) x some

  field_edge : (n : NodeId) (s x : ℕ) (q : Port) → Link (Of n (suc s)) q →
      field_of net z n.0 s ≡ x → x ≢ 0 → edge (start_node z n.0 + s) ≡ (slot_ref (start_node z n.0 + s), x) ∷ []
  field_edge n s x q e is some =
      let h = has (Of n (suc s)) q e in
      let b = of_inside net n (suc s) h in
      let lt : n.0 < z.nodes = omega (arith, b.0, g.nodes) in
      let small : s < 2 = omega (arith, b.1) in
      let w = start_node z n.0 + s in
      let word : slice_index words w ≡ x = g.laid.fields n.0 s lt small ∙ is in
      let l = live_of net z g.low n (suc s) h in
      ap (λ pt. edge_in N (reached w) pt w (slice_index words w) (slice_index words (suc w)))
      (part_field z (Init n.0) s lt small)
      ∙ ap (λ b. if b then edge_to (slot_ref w) (slice_index words w) else []) (g.live n.0 l.kind l.index l.is)
      ∙ ap (edge_to (slot_ref w)) word ∙ edge_some (slot_ref w) x some

  cell_edge : (n m : NodeId) → Link (Of n 0) (Of m 0) → n.0 < m.0 →
      edge (start_cell z (cell_number net n.0)) ≡ (node_word net z n.0, node_word net z m.0) ∷ []
  cell_edge n m e less =
      let b = of_inside net n 0 (has (Of n 0) (Of m 0) e) in
      let c = cell_number net n.0 in
      let get = pair_get net n.0 m e less b.0 in
      let lt : c < z.cells = let t = slice_get_within (facing_pairs net) c (n.0, m.0) get in
      omega (arith, t, g.cells) in
      let w = start_cell z c in
      let both = g.laid.cells c (n.0, m.0) get in
      ap (λ pt. edge_in N (reached w) pt w (slice_index words w) (slice_index words (suc w)))
      (part_start_cell z c lt).0 ∙ ap (λ x. if x == 0 then [] else (x, slice_index words (suc w)) ∷ []) both.0
      ∙ ap (λ b. if b then [] else (node_word net z n.0, slice_index words (suc w)) ∷ [])
      (ne_eqb (node_word net z n.0) 0 (node_some n 0 (Of m 0) e)) ∙ ap (λ y. (node_word net z n.0, y) ∷ []) both.1

  -- the edge of a link of two ports that aren't both auxiliary
  pub at_seat : (p q : Port) → Link p q → Plain p q → EdgeIs (seat net z p q) (end_of net z p) (end_of net z q)
  at_seat (Free n) (Free m) e plain = elim (cases_lt n m) [
    | inl lt ↦ inl (ap edge (sooner n m lt (port_word n) (port_word m))
        ∙ port_edge n (wire_ref (port_word m)) (Free m) e
        (ap (word_to net z n) e ∙ sooner n m lt (wire_ref (port_word m)) 0) (λ t. omega (arith, t)))
    | inr le ↦
        let r = back (Free n) (Free m) e in
        let less : m < n = elim (cases_eq n m) [
          | inl q ↦ absurd
              (other (Free n) (Free m) e (ap Free (sym q)))
          | inr d ↦ omega (arith, le, d)
        ] in
        inr (ap edge (not_sooner n m le (port_word n) (port_word m))
        ∙ port_edge m (wire_ref (port_word n)) (Free n) r
        (ap (word_to net z m) r ∙ sooner m n less (wire_ref (port_word n)) 0) (λ t. omega (arith, t)))
  ]
  at_seat (Free n) (Of m zero) e plain = inl
      (port_edge n (node_word net z m.0) (Of m 0) e (ap (word_to net z n) e)
      (node_some m 0 (Free n) (back (Free n) (Of m 0) e)))
  at_seat (Free n) (Of m (suc s)) e plain = let r = back (Free n) (Of m (suc s)) e in
      inr (field_edge m s (wire_ref (port_word n)) (Free n) r (ap (field_to net z m.0 s) r) (λ t. omega (arith, t)))
  at_seat (Of n zero) (Free m) e plain = let r = back (Of n 0) (Free m) e in
      inr (port_edge m (node_word net z n.0) (Of n 0) r (ap (word_to net z m) r) (node_some n 0 (Free m) e))
  at_seat (Of n zero) (Of m zero) e plain = elim (cases_lt n.0 m.0) [
    | inl lt ↦ inl (ap (λ k. edge (start_cell z (cell_number net k))) (sooner n.0 m.0 lt n.0 m.0) ∙ cell_edge n m e lt)
    | inr le ↦
        let r = back (Of n 0) (Of m 0) e in
        let less : m.0 < n.0 = elim (cases_eq n.0 m.0) [
          | inl q ↦ absurd
              (other (Of n 0) (Of m 0) e (ap (λ (k : ℕ). Of (record { 0 = k }) 0)
              (sym q)))
          | inr d ↦ omega (arith, le, d)
        ] in
        inr (ap (λ k. edge (start_cell z (cell_number net k))) (not_sooner n.0 m.0 le n.0 m.0) ∙ cell_edge m n r less)
  ]
  at_seat (Of n zero) (Of m (suc s)) e plain = let r = back (Of n 0) (Of m (suc s)) e in
      inr (field_edge m s (node_word net z n.0) (Of n 0) r (ap (field_to net z m.0 s) r)
      (node_some n 0 (Of m (suc s)) e))
  at_seat (Of n (suc s)) (Free m) e plain = inl
      (field_edge n s (wire_ref (port_word m)) (Free m) e (ap (field_to net z n.0 s) e) (λ t. omega (arith, t)))
  at_seat (Of n (suc s)) (Of m zero) e plain = inl
      (field_edge n s (node_word net z m.0) (Of m 0) e (ap (field_to net z n.0 s) e)
      (node_some m 0 (Of n (suc s)) (back (Of n (suc s)) (Of m 0) e)))
  at_seat (Of n (suc s)) (Of m (suc u)) e plain = absurd plain

  -- one of the two edges of a link of two auxiliary slots, which its wire joins
  abbrev pub wire_end : NodeId → ℕ → NodeId → ℕ → ℕ
  wire_end n s m u = wire_ref (start_wire z (wire_number net n.0 s m.0 (suc u)))

  pub at_half : (n m : NodeId) (s u : ℕ) → Link (Of n (suc s)) (Of m (suc u)) →
      edge (start_node z n.0 + s) ≡ (slot_ref (start_node z n.0 + s), wire_end n s m u) ∷ []
  at_half n m s u e = field_edge n s (wire_end n s m u) (Of m (suc u)) e
      (ap (field_to net z n.0 s) e ∙ not_zero (suc u) (λ q. omega (arith, q)) (node_word net z m.0)
      (wire_end n s m u)) (λ t. omega (arith, t))

  -- of what link the edge of a word is
  pub data Found (w : ℕ) : Type 0 where
    none : edge w ≡ [] → Found w
    direct : (p q : Port) → Link p q → Plain p q → w ≡ seat net z p q → Found w
    half : (n m : NodeId) (s u : ℕ) → Link (Of n (suc s)) (Of m (suc u)) → w ≡ start_node z n.0 + s → Found w

  empty : (w : ℕ) → slice_index words w ≡ 0 → Found w
  empty w e = none (empty_edge N (reached w) (part_of_word z w) w (slice_index words w) (slice_index words (suc w)) e)

  found_port : (w n : ℕ) → w ≡ port_word n → slice_index words w ≡ word_of_port net z n →
      (o : Option Port) → partner_of net (Free n) ≡ o → Found w
  found_port w n at is None e = empty w (is ∙ ap (word_to net z n) e)
  found_port w n at is (Some (Free m)) e = elim (cases_lt n m) [
    | inl lt ↦ direct (Free n) (Free m) e tt (at ∙ sym (sooner n m lt (port_word n) (port_word m)))
    | inr le ↦ empty w (is ∙ ap (word_to net z n) e ∙ not_sooner n m le (wire_ref (port_word m)) 0)
  ]
  found_port w n at is (Some (Of m zero)) e = direct (Free n) (Of m 0) e tt at
  found_port w n at is (Some (Of m (suc s))) e = empty w
      (is ∙ ap (word_to net z n) e ∙ not_zero (suc s) (λ q. omega (arith, q)) (node_word net z m.0) 0)

  found_field : (w n s : ℕ) → w ≡ start_node z n + s → slice_index words w ≡ field_of net z n s →
      (o : Option Port) → partner_of net (Of (record { 0 = n }) (suc s)) ≡ o → Found w
  found_field w n s at is None e = empty w (is ∙ ap (field_to net z n s) e)
  found_field w n s at is (Some (Free m)) e = direct (Of (record { 0 = n }) (suc s)) (Free m) e tt at
  found_field w n s at is (Some (Of m zero)) e = direct (Of (record { 0 = n }) (suc s)) (Of m 0) e tt at
  found_field w n s at is (Some (Of m (suc u))) e = half (record { 0 = n }) m s u e at

  found_cell : (w c : ℕ) → c < z.cells → w ≡ start_cell z c → Found w
  found_cell w c lt at =
      let x = get_there (facing_pairs net) c (omega (arith, lt, g.cells)) in
      let p = pair_of net c x.0 x.1 in
      direct (Of (record { 0 = p.n }) 0) (Of p.m 0) p.linked tt
      (at ∙ ap (start_cell z) p.number ∙ ap (λ k. start_cell z (cell_number net k))
      (sym (sooner p.n p.m.0 p.less p.n p.m.0)))

  right_edge : (w c : ℕ) → c < z.cells → w ≡ suc (start_cell z c) → edge w ≡ []
  right_edge w c lt at = ap edge at ∙ ap
      (λ pt. edge_in N (reached (suc (start_cell z c))) pt (suc (start_cell z c))
      (slice_index words (suc (start_cell z c))) (slice_index words (suc (suc (start_cell z c)))))
      (part_start_cell z c lt).1

  pub found : (w : ℕ) → Found w
  found w = go (where_at z w)
    where
      go : Where z w → Found w
      go (first e) = empty w (ap (slice_index words) e ∙ g.laid.ticket)
      go (second e) = none (ap edge e)
      go (port n lt e) = found_port w n e (ap (slice_index words) e ∙ g.laid.ports n lt) (partner_of net (Free n)) refl
      go (field n s lt small e) = found_field w n s e
          (ap (slice_index words) e ∙ g.laid.fields n s lt small) (partner_of net (Of (record { 0 = n }) (suc s))) refl
      go (wire j lt e) = empty w (ap (slice_index words) e ∙ g.laid.wires j lt)
      go (left c lt e) = found_cell w c lt e
      go (right c lt e) = none (right_edge w c lt e)
      go (later ge) = empty w (g.laid.blocks w ge)
