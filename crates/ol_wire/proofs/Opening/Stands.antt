-- The edges of the words of a start net stand for the net.
-- Used in Keeps and Refs.
use Rattle.std.proofs.Common.{◌≡◌, ◌≢◌, ℕ, zero, suc, ◌+◌, ◌-◌, ◌*◌, ◌<◌, nat_eq, nat_lt, true}
use Rattle.std.proofs.Common.{Bool, List, [], ◌∷◌, length, slice_index, Some, refl, sym, ap, ◌∙◌}
use Rattle.std.proofs.Common.{subst, arith, inl, inr, ◌⊎◌, eq-eqb, ne_eqb, if◌then◌else◌}
use Rattle.std.specs.Prelude.{◌↔◌}
use Rattle.std.proofs.lemmas.Bool.{cases_eq, cases_lt}
use Rattle.ol_law_edges.specs.Edges.{IsIn, EdgeOf, Joined, here, on, back, ends, Contracted}
use Rattle.ol_net.specs.declared.parts.NodeId.{NodeId}
use Rattle.ol_net.specs.declared.parts.Port.{Port}
use Rattle.ol_net.specs.declared.parts.Port.TheVariants.{Free, Of}
use Rattle.ol_net.specs.Graph.{Graph, has_port, partner_of}
use Rattle.ol_net.specs.Nets.{NamedPort, NamedNet, Linked, net_under}
use Rattle.ol_net.specs.Numbered.{net_of}
use Rattle.ol_net.proofs.Numbered.{partner_of-there}
use Rattle.ol_rules.specs.declared.journal.NodeName.{NodeName}
use Rattle.ol_rules.specs.declared.journal.NodeName.TheVariants.{Init}
use Rattle.ol_rules.specs.Listed.{each}
use Rattle.ol_wire.specs.declared.layout.Parts.{Parts}
use Rattle.ol_wire.specs.References.{wire_ref, slot_ref}
use Rattle.ol_wire.specs.Layout.{part_of_word, port_word, start_node, start_wire, start_cell, table_size}
use Rattle.ol_wire.specs.Edges.{edge_in}
use Rattle.ol_wire.specs.Stands.{IsEnd, IsWireEnd, StandsForNet}
use Rattle.ol_wire.specs.Starts.{aux_links}
use Rattle.ol_wire.specs.Laid.{wire_number, wires_before}
use Rattle.ol_wire.proofs.InWords.References.{wire_same, node_not_wire, wire_not_slot}
use Rattle.ol_wire.proofs.Opening.Ports.{free_inside, of_inside}
use Rattle.ol_wire.proofs.Opening.Words.{sooner, not_sooner}
use Rattle.ol_wire.proofs.Opening.Each.{IsFirst, wire_get, wire_of, wire_one, cell_number}
use Rattle.ol_wire.proofs.Opening.Ends.{end_of, named, live_of, end_same, end_port, port_end, link_named}
use Rattle.ol_wire.proofs.Opening.Counts.{one_place, two_places, some_place, in_row, row_of}
use Rattle.ol_wire.proofs.Opening.Sites.{Given, Plain, seat, Found, none, direct, half, found}
use Rattle.ol_wire.proofs.Opening.Sites.{at_seat, at_half, empty_edge}
use Rattle.ol_wire.proofs.Opening.Sites as sites
use Rattle.std.proofs.lemmas.Option.{slice_get_within}

-- an edge has the ends that it names
hit_first : (e x y : ℕ) → e ≡ x → e ≢ y → ends nat_eq e ((x, y) ∷ []) ≡ 1
hit_first e x y a b = rw (eq-eqb e x a, ne_eqb e y b) refl

hit_second : (e x y : ℕ) → e ≢ x → e ≡ y → ends nat_eq e ((x, y) ∷ []) ≡ 1
hit_second e x y a b = rw (ne_eqb e x a, eq-eqb e y b) refl

missed : (e x y : ℕ) → e ≢ x → e ≢ y → ends nat_eq e ((x, y) ∷ []) ≡ 0
missed e x y a b = rw (ne_eqb e x a, ne_eqb e y b) refl

hit_one : (e x y : ℕ) → 0 < ends nat_eq e ((x, y) ∷ []) → (e ≡ x) ⊎ (e ≡ y)
hit_one e x y h = elim (cases_eq e x) [
  | inl a ↦ inl a
  | inr a ↦ elim (cases_eq e y) [ inl b ↦ inr b | inr b ↦ absurd (let z = missed e x y a b in omega (arith, h, z)) ]
]

seat_swapped : (net : Graph) (z : Parts) (p q : Port) → Plain p q → seat net z p q ≡ seat net z q p
seat_swapped net z (Free n) (Free m) plain = turned n m
  where
    turned : (n m : ℕ) → (if nat_lt n m then port_word n else port_word m) ≡
        (if nat_lt m n then port_word m else port_word n)
    turned n m = elim (cases_lt n m) [
      | inl lt ↦ sooner n m lt (port_word n) (port_word m)
          ∙ sym (not_sooner m n (omega (arith, lt)) (port_word m) (port_word n))
      | inr le ↦ not_sooner n m le (port_word n) (port_word m) ∙ elim (cases_eq n m) [
        | inl e ↦ sym (not_sooner m n (omega (arith, e)) (port_word m) (port_word n) ∙ ap port_word e)
        | inr d ↦ sym (sooner m n (omega (arith, le, d)) (port_word m) (port_word n))
      ]
    ]
seat_swapped net z (Free n) (Of m zero) plain = refl
seat_swapped net z (Free n) (Of m (suc s)) plain = refl
seat_swapped net z (Of n zero) (Free m) plain = refl
seat_swapped net z (Of n zero) (Of m zero) plain = ap (λ k. start_cell z (cell_number net k)) (turned n.0 m.0)
  where
    turned : (n m : ℕ) → (if nat_lt n m then n else m) ≡ (if nat_lt m n then m else n)
    turned n m = elim (cases_lt n m) [
      | inl lt ↦ sooner n m lt n m ∙ sym (not_sooner m n (omega (arith, lt)) m n)
      | inr le ↦ not_sooner n m le n m ∙ elim (cases_eq n m) [
        | inl e ↦ sym (not_sooner m n (omega (arith, e)) m n ∙ e)
        | inr d ↦ sym (sooner m n (omega (arith, le, d)) m n)
      ]
    ]
seat_swapped net z (Of n zero) (Of m (suc s)) plain = refl
seat_swapped net z (Of n (suc s)) (Free m) plain = refl
seat_swapped net z (Of n (suc s)) (Of m zero) plain = refl
seat_swapped net z (Of n (suc s)) (Of m (suc u)) plain = absurd plain

plain_swapped : (p q : Port) → Plain p q → Plain q p
plain_swapped (Free n) (Free m) h = tt
plain_swapped (Free n) (Of m s) h = swap m s n
  where
    swap : (m : NodeId) (s n : ℕ) → Plain (Of m s) (Free n)
    swap m zero n = tt
    swap m (suc s) n = tt
plain_swapped (Of n zero) (Free m) h = tt
plain_swapped (Of n (suc s)) (Free m) h = tt
plain_swapped (Of n zero) (Of m zero) h = tt
plain_swapped (Of n zero) (Of m (suc u)) h = tt
plain_swapped (Of n (suc s)) (Of m zero) h = tt
plain_swapped (Of n (suc s)) (Of m (suc u)) h = h

-- both are auxiliary
record Both (p q : Port) : Type 0 where
  n : NodeId
  m : NodeId
  s : ℕ
  u : ℕ
  first : p ≡ Of n (suc s)
  second : q ≡ Of m (suc u)

plain_or : (p q : Port) → Plain p q ⊎ Both p q
plain_or (Free n) (Free m) = inl tt
plain_or (Free n) (Of m zero) = inl tt
plain_or (Free n) (Of m (suc u)) = inl tt
plain_or (Of n zero) (Free m) = inl tt
plain_or (Of n (suc s)) (Free m) = inl tt
plain_or (Of n zero) (Of m zero) = inl tt
plain_or (Of n zero) (Of m (suc u)) = inl tt
plain_or (Of n (suc s)) (Of m zero) = inl tt
plain_or (Of n (suc s)) (Of m (suc u)) = inr (record { n = n; m = m; s = s; u = u; first = refl; second = refl })

same_some : (p q : Port) → Some p ≡ Some q → p ≡ q
same_some p q e = cc

not_empty : (es : List (ℕ × ℕ)) (x y : ℕ) → es ≡ (x, y) ∷ [] → es ≡ [] → ⊥
not_empty es x y a b = let l : length es ≡ 1 = ap length a in let n : length es ≡ 0 = ap length b in omega (arith, l, n)

module _ (net : Graph) (z : Parts) (words : List ℕ) (reached : ℕ → Bool)
    (g : Given net z words (net_under Init (net_of net)) reached) where
  abbrev N : NamedNet NodeName
  N = net_under Init (net_of net)

  abbrev edge : ℕ → List (ℕ × ℕ)
  edge w = edge_in N (reached w) (part_of_word z w) w (slice_index words w) (slice_index words (suc w))

  abbrev Link : Port → Port → Type 0
  Link p q = partner_of net p ≡ Some q

  abbrev EdgeIs : ℕ → ℕ → ℕ → Type 0
  EdgeIs w x y = (edge w ≡ (x, y) ∷ []) ⊎ (edge w ≡ (y, x) ∷ [])

  abbrev end : Port → ℕ
  end p = end_of net z p

  abbrev IsPortOf : Port → Type 0
  IsPortOf p = has_port net.free net.nodes p ≡ true

  -- the wire of a link of two auxiliary slots
  abbrev num : NodeId → ℕ → NodeId → ℕ → ℕ
  num n s m u = wire_number net n.0 s m.0 (suc u)

  abbrev wire_end : NodeId → ℕ → NodeId → ℕ → ℕ
  wire_end n s m u = wire_ref (start_wire z (num n s m u))

  turn : (p q : Port) → Link p q → Link q p
  turn p q e = sites.back net z words N reached g p q e

  has : (p q : Port) → Link p q → IsPortOf p
  has p q e = sites.has net z words N reached g p q e

  has_other : (p q : Port) → Link p q → IsPortOf q
  has_other p q e = sites.has_other net z words N reached g p q e

  one_partner : (p q r : Port) → Link p q → Link p r → q ≡ r
  one_partner p q r a b = same_some q r (sym a ∙ b)

  same_port : (p q : Port) → IsPortOf p → IsPortOf q → end p ≡ end q → p ≡ q
  same_port p q a b e = end_same net z g.low p q a b e

  ends_apart : (p q : Port) → Link p q → end p ≢ end q
  ends_apart p q l e = sites.other net z words N reached g p q l (sym (same_port p q (has p q l) (has_other p q l) e))

  not_wire : (p : Port) (j : ℕ) → IsPortOf p → end p ≢ wire_ref (start_wire z j)
  not_wire (Free n) j h e = let lt = free_inside net n h in
      let w = wire_same (port_word n) (start_wire z j) e in omega (arith, lt, w, g.free)
  not_wire (Of n zero) j h e = let l = live_of net z g.low n 0 h in
      node_not_wire l.kind l.index (start_node z n.0) (start_wire z j) (sym l.word ∙ e)
  not_wire (Of n (suc s)) j h e = wire_not_slot (start_wire z j) (start_node z n.0 + s) (sym e)

  small_slot : (n : NodeId) (s : ℕ) → IsPortOf (Of n (suc s)) → (n.0 < length net.nodes) × (s < 2)
  small_slot n s h = let b = of_inside net n (suc s) h in (b.0, omega (arith, b.1))

  -- Which of the two slots comes first, and so has the number of the wire.
  ordered : (n m : NodeId) (s u : ℕ) → Link (Of n (suc s)) (Of m (suc u)) →
      (IsFirst net n.0 s m (suc u) × (num n s m u ≡ wires_before net n.0 s))
      ⊎ (IsFirst net m.0 u n (suc s) × (num n s m u ≡ wires_before net m.0 u))
  ordered n m s u l = elim (cases_lt (3 * n.0 + suc s) (3 * m.0 + suc u)) [
    | inl lt ↦ inl (
      record { linked = l; auxiliary = λ q. omega (arith, q); sooner = lt },
      sooner (3 * n.0 + suc s) (3 * m.0 + suc u) lt _ _,
    )
    | inr le ↦
        let a = small_slot n s (has (Of n (suc s)) (Of m (suc u)) l) in
        let b = small_slot m u (has_other (Of n (suc s)) (Of m (suc u)) l) in
        let less : 3 * m.0 + suc u < 3 * n.0 + suc s = elim (cases_eq (3 * m.0 + suc u) (3 * n.0 + suc s)) [
          | inl q ↦ absurd (ends_apart (Of n (suc s)) (Of m (suc u)) l
              (ap slot_ref (let t : start_node z n.0 + s ≡ start_node z m.0 + u = omega (arith, q, a, b) in t)))
          | inr d ↦ omega (arith, le, d)
        ] in
        let down : suc u - 1 ≡ u = omega arith in
        inr (
          record {
            linked = turn (Of n (suc s)) (Of m (suc u)) l;
            auxiliary = λ q. omega (arith, q);
            sooner = less;
          },
          not_sooner (3 * n.0 + suc s) (3 * m.0 + suc u) le _ _ ∙ ap (wires_before net m.0) down,
        )
  ]

  first_small : (n m : NodeId) (s u : ℕ) → IsFirst net n.0 s m u → (n.0 < length net.nodes) × (s < 2)
  first_small n m s u f = small_slot n s (has (Of n (suc s)) (Of m u) f.linked)

  same_first : (n m n' m' : NodeId) (s u s' u' : ℕ) → IsFirst net n.0 s m u →
      IsFirst net n'.0 s' m' u' → wires_before net n.0 s ≡ wires_before net n'.0 s' → Of n (suc s) ≡ Of n' (suc s')
  same_first n m n' m' s u s' u' f f' e =
      let a = first_small n m s u f in
      let b = first_small n' m' s' u' f' in
      let o = wire_one net n.0 s m u n'.0 s' m' u' f a.0 a.1 f' b.0 b.1 e in
      ap (λ (k : ℕ). Of (record { 0 = k }) (suc s)) o.0 ∙ ap (λ k. Of n' (suc k)) o.1

  -- two slots of one wire are the same, or partners
  num_same : (n m n' m' : NodeId) (s u s' u' : ℕ) → Link (Of n (suc s)) (Of m (suc u)) →
      Link (Of n' (suc s')) (Of m' (suc u')) → num n s m u ≡ num n' s' m' u' →
      (Of n (suc s) ≡ Of n' (suc s')) ⊎ (Of n (suc s) ≡ Of m' (suc u'))
  num_same n m n' m' s u s' u' l l' e = go (ordered n m s u l) (ordered n' m' s' u' l')
    where
      r : Link (Of m (suc u)) (Of n (suc s))
      r = turn (Of n (suc s)) (Of m (suc u)) l

      r' : Link (Of m' (suc u')) (Of n' (suc s'))
      r' = turn (Of n' (suc s')) (Of m' (suc u')) l'

      go : (IsFirst net n.0 s m (suc u) × (num n s m u ≡ wires_before net n.0 s))
          ⊎ (IsFirst net m.0 u n (suc s) × (num n s m u ≡ wires_before net m.0 u))
          → (IsFirst net n'.0 s' m' (suc u') × (num n' s' m' u' ≡ wires_before net n'.0 s'))
          ⊎ (IsFirst net m'.0 u' n' (suc s') × (num n' s' m' u' ≡ wires_before net m'.0 u')) →
          (Of n (suc s) ≡ Of n' (suc s')) ⊎ (Of n (suc s) ≡ Of m' (suc u'))
      go (inl a) (inl b) = inl (same_first n m n' m' s (suc u) s' (suc u') a.0 b.0 (sym a.1 ∙ e ∙ b.1))
      go (inl a) (inr b) = inr (same_first n m m' n' s (suc u) u' (suc s') a.0 b.0 (sym a.1 ∙ e ∙ b.1))
      go (inr a) (inl b) = inr (one_partner (Of m (suc u)) (Of n (suc s)) (Of m' (suc u')) r
          (ap (partner_of net) (same_first m n n' m' u (suc s) s' (suc u') a.0 b.0 (sym a.1 ∙ e ∙ b.1)) ∙ l'))
      go (inr a) (inr b) = inl (one_partner (Of m (suc u)) (Of n (suc s)) (Of n' (suc s')) r
          (ap (partner_of net) (same_first m n m' n' u (suc s) u' (suc s') a.0 b.0 (sym a.1 ∙ e ∙ b.1)) ∙ r'))

  num_swapped : (n m : NodeId) (s u : ℕ) → Link (Of n (suc s)) (Of m (suc u)) → num n s m u ≡ num m u n s
  num_swapped n m s u l = elim (cases_lt (3 * n.0 + suc s) (3 * m.0 + suc u)) [
    | inl lt ↦
        let down : suc s - 1 ≡ s = omega arith in
        sooner (3 * n.0 + suc s) (3 * m.0 + suc u) lt (wires_before net n.0 s) (wires_before net m.0 (suc u - 1))
        ∙ sym (not_sooner (3 * m.0 + suc u) (3 * n.0 + suc s) (omega (arith, lt))
        (wires_before net m.0 u) (wires_before net n.0 (suc s - 1)) ∙ ap (wires_before net n.0) down)
    | inr le ↦ elim (ordered m n u s (turn (Of n (suc s)) (Of m (suc u)) l)) [
      | inl f ↦
          let down : suc u - 1 ≡ u = omega arith in
          not_sooner (3 * n.0 + suc s) (3 * m.0 + suc u) le (wires_before net n.0 s)
          (wires_before net m.0 (suc u - 1)) ∙ ap (wires_before net m.0) down ∙ sym f.1
      | inr f ↦ absurd (let t = f.0.sooner in omega (arith, le, t))
    ]
  ]

  pub num_small : (n m : NodeId) (s u : ℕ) → Link (Of n (suc s)) (Of m (suc u)) → num n s m u < z.wires
  num_small n m s u l = elim (ordered n m s u l) [
    | inl f ↦
        let a = first_small n m s (suc u) f.0 in
        let t = slice_get_within (aux_links net) (wires_before net n.0 s) (n.0, suc s)
        (wire_get net n.0 s m (suc u) f.0 a.0 a.1) in
        let e = f.1 in
        omega (arith, e, t, g.wires)
    | inr f ↦
        let a = first_small m n u (suc s) f.0 in
        let t = slice_get_within (aux_links net) (wires_before net m.0 u) (m.0, suc u)
        (wire_get net m.0 u n (suc s) f.0 a.0 a.1) in
        let e = f.1 in
        omega (arith, e, t, g.wires)
  ]

  within : (w x y : ℕ) → edge w ≡ (x, y) ∷ [] → w < table_size z
  within w x y e = elim (cases_lt w (table_size z)) [
    | inl lt ↦ lt
    | inr le ↦
        absurd (not_empty (edge w) x y e (empty_edge N (reached w) (part_of_word z w) w
        (slice_index words w) (slice_index words (suc w)) (g.laid.blocks w (omega (arith, le)))))
  ]

  edge_within : (w x y : ℕ) → EdgeIs w x y → w < table_size z
  edge_within w x y (inl e) = within w x y e
  edge_within w x y (inr e) = within w y x e

  at : (p q : Port) → Link p q → Plain p q → EdgeIs (seat net z p q) (end p) (end q)
  at p q l plain = at_seat net z words N reached g p q l plain

  at_slot : (n m : NodeId) (s u : ℕ) → Link (Of n (suc s)) (Of m (suc u)) →
      edge (start_node z n.0 + s) ≡ (slot_ref (start_node z n.0 + s), wire_end n s m u) ∷ []
  at_slot n m s u l = at_half net z words N reached g n m s u l

  -- The end of a port stands at one word.
  hit_edge : (w e x y : ℕ) → e ≡ x → e ≢ y → EdgeIs w x y → ends nat_eq e (edge w) ≡ 1
  hit_edge w e x y a b (inl q) = ap (ends nat_eq e) q ∙ hit_first e x y a b
  hit_edge w e x y a b (inr q) = ap (ends nat_eq e) q ∙ hit_second e y x b a

  miss_edge : (w e x y : ℕ) → e ≢ x → e ≢ y → EdgeIs w x y → ends nat_eq e (edge w) ≡ 0
  miss_edge w e x y a b (inl q) = ap (ends nat_eq e) q ∙ missed e x y a b
  miss_edge w e x y a b (inr q) = ap (ends nat_eq e) q ∙ missed e y x b a

  edge_at : (w v x y : ℕ) → w ≡ v → EdgeIs v x y → EdgeIs w x y
  edge_at w v x y e (inl q) = inl (ap edge e ∙ q)
  edge_at w v x y e (inr q) = inr (ap edge e ∙ q)

  seat_of_slot : (n m : NodeId) (s u : ℕ) → Of n (suc s) ≡ Of m (suc u) → start_node z n.0 + s ≡ start_node z m.0 + u
  seat_of_slot n m s u e = ap (λ p. seat net z p p) e

  seat_of : (p q : Port) (n : NodeId) (s : ℕ) → p ≡ Of n (suc s) → seat net z p q ≡ start_node z n.0 + s
  seat_of p q n s e = ap (λ p. seat net z p q) e

  port_missed : (p q : Port) → Link p q → (v : ℕ) → v ≢ seat net z p q →
      Found net z words N reached g v → ends nat_eq (end p) (edge v) ≡ 0
  port_missed p q l v away (none e) = ap (ends nat_eq (end p)) e
  port_missed p q l v away (direct p' q' l' plain e) =
      miss_edge v (end p) (end p') (end q')
      (λ same.
      let a = same_port p p' (has p q l) (has p' q' l') same in
      let b = one_partner p' q q' (ap (partner_of net) (sym a) ∙ l) l' in
      away (e ∙ ap (λ r. seat net z r q') (sym a) ∙ ap (seat net z p) (sym b)))
      (λ same.
      let a = same_port p q' (has p q l) (has_other p' q' l') same in
      let b = one_partner q' q p' (ap (partner_of net) (sym a) ∙ l) (turn p' q' l') in
      away (e ∙ seat_swapped net z p' q' plain ∙ ap (λ r. seat net z r p') (sym a) ∙ ap (seat net z p) (sym b)))
      (edge_at v (seat net z p' q') (end p') (end q') e (at p' q' l' plain))
  port_missed p q l v away (half n m s u l' e) =
      miss_edge v (end p) (slot_ref (start_node z n.0 + s)) (wire_end n s m u)
      (λ same. let a = same_port p (Of n (suc s)) (has p q l)
      (has (Of n (suc s)) (Of m (suc u)) l') same in away (e ∙ sym (seat_of p q n s a)))
      (not_wire p (num n s m u) (has p q l))
      (edge_at v (start_node z n.0 + s) (slot_ref (start_node z n.0 + s)) (wire_end n s m u) e
      (inl (at_slot n m s u l')))

  found_at : (v : ℕ) → Found net z words N reached g v
  found_at v = found net z words N reached g v

  port_once : (p q : Port) → Link p q → ends nat_eq (end p) (each (table_size z) edge) ≡ 1
  port_once p q l = elim (plain_or p q) [
    | inl plain ↦
        let h = at p q l plain in
        one_place edge (end p) (table_size z) (seat net z p q) 1
        (edge_within (seat net z p q) (end p) (end q) h)
        (hit_edge (seat net z p q) (end p) (end p) (end q) refl (ends_apart p q l) h)
        (λ v lt away. port_missed p q l v away (found_at v))
    | inr b ↦
        let l' : Link (Of b.n (suc b.s)) (Of b.m (suc b.u)) = ap (partner_of net) (sym b.first) ∙ l
        ∙ ap (λ r. Some r) b.second in
        let w = start_node z b.n.0 + b.s in
        let at_w = seat_of p q b.n b.s b.first in
        let h = at_slot b.n b.m b.s b.u l' in
        let e : end p ≡ slot_ref w = ap end b.first in
        one_place edge (end p) (table_size z) w 1
        (within w (slot_ref w) (wire_end b.n b.s b.m b.u) h)
        (hit_edge w (end p) (slot_ref w) (wire_end b.n b.s b.m b.u) e
        (not_wire p (num b.n b.s b.m b.u) (has p q l)) (inl h))
        (λ v lt away. port_missed p q l v (λ t. away (t ∙ at_w)) (found_at v))
  ]

  -- The end of a wire stands at the fields of its two slots.
  record WireFound (j : ℕ) : Type 0 where
    n : NodeId
    m : NodeId
    s : ℕ
    u : ℕ
    linked : Link (Of n (suc s)) (Of m (suc u))
    number : num n s m u ≡ j
    sooner : start_node z n.0 + s < start_node z m.0 + u

  wire_slot : (n m : NodeId) (s v : ℕ) (j : ℕ) → IsFirst net n.0 s m v → j ≡ wires_before net n.0 s → WireFound j
  wire_slot n m s zero j f e = absurd (f.auxiliary refl)
  wire_slot n m s (suc u) j f e =
      let a = small_slot n s (has (Of n (suc s)) (Of m (suc u)) f.linked) in
      let b = small_slot m u (has_other (Of n (suc s)) (Of m (suc u)) f.linked) in
      let lt = f.sooner in
      record {
        n = n;
        m = m;
        s = s;
        u = u;
        linked = f.linked;
        number = sooner (3 * n.0 + suc s) (3 * m.0 + suc u) f.sooner (wires_before net n.0 s)
            (wires_before net m.0 (suc u - 1)) ∙ sym e;
        sooner = omega (arith, lt, a, b);
      }

  wire_found : (j : ℕ) → j < z.wires → WireFound j
  wire_found j lt = let w = wire_of net j (omega (arith, lt, g.wires)) in
      wire_slot (record { 0 = w.n }) w.m w.s w.u j w.first w.number

  wire_missed : (j : ℕ) (f : WireFound j) (v : ℕ) → v ≢ start_node z f.n.0 + f.s →
      v ≢ start_node z f.m.0 + f.u → Found net z words N reached g v →
      ends nat_eq (wire_ref (start_wire z j)) (edge v) ≡ 0
  wire_missed j f v a b (none e) = ap (ends nat_eq (wire_ref (start_wire z j))) e
  wire_missed j f v a b (direct p q l plain e) =
      miss_edge v (wire_ref (start_wire z j)) (end p) (end q)
      (λ same. not_wire p j (has p q l) (sym same))
      (λ same. not_wire q j (has_other p q l) (sym same))
      (edge_at v (seat net z p q) (end p) (end q) e (at p q l plain))
  wire_missed j f v a b (half n m s u l e) =
      miss_edge v (wire_ref (start_wire z j)) (slot_ref (start_node z n.0 + s)) (wire_end n s m u)
      (wire_not_slot (start_wire z j) (start_node z n.0 + s))
      (λ same.
      let w = wire_same (start_wire z j) (start_wire z (num n s m u)) same in
      let fn = f.number in
      let eq : num n s m u ≡ num f.n f.s f.m f.u = omega (arith, w, fn) in
      elim (num_same n m f.n f.m s u f.s f.u l f.linked eq) [
        | inl o ↦ a (e ∙ seat_of_slot n f.n s f.s o)
        | inr o ↦ b (e ∙ seat_of_slot n f.m s f.u o)
      ])
      (edge_at v (start_node z n.0 + s) (slot_ref (start_node z n.0 + s)) (wire_end n s m u) e
      (inl (at_slot n m s u l)))

  hit_wire : (j : ℕ) (n m : NodeId) (s u : ℕ) → Link (Of n (suc s)) (Of m (suc u)) →
      num n s m u ≡ j → ends nat_eq (wire_ref (start_wire z j)) (edge (start_node z n.0 + s)) ≡ 1
  hit_wire j n m s u l e =
      ap (ends nat_eq (wire_ref (start_wire z j))) (at_slot n m s u l)
      ∙ hit_second (wire_ref (start_wire z j)) (slot_ref (start_node z n.0 + s)) (wire_end n s m u)
      (wire_not_slot (start_wire z j) (start_node z n.0 + s)) (ap (λ k. wire_ref (start_wire z k)) (sym e))

  wire_twice : (j : ℕ) → j < z.wires → ends nat_eq (wire_ref (start_wire z j)) (each (table_size z) edge) ≡ 2
  wire_twice j lt =
      let f = wire_found j lt in
      let r = turn (Of f.n (suc f.s)) (Of f.m (suc f.u)) f.linked in
      let w = start_node z f.n.0 + f.s in
      let v = start_node z f.m.0 + f.u in
      two_places edge (wire_ref (start_wire z j)) (table_size z) w v 1 1 f.sooner
      (within v (slot_ref v) (wire_end f.m f.u f.n f.s) (at_slot f.m f.n f.u f.s r))
      (hit_wire j f.n f.m f.s f.u f.linked f.number)
      (hit_wire j f.m f.n f.u f.s r (sym (num_swapped f.n f.m f.s f.u f.linked) ∙ f.number))
      (λ u less a b. wire_missed j f u a b (found_at u))

  -- What stands at an edge is the end of a port or of a wire.
  abbrev Known : ℕ → Type 0
  Known e = ((p : NamedPort NodeName) × IsEnd z N p e) ⊎ IsWireEnd reached e

  known_port : (p : Port) (e : ℕ) → IsPortOf p → e ≡ end p → Known e
  known_port p e h q = inl (named p, subst (λ d. IsEnd z N (named p) d) (sym q) (port_end net z g.low p h))

  known_edge : (e w x y : ℕ) → 0 < ends nat_eq e (edge w) → EdgeIs w x y → (e ≡ x) ⊎ (e ≡ y)
  known_edge e w x y h (inl q) = hit_one e x y (let t = ap (ends nat_eq e) q in omega (arith, h, t))
  known_edge e w x y h (inr q) = elim (hit_one e y x
      (let t = ap (ends nat_eq e) q in omega (arith, h, t))) [ inl a ↦ inr a | inr a ↦ inl a ]

  known_at : (e v : ℕ) → 0 < ends nat_eq e (edge v) → Found net z words N reached g v → Known e
  known_at e v h (none q) = absurd (let t = ap (ends nat_eq e) q in omega (arith, h, t))
  known_at e v h (direct p q l plain at_v) = elim
      (known_edge e v (end p) (end q) h (edge_at v (seat net z p q) (end p) (end q) at_v (at p q l plain))) [
        | inl a ↦ known_port p e (has p q l) a
        | inr a ↦ known_port q e (has_other p q l) a
      ]
  known_at e v h (half n m s u l at_v) =
      elim (known_edge e v (slot_ref (start_node z n.0 + s)) (wire_end n s m u) h
      (edge_at v (start_node z n.0 + s) (slot_ref (start_node z n.0 + s))
      (wire_end n s m u) at_v (inl (at_slot n m s u l)))) [
        | inl a ↦ known_port (Of n (suc s)) e (has (Of n (suc s)) (Of m (suc u)) l) a
        | inr a ↦ inr (start_wire z (num n s m u), g.reaches (num n s m u) (num_small n m s u l), a)
      ]

  known_all : (e : ℕ) → 0 < ends nat_eq e (each (table_size z) edge) → Known e
  known_all e h = let r = some_place edge e (table_size z) h in known_at e r.0 r.2 (found_at r.0)

  -- What is joined by edges is of one link.
  abbrev all_edges : List (ℕ × ℕ)
  all_edges = each (table_size z) edge

  not_wire_end : (p : Port) → IsPortOf p → IsWireEnd reached (end p) → ⊥
  not_wire_end p h (w, r, e) = let j = g.only w r in not_wire p j.0 h (e ∙ ap wire_ref j.2)

  in_edge : (w x y : ℕ) → edge w ≡ (x, y) ∷ [] → IsIn {X = ℕ × ℕ} (x, y) all_edges
  in_edge w x y e = in_row edge (x, y) (table_size z) w (within w x y e) (there e)
    where
      there : edge w ≡ (x, y) ∷ [] → IsIn {X = ℕ × ℕ} (x, y) (edge w)
      there e = subst (λ (l : List (ℕ × ℕ)). IsIn {X = ℕ × ℕ} (x, y) l) (sym e) (inl refl)

  plain_joined : (w x y : ℕ) → EdgeIs w x y → Joined (EdgeOf all_edges) x y
  plain_joined w x y (inl e) = on here (in_edge w x y e)
  plain_joined w x y (inr e) = back here (in_edge w y x e)

  wire_joined : (n m : NodeId) (s u : ℕ) → Link (Of n (suc s)) (Of m (suc u)) →
      Joined (EdgeOf all_edges) (end (Of n (suc s))) (end (Of m (suc u)))
  wire_joined n m s u l =
      let r = turn (Of n (suc s)) (Of m (suc u)) l in
      let w = start_node z n.0 + s in
      let v = start_node z m.0 + u in
      let a : IsIn {X = ℕ × ℕ} (slot_ref w, wire_end n s m u) all_edges = in_edge w (slot_ref w)
      (wire_end n s m u) (at_slot n m s u l) in
      let b : IsIn {X = ℕ × ℕ} (slot_ref v, wire_end n s m u) all_edges =
      in_edge v (slot_ref v) (wire_end n s m u)
      (at_slot m n u s r ∙ ap (λ k. (slot_ref v, wire_ref (start_wire z k)) ∷ []) (sym (num_swapped n m s u l))) in
      back (on here a) b

  joined_of : (p q : Port) → Link p q → Joined (EdgeOf all_edges) (end p) (end q)
  joined_of p q l = elim (plain_or p q) [
    | inl plain ↦ plain_joined (seat net z p q) (end p) (end q) (at p q l plain)
    | inr b ↦
        let l' : Link (Of b.n (suc b.s)) (Of b.m (suc b.u)) = ap (partner_of net) (sym b.first) ∙ l
        ∙ ap (λ r. Some r) b.second in
        subst (λ x. Joined (EdgeOf all_edges) x (end q)) (ap end (sym b.first))
        (subst (λ y. Joined (EdgeOf all_edges) (end (Of b.n (suc b.s))) y)
        (ap end (sym b.second)) (wire_joined b.n b.m b.s b.u l'))
  ]

  contracted_of : (p q : Port) → Link p q → Contracted (EdgeOf all_edges) (IsWireEnd reached) (end p) (end q)
  contracted_of p q l = record {
    first = not_wire_end p (has p q l);
    second = not_wire_end q (has_other p q l);
    apart = ends_apart p q l;
    joined = joined_of p q l;
  }

  -- v stands at the link of p: it is the end of one of its two ports, or of its wire
  data OfLink (p : Port) (v : ℕ) : Type 0 where
    own : v ≡ end p → OfLink p v
    across : (r : Port) → Link p r → v ≡ end r → OfLink p v
    along : (n m : NodeId) (s u : ℕ) → Link (Of n (suc s)) (Of m (suc u)) → p ≡ Of n (suc s) →
        v ≡ wire_end n s m u → OfLink p v

  module _ (p : Port) (is_port : IsPortOf p) where
    direct_step : (a b : Port) → Link a b → OfLink p (end a) → OfLink p (end b)
    direct_step a b l (own e) = let s = same_port a p (has a b l) is_port e in
        across b (ap (partner_of net) (sym s) ∙ l) refl
    direct_step a b l (across r k e) =
        let s = same_port a r (has a b l) (has_other p r k) e in
        let o = one_partner r p b (turn p r k) (ap (partner_of net) (sym s) ∙ l) in
        own (ap end (sym o))
    direct_step a b l (along n m s u k i e) = absurd (not_wire a (num n s m u) (has a b l) e)

    onto_wire : (n m : NodeId) (s u : ℕ) → Link (Of n (suc s)) (Of m (suc u)) →
        OfLink p (slot_ref (start_node z n.0 + s)) → OfLink p (wire_end n s m u)
    onto_wire n m s u l (own e) = along n m s u l
        (sym (same_port (Of n (suc s)) p (has (Of n (suc s)) (Of m (suc u)) l) is_port e)) refl
    onto_wire n m s u l (across r k e) =
        let o = same_port (Of n (suc s)) r (has (Of n (suc s)) (Of m (suc u)) l) (has_other p r k) e in
        let q = one_partner r p (Of m (suc u)) (turn p r k) (ap (partner_of net) (sym o) ∙ l) in
        along m n u s (turn (Of n (suc s)) (Of m (suc u)) l) q
        (ap (λ k. wire_ref (start_wire z k)) (num_swapped n m s u l))
    onto_wire n m s u l (along n' m' s' u' k i e) = absurd
        (wire_not_slot (start_wire z (num n' s' m' u')) (start_node z n.0 + s) (sym e))

    off_wire : (n m : NodeId) (s u : ℕ) → Link (Of n (suc s)) (Of m (suc u)) →
        OfLink p (wire_end n s m u) → OfLink p (slot_ref (start_node z n.0 + s))
    off_wire n m s u l (own e) = absurd (not_wire p (num n s m u) is_port (sym e))
    off_wire n m s u l (across r k e) = absurd (not_wire r (num n s m u) (has_other p r k) (sym e))
    off_wire n m s u l (along n' m' s' u' k i e) =
        let w = wire_same (start_wire z (num n s m u)) (start_wire z (num n' s' m' u')) e in
        elim (num_same n m n' m' s u s' u' l k (omega (arith, w))) [
          | inl o ↦ own (ap end (o ∙ sym i))
          | inr o ↦ across (Of m' (suc u')) (ap (partner_of net) i ∙ k) (ap end o)
        ]

    only_edge : (w x y a b : ℕ) → edge w ≡ (a, b) ∷ [] → IsIn {X = ℕ × ℕ} (x, y) (edge w) → (x ≡ a) × (y ≡ b)
    only_edge w x y a b e h = go (subst (λ (l : List (ℕ × ℕ)). IsIn {X = ℕ × ℕ} (x, y) l) e h)
      where
        go : IsIn {X = ℕ × ℕ} (x, y) ((a, b) ∷ []) → (x ≡ a) × (y ≡ b)
        go (inl q) = (ap (λ (t : ℕ × ℕ). t.0) q, ap (λ (t : ℕ × ℕ). t.1) q)
        go (inr q) = absurd q

    abbrev BothWays : ℕ → ℕ → Type 0
    BothWays x y = (OfLink p x → OfLink p y) × (OfLink p y → OfLink p x)

    moved : (x y a b : ℕ) → x ≡ a → y ≡ b → BothWays a b → BothWays x y
    moved x y a b e f t = (
      λ h. subst (OfLink p) (sym f) (t.0 (subst (OfLink p) e h)),
      λ h. subst (OfLink p) (sym e) (t.1 (subst (OfLink p) f h)),
    )

    direct_ways : (a b : Port) → Link a b → BothWays (end a) (end b)
    direct_ways a b l = (direct_step a b l, direct_step b a (turn a b l))

    edge_ways : (w x y a b : ℕ) → EdgeIs w a b → BothWays a b → IsIn {X = ℕ × ℕ} (x, y) (edge w) → BothWays x y
    edge_ways w x y a b (inl e) t h = let o = only_edge w x y a b e h in moved x y a b o.0 o.1 t
    edge_ways w x y a b (inr e) t h = let o = only_edge w x y b a e h in moved x y b a o.0 o.1 (t.1, t.0)

    found_ways : (w x y : ℕ) → IsIn {X = ℕ × ℕ} (x, y) (edge w) → Found net z words N reached g w → BothWays x y
    found_ways w x y h (none e) = absurd (subst (λ (l : List (ℕ × ℕ)). IsIn {X = ℕ × ℕ} (x, y) l) e h)
    found_ways w x y h (direct a b l plain e) = edge_ways w x y (end a) (end b)
        (edge_at w (seat net z a b) (end a) (end b) e (at a b l plain)) (direct_ways a b l) h
    found_ways w x y h (half n m s u l e) =
        edge_ways w x y (slot_ref (start_node z n.0 + s)) (wire_end n s m u)
        (edge_at w (start_node z n.0 + s) (slot_ref (start_node z n.0 + s)) (wire_end n s m u) e
        (inl (at_slot n m s u l))) (onto_wire n m s u l, off_wire n m s u l) h

    ways : (x y : ℕ) → IsIn {X = ℕ × ℕ} (x, y) all_edges → BothWays x y
    ways x y h = let r = row_of edge (x, y) (table_size z) h in found_ways r.0 x y r.2 (found_at r.0)

    of_joined : (v : ℕ) → Joined (EdgeOf all_edges) (end p) v → OfLink p v
    of_joined v here = own refl
    of_joined v (on {v = u} j e) = (ways u v e).0 (of_joined u j)
    of_joined v (back {v = u} j e) = (ways v u e).1 (of_joined u j)

    linked_from : (q : Port) → IsPortOf q → Contracted (EdgeOf all_edges) (IsWireEnd reached) (end p) (end q) → Link p q
    linked_from q h c = go (of_joined (end q) c.joined)
      where
        go : OfLink p (end q) → Link p q
        go (own e) = absurd (c.apart (sym e))
        go (across r k e) = k ∙ ap (λ t. Some t) (sym (same_port q r h (has_other p r k) e))
        go (along n m s u k i e) = absurd (not_wire q (num n s m u) h e)

  links_of : (P Q : NamedPort NodeName) (d e : ℕ) → IsEnd z N P d → IsEnd z N Q e →
      Linked N P Q ↔ Contracted (EdgeOf all_edges) (IsWireEnd reached) d e
  links_of P Q d e a b =
      let p = end_port net z g.low P d a in
      let q = end_port net z g.low Q e b in
      let both = link_named net p.0 q.0 g.tabled in (
        λ h.
            let l = both.0 (subst (λ X. Linked N X (named q.0)) p.1 (subst (λ Y. Linked N P Y) q.1 h)) in
            subst (λ x. Contracted (EdgeOf all_edges) (IsWireEnd reached) x e) (sym p.3)
            (subst (λ y. Contracted (EdgeOf all_edges) (IsWireEnd reached) (end p.0) y)
            (sym q.3) (contracted_of p.0 q.0 l)),
        λ c.
            let k = subst (λ x. Contracted (EdgeOf all_edges) (IsWireEnd reached) x (end q.0)) p.3
            (subst (λ y. Contracted (EdgeOf all_edges) (IsWireEnd reached) d y) q.3 c) in
            let l = both.1 (linked_from p.0 p.2 q.0 q.2 k) in
            subst (λ X. Linked N X Q) (sym p.1) (subst (λ Y. Linked N (named p.0) Y) (sym q.1) l),
      )

  pub start_stands : StandsForNet z N reached (each (table_size z) edge)
  start_stands = record {
    ports = λ P e a.
        let p = end_port net z g.low P e a in
        let q = partner_of-there net p.0 p.2 in
        ap (λ x. ends nat_eq x all_edges) p.3 ∙ port_once p.0 q.0 q.1;
    wires = λ e a. let j = g.only a.0 a.1 in
        ap (λ x. ends nat_eq x all_edges) (a.2 ∙ ap wire_ref j.2) ∙ wire_twice j.0 j.1;
    others = known_all;
    links = links_of;
  }
