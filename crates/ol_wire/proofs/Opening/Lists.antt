-- The words that the code has put one behind the other are those of the net.
-- Used in `lay_out` and ol_reduce.
use Rattle.std.proofs.Common.{◌≡◌, ℕ, zero, suc, ◌+◌, ◌-◌, ◌*◌, ◌<◌, ◌≤◌, List, [], ◌∷◌, ◌++◌, length, slice_index}
use Rattle.std.proofs.Common.{slice_get, Some, None, refl, sym, ap, ◌∙◌, arith, inl, inr, replicate}
use Rattle.std.proofs.lemmas.Bool.{cases_eq, cases_lt}
use Rattle.std.proofs.lemmas.List.{length-append, length-replicate, get_or_append_left}
use Rattle.std.proofs.lemmas.List.{get_or-append-add, get_or_push, get_or-replicate, get_or_past}
use Rattle.ol_net.specs.Graph.{Graph}
use Rattle.ol_rules.specs.Listed.{each}
use Rattle.ol_wire.specs.declared.layout.Parts.{Parts}
use Rattle.ol_wire.specs.Layout.{port_word, start_node, start_wire, start_cell, block, table_size}
use Rattle.ol_wire.specs.Starts.{facing_pairs, aux_links}
use Rattle.ol_wire.specs.Laid.{node_word, field_of}
use Rattle.ol_wire.specs.LaidWords.{word_of_port, port_row, field_row, cell_words, IsLaid}
use Rattle.ol_wire.proofs.Opening.Words.{wires_few}
use Rattle.std.proofs.lemmas.Option.{slice_get_within}

length_ones : (f : ℕ → ℕ) (n : ℕ) → length (each n (λ k. f k ∷ [])) ≡ n
length_ones f zero = refl
length_ones f (suc n) = omega (arith, length-append (each n (λ k. f k ∷ [])) (f n ∷ []), length_ones f n)

length_twos : (f g : ℕ → ℕ) (n : ℕ) → length (each n (λ k. f k ∷ g k ∷ [])) ≡ 2 * n
length_twos f g zero = refl
length_twos f g (suc n) = omega (
  arith,
  length-append (each n (λ k. f k ∷ g k ∷ [])) (f n ∷ g n ∷ []),
  length_twos f g n,
)

length_cells : (net : Graph) (z : Parts) (ps : List (ℕ × ℕ)) → length (cell_words net z ps) ≡ 2 * length ps
length_cells net z [] = refl
length_cells net z (p ∷ ps) = omega (arith, length_cells net z ps)

-- of a list in two parts
in_first : (xs ys zs : List ℕ) (w : ℕ) → zs ≡ xs ++ ys → w < length xs → slice_index zs w ≡ slice_index xs w
in_first xs ys zs w e lt = ap (λ l. slice_index l w) e ∙ get_or_append_left xs ys 0 w lt

in_second : (xs ys zs : List ℕ) (w n k : ℕ) → zs ≡ xs ++ ys → length xs ≡ n → w ≡ n + k →
    slice_index zs w ≡ slice_index ys k
in_second xs ys zs w n k e len at = let q : w ≡ length xs + k = omega (arith, len, at) in
    ap (λ l. slice_index l w) e ∙ ap (slice_index (xs ++ ys)) q ∙ get_or-append-add xs ys k 0

ones_at : (f : ℕ → ℕ) (n k : ℕ) → k < n → slice_index (each n (λ k. f k ∷ [])) k ≡ f k
ones_at f zero k lt = absurd (omega (arith, lt))
ones_at f (suc n) k lt = elim (cases_lt k n) [
  | inl less ↦ get_or_append_left (each n (λ k. f k ∷ [])) (f n ∷ []) 0 k
      (omega (arith, less, length_ones f n)) ∙ ones_at f n k less
  | inr le ↦
      let e : k ≡ n = omega (arith, le, lt) in
      get_or_push (each n (λ k. f k ∷ [])) (f n) 0 k (omega (arith, e, length_ones f n)) ∙ ap f (sym e)
]

twos_at : (f g : ℕ → ℕ) (n k : ℕ) → k < n →
    (slice_index (each n (λ k. f k ∷ g k ∷ [])) (2 * k) ≡ f k)
    × (slice_index (each n (λ k. f k ∷ g k ∷ [])) (2 * k + 1) ≡ g k)
twos_at f g zero k lt = absurd (omega (arith, lt))
twos_at f g (suc n) k lt =
    let xs = each n (λ k. f k ∷ g k ∷ []) in
    let len = length_twos f g n in
    elim (cases_lt k n) [
      | inl less ↦
          let h = twos_at f g n k less in (
            get_or_append_left xs (f n ∷ g n ∷ []) 0 (2 * k) (omega (arith, less, len)) ∙ h.0,
            get_or_append_left xs (f n ∷ g n ∷ []) 0 (2 * k + 1) (omega (arith, less, len)) ∙ h.1,
          )
      | inr le ↦
          let e : k ≡ n = omega (arith, le, lt) in (
            in_second xs (f n ∷ g n ∷ []) (xs ++ f n ∷ g n ∷ []) (2 * k) (2 * n) 0 refl len
                (omega (arith, e)) ∙ ap f (sym e),
            in_second xs (f n ∷ g n ∷ [])
                (xs ++ f n ∷ g n ∷ []) (2 * k + 1) (2 * n) 1 refl len (omega (arith, e)) ∙ ap g (sym e),
          )
    ]

cells_at : (net : Graph) (z : Parts) (ps : List (ℕ × ℕ)) (c : ℕ) (p : ℕ × ℕ) →
    slice_get ps c ≡ Some p → (slice_index (cell_words net z ps) (2 * c) ≡ node_word net z p.0)
    × (slice_index (cell_words net z ps) (2 * c + 1) ≡ node_word net z p.1)
cells_at net z [] c p e = absurd (let bad : None ≡ Some p = e in cc)
cells_at net z (q ∷ ps) zero p e = let same : q ≡ p = cc in
    (ap (λ (w : ℕ × ℕ). node_word net z w.0) same, ap (λ (w : ℕ × ℕ). node_word net z w.1) same)
cells_at net z (q ∷ ps) (suc c) p e =
    let h = cells_at net z ps c p e in
    let a : 2 * suc c ≡ suc (suc (2 * c)) = omega arith in
    let b : 2 * suc c + 1 ≡ suc (suc (2 * c + 1)) = omega arith in
    (ap (slice_index (cell_words net z (q ∷ ps))) a ∙ h.0, ap (slice_index (cell_words net z (q ∷ ps))) b ∙ h.1)

pub empty_at : (n k : ℕ) → slice_index (replicate n 0) k ≡ 0
empty_at n k = elim (cases_lt k n) [
  | inl lt ↦ get_or-replicate n k 0 0 lt
  | inr le ↦ get_or_past (replicate n 0) k 0 (omega (arith, le, length-replicate {A = ℕ} n 0))
]

pub start_length : (net : Graph) (z : Parts) (a b : List ℕ) → z.free ≡ net.free → a ≡ 0 ∷ 0 ∷ [] →
    b ≡ a ++ each net.free (port_row net z) → length b ≡ start_node z 0
start_length net z a b free ea eb = omega (
  arith,
  free,
  ap length eb,
  ap length ea,
  length-append a (each net.free (port_row net z)),
  length_ones (word_of_port net z) net.free,
)

pub wires_bound : (net : Graph) (w : ℕ) → w ≡ length (aux_links net) → w ≤ 2 * length net.nodes
wires_bound net w e = omega (arith, e, wires_few net (length net.nodes) 0)

module _ (net : Graph) (z : Parts) (a b c d e f : List ℕ) (free : z.free ≡ net.free)
    (nodes : z.nodes ≡ length net.nodes) (ea : a ≡ 0 ∷ 0 ∷ [])
    (fb : b ≡ a ++ each net.free (port_row net z))
    (fc : c ≡ b ++ each (length net.nodes) (field_row net z)) (ed : d ≡ c ++ replicate z.wires 0)
    (ee : e ≡ d ++ cell_words net z (facing_pairs net)) (ef : f ≡ e ++ replicate (22 * z.fuel) 0)
    (few : z.cells ≡ length (facing_pairs net)) where
  eb : b ≡ a ++ each z.free (port_row net z)
  eb = fb ∙ ap (λ n. a ++ each n (port_row net z)) (sym free)

  ec : c ≡ b ++ each z.nodes (field_row net z)
  ec = fc ∙ ap (λ n. b ++ each n (field_row net z)) (sym nodes)

  length_b : length b ≡ start_node z 0
  length_b = start_length net z a b free ea fb

  length_c : length c ≡ start_wire z 0
  length_c = omega (
    arith,
    ap length ec,
    length_b,
    length-append b (each z.nodes (field_row net z)),
    length_twos (λ n. field_of net z n 0) (λ n. field_of net z n 1) z.nodes,
  )

  length_d : length d ≡ start_cell z 0
  length_d = omega (
    arith,
    ap length ed,
    length_c,
    length-append c (replicate z.wires 0),
    length-replicate {A = ℕ} z.wires 0,
  )

  length_e : length e ≡ block z 0
  length_e = omega (
    arith,
    ap length ee,
    length_d,
    length-append d (cell_words net z (facing_pairs net)),
    length_cells net z (facing_pairs net),
    few,
  )

  length_f : length f ≡ table_size z
  length_f = omega (
    arith,
    ap length ef,
    length_e,
    length-append e (replicate (22 * z.fuel) 0),
    length-replicate {A = ℕ} (22 * z.fuel) 0,
  )

  in_c : (w : ℕ) → w < length c → slice_index f w ≡ slice_index c w
  in_c w lt = in_first e _ f w ef (omega (arith, lt, length_c, length_e))
      ∙ in_first d _ e w ee (omega (arith, lt, length_c, length_d)) ∙ in_first c _ d w ed lt

  in_b : (w : ℕ) → w < length b → slice_index f w ≡ slice_index b w
  in_b w lt = in_c w (omega (arith, lt, length_b, length_c)) ∙ in_first b _ c w ec lt

  field_at : (n s : ℕ) → n < z.nodes → s < 2 → slice_index f (start_node z n + s) ≡ field_of net z n s
  field_at n s lt small =
      let h = twos_at (λ n. field_of net z n 0) (λ n. field_of net z n 1) z.nodes n lt in
      in_c (start_node z n + s) (omega (arith, lt, small, length_c)) ∙ elim (cases_eq s 0) [
        | inl q ↦ in_second b _ c (start_node z n + s) (start_node z 0) (2 * n) ec length_b
            (omega (arith, q)) ∙ h.0 ∙ ap (field_of net z n) (sym q)
        | inr q ↦ let one : s ≡ 1 = omega (arith, q, small) in
            in_second b _ c (start_node z n + s) (start_node z 0) (2 * n + 1) ec length_b
            (omega (arith, one)) ∙ h.1 ∙ ap (field_of net z n) (sym one)
      ]

  cell_at : (k : ℕ) (p : ℕ × ℕ) → slice_get (facing_pairs net) k ≡ Some p →
      (slice_index f (start_cell z k) ≡ node_word net z p.0)
      × (slice_index f (suc (start_cell z k)) ≡ node_word net z p.1)
  cell_at k p q =
      let h = cells_at net z (facing_pairs net) k p q in
      let lt = slice_get_within (facing_pairs net) k p q in (
        in_first e _ f (start_cell z k) ef (omega (arith, lt, few, length_e))
            ∙ in_second d _ e (start_cell z k) (start_cell z 0) (2 * k) ee length_d (omega arith) ∙ h.0,
        in_first e _ f (suc (start_cell z k)) ef (omega (arith, lt, few, length_e))
            ∙ in_second d _ e (suc (start_cell z k)) (start_cell z 0) (2 * k + 1) ee length_d (omega arith) ∙ h.1,
      )

  pub laid : IsLaid net z f
  laid = record {
    wide = length_f;
    ticket = in_b 0 (omega (arith, length_b)) ∙ in_first a _ b 0 eb (omega (arith, ap length ea))
        ∙ ap (λ l. slice_index l 0) ea;
    ports = λ n lt. in_b (port_word n) (omega (arith, lt, length_b))
        ∙ in_second a _ b (port_word n) 2 n eb (ap length ea) refl ∙ ones_at (word_of_port net z) z.free n lt;
    fields = field_at;
    wires = λ j lt. in_first e _ f (start_wire z j) ef (omega (arith, lt, length_e))
        ∙ in_first d _ e (start_wire z j) ee (omega (arith, lt, length_d))
        ∙ in_second c _ d (start_wire z j) (start_wire z 0) j ed length_c (omega arith) ∙ empty_at z.wires j;
    cells = cell_at;
    blocks = λ w ge. in_second e _ f w (block z 0) (w - block z 0) ef length_e (omega (arith, ge))
        ∙ empty_at (22 * z.fuel) (w - block z 0);
  }
