-- The cells by number: each left word is that of one cell, and cells that come later have the greater words.
-- Used in LinkSteps.Publish and Cells.
use Rattle.std.proofs.Common.{◌≡◌, ℕ, suc, ◌+◌, ◌-◌, ◌*◌, ◌%◌, ◌/◌, ◌<◌, ◌≤◌, if◌then◌else◌, nat_lt}
use Rattle.std.proofs.Common.{lt-ltb, inl, inr, false, sym, ap, ◌∙◌, arith}
use Rattle.std.proofs.lemmas.Bool.{cases_eq, cases_lt}
use Rattle.std.proofs.lemmas.Bool.Decides.{nat_tests}
use Rattle.ol_rules.specs.declared.journal.NodeName.TheVariants.{Init, Born}
use Rattle.ol_wire.specs.declared.layout.Parts.{Parts}
use Rattle.ol_wire.specs.Layout.{ticket, live_word, port, field, wire, between, left, right, entry}
use Rattle.ol_wire.specs.Layout.{part_of_word, block, place_of, port_word, start_node, start_wire}
use Rattle.ol_wire.specs.Layout.{start_cell, born_wire, born_cell, left_word, cells_of}
use Rattle.ol_wire.specs.Plays.{cell_at}
use Rattle.ol_wire.proofs.InWords.Places.{part_port, part_field, part_wire, part_between, part_entry, part_start_cell}
use Rattle.ol_wire.proofs.InWords.Places.{part_born_cell, cell_of_left, is_left}

module _ (z : Parts) where
  low_cell : (c : ℕ) → c < z.cells → left_word z c ≡ start_cell z c
  low_cell c lt = ap (λ b. if b then start_cell z c else born_cell z ((c - z.cells) / 4)
      ((c - z.cells) % 4)) (lt-ltb c z.cells lt)

  high_cell : (c : ℕ) → z.cells ≤ c → left_word z c ≡ born_cell z ((c - z.cells) / 4) ((c - z.cells) % 4)
  high_cell c le = let q : nat_lt c z.cells ≡ false = grind (arith, nat_tests) in
      ap (λ b. if b then start_cell z c else born_cell z ((c - z.cells) / 4) ((c - z.cells) % 4)) q

  -- those that were before a ticket have the smaller words
  pub cell_before : (c t : ℕ) → c < z.cells + 4 * t → left_word z c < block z t
  cell_before c t lt = elim (cases_lt c z.cells) [
    | inl low ↦ omega (arith, low, low_cell c low)
    | inr high ↦ omega (arith, lt, high, high_cell c high)
  ]

  pub before_cell : (c t : ℕ) → left_word z c < block z t → c < z.cells + 4 * t
  before_cell c t lt = elim (cases_lt c z.cells) [
    | inl low ↦ omega (arith, low)
    | inr high ↦ omega (arith, lt, high, high_cell c high)
  ]

  numbered_start : (w c : ℕ) → c < z.cells → w ≡ start_cell z c → (c : ℕ) × (c < cells_of z) × (w ≡ left_word z c)
  numbered_start w c lt q = (c, omega (arith, lt), q ∙ sym (low_cell c lt))

  numbered_born : (w t j : ℕ) → t < z.fuel → j < 4 → w ≡ born_cell z t j →
      (c : ℕ) × (c < cells_of z) × (w ≡ left_word z c)
  numbered_born w t j lt small q = (
    z.cells + 4 * t + j,
    omega (arith, lt, small),
    omega (arith, q, small, high_cell (z.cells + 4 * t + j) (omega arith)),
  )

  in_a_block : (w t j : ℕ) → part_of_word z w ≡ left → t < z.fuel → j < 22 → w ≡ block z t + j →
      (c : ℕ) × (c < cells_of z) × (w ≡ left_word z c)
  in_a_block w t j is lt small e = elim (cases_lt j 2) [
    | inl a ↦ let bad : entry ≡ left = sym (ap (part_of_word z) e ∙ part_entry z t j lt a) ∙ is in absurd (cc)
    | inr a ↦ elim (cases_lt j 10) [
      | inl b ↦
          let i = (j - 2) / 2 in
          let s = (j - 2) % 2 in
          let q : w ≡ place_of z (Born t i) + s = omega (arith, e) in
          let bad : field (Born t i) s ≡ left = sym
          (ap (part_of_word z) q ∙ part_field z (Born t i) s (lt, omega arith) (omega arith)) ∙ is in
          absurd (cc)
      | inr b ↦ elim (cases_lt j 14) [
        | inl d ↦
            let m = (j - 10) / 2 in
            let n = (j - 10) % 2 in
            let q : w ≡ born_wire z t m n = omega (arith, e) in
            let bad : between t m n ≡ left = sym
            (ap (part_of_word z) q ∙ part_between z t m n lt (omega arith) (omega arith)) ∙ is in
            absurd (cc)
        | inr d ↦ elim (cases_eq (j % 2) 0) [
          | inl even ↦ numbered_born w t ((j - 14) / 2) lt (omega arith) (omega (arith, e, even))
          | inr odd ↦
              let c = (j - 14) / 2 in
              let q : w ≡ suc (born_cell z t c) = omega (arith, e, odd) in
              let bad : right ≡ left = sym (ap (part_of_word z) q ∙ (part_born_cell z t c lt (omega arith)).1) ∙ is in
              absurd (cc)
        ]
      ]
    ]
  ]

  -- each left word is that of a cell
  pub cell_number : (w : ℕ) → part_of_word z w ≡ left → (c : ℕ) × (c < cells_of z) × (w ≡ left_word z c)
  cell_number w is = elim (cases_eq w 0) [
    | inl e ↦ let bad : ticket ≡ left = ap (part_of_word z) (sym e) ∙ is in absurd (cc)
    | inr d0 ↦ elim (cases_eq w 1) [
      | inl e ↦ let bad : live_word ≡ left = ap (part_of_word z) (sym e) ∙ is in absurd (cc)
      | inr d1 ↦ elim (cases_lt w (start_node z 0)) [
        | inl a ↦
            let q : w ≡ port_word (w - 2) = omega (arith, d0, d1) in
            let bad : port (w - 2) ≡ left = sym (ap (part_of_word z) q
            ∙ part_port z (w - 2) (omega (arith, d0, d1))) ∙ is in
            absurd (cc)
        | inr a ↦ elim (cases_lt w (start_wire z 0)) [
          | inl b ↦
              let n = (w - start_node z 0) / 2 in
              let s = (w - start_node z 0) % 2 in
              let q : w ≡ place_of z (Init n) + s = omega arith in
              let bad : field (Init n) s ≡ left = sym
              (ap (part_of_word z) q ∙ part_field z (Init n) s (omega arith) (omega arith)) ∙ is in
              absurd (cc)
          | inr b ↦ elim (cases_lt w (start_cell z 0)) [
            | inl d ↦
                let n = w - start_wire z 0 in
                let q : w ≡ start_wire z n = omega arith in
                let bad : wire n ≡ left = sym (ap (part_of_word z) q ∙ part_wire z n (omega arith)) ∙ is in
                absurd (cc)
            | inr d ↦ elim (cases_lt w (block z 0)) [
              | inl f ↦ elim (cases_eq ((w - start_cell z 0) % 2) 0) [
                | inl even ↦ numbered_start w ((w - start_cell z 0) / 2) (omega arith) (omega (arith, even))
                | inr odd ↦
                    let c = (w - start_cell z 0) / 2 in
                    let q : w ≡ suc (start_cell z c) = omega (arith, odd) in
                    let bad : right ≡ left = sym (ap (part_of_word z) q ∙ (part_start_cell z c (omega arith)).1) ∙ is in
                    absurd (cc)
              ]
              | inr f ↦ in_a_block w ((w - block z 0) / 22) ((w - block z 0) % 22) is
                  (omega (arith, (is_left z w is).1)) (omega arith) (omega arith)
            ]
          ]
        ]
      ]
    ]
  ]

  -- and the cell of that number
  pub left_of_cell : (w : ℕ) → part_of_word z w ≡ left → left_word z (cell_at z w) ≡ w
  left_of_cell w is =
      let n = cell_number w is in
      let q : cell_at z w ≡ n.0 = ap (cell_at z) n.2 ∙ cell_of_left z n.0 n.1 in
      ap (left_word z) q ∙ sym n.2
