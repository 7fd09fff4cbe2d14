-- Each left word is that of a cell, by its number.
-- Used in NothingLeft, Stands, Credit.Quiet, Credit.Words and ol_reduce.
use Rattle.std.proofs.Common.{◌≡◌, ℕ, suc, ◌+◌, ◌-◌, ◌*◌, ◌/◌, ◌%◌, ◌<◌, nat_lt, lt-ltb}
use Rattle.std.proofs.Common.{if◌then◌else◌, false, inl, inr, sym, ap, ◌∙◌, arith}
use Rattle.std.proofs.lemmas.Bool.{cases_eq, cases_lt}
use Rattle.std.proofs.lemmas.Bool.Decides.{nat_tests}
use Rattle.ol_rules.specs.declared.journal.NodeName.TheVariants.{Init, Born}
use Rattle.ol_wire.specs.declared.layout.Parts.{Parts}
use Rattle.ol_wire.specs.Layout.{WordPart, ticket, live_word, port, field, wire, between, left, right, entry}
use Rattle.ol_wire.specs.Layout.{part_of_word, port_word, start_node, start_wire, start_cell, block, table_size}
use Rattle.ol_wire.specs.Layout.{place_of, born_wire, born_cell, left_word, cells_of}
use Rattle.ol_wire.proofs.InWords.Places.{part_port, part_field, part_wire, part_between}
use Rattle.ol_wire.proofs.InWords.Places.{part_entry, part_start_cell, part_born_cell, is_left}

module _ (z : Parts) where
  abbrev pub IsCellWord : ℕ → Type 0
  IsCellWord n = (c : ℕ) × (c < cells_of z) × (left_word z c ≡ n)

  other : (n : ℕ) (q : WordPart) → part_of_word z n ≡ q → (q ≡ left → ⊥) → part_of_word z n ≡ left → IsCellWord n
  other n q e d h = absurd (d (sym e ∙ h))

  start_word : (c : ℕ) → c < z.cells → left_word z c ≡ start_cell z c
  start_word c lt = ap (λ b. if b then start_cell z c else born_cell z ((c - z.cells) / 4)
      ((c - z.cells) % 4)) (lt-ltb c z.cells lt)

  born_word : (t j : ℕ) → j < 4 → left_word z (z.cells + 4 * t + j) ≡ born_cell z t j
  born_word t j lt =
      let c : ℕ = z.cells + 4 * t + j in
      let high : nat_lt c z.cells ≡ false = grind (arith, nat_tests) in
      let d : (c - z.cells) / 4 ≡ t = omega arith in
      let m : (c - z.cells) % 4 ≡ j = omega arith in
      ap (λ b. if b then start_cell z c else born_cell z ((c - z.cells) / 4)
      ((c - z.cells) % 4)) high ∙ ap (λ t. born_cell z t ((c - z.cells) % 4)) d ∙ ap (born_cell z t) m

  in_block : (n t j : ℕ) → t < z.fuel → j < 22 → n ≡ block z t + j → part_of_word z n ≡ left → IsCellWord n
  in_block n t j lt small e h = elim (cases_lt j 2) [
    | inl a ↦ other n entry (ap (part_of_word z) e ∙ part_entry z t j lt a) (λ q. absurd (cc)) h
    | inr a ↦ elim (cases_lt j 10) [
      | inl b ↦
          let i : ℕ = (j - 2) / 2 in
          let s : ℕ = (j - 2) % 2 in
          let q : n ≡ place_of z (Born t i) + s = omega (arith, e) in
          other n (field (Born t i) s) (ap (part_of_word z) q
          ∙ part_field z (Born t i) s (lt, omega arith) (omega arith)) (λ q. absurd (cc)) h
      | inr b ↦ elim (cases_lt j 14) [
        | inl d ↦
            let u : ℕ = (j - 10) / 2 in
            let v : ℕ = (j - 10) % 2 in
            let q : n ≡ born_wire z t u v = omega (arith, e) in
            other n (between t u v) (ap (part_of_word z) q
            ∙ part_between z t u v lt (omega arith) (omega arith)) (λ q. absurd (cc)) h
        | inr d ↦ elim (cases_eq (j % 2) 0) [
          | inl even ↦
              let i : ℕ = (j - 14) / 2 in
              let q : n ≡ born_cell z t i = omega (arith, e, even) in
              (z.cells + 4 * t + i, omega arith, born_word t i (omega arith) ∙ sym q)
          | inr odd ↦
              let i : ℕ = (j - 14) / 2 in
              let q : n ≡ suc (born_cell z t i) = omega (arith, e, odd) in
              other n right (ap (part_of_word z) q ∙ (part_born_cell z t i lt (omega arith)).1) (λ q. absurd (cc)) h
        ]
      ]
    ]
  ]

  pub cell_word : (n : ℕ) → part_of_word z n ≡ left → IsCellWord n
  cell_word n h = elim (cases_eq n 0) [
    | inl e ↦ other n ticket (ap (part_of_word z) e) (λ q. absurd (cc)) h
    | inr some ↦ elim (cases_eq n 1) [
      | inl e ↦ other n live_word (ap (part_of_word z) e) (λ q. absurd (cc)) h
      | inr more ↦ elim (cases_lt n (start_node z 0)) [
        | inl a ↦ let q : n ≡ port_word (n - 2) = omega (arith, some, more) in
            other n (port (n - 2)) (ap (part_of_word z) q
            ∙ part_port z (n - 2) (omega (arith, some, more))) (λ q. absurd (cc)) h
        | inr a ↦ elim (cases_lt n (start_wire z 0)) [
          | inl b ↦
              let i : ℕ = (n - start_node z 0) / 2 in
              let s : ℕ = (n - start_node z 0) % 2 in
              let q : n ≡ place_of z (Init i) + s = omega arith in
              other n (field (Init i) s) (ap (part_of_word z) q
              ∙ part_field z (Init i) s (omega arith) (omega arith)) (λ q. absurd (cc)) h
          | inr b ↦ elim (cases_lt n (start_cell z 0)) [
            | inl d ↦ let q : n ≡ start_wire z (n - start_wire z 0) = omega arith in
                other n (wire (n - start_wire z 0)) (ap (part_of_word z) q
                ∙ part_wire z (n - start_wire z 0) (omega arith)) (λ q. absurd (cc)) h
            | inr d ↦ elim (cases_lt n (block z 0)) [
              | inl f ↦ elim (cases_eq ((n - start_cell z 0) % 2) 0) [
                | inl even ↦
                    let c : ℕ = (n - start_cell z 0) / 2 in
                    let q : start_cell z c ≡ n = omega (arith, even) in
                    (c, omega arith, start_word c (omega arith) ∙ q)
                | inr odd ↦
                    let c : ℕ = (n - start_cell z 0) / 2 in
                    let q : n ≡ suc (start_cell z c) = omega (arith, odd) in
                    other n right (ap (part_of_word z) q ∙ (part_start_cell z c (omega arith)).1) (λ q. absurd (cc)) h
              ]
              | inr f ↦
                  let b : suc n < table_size z = (is_left z n h).1 in
                  in_block n ((n - block z 0) / 22) ((n - block z 0) % 22) (omega (arith, b))
                  (omega arith) (omega arith) h
            ]
          ]
        ]
      ]
    ]
  ]
