-- Each word is one part, and each part has its words.
-- Used in Closing, Credit, Degrees, InWords, LinkSteps, Links, Opening, Steps, Ticket and the answers of calls.
use Rattle.std.proofs.Common.{◌≡◌, ◌≢◌, ℕ, suc, ◌+◌, ◌-◌, ◌*◌, ◌/◌, ◌%◌, ◌==◌, ◌<◌, ◌≤◌, true, false, if◌then◌else◌}
use Rattle.std.proofs.Common.{nat_eq, lt-ltb, ltb-true, eq-eqb, ne_eqb, inl, inr, ◌↔◌, refl, sym, ap, ◌∙◌, subst, arith}
use Rattle.std.proofs.lemmas.Bool.{cases_eq, cases_lt}
use Rattle.std.proofs.lemmas.Bool.Decides.{nat_tests}
use Rattle.ol_rules.specs.declared.journal.NodeName.{NodeName}
use Rattle.ol_rules.specs.declared.journal.NodeName.TheVariants.{Init, Born}
use Rattle.ol_rules.specs.Names.{comes_before}
use Rattle.ol_wire.specs.declared.layout.Parts.{Parts}
use Rattle.ol_wire.specs.Layout.{WordPart, ticket, live_word, port, field, wire, between, left, right, entry, past}
use Rattle.ol_wire.specs.Layout.{part_in_block, part_of_word, port_word, start_node, start_wire, start_cell, block}
use Rattle.ol_wire.specs.Layout.{table_size, place_of, born_wire, born_cell, left_word, cells_of, IsPlaced}
use Rattle.ol_wire.specs.Events.{name_at, name_in_part}
use Rattle.ol_wire.specs.Plays.{cell_at}
use Rattle.ol_law_edges.proofs.Lists.{if_below, if_above}

same : {A : Type 0} (m n : ℕ) (x y : A) → m ≡ n → (if m == n then x else y) ≡ x
same m n x y e = ap (λ b. if b then x else y) (eq-eqb m n e)

apart : {A : Type 0} (m n : ℕ) (x y : A) → m ≢ n → (if m == n then x else y) ≡ y
apart m n x y d = ap (λ b. if b then x else y) (ne_eqb m n d)

module _ (z : Parts) where
  -- the parts behind the ticket word and the live word, by where the word stands
  of_ports : (w : ℕ) → 1 < w → w < start_node z 0 → part_of_word z w ≡ port (w - 2)
  of_ports w some lt = apart w 0 _ _ (λ e. omega arith) ∙ apart w 1 _ _ (λ e. omega arith)
      ∙ if_below w (start_node z 0) _ _ lt

  of_nodes : (w : ℕ) → start_node z 0 ≤ w → w < start_wire z 0 →
      part_of_word z w ≡ field (Init ((w - start_node z 0) / 2)) ((w - start_node z 0) % 2)
  of_nodes w ge lt = apart w 0 _ _ (λ e. omega arith) ∙ apart w 1 _ _ (λ e. omega arith)
      ∙ if_above w (start_node z 0) _ _ ge ∙ if_below w (start_wire z 0) _ _ lt

  of_wires : (w : ℕ) → start_wire z 0 ≤ w → w < start_cell z 0 → part_of_word z w ≡ wire (w - start_wire z 0)
  of_wires w ge lt = apart w 0 _ _ (λ e. omega arith) ∙ apart w 1 _ _ (λ e. omega arith)
      ∙ if_above w (start_node z 0) _ _ (omega arith) ∙ if_above w (start_wire z 0) _ _ ge
      ∙ if_below w (start_cell z 0) _ _ lt

  of_cells : (w : ℕ) → start_cell z 0 ≤ w → w < block z 0 →
      part_of_word z w ≡ (if (w - start_cell z 0) % 2 == 0 then left else right)
  of_cells w ge lt = apart w 0 _ _ (λ e. omega arith) ∙ apart w 1 _ _ (λ e. omega arith)
      ∙ if_above w (start_node z 0) _ _ (omega arith)
      ∙ if_above w (start_wire z 0) _ _ (omega arith) ∙ if_above w (start_cell z 0) _ _ ge
      ∙ if_below w (block z 0) _ _ lt

  of_blocks : (w : ℕ) → block z 0 ≤ w → w < table_size z →
      part_of_word z w ≡ part_in_block ((w - block z 0) / 22) ((w - block z 0) % 22)
  of_blocks w ge lt = apart w 0 _ _ (λ e. omega arith) ∙ apart w 1 _ _ (λ e. omega arith)
      ∙ if_above w (start_node z 0) _ _ (omega arith)
      ∙ if_above w (start_wire z 0) _ _ (omega arith)
      ∙ if_above w (start_cell z 0) _ _ (omega arith) ∙ if_above w (block z 0) _ _ ge ∙ if_below w (table_size z) _ _ lt

  of_none : (w : ℕ) → table_size z ≤ w → part_of_word z w ≡ past
  of_none w ge = apart w 0 _ _ (λ e. omega arith) ∙ apart w 1 _ _ (λ e. omega arith)
      ∙ if_above w (start_node z 0) _ _ (omega arith)
      ∙ if_above w (start_wire z 0) _ _ (omega arith)
      ∙ if_above w (start_cell z 0) _ _ (omega arith) ∙ if_above w (block z 0) _ _ (omega arith)
      ∙ if_above w (table_size z) _ _ ge

  -- word j of the block of a ticket
  in_block : (t j : ℕ) → t < z.fuel → j < 22 → part_of_word z (block z t + j) ≡ part_in_block t j
  in_block t j lt small =
      let d : (block z t + j - block z 0) / 22 ≡ t = omega arith in
      let m : (block z t + j - block z 0) % 22 ≡ j = omega arith in
      of_blocks (block z t + j) (omega arith) (omega arith)
      ∙ ap (λ u. part_in_block u ((block z t + j - block z 0) % 22)) d ∙ ap (part_in_block t) m

  pub part_port : (n : ℕ) → n < z.free → part_of_word z (port_word n) ≡ port n
  part_port n lt = of_ports (port_word n) (omega arith) (omega arith)
      ∙ ap port (let e : 2 + n - 2 ≡ n = omega arith in e)

  pub part_field : (x : NodeName) (s : ℕ) → IsPlaced z z.fuel x → s < 2 → part_of_word z (place_of z x + s) ≡ field x s
  part_field (Init k) s lt small =
      let d : (start_node z k + s - start_node z 0) / 2 ≡ k = omega arith in
      let m : (start_node z k + s - start_node z 0) % 2 ≡ s = omega arith in
      of_nodes (start_node z k + s) (omega arith) (omega arith)
      ∙ ap (λ u. field (Init u) ((start_node z k + s - start_node z 0) % 2)) d ∙ ap (field (Init k)) m
  part_field (Born t i) s h small =
      let at : block z t + 2 + 2 * i + s ≡ block z t + (2 + 2 * i + s) = omega arith in
      let d : (2 + 2 * i + s - 2) / 2 ≡ i = omega arith in
      let m : (2 + 2 * i + s - 2) % 2 ≡ s = omega arith in
      ap (part_of_word z) at ∙ in_block t (2 + 2 * i + s) h.0 (omega (arith, h.1))
      ∙ if_above (2 + 2 * i + s) 2 _ _ (omega arith) ∙ if_below (2 + 2 * i + s) 10 _ _ (omega (arith, h.1))
      ∙ ap (λ u. field (Born t u) ((2 + 2 * i + s - 2) % 2)) d ∙ ap (field (Born t i)) m

  pub part_wire : (j : ℕ) → j < z.wires → part_of_word z (start_wire z j) ≡ wire j
  part_wire j lt = of_wires (start_wire z j) (omega arith) (omega arith)
      ∙ ap wire (let e : start_wire z j - start_wire z 0 ≡ j = omega arith in e)

  pub part_between : (t q p : ℕ) → t < z.fuel → q < 2 → p < 2 → part_of_word z (born_wire z t q p) ≡ between t q p
  part_between t q p lt hq hp =
      let at : born_wire z t q p ≡ block z t + (10 + 2 * q + p) = omega arith in
      let d : (10 + 2 * q + p - 10) / 2 ≡ q = omega arith in
      let m : (10 + 2 * q + p - 10) % 2 ≡ p = omega arith in
      ap (part_of_word z) at ∙ in_block t (10 + 2 * q + p) lt (omega arith)
      ∙ if_above (10 + 2 * q + p) 2 _ _ (omega arith)
      ∙ if_above (10 + 2 * q + p) 10 _ _ (omega arith) ∙ if_below (10 + 2 * q + p) 14 _ _ (omega arith)
      ∙ ap (λ u. between t u ((10 + 2 * q + p - 10) % 2)) d ∙ ap (between t q) m

  pub part_entry : (t j : ℕ) → t < z.fuel → j < 2 → part_of_word z (block z t + j) ≡ entry
  part_entry t j lt small = in_block t j lt (omega arith) ∙ if_below j 2 _ _ small

  pub part_start_cell : (c : ℕ) → c < z.cells →
      (part_of_word z (start_cell z c) ≡ left) × (part_of_word z (suc (start_cell z c)) ≡ right)
  part_start_cell c lt = (
    of_cells (start_cell z c) (omega arith) (omega arith)
        ∙ same ((start_cell z c - start_cell z 0) % 2) 0 _ _ (omega arith),
    of_cells (suc (start_cell z c)) (omega arith) (omega arith)
        ∙ apart ((suc (start_cell z c) - start_cell z 0) % 2) 0 _ _ (λ e. omega arith),
  )

  pub part_born_cell : (t j : ℕ) → t < z.fuel → j < 4 →
      (part_of_word z (born_cell z t j) ≡ left) × (part_of_word z (suc (born_cell z t j)) ≡ right)
  part_born_cell t j lt small =
      let at : born_cell z t j ≡ block z t + (14 + 2 * j) = omega arith in
      let next : suc (born_cell z t j) ≡ block z t + (15 + 2 * j) = omega arith in (
        ap (part_of_word z) at ∙ in_block t (14 + 2 * j) lt (omega arith)
            ∙ if_above (14 + 2 * j) 2 _ _ (omega arith) ∙ if_above (14 + 2 * j) 10 _ _ (omega arith)
            ∙ if_above (14 + 2 * j) 14 _ _ (omega arith) ∙ same ((14 + 2 * j) % 2) 0 _ _ (omega arith),
        ap (part_of_word z) next ∙ in_block t (15 + 2 * j) lt (omega arith)
            ∙ if_above (15 + 2 * j) 2 _ _ (omega arith) ∙ if_above (15 + 2 * j) 10 _ _ (omega arith)
            ∙ if_above (15 + 2 * j) 14 _ _ (omega arith) ∙ apart ((15 + 2 * j) % 2) 0 _ _ (λ e. omega arith),
      )

  pub part_cell : (c : ℕ) → c < cells_of z →
      (part_of_word z (left_word z c) ≡ left) × (part_of_word z (suc (left_word z c)) ≡ right)
      × (suc (left_word z c) < table_size z)
  part_cell c lt = elim (cases_lt c z.cells) [
    | inl low ↦
        let e : left_word z c ≡ start_cell z c = if_below c z.cells _ _ low in
        let h = part_start_cell c low in
        (ap (part_of_word z) e ∙ h.0, ap (λ w. part_of_word z (suc w)) e ∙ h.1, omega (arith, e))
    | inr high ↦
        let e : left_word z c ≡ born_cell z ((c - z.cells) / 4) ((c - z.cells) % 4) = if_above c z.cells _ _ high in
        let h = part_born_cell ((c - z.cells) / 4) ((c - z.cells) % 4) (omega arith) (omega arith) in
        (ap (part_of_word z) e ∙ h.0, ap (λ w. part_of_word z (suc w)) e ∙ h.1, omega (arith, e))
  ]

  pub cell_of_left : (c : ℕ) → c < cells_of z → cell_at z (left_word z c) ≡ c
  cell_of_left c lt = elim (cases_lt c z.cells) [
    | inl low ↦
        let e : left_word z c ≡ start_cell z c = if_below c z.cells _ _ low in
        let d : (start_cell z c - start_cell z 0) / 2 ≡ c = omega arith in
        ap (cell_at z) e ∙ if_below (start_cell z c) (block z 0) _ _ (omega arith) ∙ d
    | inr high ↦
        let t = (c - z.cells) / 4 in
        let j = (c - z.cells) % 4 in
        let e : left_word z c ≡ born_cell z t j = if_above c z.cells _ _ high in
        let d : (born_cell z t j - block z 0) / 22 ≡ t = omega arith in
        let m : (born_cell z t j - block z 0) % 22 ≡ 14 + 2 * j = omega arith in
        ap (cell_at z) e ∙ if_above (born_cell z t j) (block z 0) _ _ (omega arith)
        ∙ (let q : z.cells + 4 * ((born_cell z t j - block z 0) / 22) +
        ((born_cell z t j - block z 0) % 22 - 14) / 2 ≡ c = omega (arith, d, m) in q)
  ]

  -- what a word is, and where
  pub data At (w : ℕ) : Type 0 where
    at_ticket : w ≡ 0 → At w
    at_live : w ≡ 1 → At w
    at_port : (n : ℕ) → n < z.free → w ≡ port_word n → part_of_word z w ≡ port n → At w
    at_field : (x : NodeName) (s : ℕ) → IsPlaced z z.fuel x → s < 2 → w ≡ place_of z x + s →
        part_of_word z w ≡ field x s → At w
    at_wire : (j : ℕ) → j < z.wires → w ≡ start_wire z j → part_of_word z w ≡ wire j → At w
    at_between : (t q p : ℕ) → t < z.fuel → q < 2 → p < 2 → w ≡ born_wire z t q p →
        part_of_word z w ≡ between t q p → At w
    at_left : part_of_word z w ≡ left → part_of_word z (suc w) ≡ right → suc w < table_size z → At w
    at_right : part_of_word z w ≡ right → At w
    at_entry : (t j : ℕ) → t < z.fuel → j < 2 → w ≡ block z t + j → part_of_word z w ≡ entry → At w
    at_past : table_size z ≤ w → At w

  in_a_block : (w t j : ℕ) → t < z.fuel → j < 22 → w ≡ block z t + j → At w
  in_a_block w t j lt small e = elim (cases_lt j 2) [
    | inl a ↦ at_entry t j lt a e (ap (part_of_word z) e ∙ part_entry t j lt a)
    | inr a ↦ elim (cases_lt j 10) [
      | inl b ↦
          let i = (j - 2) / 2 in
          let s = (j - 2) % 2 in
          let q : w ≡ place_of z (Born t i) + s = omega (arith, e) in
          at_field (Born t i) s (lt, omega arith) (omega arith) q
          (ap (part_of_word z) q ∙ part_field (Born t i) s (lt, omega arith) (omega arith))
      | inr b ↦ elim (cases_lt j 14) [
        | inl d ↦
            let m = (j - 10) / 2 in
            let n = (j - 10) % 2 in
            let q : w ≡ born_wire z t m n = omega (arith, e) in
            at_between t m n lt (omega arith) (omega arith) q
            (ap (part_of_word z) q ∙ part_between t m n lt (omega arith) (omega arith))
        | inr d ↦ elim (cases_eq (j % 2) 0) [
          | inl even ↦
              let c = (j - 14) / 2 in
              let q : w ≡ born_cell z t c = omega (arith, e) in
              let h = part_born_cell t c lt (omega arith) in
              at_left (ap (part_of_word z) q ∙ h.0) (ap (λ w. part_of_word z (suc w)) q ∙ h.1) (omega (arith, q))
          | inr odd ↦
              let c = (j - 14) / 2 in
              let q : w ≡ suc (born_cell z t c) = omega (arith, e, odd) in
              let h = part_born_cell t c lt (omega arith) in
              at_right (ap (part_of_word z) q ∙ h.1)
        ]
      ]
    ]
  ]

  pub where_is : (w : ℕ) → At w
  where_is w = elim (cases_eq w 0) [
    | inl e ↦ at_ticket e
    | inr some ↦ elim (cases_eq w 1) [
      | inl e ↦ at_live e
      | inr more ↦ elim (cases_lt w (start_node z 0)) [
        | inl a ↦ let q : w ≡ port_word (w - 2) = omega (arith, some, more) in
            at_port (w - 2) (omega (arith, some, more)) q
            (ap (part_of_word z) q ∙ part_port (w - 2) (omega (arith, some, more)))
        | inr a ↦ elim (cases_lt w (start_wire z 0)) [
          | inl b ↦
              let n = (w - start_node z 0) / 2 in
              let s = (w - start_node z 0) % 2 in
              let q : w ≡ place_of z (Init n) + s = omega arith in
              at_field (Init n) s (omega arith) (omega arith) q
              (ap (part_of_word z) q ∙ part_field (Init n) s (omega arith) (omega arith))
          | inr b ↦ elim (cases_lt w (start_cell z 0)) [
            | inl d ↦ let q : w ≡ start_wire z (w - start_wire z 0) = omega arith in
                at_wire (w - start_wire z 0) (omega arith) q
                (ap (part_of_word z) q ∙ part_wire (w - start_wire z 0) (omega arith))
            | inr d ↦ elim (cases_lt w (block z 0)) [
              | inl f ↦ elim (cases_eq ((w - start_cell z 0) % 2) 0) [
                | inl even ↦
                    let c = (w - start_cell z 0) / 2 in
                    let q : w ≡ start_cell z c = omega (arith, even) in
                    let h = part_start_cell c (omega arith) in
                    at_left (ap (part_of_word z) q ∙ h.0) (ap (λ w. part_of_word z (suc w)) q ∙ h.1) (omega (arith, q))
                | inr odd ↦
                    let c = (w - start_cell z 0) / 2 in
                    let q : w ≡ suc (start_cell z c) = omega (arith, odd) in
                    let h = part_start_cell c (omega arith) in
                    at_right (ap (part_of_word z) q ∙ h.1)
              ]
              | inr f ↦ elim (cases_lt w (table_size z)) [
                | inl g ↦ in_a_block w ((w - block z 0) / 22) ((w - block z 0) % 22) (omega arith)
                    (omega arith) (omega arith)
                | inr g ↦ at_past g
              ]
            ]
          ]
        ]
      ]
    ]
  ]

  -- the part of a word, told by where it is
  abbrev part_told : (w : ℕ) → At w → WordPart
  part_told w (at_ticket e) = ticket
  part_told w (at_live e) = live_word
  part_told w (at_port n a e p) = port n
  part_told w (at_field x s a b e p) = field x s
  part_told w (at_wire j a e p) = wire j
  part_told w (at_between t q p a b d e h) = between t q p
  part_told w (at_left p q b) = left
  part_told w (at_right p) = right
  part_told w (at_entry t j a b e p) = entry
  part_told w (at_past ge) = past

  told : (w : ℕ) (h : At w) → part_of_word z w ≡ part_told w h
  told w (at_ticket e) = same w 0 _ _ e
  told w (at_live e) = apart w 0 _ _ (λ d. omega (arith, e, d)) ∙ same w 1 _ _ e
  told w (at_port n a e p) = p
  told w (at_field x s a b e p) = p
  told w (at_wire j a e p) = p
  told w (at_between t q p a b d e h) = h
  told w (at_left p q b) = p
  told w (at_right p) = p
  told w (at_entry t j a b e p) = p
  told w (at_past ge) = of_none w ge

  -- back from a part to the word
  pub is_port : (w n : ℕ) → part_of_word z w ≡ port n → (n < z.free) × (w ≡ port_word n)
  is_port w n h = go (where_is w) (sym (told w (where_is w)) ∙ h)
    where
      go : (a : At w) → part_told w a ≡ port n → (n < z.free) × (w ≡ port_word n)
      go (at_port m lt e p) q = let d : m ≡ n = cc in (omega (arith, d, lt), omega (arith, d, e))
      go (at_ticket e) q = absurd (cc)
      go (at_live e) q = absurd (cc)
      go (at_field x s a b e p) q = absurd (cc)
      go (at_wire j a e p) q = absurd (cc)
      go (at_between t u v a b d e p) q = absurd (cc)
      go (at_left p p' b) q = absurd (cc)
      go (at_right p) q = absurd (cc)
      go (at_entry t j a b e p) q = absurd (cc)
      go (at_past ge) q = absurd (cc)

  pub is_field : (w s : ℕ) (x : NodeName) → part_of_word z w ≡ field x s →
      IsPlaced z z.fuel x × (s < 2) × (w ≡ place_of z x + s)
  is_field w s x h = go (where_is w) (sym (told w (where_is w)) ∙ h)
    where
      go : (a : At w) → part_told w a ≡ field x s → IsPlaced z z.fuel x × (s < 2) × (w ≡ place_of z x + s)
      go (at_field y u a b e p) q =
          let d : y ≡ x = cc in
          let f : u ≡ s = cc in (
            subst (λ y. IsPlaced z z.fuel y) d a,
            omega (arith, f, b),
            e
                ∙ ap (λ y. place_of z y + u) d ∙ ap (λ u. place_of z x + u) f,
          )
      go (at_port m lt e p) q = absurd (cc)
      go (at_ticket e) q = absurd (cc)
      go (at_live e) q = absurd (cc)
      go (at_wire j a e p) q = absurd (cc)
      go (at_between t u v a b d e p) q = absurd (cc)
      go (at_left p p' b) q = absurd (cc)
      go (at_right p) q = absurd (cc)
      go (at_entry t j a b e p) q = absurd (cc)
      go (at_past ge) q = absurd (cc)

  pub is_wire : (w j : ℕ) → part_of_word z w ≡ wire j → (j < z.wires) × (w ≡ start_wire z j)
  is_wire w j h = go (where_is w) (sym (told w (where_is w)) ∙ h)
    where
      go : (a : At w) → part_told w a ≡ wire j → (j < z.wires) × (w ≡ start_wire z j)
      go (at_wire m a e p) q = let d : m ≡ j = cc in (omega (arith, d, a), omega (arith, d, e))
      go (at_port m lt e p) q = absurd (cc)
      go (at_ticket e) q = absurd (cc)
      go (at_live e) q = absurd (cc)
      go (at_field x s a b e p) q = absurd (cc)
      go (at_between t u v a b d e p) q = absurd (cc)
      go (at_left p p' b) q = absurd (cc)
      go (at_right p) q = absurd (cc)
      go (at_entry t m a b e p) q = absurd (cc)
      go (at_past ge) q = absurd (cc)

  pub is_between : (w t q p : ℕ) → part_of_word z w ≡ between t q p →
      (t < z.fuel) × (q < 2) × (p < 2) × (w ≡ born_wire z t q p)
  is_between w t u v h = go (where_is w) (sym (told w (where_is w)) ∙ h)
    where
      go : (a : At w) → part_told w a ≡ between t u v → (t < z.fuel) × (u < 2) × (v < 2) × (w ≡ born_wire z t u v)
      go (at_between t' u' v' a b d e p) q =
          let f : t' ≡ t = cc in
          let g : u' ≡ u = cc in
          let k : v' ≡ v = cc in
          (omega (arith, f, a), omega (arith, g, b), omega (arith, k, d), omega (arith, e, f, g, k))
      go (at_wire m a e p) q = absurd (cc)
      go (at_port m lt e p) q = absurd (cc)
      go (at_ticket e) q = absurd (cc)
      go (at_live e) q = absurd (cc)
      go (at_field x s a b e p) q = absurd (cc)
      go (at_left p p' b) q = absurd (cc)
      go (at_right p) q = absurd (cc)
      go (at_entry t' m a b e p) q = absurd (cc)
      go (at_past ge) q = absurd (cc)

  pub is_left : (w : ℕ) → part_of_word z w ≡ left → (part_of_word z (suc w) ≡ right) × (suc w < table_size z)
  is_left w h = go (where_is w) (sym (told w (where_is w)) ∙ h)
    where
      go : (a : At w) → part_told w a ≡ left → (part_of_word z (suc w) ≡ right) × (suc w < table_size z)
      go (at_left p p' b) q = (p', b)
      go (at_between t u v a b d e p) q = absurd (cc)
      go (at_wire m a e p) q = absurd (cc)
      go (at_port m lt e p) q = absurd (cc)
      go (at_ticket e) q = absurd (cc)
      go (at_live e) q = absurd (cc)
      go (at_field x s a b e p) q = absurd (cc)
      go (at_right p) q = absurd (cc)
      go (at_entry t' m a b e p) q = absurd (cc)
      go (at_past ge) q = absurd (cc)

  pub blocks_apart : (t u : ℕ) → t < u → block z t + 22 ≤ block z u
  blocks_apart t u lt = omega arith

  -- a node that came before a ticket has its fields before the ticket's block, behind the free ports
  pub place_before : (x : NodeName) (t : ℕ) → IsPlaced z t x →
      (suc z.free < place_of z x) × (place_of z x + 2 ≤ block z t)
  place_before (Init k) t lt = (omega arith, omega arith)
  place_before (Born u i) t h = (omega (arith, h.0, h.1), omega (arith, h.0, h.1))

  -- places tell names
  pub place_same : (x y : NodeName) (s u n : ℕ) → IsPlaced z n x → IsPlaced z n y → s < 2 → u < 2 →
      place_of z x + s ≡ place_of z y + u → (x ≡ y) × (s ≡ u)
  place_same (Init k) (Init m) s u n a b hs hu e = let d : k ≡ m = omega arith in (ap (λ k. Init k) d, omega arith)
  place_same (Init k) (Born t i) s u n a b hs hu e = absurd (omega (arith, b.0, b.1))
  place_same (Born t i) (Init m) s u n a b hs hu e = absurd (omega (arith, a.0, a.1))
  place_same (Born t i) (Born v j) s u n a b hs hu e =
      let f : t ≡ v = omega (arith, a.1, b.1) in
      let d : i ≡ j = omega (arith, a.1, b.1, f) in
      (ap (λ t. Born t i) f ∙ ap (λ i. Born v i) d, omega (arith, f, d))

  pub name_of_place : (x : NodeName) → IsPlaced z z.fuel x → name_at z (place_of z x) ≡ x
  name_of_place x h = let e : place_of z x ≡ place_of z x + 0 = omega arith in
      ap (λ w. name_in_part (part_of_word z w)) e ∙ ap name_in_part (part_field x 0 h (omega arith))

  pub place_order : (x y : NodeName) (n : ℕ) → IsPlaced z n x → IsPlaced z n y →
      (comes_before x y ≡ true) ↔ (place_of z x < place_of z y)
  place_order (Init k) (Init m) n a b = (
    (λ h. let lt : k < m = ltb-true k m h in omega arith),
    (λ h. lt-ltb k m (omega arith)),
  )
  place_order (Init k) (Born t i) n a b = ((λ h. omega (arith, b.0)), (λ h. refl))
  place_order (Born t i) (Init m) n a b = ((λ h. absurd (cc)), (λ h. absurd (omega (arith, h, a.0))))
  place_order (Born t i) (Born v j) n a b = (
    (λ h. elim (cases_lt t v) [
      | inl lt ↦ omega (arith, a.1, b.1, lt)
      | inr ge ↦ elim (cases_eq t v) [
        | inl e ↦ let lt : i < j = grind (arith, nat_tests) in omega (arith, e, lt)
        | inr d ↦ absurd (let n : nat_eq t v ≡ false = ne_eqb t v d in grind (arith, nat_tests))
      ]
    ]),
    (λ h. elim (cases_lt t v) [
      | inl lt ↦ grind (arith, nat_tests)
      | inr ge ↦ let e : t ≡ v = omega (arith, a.1, b.1, h) in
          let lt : i < j = omega (arith, e, h) in grind (arith, nat_tests)
    ]),
  )
