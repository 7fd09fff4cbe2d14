-- Wires by their numbers.
use Rattle.std.proofs.Common.{◌≡◌, ℕ, ◌+◌, ◌-◌, ◌*◌, ◌/◌, ◌%◌, ◌<◌, ◌≤◌, ◌⊎◌, inl, inr, ◌∙◌, arith}
use Rattle.std.proofs.lemmas.Bool.{cases_lt}
use Rattle.ol_law_edges.proofs.Lists.{if_below, if_above}
use Rattle.ol_wire.specs.declared.layout.Parts.{Parts}
use Rattle.ol_wire.specs.Layout.{WordPart, ticket, live_word, port, field, wire, between, left}
use Rattle.ol_wire.specs.Layout.{right, entry, past, part_of_word, start_wire, start_cell, block}
use Rattle.ol_wire.specs.Standing.{IsWirePart}
use Rattle.ol_wire.proofs.InWords.Places.{is_wire, is_between}
use Rattle.ol_reduce.specs.Found.{wire_word, IsStartWire, IsBornWire}

module _ (z : Parts) where
  low_word : (k : ℕ) → k < z.wires → wire_word z k ≡ start_wire z k
  low_word k lt = if_below k z.wires _ _ lt

  high_word : (k : ℕ) → z.wires ≤ k → wire_word z k ≡ block z ((k - z.wires) / 4) + 10 + (k - z.wires) % 4
  high_word k ge = if_above k z.wires _ _ ge

  -- two wires are two words
  pub wire_same : (j k : ℕ) → wire_word z j ≡ wire_word z k → j ≡ k
  wire_same j k e = elim (cases_lt j z.wires) [
    | inl a ↦ elim (cases_lt k z.wires) [
      | inl b ↦ omega (arith, e, low_word j a, low_word k b)
      | inr b ↦ absurd (omega (arith, e, low_word j a, high_word k b, a))
    ]
    | inr a ↦ elim (cases_lt k z.wires) [
      | inl b ↦ absurd (omega (arith, e, high_word j a, low_word k b, b))
      | inr b ↦ omega (arith, e, high_word j a, high_word k b, a, b)
    ]
  ]

  -- one that stands before a ticket's block has a number below those of this ticket
  pub wire_below : (n k : ℕ) → wire_word z k < block z n → k < z.wires + 4 * n
  wire_below n k lt = elim (cases_lt k z.wires) [
    | inl a ↦ omega (arith, a)
    | inr a ↦ omega (arith, lt, high_word k a, a)
  ]

  -- the number of a word, as the code finds it
  pub start_number : (n : ℕ) → start_wire z 0 ≤ n → n < start_cell z 0 → wire_word z (n - start_wire z 0) ≡ n
  start_number n ge lt = low_word (n - start_wire z 0) (omega (arith, ge, lt))
      ∙ (let e : start_wire z (n - start_wire z 0) ≡ n = omega (arith, ge) in e)

  pub born_number : (n : ℕ) → IsBornWire z n →
      wire_word z (z.wires + 4 * ((n - block z 0) / 22) + ((n - block z 0) % 22 - 10)) ≡ n
  born_number n h =
      let k = z.wires + 4 * ((n - block z 0) / 22) + ((n - block z 0) % 22 - 10) in
      high_word k (omega arith) ∙ (let e : block z ((k - z.wires) / 4) + 10 +
      (k - z.wires) % 4 ≡ n = omega (arith, h.0, h.2, h.3) in e)

  -- where a wire's word stands
  pub wire_spot : (n : ℕ) (p : WordPart) → part_of_word z n ≡ p → IsWirePart p → IsStartWire z n ⊎ IsBornWire z n
  wire_spot n (wire j) e h = let t = is_wire z n j e in inl (omega (arith, t.1), omega (arith, t.0, t.1))
  wire_spot n (between t q p) e h = let d = is_between z n t q p e in
      inr (
        omega (arith, d.3),
        omega (arith, d.0, d.1, d.2, d.3),
        omega (arith, d.1, d.2, d.3),
        omega (arith, d.1, d.2, d.3),
      )
  wire_spot n ticket e h = absurd h
  wire_spot n live_word e h = absurd h
  wire_spot n (port k) e h = absurd h
  wire_spot n (field x s) e h = absurd h
  wire_spot n left e h = absurd h
  wire_spot n right e h = absurd h
  wire_spot n entry e h = absurd h
  wire_spot n past e h = absurd h
