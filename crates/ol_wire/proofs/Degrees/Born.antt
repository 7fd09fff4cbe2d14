-- Each end that a ticket makes comes once, that of a wire twice, and no other end comes.
-- Used in After.
use Rattle.std.proofs.Common.{◌≡◌, ℕ, ◌+◌, ◌<◌, ◌≤◌, inl, inr, refl, sym, arith}
use Rattle.std.proofs.lemmas.Bool.{cases_eq}
use Rattle.ol_net.specs.declared.parts.Kind.{Kind}
use Rattle.ol_rules.specs.declared.journal.NodeName.TheVariants.{Born}
use Rattle.ol_wire.specs.declared.layout.Parts.{Parts}
use Rattle.ol_wire.specs.References.{node_ref, wire_ref, slot_ref}
use Rattle.ol_wire.specs.Layout.{block, place_of, born_wire}
use Rattle.ol_wire.proofs.InWords.References.{node_same, slot_same, wire_same, node_not_wire}
use Rattle.ol_wire.proofs.InWords.References.{node_not_slot, wire_not_slot}
use Rattle.ol_wire.proofs.Degrees.Sums.{among, among_none, among_one, among_some, within}
use Rattle.ol_wire.proofs.Degrees.Sums.{within_none, within_one, within_some}
use Rattle.ol_wire.proofs.Degrees.Counts.{born}

-- indexes that a reference has room for, and at most two copies of each
pub record Few (i j n m : ℕ) : Type 0 where
  pub index_f : i < 16777216
  pub index_g : j < 16777216
  pub copies_f : n ≤ 2
  pub copies_g : m ≤ 2

module _ (z : Parts) (t : ℕ) (k l : Kind) (i j n m : ℕ) (few : Few i j n m) where
  abbrev pub f_copy : ℕ → ℕ
  f_copy q = node_ref k i (place_of z (Born t q))

  abbrev pub g_copy : ℕ → ℕ
  g_copy p = node_ref l j (place_of z (Born t (n + p)))

  -- slot p + 1 of the copy of f at q, slot q + 1 of the copy of g at p, and the wire between them
  abbrev pub f_slot : ℕ → ℕ → ℕ
  f_slot q p = slot_ref (place_of z (Born t q) + p)

  abbrev pub g_slot : ℕ → ℕ → ℕ
  g_slot q p = slot_ref (place_of z (Born t (n + p)) + q)

  abbrev pub wire_of : ℕ → ℕ → ℕ
  wire_of q p = wire_ref (born_wire z t q p)

  -- nodes
  pub born_f : (q : ℕ) → q < n → born z t k i l j n m (f_copy q) ≡ 1
  born_f q b =
      let u = f_copy q in
      let c = among_one n q f_copy u b refl
      (λ r h e. let s = node_same k k i i (place_of z (Born t q))
      (place_of z (Born t r)) few.index_f few.index_f e in omega (arith, s.2)) in
      let d = among_none m g_copy u (λ p h e.
      let s = node_same k l i j (place_of z (Born t q))
      (place_of z (Born t (n + p))) few.index_f few.index_g e in omega (arith, s.2, b)) in
      let f = within_none n m f_slot u (λ r p h v e.
      node_not_slot k i (place_of z (Born t q)) (place_of z (Born t r) + p) e) in
      let g = within_none n m g_slot u (λ r p h v e.
      node_not_slot k i (place_of z (Born t q)) (place_of z (Born t (n + p)) + r) e) in
      let w = within_none n m wire_of u (λ r p h v e.
      node_not_wire k i (place_of z (Born t q)) (born_wire z t r p) e) in
      omega (arith, c, d, f, g, w)

  pub born_g : (p : ℕ) → p < m → born z t k i l j n m (g_copy p) ≡ 1
  born_g p b =
      let u = g_copy p in
      let at = place_of z (Born t (n + p)) in
      let c = among_none n f_copy u (λ r h e.
      let s = node_same l k j i at (place_of z (Born t r)) few.index_g few.index_f e in omega (arith, s.2, h)) in
      let d = among_one m p g_copy u b refl
      (λ r h e. let s = node_same l l j j at
      (place_of z (Born t (n + r))) few.index_g few.index_g e in omega (arith, s.2)) in
      let f = within_none n m f_slot u (λ r p h v e. node_not_slot l j at (place_of z (Born t r) + p) e) in
      let g = within_none n m g_slot u (λ r p h v e. node_not_slot l j at (place_of z (Born t (n + p)) + r) e) in
      let w = within_none n m wire_of u (λ r p h v e. node_not_wire l j at (born_wire z t r p) e) in
      omega (arith, c, d, f, g, w)

  -- slots
  pub born_f_slot : (q p : ℕ) → q < n → p < m → born z t k i l j n m (f_slot q p) ≡ 1
  born_f_slot q p b a =
      let u = f_slot q p in
      let at = place_of z (Born t q) + p in
      let c = among_none n f_copy u (λ r h e. node_not_slot k i (place_of z (Born t r)) at (sym e)) in
      let d = among_none m g_copy u (λ r h e. node_not_slot l j (place_of z (Born t (n + r))) at (sym e)) in
      let f = within_one n m q p f_slot u b a refl
      (λ r s h v e. let o = slot_same at (place_of z (Born t r) + s) e in
      (omega (arith, o, a, v), omega (arith, o, a, v))) in
      let g = within_none n m g_slot u (λ r s h v e.
      let o = slot_same at (place_of z (Born t (n + s)) + r) e in omega (arith, o, a, b, h)) in
      let w = within_none n m wire_of u (λ r s h v e. wire_not_slot (born_wire z t r s) at (sym e)) in
      omega (arith, c, d, f, g, w)

  pub born_g_slot : (q p : ℕ) → q < n → p < m → born z t k i l j n m (g_slot q p) ≡ 1
  born_g_slot q p b a =
      let u = g_slot q p in
      let at = place_of z (Born t (n + p)) + q in
      let c = among_none n f_copy u (λ r h e. node_not_slot k i (place_of z (Born t r)) at (sym e)) in
      let d = among_none m g_copy u (λ r h e. node_not_slot l j (place_of z (Born t (n + r))) at (sym e)) in
      let f = within_none n m f_slot u (λ r s h v e.
      let o = slot_same at (place_of z (Born t r) + s) e in omega (arith, o, v, b, h)) in
      let g = within_one n m q p g_slot u b a refl
      (λ r s h v e. let o = slot_same at (place_of z (Born t (n + s)) + r) e in
      (omega (arith, o, b, h), omega (arith, o, b, h))) in
      let w = within_none n m wire_of u (λ r s h v e. wire_not_slot (born_wire z t r s) at (sym e)) in
      omega (arith, c, d, f, g, w)

  -- wires
  pub born_wires : (q p : ℕ) → q < n → p < m → born z t k i l j n m (wire_of q p) ≡ 2
  born_wires q p b a =
      let u = wire_of q p in
      let at = born_wire z t q p in
      let c = among_none n f_copy u (λ r h e. node_not_wire k i (place_of z (Born t r)) at (sym e)) in
      let d = among_none m g_copy u (λ r h e. node_not_wire l j (place_of z (Born t (n + r))) at (sym e)) in
      let f = within_none n m f_slot u (λ r s h v e. wire_not_slot at (place_of z (Born t r) + s) e) in
      let g = within_none n m g_slot u (λ r s h v e. wire_not_slot at (place_of z (Born t (n + s)) + r) e) in
      let w = within_one n m q p wire_of u b a refl
      (λ r s h v e. let o = wire_same at (born_wire z t r s) e in
      (omega (arith, o, a, v), omega (arith, o, a, v))) in
      omega (arith, c, d, f, g, w)

  -- ends of what was there before the ticket
  pub node_unborn : (o : Kind) (h at : ℕ) → h < 16777216 → at < block z t → born z t k i l j n m (node_ref o h at) ≡ 0
  node_unborn o h at sh lt =
      let u = node_ref o h at in
      let c = among_none n f_copy u (λ r b e.
      let s = node_same o k h i at (place_of z (Born t r)) sh few.index_f e in omega (arith, s.2, lt)) in
      let d = among_none m g_copy u (λ r b e.
      let s = node_same o l h j at (place_of z (Born t (n + r))) sh few.index_g e in omega (arith, s.2, lt)) in
      let f = within_none n m f_slot u (λ r s b v e. node_not_slot o h at (place_of z (Born t r) + s) e) in
      let g = within_none n m g_slot u (λ r s b v e. node_not_slot o h at (place_of z (Born t (n + s)) + r) e) in
      let w = within_none n m wire_of u (λ r s b v e. node_not_wire o h at (born_wire z t r s) e) in
      omega (arith, c, d, f, g, w)

  pub slot_unborn : (at : ℕ) → at < block z t → born z t k i l j n m (slot_ref at) ≡ 0
  slot_unborn at lt =
      let u = slot_ref at in
      let c = among_none n f_copy u (λ r h e. node_not_slot k i (place_of z (Born t r)) at (sym e)) in
      let d = among_none m g_copy u (λ r h e. node_not_slot l j (place_of z (Born t (n + r))) at (sym e)) in
      let f = within_none n m f_slot u (λ r s h v e.
      let o = slot_same at (place_of z (Born t r) + s) e in omega (arith, o, lt)) in
      let g = within_none n m g_slot u (λ r s h v e.
      let o = slot_same at (place_of z (Born t (n + s)) + r) e in omega (arith, o, lt)) in
      let w = within_none n m wire_of u (λ r s h v e. wire_not_slot (born_wire z t r s) at (sym e)) in
      omega (arith, c, d, f, g, w)

  pub wire_unborn : (at : ℕ) → at < block z t → born z t k i l j n m (wire_ref at) ≡ 0
  wire_unborn at lt =
      let u = wire_ref at in
      let c = among_none n f_copy u (λ r h e. node_not_wire k i (place_of z (Born t r)) at (sym e)) in
      let d = among_none m g_copy u (λ r h e. node_not_wire l j (place_of z (Born t (n + r))) at (sym e)) in
      let f = within_none n m f_slot u (λ r s h v e. wire_not_slot at (place_of z (Born t r) + s) e) in
      let g = within_none n m g_slot u (λ r s h v e. wire_not_slot at (place_of z (Born t (n + s)) + r) e) in
      let w = within_none n m wire_of u (λ r s h v e. let o = wire_same at (born_wire z t r s) e in
      omega (arith, o, lt)) in
      omega (arith, c, d, f, g, w)

  -- what an end is that comes
  pub data Comes (u : ℕ) : Type 0 where
    a_copy_of_f : (q : ℕ) → q < n → u ≡ f_copy q → Comes u
    a_copy_of_g : (p : ℕ) → p < m → u ≡ g_copy p → Comes u
    slot_of_f : (q p : ℕ) → q < n → p < m → u ≡ f_slot q p → Comes u
    slot_of_g : (q p : ℕ) → q < n → p < m → u ≡ g_slot q p → Comes u
    a_wire : (q p : ℕ) → q < n → p < m → u ≡ wire_of q p → Comes u

  pub born_some : (u : ℕ) → 0 < born z t k i l j n m u → Comes u
  born_some u h = elim (cases_eq (among n f_copy u) 0) [
    | inr some ↦ let s = among_some n f_copy u (omega (arith, some)) in a_copy_of_f s.0 s.1 s.2
    | inl c ↦ elim (cases_eq (among m g_copy u) 0) [
      | inr some ↦ let s = among_some m g_copy u (omega (arith, some)) in a_copy_of_g s.0 s.1 s.2
      | inl d ↦ elim (cases_eq (within n m f_slot u) 0) [
        | inr some ↦ let s = within_some n m f_slot u (omega (arith, some)) in slot_of_f s.0 s.1 s.2 s.3 s.4
        | inl f ↦ elim (cases_eq (within n m g_slot u) 0) [
          | inr some ↦ let s = within_some n m g_slot u (omega (arith, some)) in slot_of_g s.0 s.1 s.2 s.3 s.4
          | inl g ↦ let s = within_some n m wire_of u (omega (arith, h, c, d, f, g)) in a_wire s.0 s.1 s.2 s.3 s.4
        ]
      ]
    ]
  ]
