-- The cells that aren't empty, in their list.
use Rattle.std.proofs.Common.{◌≡◌, ◌≢◌, ℕ, zero, suc, ◌+◌, ◌*◌, ◌<◌, ◌≤◌, Bool, true, false, if◌then◌else◌, nat_eq}
use Rattle.std.proofs.Common.{ne_eqb, List, [], ◌∷◌, ◌++◌, length, slice_index, inl, inr, refl, sym, ap, ◌∙◌, arith}
use Rattle.std.proofs.lemmas.Bool.{cases_eq, cases_lt}
use Rattle.std.proofs.lemmas.List.{length-append}
use Rattle.ol_wire.specs.Layout.{left_word}
use Rattle.ol_wire.specs.Closed.{ClosedTable, events_in, filled_row, filled_below, cells_filled}
use Rattle.ol_reduce.specs.Found.{AreCells}

pub at_front : (xs ys : List ℕ) (j : ℕ) → j < length xs → slice_index (xs ++ ys) j ≡ slice_index xs j
at_front [] ys j lt = absurd (omega arith)
at_front (x ∷ xs) ys zero lt = refl
at_front (x ∷ xs) ys (suc j) lt = at_front xs ys j (omega arith)

pub at_end : (xs : List ℕ) (x j : ℕ) → j ≡ length xs → slice_index (xs ++ x ∷ []) j ≡ x
at_end [] x zero e = refl
at_end [] x (suc j) e = absurd (omega (arith, e))
at_end (y ∷ xs) x zero e = absurd (omega (arith, e))
at_end (y ∷ xs) x (suc j) e = at_end xs x j (omega (arith, e))

-- each is in the list
pub filled_listed : (w : ClosedTable) (n c : ℕ) → c < n → slice_index w.words (left_word w.plan.parts c) ≢ 0
    → (j : ℕ) × (j < length (filled_below w n)) × (slice_index (filled_below w n) j ≡ c)
filled_listed w zero c lt filled = absurd (omega arith)
filled_listed w (suc n) c lt filled = elim (cases_eq c n) [
  | inl e ↦ last e (row c filled)
  | inr d ↦
      let t = filled_listed w n c (omega (arith, lt, d)) filled in (
        t.0,
        omega (arith, t.1, length-append (filled_below w n) (filled_row w n)),
        at_front (filled_below w n) (filled_row w n) t.0 t.1 ∙ t.2,
      )
]
  where
    row : (c : ℕ) → slice_index w.words (left_word w.plan.parts c) ≢ 0 → filled_row w c ≡ c ∷ []
    row c f = ap (λ b. if b then [] else c ∷ []) (ne_eqb (slice_index w.words (left_word w.plan.parts c)) 0 f)

    last : c ≡ n → filled_row w c ≡ c ∷ [] →
        (j : ℕ) × (j < length (filled_below w (suc n))) × (slice_index (filled_below w (suc n)) j ≡ c)
    last e r =
        let q : filled_row w n ≡ c ∷ [] = ap (filled_row w) (sym e) ∙ r in
        let whole : filled_below w (suc n) ≡ filled_below w n ++ c ∷ [] = ap (λ row. filled_below w n ++ row) q in (
          length (filled_below w n),
          omega (
            arith,
            ap length whole,
            length-append (filled_below w n) (c ∷ []),
          ),
          ap (λ l. slice_index l (length (filled_below w n))) whole
              ∙ at_end (filled_below w n) c (length (filled_below w n)) refl,
        )

-- each of the list is a cell below n
filled_low : (w : ClosedTable) (n j : ℕ) → j < length (filled_below w n) → slice_index (filled_below w n) j < n
filled_low w zero j lt = absurd (omega arith)
filled_low w (suc n) j lt = go (filled_low w n j) (nat_eq (slice_index w.words (left_word w.plan.parts n)) 0) refl
  where
    go : (j < length (filled_below w n) → slice_index (filled_below w n) j < n) → (b : Bool) →
        nat_eq (slice_index w.words (left_word w.plan.parts n)) 0 ≡ b → slice_index (filled_below w (suc n)) j < suc n
    go below true e =
        let whole : filled_below w (suc n) ≡ filled_below w n ++ [] = ap
        (λ b. filled_below w n ++ (if b then [] else n ∷ [])) e in
        let low : j < length (filled_below w n) = omega
        (arith, lt, ap length whole, length-append (filled_below w n) []) in
        omega (arith, ap (λ l. slice_index l j) whole, at_front (filled_below w n) [] j low, below low)
    go below false e =
        let whole : filled_below w (suc n) ≡ filled_below w n ++ n ∷ [] = ap
        (λ b. filled_below w n ++ (if b then [] else n ∷ [])) e in
        elim (cases_lt j (length (filled_below w n))) [
          | inl low ↦ omega (
            arith,
            ap (λ l. slice_index l j) whole,
            at_front (filled_below w n) (n ∷ []) j low,
            below low,
          )
          | inr ge ↦ omega (
            arith,
            ap (λ l. slice_index l j) whole,
            at_end (filled_below w n) n j (omega
                (arith, ge, lt, ap length whole, length-append (filled_below w n) (n ∷ []))),
          )
        ]

pub are_cells : (w : ClosedTable) (cells : List ℕ) → cells ≡ cells_filled w →
    events_in w.plan.parts w.words ≤ w.plan.parts.fuel → AreCells w cells
are_cells w cells e few j lt = omega (
  arith,
  ap (λ l. slice_index l j) e,
  few,
  filled_low w (w.plan.parts.cells + 4 * events_in w.plan.parts w.words) j (omega (arith, lt, ap length e)),
)
