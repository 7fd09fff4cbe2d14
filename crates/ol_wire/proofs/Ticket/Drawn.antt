-- The tickets that the views have drawn, and the words of their own blocks.
-- Used in Cells and Seats.
use Rattle.std.proofs.Common.{◌≡◌, ℕ, suc, ◌+◌, ◌<◌, ◌≤◌, if◌then◌else◌, nat_eq, eq-eqb, ne_eqb}
use Rattle.std.proofs.Common.{inl, inr, Bool, List, [], ◌∷◌, length, sym, refl, ap, arith}
use Rattle.std.proofs.lemmas.Bool.{cases_eq}
use Rattle.ol_law_edges.specs.Edges.{IsIn}
use Rattle.ol_rules.specs.declared.journal.Entry.{Entry}
use Rattle.ol_wire.specs.declared.layout.Parts.{Parts}
use Rattle.ol_wire.specs.declared.plan.Plan.{Plan}
use Rattle.ol_wire.specs.declared.view.View.{View}
use Rattle.ol_wire.specs.Layout.{block}
use Rattle.ol_wire.specs.Weights.{pairs, weighed_by_place}
use Rattle.ol_wire.specs.Events.{Event}
use Rattle.ol_wire.specs.Rule.{Table, IsView, Kept, entries_of, IsInOwnBlock}
use Rattle.ol_wire.proofs.InWords.Held.{total_at}

abbrev pub one_if : Bool → ℕ
one_if b = if b then 1 else 0

-- how often a ticket is among those that were drawn
abbrev of_ticket : ℕ → ℕ → Entry → ℕ
of_ticket n m x = one_if (nat_eq m n)

ticket_there : (n : ℕ) (x : Entry) (l : List (ℕ × Entry)) → IsIn (n, x) l → 1 ≤ pairs (of_ticket n) l
ticket_there n x [] h = absurd h
ticket_there n x (y ∷ l) (inl q) = let one : of_ticket n y.0 y.1 ≡ 1 = ap one_if
    (eq-eqb y.0 n (sym (ap (λ (a : ℕ × Entry). a.0) q))) in omega (arith, one)
ticket_there n x (y ∷ l) (inr h) = omega (arith, ticket_there n x l h)

ticket_within : (n m : ℕ) (l : List Entry) → 1 ≤ weighed_by_place (of_ticket n) m l → n < m + length l
ticket_within n m [] h = absurd (omega (arith, h))
ticket_within n m (x ∷ l) h = elim (cases_eq m n) [
  | inl q ↦ omega (arith, q)
  | inr d ↦
      let none : of_ticket n m x ≡ 0 = ap one_if (ne_eqb m n d) in
      omega (arith, ticket_within n (suc m) l (omega (arith, h, none)))
]

pub entries_length : (z : Parts) (log : List Event) → length (entries_of z log) ≡ length log
entries_length z [] = refl
entries_length z (x ∷ log) = ap suc (entries_length z log)

-- what the rule says of each view's tickets
module _ (p : Plan) (s : Table) (k : Kept p s) where
  -- each has been drawn
  pub drawn : (u : View) (n : ℕ) (x : Entry) → IsView s u → IsIn (n, x) u.made → n < length k.log
  drawn u n x is i =
      let some_made = total_at (λ (u : View). pairs (of_ticket n) u.made) s.views is.0 u is.1 in
      let lt = ticket_within n 0 (entries_of p.parts k.log)
      (omega (arith, some_made, k.seats.made (of_ticket n), ticket_there n x u.made i)) in
      omega (arith, lt, entries_length p.parts k.log)

  -- so a word of a view's own block comes before the blocks that are to come
  pub own_before : (u : View) (w : ℕ) → IsView s u → IsInOwnBlock p.parts u w → w < block p.parts (length k.log)
  own_before u w is h =
      let lt = drawn u h.0 h.1 is h.2 in
      let within = h.3.1 in
      omega (arith, lt, within)
