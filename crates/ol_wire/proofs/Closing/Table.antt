-- The table of closed words: its views hold nothing, and its words are what they will be.
-- Used in Stands, Start, Told, `at`, `entry`, `journal`, `word` and ol_reduce.
use Rattle.std.proofs.Common.{◌≡◌, ℕ, zero, suc, ◌+◌, ◌<◌, ◌≤◌, nat_lt, eq-eqb, lt-ltb}
use Rattle.std.proofs.Common.{if◌then◌else◌, false, List, [], ◌∷◌, ◌++◌, map, length, get_or}
use Rattle.std.proofs.Common.{slice_index, Some, None, inl, inr, refl, sym, ap, ◌∙◌, arith}
use Rattle.std.specs.Prelude.{slice_get}
use Rattle.std.proofs.lemmas.Bool.{cases_eq, cases_lt}
use Rattle.std.proofs.lemmas.Bool.Decides.{nat_tests}
use mathlib.Core.Option.{some, some-injective, some-ne-none}
use lib.ListN.{get_elem?}
use Rattle.ol_rules.specs.Listed.{each}
use Rattle.ol_wire.specs.declared.layout.Parts.{Parts}
use Rattle.ol_wire.specs.declared.view.Link.{Link}
use Rattle.ol_wire.specs.declared.view.View.{View}
use Rattle.ol_wire.specs.References.{place_in}
use Rattle.ol_wire.specs.Layout.{block, table_size}
use Rattle.ol_wire.specs.Events.{Event, event_of, entry_of, earlier, later}
use Rattle.ol_wire.specs.Weights.{total, pairs, Empties}
use Rattle.ol_wire.specs.Edges.{links_in, pending_in}
use Rattle.ol_wire.specs.Rule.{Table, IsView, Kept, entries_of}
use Rattle.ol_wire.specs.Views.{IsSpentView}
use Rattle.ol_wire.specs.Closed.{ClosedTable, events_in, event_at, log_in, journal_in}
use Rattle.ol_wire.specs.ClosedRule.{IsClosed}
use Rattle.ol_wire.proofs.InWords.Held.{spot, spot_else, weigh_spot, total_at}
use Rattle.ol_wire.proofs.Closing.Entry.{entry_read}
use Rattle.ol_wire.proofs.Closing.Lists.{whole, same_words, one_each, none_each, each_map}

pub got : (l : List ℕ) (i x : ℕ) → get_elem? l i ≡ some x → (i < length l) × (x ≡ get_or l i 0)
got [] i x e = absurd (some-ne-none x (sym e))
got (y ∷ ys) zero x e = (omega arith, sym (some-injective y x e))
got (y ∷ ys) (suc i) x e = let h = got ys i x e in (omega (arith, h.0), h.1)

abbrev at_spot : ℕ → ℕ → ℕ → ℕ
at_spot w = spot w (λ y. y)

spot_none : (w : ℕ) → Empties (at_spot w)
spot_none w k = elim (cases_eq k w) [
  | inl e ↦ ap (λ b. if b then 0 else 0) (eq-eqb k w e)
  | inr n ↦ spot_else w k 0 (λ y. y) n
]

no_links : (l : List Link) → length l ≡ 0 → l ≡ []
no_links [] e = refl
no_links (x ∷ l) e = absurd (omega (arith, e))

none_pending : (views : List View) → total (λ (v : View). length v.pending) views ≡ 0 → pending_in views ≡ []
none_pending [] e = refl
none_pending (v ∷ views) e = ap (λ l. links_in l ++ pending_in views)
    (no_links v.pending (omega (arith, e))) ∙ none_pending views (omega (arith, e))

-- an event, read from the two references in their order
abbrev pub read : Event → Event
read e = event_of (earlier e.f e.g) (later e.f e.g)

module _ (w : ClosedTable) (c : IsClosed w) where
  abbrev pub z : Parts
  z = w.plan.parts

  abbrev pub s : Table
  s = c.table

  abbrev pub k : Kept w.plan s
  k = c.kept

  -- what a view that did nothing has none of is all in the one view
  pub all_in : (f : View → ℕ) → ((v : View) → v.holds ≡ 0 → IsSpentView v → f v ≡ 0) → total f s.views ≡ f w.view
  all_in f h = whole f (λ (v : View). v.holds) s.views c.id w.view c.seat
      (λ i u e o. h u o (k.seats.spent u (i, e) o)) (k.seats.all ∙ sym c.all)

  none_held : (h : ℕ → ℕ → ℕ) → total (λ (v : View). pairs h v.due + pairs h v.taken) s.views ≡ 0
  none_held h =
      all_in (λ (v : View). pairs h v.due + pairs h v.taken)
      (λ v o e. omega (arith, ap (λ (v : View). pairs h v.due) e, ap (λ (v : View). pairs h v.taken) e))
      ∙ ap (λ l. pairs h l + pairs h w.view.taken) c.idle.1 ∙ ap (λ l. 0 + pairs h l) c.idle.0

  pub pending_none : pending_in s.views ≡ []
  pending_none = none_pending s.views (all_in (λ (v : View). length v.pending)
      (λ v o e. ap (λ (v : View). length v.pending) e) ∙ ap length c.idle.2)

  pub no_pending : (v : View) → IsView s v → v.pending ≡ []
  no_pending v is = no_links v.pending
      (omega (arith, total_at (λ (v : View). length v.pending) s.views is.0 v is.1, all_pending))
    where
      all_pending : total (λ (v : View). length v.pending) s.views ≡ 0
      all_pending = all_in (λ (v : View). length v.pending)
          (λ v o e. ap (λ (v : View). length v.pending) e) ∙ ap length c.idle.2

  pub is_full : w.words ≡ k.full
  is_full = sym c.words ∙ same_words s.words k.full (k.words.wide ∙ sym k.words.full_wide)
      (λ n lt. let b : n < table_size z = omega (arith, lt, k.words.wide) in
      omega (
        arith,
        k.words.written (at_spot n) (spot_none n),
        weigh_spot n (table_size z) (λ y. y) s.words b,
        weigh_spot n (table_size z) (λ y. y) k.full b,
        none_held (at_spot n),
      ))

  pub tickets : events_in z w.words ≡ length k.log
  tickets = elim (cases_lt (slice_index w.words 0) z.fuel) [
    | inl lt ↦ ap (λ b. if b then slice_index w.words 0 else z.fuel)
        (lt-ltb (slice_index w.words 0) z.fuel lt) ∙ omega (arith, first, k.tickets.below (omega (arith, lt, first)))
    | inr ge ↦ let e : nat_lt (slice_index w.words 0) z.fuel ≡ false = grind (arith, nat_tests) in
        ap (λ b. if b then slice_index w.words 0 else z.fuel) e ∙ sym (k.tickets.above (omega (arith, ge, first)))
  ]
    where
      first : slice_index w.words 0 ≡ slice_index s.words 0
      first = ap (λ l. slice_index l 0) (sym c.words)

  -- the entry of a ticket is told by the words of its block
  pub event_told : (t : ℕ) (e : Event) → slice_get k.log t ≡ Some e →
      event_at z w.words t ≡ event_of (earlier e.f e.g) (later e.f e.g)
  event_told t e h = ap (λ f. event_of f (slice_index w.words (block z t + 1)))
      (ap (λ l. slice_index l (block z t)) is_full ∙ first)
      ∙ ap (λ g. event_of (earlier e.f e.g) g)
      (ap (λ l. slice_index l (block z t + 1)) is_full ∙ k.words.entries t 1 e h (omega arith))
    where
      first : slice_index k.full (block z t) ≡ earlier e.f e.g
      first = let q : block z t ≡ block z t + 0 = omega arith in
          ap (slice_index k.full) q ∙ k.words.entries t 0 e h (omega arith)

  -- the events, read from the words
  pub log_told : log_in z w.words ≡ map read k.log
  log_told = ap (λ n. each n (λ t. event_at z w.words t ∷ [])) tickets
      ∙ each_map read k.log (λ t. event_at z w.words t) event_told

  pub entry_told : (t : ℕ) (e : Event) → slice_get k.log t ≡ Some e → entry_of z (event_at z w.words t) ≡ entry_of z e
  entry_told t e h = ap (entry_of z) (event_told t e h) ∙ entry_read z e (k.journal.rules t e h)

  pub journal_told : journal_in z w.words ≡ entries_of z k.log
  journal_told = ap (λ n. each n (λ t. entry_of z (event_at z w.words t) ∷ [])) tickets
      ∙ each_map (entry_of z) k.log (λ t. entry_of z (event_at z w.words t)) entry_told

  pub place_small : (n : ℕ) → 1 < n → place_in (slice_index w.words n) < 4294967296
  place_small n lt = elim (cases_eq (slice_index k.full n) 0) [
    | inl e ↦ omega (arith, ap (λ l. slice_index l n) is_full, e)
    | inr d ↦ omega (
      arith,
      ap (λ l. slice_index l n) is_full,
      (k.words.refs n lt d).2,
      k.plan.small.free,
      k.plan.small.nodes,
      k.plan.small.wires,
      k.plan.small.cells,
      k.plan.small.fuel,
      k.tickets.few,
    )
  ]

-- an entry of the journal
pub entry_at : (z : Parts) (words : List ℕ) (t : ℕ) → t < events_in z words →
    slice_get (journal_in z words) t ≡ Some (entry_of z (event_at z words t))
entry_at z words t lt = one_each (λ t. entry_of z (event_at z words t)) (events_in z words) t lt

pub no_entry : (z : Parts) (words : List ℕ) (t : ℕ) → events_in z words ≤ t → slice_get (journal_in z words) t ≡ None
no_entry z words t le = none_each (λ t. entry_of z (event_at z words t)) (events_in z words) t le
