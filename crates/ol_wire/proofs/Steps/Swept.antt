-- What the one seat that is left knows of the cells that it sweeps.
-- Used in Plain, Return and Ticket.Cells.
use Rattle.std.proofs.Common.{◌≡◌, ◌≢◌, ℕ, suc, ◌<◌, ◌⊎◌, ◌&&◌, nat_eq, eq-eqb, ne_eqb, if◌then◌else◌, None, Some}
use Rattle.std.proofs.Common.{Option, List, [], get_or, sym, refl, ap, ◌∙◌, subst, inl, inr, arith}
use Rattle.std.proofs.lemmas.Bool.{cases_eq}
use mathlib.Core.Option.{some, some-injective}
use lib.ListN.{get_elem?}
use Rattle.ol_law_edges.specs.Edges.{IsIn}
use Rattle.ol_net.specs.declared.parts.Rule.{Rule}
use Rattle.ol_wire.specs.declared.layout.Parts.{Parts}
use Rattle.ol_wire.specs.declared.plan.Plan.{Plan}
use Rattle.ol_wire.specs.declared.view.Link.{Link}
use Rattle.ol_wire.specs.declared.view.View.{View}
use Rattle.ol_wire.specs.Layout.{WordPart, left, part_of_word, left_word, cells_of}
use Rattle.ol_wire.specs.Events.{IsStuckPair}
use Rattle.ol_wire.specs.Plays.{cell_at, swept_on}
use Rattle.ol_wire.specs.StepPlays.{is_stuck}
use Rattle.ol_wire.specs.Rule.{Table, Kept, IsView, IsOwn}
use Rattle.ol_wire.proofs.InWords.Places.{is_left, cell_of_left}
use Rattle.ol_wire.proofs.InWords.Held.{Holds, owner, two_at}
use Rattle.ol_wire.proofs.Steps.Keep.{IsSwept}

-- one cell more is swept only where the seat holds all seats, and it is the next one
pub swept_more : (v : View) (c n : ℕ) → n < swept_on v c → (n < v.swept) ⊎ ((v.holds ≡ v.seats) × (n ≡ c))
swept_more v c n lt = elim (cases_eq v.holds v.seats) [
  | inl e ↦ elim (cases_eq c v.swept) [
    | inl f ↦
        let q : swept_on v c ≡ suc v.swept = ap
        (λ b. if b && nat_eq c v.swept then suc v.swept else v.swept) (eq-eqb v.holds v.seats e)
        ∙ ap (λ b. if b then suc v.swept else v.swept) (eq-eqb c v.swept f) in
        elim (cases_eq n c) [
          | inl g ↦ inr (e, g)
          | inr g ↦ inl (omega (arith, lt, q, f, g))
        ]
    | inr f ↦
        let q : swept_on v c ≡ v.swept = ap (λ b.
        if b && nat_eq c v.swept then suc v.swept else v.swept) (eq-eqb v.holds v.seats e)
        ∙ ap (λ b. if b then suc v.swept else v.swept) (ne_eqb c v.swept f) in
        inl (omega (arith, lt, q))
  ]
  | inr e ↦
      let q : swept_on v c ≡ v.swept = ap (λ b.
      if b && nat_eq c v.swept then suc v.swept else v.swept) (ne_eqb v.holds v.seats e) in
      inl (omega (arith, lt, q))
]

-- and where a pair is put back, only if it is stuck
pub swept_stuck : (q r : Option Rule) (x y n : ℕ) → n < (if is_stuck q r then x else y) →
    (n < y) ⊎ ((q ≡ None) × (r ≡ None) × (n < x))
swept_stuck None None x y n lt = inr (refl, refl, lt)
swept_stuck None (Some r) x y n lt = inl lt
swept_stuck (Some q) r x y n lt = inl lt

module _ (p : Plan) (s : Table) (k : Kept p s) (id : ℕ) (v : View)
    (here : get_elem? s.views id ≡ some v) (held : 0 < v.holds) where
  -- beside a seat that holds all seats no view holds a pair
  alone : v.holds ≡ p.seats → (j : ℕ) (u : View) → get_elem? s.views j ≡ some u → j ≢ id → u.taken ≡ []
  alone all j u there d =
      let none_held : u.holds ≡ 0 = omega (
        arith,
        all,
        k.seats.all,
        two_at (λ (x : View). x.holds) s.views j id u v d there here,
      ) in
      ap (λ (x : View). x.taken) (k.seats.spent u (j, there) none_held)

  -- so what it reads as empty is empty, if it holds none itself
  empty_for_good : (w : ℕ) → v.holds ≡ p.seats → v.taken ≡ [] → part_of_word p.parts w ≡ left →
      get_or s.words w 0 ≡ 0 → get_or k.full w 0 ≡ 0
  empty_for_good w all free is empty = elim (cases_eq (get_or k.full w 0) 0) [
    | inl e ↦ e
    | inr n ↦ absurd (of n (owner p s k w (omega (arith, (is_left p.parts w is).1)) n))
  ]
    where
      no_pair : (u : View) (y : ℕ) → u.taken ≡ [] → IsIn (w, y) u.taken → ⊥
      no_pair u y e m = elim (subst (λ (l : List (ℕ × ℕ)). IsIn {X = ℕ × ℕ} (w, y) l) e m) [ ]

      own : (q : WordPart) → q ≡ left → IsOwn q → ⊥
      own q e o = subst IsOwn e o

      of : get_or k.full w 0 ≢ 0 → (get_or s.words w 0 ≡ get_or k.full w 0)
          ⊎ ((u : View) × IsView s u × Holds u w (get_or k.full w 0)) → ⊥
      of n (inl e) = n (sym e ∙ empty)
      of n (inr (u, seen, inl due)) = own (part_of_word p.parts w) is (k.seats.due u w _ seen due).1
      of n (inr (u, seen, inr taken)) = elim (cases_eq seen.0 id) [
        | inl e ↦ no_pair v (get_or k.full w 0) free
            (subst (λ (x : View). IsIn {X = ℕ × ℕ} (w, get_or k.full w 0) x.taken)
            (some-injective u v (sym seen.1 ∙ ap (λ (j : ℕ). get_elem? s.views j) e ∙ here)) taken)
        | inr d ↦ no_pair u (get_or k.full w 0) (alone all seen.0 u seen.1 d) taken
      ]

  holds_all : v.holds ≡ v.seats → v.holds ≡ p.seats
  holds_all e = e ∙ (k.seats.plans v (id, here) held).1

  -- the number of a cell, by what the view knows of the layout
  module _ (c w : ℕ) (low : c < cells_of p.parts) (at : w ≡ left_word p.parts c) where
    number : cell_at v.parts w ≡ c
    number = ap (λ (z : Parts). cell_at z w) (k.seats.plans v (id, here) held).0
        ∙ ap (cell_at p.parts) at ∙ cell_of_left p.parts c low

    numbered_at : (n : ℕ) → n ≡ cell_at v.parts w → w ≡ left_word p.parts n
    numbered_at n e = at ∙ ap (left_word p.parts) (sym (e ∙ number))

    -- a cell that was read as empty is swept
    pub swept_empty : part_of_word p.parts w ≡ left → get_or s.words w 0 ≡ 0 → v.taken ≡ [] →
        v.pending ≡ [] → (n : ℕ) → n < swept_on v (cell_at v.parts w) → (n < v.swept) ⊎ IsSwept p k.full v n
    swept_empty is empty free done n lt = of (swept_more v (cell_at v.parts w) n lt)
      where
        of : (n < v.swept) ⊎ ((v.holds ≡ v.seats) × (n ≡ cell_at v.parts w)) → (n < v.swept) ⊎ IsSwept p k.full v n
        of (inl lt') = inl lt'
        of (inr h) =
            let q : w ≡ left_word p.parts n = numbered_at n h.1 in
            inr (
              holds_all h.0,
              inl (sym (ap (λ (a : ℕ). get_or k.full a 0) q)
                  ∙ empty_for_good w (holds_all h.0) free is empty),
              (λ l m. elim (subst (λ (ls : List Link). IsIn l ls) done m) [ ]),
            )

    -- and so is one whose pair is stuck
    pub swept_pair : (x y : ℕ) → get_or k.full w 0 ≡ x → get_or k.full (suc w) 0 ≡ y →
        get_or k.full w 0 ≢ 0 → IsStuckPair x y → (n : ℕ) → n < swept_on v (cell_at v.parts w) →
        (n < v.swept) ⊎ IsSwept p k.full v n
    swept_pair x y first second some_pair stuck n lt = of (swept_more v (cell_at v.parts w) n lt)
      where
        there : IsStuckPair (get_or k.full w 0) (get_or k.full (suc w) 0)
        there = subst (λ (a : ℕ). IsStuckPair a (get_or k.full (suc w) 0)) (sym first)
            (subst (IsStuckPair x) (sym second) stuck)

        not_linked : (l : Link) → IsIn l v.pending → l.cell ≢ w
        not_linked l m e = some_pair (sym (ap (λ (a : ℕ). get_or k.full a 0) e)
            ∙ (k.cells.unpublished v l (id, here) m).1)

        of : (n < v.swept) ⊎ ((v.holds ≡ v.seats) × (n ≡ cell_at v.parts w)) → (n < v.swept) ⊎ IsSwept p k.full v n
        of (inl lt') = inl lt'
        of (inr h) =
            let q : w ≡ left_word p.parts n = numbered_at n h.1 in
            inr (
              holds_all h.0,
              inr (subst (λ (a : ℕ).
                  IsStuckPair (get_or k.full a 0) (get_or k.full (suc a) 0)) q there),
              (λ l m e. not_linked l m (e ∙ sym q)),
            )
