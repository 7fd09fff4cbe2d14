-- What each kind of step that makes links asks of its seat.
-- Used in `exchange`, `merge` and `publish`.
use Rattle.std.proofs.Common.{◌≡◌, ◌≢◌, ℕ, suc, ◌+◌, ◌<◌, ◌≤◌, Some, slice_get, List, [], ◌∷◌, ◌++◌, get_or, set, sym}
use Rattle.std.proofs.Common.{refl, ap, ◌∙◌, subst, inl, inr, arith, get_or-set_other}
use Rattle.std.proofs.lemmas.Bool.{cases_eq}
use Rattle.std.proofs.lemmas.List.{set-get_or}
use mathlib.Core.Option.{none}
use Rattle.atomic_table.specs.Table.{step, keeps, Allows}
use Rattle.atomic_table.proofs.Lists.{set_again}
use Rattle.ol_law_edges.specs.Edges.{IsIn}
use Rattle.ol_wire.specs.declared.layout.Parts.{Parts}
use Rattle.ol_wire.specs.declared.plan.Plan.{Plan}
use Rattle.ol_wire.specs.declared.view.Link.{Link}
use Rattle.ol_wire.specs.declared.view.View.{View}
use Rattle.ol_wire.specs.References.{wire_ref, place_in, IsNodeRef, IsWireRef}
use Rattle.ol_wire.specs.Layout.{left, right, table_size, part_of_word}
use Rattle.ol_wire.specs.StepPlays.{Seated, linked, moved, knowing, publishing, IsRefOf}
use Rattle.ol_wire.specs.LinkSteps.{IsBetween, spread, links, places, publishes, reads_tickets_joined}
use Rattle.ol_wire.specs.Rule.{IsMadeRef, IsRightOf}
use Rattle.ol_wire.proofs.LinkSteps.Sites.{wire_whole, ref_of_end, IsLinked}
use Rattle.ol_wire.proofs.LinkSteps.Exchange.{other_made, other_end, is_linked, empty_keeps}
use Rattle.ol_wire.proofs.LinkSteps.Exchange.{found_keeps, found_made, found_end, found_spread}
use Rattle.ol_wire.proofs.LinkSteps.Cells.{ends_made}
use Rattle.ol_wire.proofs.LinkSteps.Publish.{place_keeps, publish_keeps}
use Rattle.ol_wire.proofs.Steps.Join.{holds_within, drawn_once}
use Rattle.ol_wire.specs.Credit.{IsRuled}
use Rattle.ol_wire.proofs.Credit.Steps.{linked_pays, moved_pays, place_pays, publish_pays}
use Rattle.ol_wire.proofs.Credit.Steps.{linked_not_left, linked_not_right, cell_empty}
use Rattle.ol_wire.proofs.Steps.Remembering.{PartStays, plain_recalls, same_recalls, off_part}
use Rattle.ol_wire.proofs.Steps.Remembering.{part_read, part_empty, right_left}
use Rattle.ol_wire.proofs.InWords.Held.{word_full}
use Rattle.ol_wire.proofs.InWords.Places.{is_left}

-- what an exchange that found c tells
abbrev IsFound : Parts → ℕ → ℕ → List ℕ → List ℕ → Type 0
IsFound z b c old new = IsRefOf z b × IsRefOf z c
    × (spread (table_size z) new ≡ spread (table_size z) old + 1) × (spread (table_size z) new ≤ table_size z)

module _ (p : Plan) (slots id : ℕ) (m : Seated) (held : 0 < m.0.holds) where
  pub reads_tickets_joined_allowed : Allows (IsRuled p) slots id m 0 (λ n. n)
      (reads_tickets_joined (step slots 0 0 0 none) m)
  reads_tickets_joined_allowed s (k, q, r) homes here small =
      let P : List ℕ → List View → Type 0 = λ ws vs. IsRuled p record { words = ws; homes = s.homes; views = vs } in (
        m.0,
        keeps,
        tt,
        subst (λ ws. P ws (set s.views id m.0)) (sym (set-get_or s.words 0 0))
            (subst (P s.words) (sym (set_again s.views id m.0 here)) (k, q, r)),
        (
          refl,
          refl,
          omega (
            arith,
            holds_within p s k id m.0 here,
            (k.seats.plans m.0 (id, here) held).1,
          ),
          drawn_once p s k id m.0 here,
        ),
      )

  module _ (l : Link) (ls : List Link) (due : m.0.due ≡ []) (pending : m.0.pending ≡ l ∷ ls) where
    -- the reference r of a wire or of a free port stands at one end of the first link, and b at the other
    pub links_allowed : (u r b : ℕ) → IsBetween l r b → IsWireRef r → u ≡ place_in r →
        Allows (IsRuled p) slots id m u (λ _. b) (links (step slots u b 0 none) m)
    links_allowed u r b turn sort place s (k, paid, mind) homes here small = elim (cases_eq c 0) [
      | inl e ↦ (
        linked m.0,
        keeps,
        tt,
        (
          empty_keeps p s k id m.0 here held l ls u b due pending at
              e,
          linked_pays p s k paid id m.0 here u b linked_part,
          plain_recalls p s mind id m.0 (linked m.0) u b here off_left off_right refl refl refl,
        ),
        (refl, (λ _. refl), (λ ne. absurd (ne e))),
      )
      | inr ne ↦ (
        moved m.0 u b c,
        keeps,
        tt,
        (
          found_keeps p s k id m.0 here held l ls u b due pending at ne,
          moved_pays p s k paid id m.0 here u b linked_part b c,
          plain_recalls p s mind id m.0 (moved m.0 u b c) u b here off_left off_right refl refl
              refl,
        ),
        (refl, (λ e. absurd (ne e)), (λ _. let t = told ne in (refl, t.0, t.1, t.2, t.3))),
      )
    ]
      where
        c : ℕ
        c = get_or s.words u 0

        made : IsBetween l r b → IsMadeRef p.parts k.log r
        made (inl t) = subst (IsMadeRef p.parts k.log) t.0 (ends_made p s k id m.0 here l ls pending).0
        made (inr t) = subst (IsMadeRef p.parts k.log) t.1 (ends_made p s k id m.0 here l ls pending).1

        at : IsBetween l (wire_ref u) b
        at = subst (λ q. IsBetween l q b) (wire_whole p s k r (made turn) sort ∙ ap wire_ref (sym place)) turn

        linked_part : IsLinked (part_of_word p.parts u)
        linked_part = is_linked p s k id m.0 here held l ls u b due pending at

        off_left : part_of_word p.parts u ≢ left
        off_left = linked_not_left (part_of_word p.parts u) linked_part

        off_right : part_of_word p.parts u ≢ right
        off_right = linked_not_right (part_of_word p.parts u) linked_part

        told : c ≢ 0 → IsFound m.0.parts b c m.0.dead (m.0.dead ++ u ∷ [])
        told ne =
            let z = k.seats.plans m.0 (id, here) held in
            let spread_is = found_spread p s k id m.0 here held l ls u b due pending at ne in
            let found : IsFound p.parts b c m.0.dead (m.0.dead ++ u ∷ []) = (
              ref_of_end p s k b (other_made p s k id m.0 here held l ls u b due pending at)
                  (other_end p s k id m.0 here held l ls u b due pending at),
              ref_of_end p s k c (found_made p s k id m.0 here held l ls u b due pending at ne)
                  (found_end p s k id m.0 here held l ls u b due pending at ne),
              spread_is.0,
              spread_is.1,
            ) in
            subst (λ q. IsFound q b c m.0.dead (m.0.dead ++ u ∷ [])) (sym z.0) found

    -- both ends are nodes
    module _ (one_node : IsNodeRef l.one) (two_node : IsNodeRef l.two) where
      places_there : Allows (IsRuled p) slots id m (suc l.cell) (λ _. l.two)
          (λ _. places (step slots (suc l.cell) l.two 0 none) m l.two)
      places_there s (k, q, r) homes here small = (
        knowing m.0 (suc l.cell) l.two,
        keeps,
        tt,
        (
          place_keeps p s k id m.0 here held l ls due pending one_node two_node,
          place_pays p s k q id m.0 here l ls pending,
          same_recalls p s r id m.0 (knowing m.0 (suc l.cell) l.two) (suc l.cell) l.two here
              (off_part p s left (suc l.cell) l.two (right_left p (suc l.cell) right_is)) rights refl refl refl,
        ),
        (refl, refl),
      )
        where
          open_cell : (part_of_word p.parts l.cell ≡ left) × (get_or k.full l.cell 0 ≡ 0)
              × IsRightOf m.0 l (get_or k.full (suc l.cell) 0) × ((t w : ℕ) → slice_get k.from t ≡ Some w → w ≢ l.cell)
          open_cell = k.cells.unpublished m.0 l (id, here)
              (subst (λ (ks : List Link). IsIn l ks) (sym pending) (inl refl))

          right_is : part_of_word p.parts (suc l.cell) ≡ right
          right_is = (is_left p.parts l.cell open_cell.0).0

          -- the word is empty, or has this node already
          rights : PartStays p s right (suc l.cell) l.two
          rights u is some_word = elim (cases_eq u (suc l.cell)) [
            | inl e ↦ absurd_or u e is some_word
            | inr d ↦ get_or-set_other s.words (suc l.cell) u l.two 0 d
          ]
            where
              full_is : get_or s.words (suc l.cell) 0 ≢ 0 → get_or k.full (suc l.cell) 0 ≡ get_or s.words (suc l.cell) 0
              full_is = word_full p s k (suc l.cell) (is_left p.parts l.cell open_cell.0).1

              of : get_or s.words (suc l.cell) 0 ≢ 0 →
                  IsRightOf m.0 l (get_or k.full (suc l.cell) 0) → l.two ≡ get_or s.words (suc l.cell) 0
              of ne (inl z) = absurd (ne (sym (full_is ne) ∙ z))
              of ne (inr h) = sym h.2 ∙ full_is ne

              absurd_or : (u : ℕ) → u ≡ suc l.cell → part_of_word p.parts u ≡ right →
                  get_or s.words u 0 ≢ 0 → get_or (set s.words (suc l.cell) l.two) u 0 ≡ get_or s.words u 0
              absurd_or u e is some_word =
                  let ne : get_or s.words (suc l.cell) 0 ≢ 0 = λ z.
                  some_word (ap (λ (n : ℕ). get_or s.words n 0) e ∙ z) in
                  part_read p s right (suc l.cell) l.two (of ne open_cell.2) u is some_word

      pub places_allowed : (i x : ℕ) → i ≡ suc l.cell → x ≡ l.two →
          Allows (IsRuled p) slots id m i (λ _. x) (λ _. places (step slots i x 0 none) m x)
      places_allowed i x at is =
          subst (λ (a : ℕ). Allows (IsRuled p) slots id m a (λ _. x) (λ _. places (step slots a x 0 none) m x)) (sym at)
          (subst (λ (y : ℕ). Allows (IsRuled p) slots id m (suc l.cell) (λ _. y)
          (λ _. places (step slots (suc l.cell) y 0 none) m y)) (sym is) places_there)

      publishes_there : IsIn (suc l.cell, l.two) m.0.known →
          Allows (IsRuled p) slots id m l.cell (λ _. l.one) (λ _. publishes (step slots l.cell l.one 0 none) m l.one)
      publishes_there known s (k, q, r) homes here small = (
        publishing m.0 l.cell,
        keeps,
        tt,
        (
          publish_keeps p s k id m.0 here held l ls due pending one_node two_node known,
          publish_pays p s k q id m.0 here l ls pending known,
          same_recalls p s r id m.0 (publishing m.0 l.cell) l.cell l.one here
              (part_empty p s left l.cell l.one (cell_empty p s k q id m.0 here l ls pending))
              (part_empty p s right l.cell l.one (cell_empty p s k q id m.0 here l ls pending)) refl
              refl refl,
        ),
        (refl, refl),
      )

      pub publishes_allowed : (i x : ℕ) → i ≡ l.cell → x ≡ l.one →
          IsIn (suc l.cell, l.two) m.0.known →
          Allows (IsRuled p) slots id m i (λ _. x) (λ _. publishes (step slots i x 0 none) m x)
      publishes_allowed i x at is known =
          subst (λ (a : ℕ). Allows (IsRuled p) slots id m a (λ _. x)
          (λ _. publishes (step slots a x 0 none) m x)) (sym at)
          (subst (λ (y : ℕ). Allows (IsRuled p) slots id m l.cell (λ _. y)
          (λ _. publishes (step slots l.cell y 0 none) m y)) (sym is) (publishes_there known))
