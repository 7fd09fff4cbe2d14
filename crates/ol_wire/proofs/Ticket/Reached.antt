-- Which wires are reached before and after a ticket.
-- Used in Keeps.
use Rattle.std.proofs.Common.{◌≡◌, ℕ, ◌<◌, ◌≤◌, Bool, true, false, not, ◌&&◌, nat_eq, nat_lt, eq-eqb, ltb-true, lt-ltb}
use Rattle.std.proofs.Common.{if◌then◌else◌, List, [], ◌∷◌, ◌++◌, length, Option, Some, None, ◌⊎◌, inl, inr, refl, sym}
use Rattle.std.proofs.Common.{ap, ◌∙◌, slice_get, arith}
use Rattle.ol_law_edges.specs.Edges.{bit}
use Rattle.ol_net.specs.Parts.{arity}
use Rattle.ol_rules.specs.Rewriting.{is_meeting}
use Rattle.ol_wire.specs.declared.layout.Parts.{Parts}
use Rattle.ol_wire.specs.declared.view.View.{View}
use Rattle.ol_wire.specs.References.{kind_in}
use Rattle.ol_wire.specs.Layout.{WordPart, ticket, live_word, port, field, wire, between, left}
use Rattle.ol_wire.specs.Layout.{right, entry, past, part_of_word, start_wire, block, born_wire}
use Rattle.ol_wire.specs.Events.{Event}
use Rattle.ol_wire.specs.Blocks.{copies_of_f, copies_of_g}
use Rattle.ol_wire.specs.Edges.{crosses_at, is_wire_made, is_made, deaths, is_reached}
use Rattle.ol_wire.proofs.InWords.Places.{part_between, is_wire, is_between}
use Rattle.ol_wire.proofs.Ticket.Journal.{got_before, got_one_more}
use Rattle.std.proofs.lemmas.Bool.{and_parts, and_from}
use Rattle.std.proofs.lemmas.Option.{slice_get_within}
use Rattle.ol_law_edges.proofs.Lists.{got_last}

clash : false ≡ true → ⊥
clash e = cc

-- where the wires of the start lie, and those of a ticket
wire_of_start : (z : Parts) (w j n : ℕ) → j < z.wires → w ≡ start_wire z j →
    (start_wire z 0 ≤ w) × (w < block z n)
wire_of_start z w j n a e = (omega arith, omega arith)

wire_of_block : (z : Parts) (w t q p n : ℕ) → t < n → q < 2 → p < 2 → w ≡ born_wire z t q p →
    (start_wire z 0 ≤ w) × (w < block z n)
wire_of_block z w t q p n a b d e = (omega arith, omega arith)

at_most_none : (d b : ℕ) → d ≤ b → b ≡ 0 → d ≡ 0
at_most_none d b h e = omega arith

-- a crossing that makes a wire, by the copies
crossed : (e : Event) (q p : ℕ) → crosses_at (Some e) q p ≡ true → (q < copies_of_f e) × (p < copies_of_g e)
crossed e q p h = go (is_meeting e.rule) h
  where
    go : (m : Bool) → (not m && (nat_lt q (arity (kind_in e.g)) && nat_lt p
        (arity (kind_in e.f)))) ≡ true → (q < (if m then 0 else arity (kind_in e.g)))
        × (p < (if m then 0 else arity (kind_in e.f)))
    go true h = absurd (clash h)
    go false h = let t = and_parts (nat_lt q (arity (kind_in e.g)))
        (nat_lt p (arity (kind_in e.f))) h in
        (ltb-true q (arity (kind_in e.g)) t.0, ltb-true p (arity (kind_in e.f)) t.1)

crosses : (e : Event) (q p : ℕ) → q < copies_of_f e → p < copies_of_g e → crosses_at (Some e) q p ≡ true
crosses e q p hq hp = go (is_meeting e.rule) hq hp
  where
    go : (m : Bool) → q < (if m then 0 else arity (kind_in e.g)) →
        p < (if m then 0 else arity (kind_in e.f)) →
        (not m && (nat_lt q (arity (kind_in e.g)) && nat_lt p (arity (kind_in e.f)))) ≡ true
    go true hq hp = absurd (omega arith)
    go false hq hp = and_from (nat_lt q (arity (kind_in e.g))) (nat_lt p (arity (kind_in e.f)))
        (lt-ltb q (arity (kind_in e.g)) hq) (lt-ltb p (arity (kind_in e.f)) hp)

got_none : {A : Type 0} (xs : List A) → slice_get xs (length xs) ≡ None
got_none [] = refl
got_none (x ∷ xs) = got_none xs

-- the wire of a ticket is one of an entry
made_by : (o : Option Event) (q p : ℕ) → crosses_at o q p ≡ true →
    (e : Event) × (o ≡ Some e) × (crosses_at (Some e) q p ≡ true)
made_by None q p h = absurd (clash h)
made_by (Some e) q p h = (e, refl, h)

module _ (z : Parts) (log : List Event) (e : Event) (drawn : length log < z.fuel)
    (views views' : List View) (same_deaths : (w : ℕ) → deaths w views' ≡ deaths w views) where
  abbrev reached : ℕ → Bool
  reached = is_reached z log views

  abbrev reached' : ℕ → Bool
  reached' = is_reached z (log ++ e ∷ []) views'

  made_still : (w : ℕ) → is_made z log w ≡ true → is_made z (log ++ e ∷ []) w ≡ true
  made_still w h = go (part_of_word z w) h
    where
      go : (q : WordPart) → is_wire_made log q ≡ true → is_wire_made (log ++ e ∷ []) q ≡ true
      go (wire j) h = refl
      go (between t q p) h =
          let m = made_by (slice_get log t) q p h in
          ap (λ o. crosses_at o q p) (got_before log (e ∷ []) t (slice_get_within log t m.0 m.1)) ∙ h
      go ticket h = absurd (clash h)
      go live_word h = absurd (clash h)
      go (port n) h = absurd (clash h)
      go (field x s) h = absurd (clash h)
      go left h = absurd (clash h)
      go right h = absurd (clash h)
      go entry h = absurd (clash h)
      go past h = absurd (clash h)

  alive : (w : ℕ) → nat_eq (deaths w views) 0 ≡ true → nat_eq (deaths w views') 0 ≡ true
  alive w h = ap (λ n. nat_eq n 0) (same_deaths w) ∙ h

  alive_before : (w : ℕ) → nat_eq (deaths w views') 0 ≡ true → nat_eq (deaths w views) 0 ≡ true
  alive_before w h = ap (λ n. nat_eq n 0) (sym (same_deaths w)) ∙ h

  pub still : (w : ℕ) → reached w ≡ true → reached' w ≡ true
  still w h = let t = and_parts (is_made z log w) (nat_eq (deaths w views) 0) h in
      and_from (is_made z (log ++ e ∷ []) w) (nat_eq (deaths w views') 0) (made_still w t.0) (alive w t.1)

  pub old_wires : (w : ℕ) → reached w ≡ true → (start_wire z 0 ≤ w) × (w < block z (length log))
  old_wires w h = go (part_of_word z w) refl (and_parts (is_made z log w) (nat_eq (deaths w views) 0) h).0
    where
      go : (q : WordPart) → part_of_word z w ≡ q → is_wire_made log q ≡ true →
          (start_wire z 0 ≤ w) × (w < block z (length log))
      go (wire j) at m = let t = is_wire z w j at in wire_of_start z w j (length log) t.0 t.1
      go (between t q p) at m =
          let u = is_between z w t q p at in
          let b = made_by (slice_get log t) q p m in
          wire_of_block z w t q p (length log) (slice_get_within log t b.0 b.1) u.1 u.2 u.3
      go ticket at m = absurd (clash m)
      go live_word at m = absurd (clash m)
      go (port n) at m = absurd (clash m)
      go (field x s) at m = absurd (clash m)
      go left at m = absurd (clash m)
      go right at m = absurd (clash m)
      go entry at m = absurd (clash m)
      go past at m = absurd (clash m)

  pub only : (w : ℕ) → reached' w ≡ true →
      (reached w ≡ true) ⊎ ((q : ℕ) × (p : ℕ) × (q < copies_of_f e) × (p < copies_of_g e)
      × (w ≡ born_wire z (length log) q p))
  only w h = go (part_of_word z w) refl (and_parts (is_made z (log ++ e ∷ []) w) (nat_eq (deaths w views') 0) h)
    where
      go : (r : WordPart) → part_of_word z w ≡ r →
          (is_wire_made (log ++ e ∷ []) (part_of_word z w) ≡ true)
          × (nat_eq (deaths w views') 0 ≡ true) →
          (reached w ≡ true) ⊎ ((q : ℕ) × (p : ℕ) × (q < copies_of_f e) × (p < copies_of_g e)
          × (w ≡ born_wire z (length log) q p))
      go r at m = of r at (ap (is_wire_made (log ++ e ∷ [])) (sym at) ∙ m.0) m.1
        where
          old : is_made z log w ≡ true → nat_eq (deaths w views') 0 ≡ true → reached w ≡ true
          old a b = and_from (is_made z log w) (nat_eq (deaths w views) 0) a (alive_before w b)

          of : (r : WordPart) → part_of_word z w ≡ r → is_wire_made (log ++ e ∷ []) r ≡ true →
              nat_eq (deaths w views') 0 ≡ true → (reached w ≡ true)
              ⊎ ((q : ℕ) × (p : ℕ) × (q < copies_of_f e) × (p < copies_of_g e) × (w ≡ born_wire z (length log) q p))
          of (wire j) at a b = inl (old (ap (is_wire_made log) at) b)
          of (between t q p) at a b = by (got_one_more log e d.0 t d.1)
            where
              d : (e' : Event) × (slice_get (log ++ e ∷ []) t ≡ Some e') × (crosses_at (Some e') q p ≡ true)
              d = made_by (slice_get (log ++ e ∷ []) t) q p a

              by : (slice_get log t ≡ Some d.0) ⊎ ((t ≡ length log) × (d.0 ≡ e)) →
                  (reached w ≡ true) ⊎ ((q : ℕ) × (p : ℕ) × (q < copies_of_f e)
                  × (p < copies_of_g e) × (w ≡ born_wire z (length log) q p))
              by (inl g) = inl (old (ap (is_wire_made log) at ∙ ap (λ o. crosses_at o q p) g ∙ d.2) b)
              by (inr g) =
                  let c = crossed e q p (ap (λ e. crosses_at (Some e) q p) (sym g.1) ∙ d.2) in
                  inr (q, p, c.0, c.1, (is_between z w t q p at).3 ∙ ap (λ t. born_wire z t q p) g.0)
          of ticket at a b = absurd (clash a)
          of live_word at a b = absurd (clash a)
          of (port n) at a b = absurd (clash a)
          of (field x s) at a b = absurd (clash a)
          of left at a b = absurd (clash a)
          of right at a b = absurd (clash a)
          of entry at a b = absurd (clash a)
          of past at a b = absurd (clash a)

  pub come : ((w : ℕ) → deaths w views ≤ bit (is_made z log w)) → (q p : ℕ) → q < copies_of_f e →
      p < copies_of_g e → q < 2 → p < 2 → reached' (born_wire z (length log) q p) ≡ true
  come dead q p hq hp lq lp =
      let w : ℕ = born_wire z (length log) q p in
      let at : part_of_word z w ≡ between (length log) q p = part_between z (length log) q p drawn lq lp in
      let made : is_made z (log ++ e ∷ []) w ≡ true = ap (is_wire_made (log ++ e ∷ [])) at
      ∙ ap (λ o. crosses_at o q p) (got_last log e) ∙ crosses e q p hq hp in
      let none : is_made z log w ≡ false = ap (is_wire_made log) at ∙ unmade in
      let few : bit (is_made z log w) ≡ 0 = ap bit none in
      let zero : deaths w views ≡ 0 = at_most_none (deaths w views) (bit (is_made z log w)) (dead w) few in
      and_from (is_made z (log ++ e ∷ []) w) (nat_eq (deaths w views') 0) made
      (eq-eqb (deaths w views') 0 (same_deaths w ∙ zero))
    where
      unmade : crosses_at (slice_get log (length log)) q p ≡ false
      unmade = ap (λ o. crosses_at o q p) (got_none log)
