-- What each kind of step asks of its seat.
-- Used in `claim`, `draw`, `put_back`, `read_field`, `read_right` and `write`.
use Rattle.std.proofs.Common.{◌≡◌, ◌≢◌, ℕ, suc, ◌+◌, ◌%◌, ◌^◌, ◌<◌, ◌≤◌, ◌⊎◌, true, false}
use Rattle.std.proofs.Common.{if◌then◌else◌, List, [], ◌∷◌, get_or, set, sym, refl, ap, ◌∙◌, subst}
use Rattle.std.proofs.Common.{inl, inr, arith, get_or-set_other, get_or-set_same}
use Rattle.std.proofs.lemmas.Bool.{cases_eq, cases_lt}
use native.Mathlib.Nat.{mod-eq_of_lt}
use mathlib.Core.Option.{none, some}
use lib.ListN.{get_elem?}
use Rattle.atomic_table.specs.Table.{step, Act, keeps, Valid, carried_after, stepped, Allows}
use Rattle.ol_law_edges.specs.Edges.{IsIn}
use Rattle.ol_net.specs.Parts.{arity}
use Rattle.ol_wire.specs.declared.layout.Parts.{Parts}
use Rattle.ol_wire.specs.declared.plan.Plan.{Plan}
use Rattle.ol_wire.specs.declared.view.View.{View}
use Rattle.ol_wire.specs.References.{node_ref, kind_in, place_in}
use Rattle.ol_wire.specs.Weights.{total}
use Rattle.ol_wire.specs.Layout.{left, part_of_word, place_of, table_size, left_word, cells_of}
use Rattle.ol_wire.specs.Views.{past_fuel}
use Rattle.ol_wire.specs.Idle.{IsIdle}
use Rattle.ol_wire.specs.StepPlays.{Seated, cell_in_hand, returned, missing, holding, paired, knowing, ticketed, late}
use Rattle.ol_wire.specs.StepPlays.{wrote, IsNodeOf, IsRefOf, IsLookedUp, claims, reads_right, draws, writes}
use Rattle.ol_wire.specs.TurnPlays.{reads_field, returns}
use Rattle.ol_wire.specs.Rule.{Table, Kept, IsLasting}
use Rattle.ol_wire.proofs.InWords.References.{kind_of_ref, place_of_ref}
use Rattle.ol_wire.proofs.InWords.Places.{is_left, part_field, part_cell}
use Rattle.ol_wire.proofs.InWords.Claimed.{IsNodeAt, IsCellPair, cell_pair, is_placed, field_full}
use Rattle.ol_wire.proofs.InWords.Claimed.{field_within, field_written, right_written}
use Rattle.ol_wire.proofs.InWords.Held.{word_full}
use Rattle.ol_wire.proofs.Ticket.Keeps.{ticket_keeps}
use Rattle.ol_wire.proofs.Steps.Keep.{after}
use Rattle.ol_wire.proofs.Steps.Plain.{miss_keeps, claim_keeps, knowing_keeps, paired_keeps, write_keeps, late_keeps}
use Rattle.ol_wire.proofs.Steps.Return.{return_keeps}
use Rattle.ol_wire.specs.Credit.{IsRuled}
use Rattle.ol_wire.specs.Moments.{Moment, MomentEmpty, MomentHolding}
use Rattle.ol_wire.proofs.Steps.Sight.{told_of}
use Rattle.ol_wire.proofs.Steps.Live.{index_in}
use Rattle.atomic_table.proofs.Lists.{set_here}
use Rattle.ol_wire.proofs.Credit.Keep.{read_keeps}
use Rattle.ol_wire.proofs.Credit.Steps.{miss_pays, claim_pays, return_pays, write_pays, ticket_pays}
use Rattle.ol_wire.proofs.Credit.Steps.{late_pays, own_not_left, own_not_right}
use Rattle.ol_wire.proofs.Steps.Remembering.{miss_recalls, claim_recalls, pair_recalls, read_recalls, plain_recalls}
use Rattle.ol_wire.proofs.Steps.Remembering.{return_recalls, ticket_recalls}
use Rattle.ol_wire.proofs.Steps.Pair.{node_of_ref, ref_of_field, ticket_stands, due_past}
use Rattle.ol_wire.proofs.Steps.Pair.{full_of_claimed, right_of_claimed, pair_active, small_index}
use Rattle.ol_rules.proofs.Born.{at_most_two}

past_one : (v : View) → past_fuel v ≤ v.holds
past_one v = elim v.over as (λ b. (if b then v.holds else 0) ≤ v.holds) [ true ↦ omega arith | false ↦ omega arith ]

pub past_le : (vs : List View) → total past_fuel vs ≤ total (λ (v : View). v.holds) vs
past_le [] = omega arith
past_le (v ∷ vs) = omega (arith, past_one v, past_le vs)

module _ (p : Plan) (slots id : ℕ) (m : Seated) (held : 0 < m.0.holds) where
  of_plan : (s : Table) (k : Kept p s) → get_elem? s.views id ≡ some m.0 → m.0.parts ≡ p.parts
  of_plan s k here = (k.seats.plans m.0 (id, here) held).0

  -- the moment after a step
  abbrev moment_after : (i x : ℕ) (w : View) (s : Table) → get_elem? s.views id ≡ some m.0 →
      IsRuled p (after s i x id w) → Moment p w
  moment_after i x w s here ruled = record {
    table = after s i x id w;
    kept = ruled.0;
    credit = ruled.1;
    told = ruled.2;
    seen = (id, set_here s.views id w (index_in s.views id m.0 here));
  }

  pub claims_allowed : (c w : ℕ) → c < cells_of p.parts → w ≡ left_word p.parts c → IsIdle m.0 →
      Allows (IsRuled p) slots id m w (λ _. 0) (claims (step slots w 0 0 none) m)
  claims_allowed c w low at idle s (k, paid, told) homes here small = elim (cases_eq (get_or s.words w 0) 0) [
    | inl e ↦ (
      missing m.0 w,
      keeps,
      tt,
      missed e,
      (
        refl,
        (λ _. (
          refl,
          told_of p s k m.0 (id, here) held
              (λ (q : Plan). MomentEmpty q w (missing m.0 w))
              (moment_after w 0 (missing m.0 w) s here (missed e), empty),
        )),
        (λ ne. absurd (ne e)),
      ),
    )
    | inr ne ↦ (
      holding m.0 w (get_or s.words w 0),
      keeps,
      tt,
      (
        next ne,
        claim_pays p s k paid id m.0 here w is idle held,
        claim_recalls p s k told id m.0 here held c w low at idle ne,
      ),
      (refl, (λ e. absurd (ne e)), (λ _. (refl, is_node ne))),
    )
  ]
    where
      is : part_of_word p.parts w ≡ left
      is = ap (part_of_word p.parts) at ∙ (part_cell p.parts c low).0

      missed : get_or s.words w 0 ≡ 0 → IsRuled p (after s w 0 id (missing m.0 w))
      missed e = (
        miss_keeps p s k id m.0 here held w is c low at idle e,
        miss_pays p s k paid id m.0 here w is e,
        miss_recalls p s k told id m.0 here held w idle e,
      )

      empty : get_or (set s.words w 0) w 0 ≡ 0
      empty = get_or-set_same s.words w 0 0 (omega (arith, k.words.wide, (is_left p.parts w is).1))

      next : get_or s.words w 0 ≢ 0 → Kept p (after s w 0 id (holding m.0 w (get_or s.words w 0)))
      next = claim_keeps p s k id m.0 here held w is

      -- the pair stands in the words as they would be
      is_node : get_or s.words w 0 ≢ 0 → IsNodeOf m.0.parts (get_or s.words w 0)
      is_node ne =
          let e : get_or k.full w 0 ≡ get_or s.words w 0 = word_full p s k w
          (omega (arith, (is_left p.parts w is).1)) ne in
          let pair = cell_pair p s k w is (λ q. ne (sym e ∙ q)) in
          subst (λ z. IsNodeOf z (get_or s.words w 0)) (sym (of_plan s k here))
          (subst (IsNodeOf p.parts) e (node_of_ref p s k (get_or k.full w 0) pair.f))

  pub reads_right_allowed : (w x : ℕ) → m.0.taken ≡ (w, x) ∷ [] →
      Allows (IsRuled p) slots id m (suc w) (λ n. n) (reads_right (step slots (suc w) 0 0 none) m)
  reads_right_allowed w x only s (k, paid, told) homes here small =
      let taken : IsIn (w, x) m.0.taken = subst (λ (l : List (ℕ × ℕ)). IsIn {X = ℕ × ℕ} (w, x) l)
      (sym only) (inl refl) in
      let h = full_of_claimed p s k m.0 w x (id, here) taken in
      let pair = cell_pair p s k w h.0 h.2 in
      let e : get_or s.words (suc w) 0 ≡ get_or k.full (suc w) 0 = right_written p s k w h.0 h.2 in
      let node = subst (λ z. IsNodeOf z (get_or s.words (suc w) 0)) (sym (of_plan s k here))
      (subst (IsNodeOf p.parts) (sym e) (node_of_ref p s k (get_or k.full (suc w) 0) pair.g)) in
      let lasting = subst IsLasting (sym (is_left p.parts w h.0).0) tt in (
        paired m.0 (suc w) (get_or s.words (suc w) 0),
        keeps,
        tt,
        (
          paired_keeps p s k id m.0 here held (suc w) lasting (is_left p.parts w h.0).1
              (λ q. omega (arith, node.0, q)),
          read_keeps p s paid (suc w)
              (get_or s.words (suc w) 0) id m.0 (paired m.0 (suc w)
              (get_or s.words (suc w) 0)) refl here refl refl refl refl refl refl,
          pair_recalls p s k told id m.0 here held w x only (λ q. omega (arith, node.0, q)),
        ),
        (refl, sym (ap (λ (l : List (ℕ × ℕ)). suc (cell_in_hand l)) only), refl, node),
      )

  pub reads_right_allowed_at : (w x : ℕ) → m.0.taken ≡ (w, x) ∷ [] → (u : ℕ) → u ≡ suc w →
      Allows (IsRuled p) slots id m u (λ n. n) (reads_right (step slots u 0 0 none) m)
  reads_right_allowed_at w x taken u is = subst
      (λ (a : ℕ). Allows (IsRuled p) slots id m a (λ n. n) (reads_right (step slots a 0 0 none) m))
      (sym is) (reads_right_allowed w x taken)

  -- a field of one of the two nodes of the pair
  module _ (w r c : ℕ) (taken : IsIn (w, m.0.last.0) m.0.taken)
      (known : IsIn (suc w, m.0.last.1) m.0.known) (side : (r ≡ m.0.last.0) ⊎ (r ≡ m.0.last.1))
      (lt : c < arity (kind_in r)) where
    module _ (s : Table) (k : Kept p s) (here : get_elem? s.views id ≡ some m.0) where
      claimed : (part_of_word p.parts w ≡ left) × (get_or k.full w 0 ≡ m.0.last.0) × (get_or k.full w 0 ≢ 0)
      claimed = full_of_claimed p s k m.0 w m.0.last.0 (id, here) taken

      pair : IsCellPair p s k w
      pair = cell_pair p s k w claimed.0 claimed.2

      other : get_or k.full (suc w) 0 ≡ m.0.last.1
      other = right_of_claimed p s k m.0 w m.0.last.0 m.0.last.1 (id, here) taken known

      node : IsNodeAt p.parts k.net r
      node = of side
        where
          of : (r ≡ m.0.last.0) ⊎ (r ≡ m.0.last.1) → IsNodeAt p.parts k.net r
          of (inl e) = subst (IsNodeAt p.parts k.net) (claimed.1 ∙ sym e) pair.f
          of (inr e) = subst (IsNodeAt p.parts k.net) (other ∙ sym e) pair.g

      sided : (n : IsNodeAt p.parts k.net r) →
          (get_or k.full w 0 ≡ node_ref n.k n.i (place_of p.parts n.x))
          ⊎ (get_or k.full (suc w) 0 ≡ node_ref n.k n.i (place_of p.parts n.x))
      sided n = of side
        where
          of : (r ≡ m.0.last.0) ⊎ (r ≡ m.0.last.1) →
              (get_or k.full w 0 ≡ node_ref n.k n.i (place_of p.parts n.x))
              ⊎ (get_or k.full (suc w) 0 ≡ node_ref n.k n.i (place_of p.parts n.x))
          of (inl e) = inl (claimed.1 ∙ sym e ∙ n.is)
          of (inr e) = inr (other ∙ sym e ∙ n.is)

      kind_is : (n : IsNodeAt p.parts k.net r) → kind_in r ≡ n.k
      kind_is n = ap kind_in n.is ∙ kind_of_ref n.k n.i (place_of p.parts n.x)

      place_is : (n : IsNodeAt p.parts k.net r) → place_in r ≡ place_of p.parts n.x
      place_is n = ap place_in n.is ∙ place_of_ref n.k n.i (place_of p.parts n.x) (small_index p s k n.x n.k n.i n.has)

      slot_is : (n : IsNodeAt p.parts k.net r) → c < arity n.k
      slot_is n = subst (λ q. c < arity q) (kind_is n) lt

      -- the field is written, and what it refers to
      found : (n : IsNodeAt p.parts k.net r) → let u : ℕ = place_of p.parts n.x + c in
          IsLasting (part_of_word p.parts u) × (u < table_size p.parts) × (get_or s.words u 0 ≢ 0)
          × IsRefOf m.0.parts (get_or s.words u 0)
      found n =
          let c2 : c < 2 = omega (arith, slot_is n, at_most_two n.k) in
          let e = field_written p s k w claimed.0 claimed.2 n.x n.k n.i c n.has (sided n) (slot_is n) in (
            subst IsLasting (sym (part_field p.parts n.x c (is_placed p s k n.x n.k n.i n.has) c2)) tt,
            field_within p s k n.x n.k n.i c n.has c2,
            (λ q. field_full p s k n.x n.k n.i c n.has (slot_is n) (sym e ∙ q)),
            subst (λ z. IsRefOf z (get_or s.words (place_of p.parts n.x + c) 0))
                (sym (of_plan s k here)) (subst (IsRefOf p.parts) (sym e)
                (ref_of_field p s k n.x n.k n.i c n.has (slot_is n))),
          )

      found_there : IsLasting (part_of_word p.parts (place_in r + c))
          × (place_in r + c < table_size p.parts) × (get_or s.words (place_in r + c) 0 ≢ 0)
          × IsRefOf m.0.parts (get_or s.words (place_in r + c) 0)
      found_there = subst (λ (a : ℕ). IsLasting (part_of_word p.parts (a + c))
          × (a + c < table_size p.parts) × (get_or s.words (a + c) 0 ≢ 0)
          × IsRefOf m.0.parts (get_or s.words (a + c) 0)) (sym (place_is node)) (found node)

    reads_field_there : Allows (IsRuled p) slots id m (place_in r + c) (λ n. n)
        (reads_field (step slots (place_in r + c) 0 0 none) m)
    reads_field_there s (k, paid, told) homes here small =
        let u : ℕ = place_in r + c in
        let h = found_there s k here in (
          knowing m.0 u (get_or s.words u 0),
          keeps,
          tt,
          (
            knowing_keeps p s k id m.0 here held u h.0 h.1 h.2,
            read_keeps p s paid u (get_or s.words u 0) id m.0
                (knowing m.0 u (get_or s.words u 0)) refl here refl refl refl refl refl refl,
            read_recalls p s told id m.0 (knowing m.0 u (get_or s.words u 0)) u
                (get_or s.words u 0) here refl refl refl refl,
          ),
          ((refl, refl, h.3), (λ y known_there. sym (k.words.known m.0 u y (id, here) known_there).0)),
        )

    pub reads_field_allowed : (u : ℕ) → u ≡ place_in r + c →
        Allows (IsRuled p) slots id m u (λ n. n) (reads_field (step slots u 0 0 none) m)
    reads_field_allowed u is = subst (λ (a : ℕ).
        Allows (IsRuled p) slots id m a (λ n. n) (reads_field (step slots a 0 0 none) m)) (sym is) reads_field_there

  pub writes_allowed : (i x : ℕ) (ds : List (ℕ × ℕ)) → m.0.due ≡ (i, x) ∷ ds →
      Allows (IsRuled p) slots id m i (λ _. x) (λ _. writes (step slots i x 0 none) m x)
  writes_allowed i x ds due s (k, paid, told) homes here small =
      let first : IsIn {X = ℕ × ℕ} (i, x) m.0.due = subst
      (λ (l : List (ℕ × ℕ)). IsIn {X = ℕ × ℕ} (i, x) l) (sym due) (inl refl) in (
        wrote m.0,
        keeps,
        tt,
        (
          write_keeps p s k id m.0 here held i x ds due
              (due_past p s k m.0 i x (id, here) first),
          write_pays p s k paid id m.0 here i x ds due,
          plain_recalls p s told id m.0 (wrote m.0) i x here
              (own_not_left (part_of_word p.parts i) (k.seats.due m.0 i x (id, here) first).1)
              (own_not_right (part_of_word p.parts i)
              (k.seats.due m.0 i x (id, here) first).1) refl refl refl,
        ),
        (refl, refl),
      )

  pub returns_allowed : (c w x u : ℕ) → c < cells_of p.parts → w ≡ left_word p.parts c → u ≡ w →
      x ≡ m.0.last.0 → m.0.taken ≡ (w, m.0.last.0) ∷ [] → IsIn (suc w, m.0.last.1) m.0.known →
      m.0.owed ≡ 0 → Allows (IsRuled p) slots id m u (λ _. x) (λ _. returns (step slots u x 0 none) m x)
  returns_allowed c w x u low at same first taken known nothing =
      subst (λ (a : ℕ). Allows (IsRuled p) slots id m a (λ _. x) (λ _. returns (step slots a x 0 none) m x)) (sym same)
      (subst (λ (b : ℕ). Allows (IsRuled p) slots id m w (λ _. b)
      (λ _. returns (step slots w b 0 none) m b)) (sym first) there)
    where
      there : Allows (IsRuled p) slots id m w (λ _. m.0.last.0)
          (λ _. returns (step slots w m.0.last.0 0 none) m m.0.last.0)
      there s (k, paid, told) homes here small = (
        returned m.0,
        keeps,
        tt,
        ruled,
        (
          refl,
          refl,
          told_of p s k m.0 (id, here) held
              (λ (q : Plan). MomentHolding q w (returned m.0))
              (moment_after w m.0.last.0 (returned m.0) s here ruled, stands, beside),
        ),
      )
        where
          is : part_of_word p.parts w ≡ left
          is = ap (part_of_word p.parts) at ∙ (part_cell p.parts c low).0

          ruled : IsRuled p (after s w m.0.last.0 id (returned m.0))
          ruled = (
            return_keeps p s k id m.0 here held c w low at taken known,
            return_pays p s k paid id m.0 here w is taken nothing,
            return_recalls p s k told id m.0 here held w taken known,
          )

          stands : get_or (set s.words w m.0.last.0) w 0 ≡ m.0.last.0
          stands = get_or-set_same s.words w m.0.last.0 0 (omega (arith, k.words.wide, (is_left p.parts w is).1))

          beside : get_or (set s.words w m.0.last.0) (suc w) 0 ≡ m.0.last.1
          beside = get_or-set_other s.words w (suc w) m.0.last.0 0 (λ e. omega (arith, e))
              ∙ (k.words.known m.0 (suc w) m.0.last.1 (id, here) known).0

module _ (p : Plan) (slots id : ℕ) (m : Seated) where
  pub draws_allowed : (w : ℕ) → IsLookedUp m.0 w →
      Allows (IsRuled p) slots id m 0 (λ n. (n + 1) % 2 ^ 64) (draws (step slots 0 1 0 none) m)
  draws_allowed w up s (k, paid, told) homes here small =
      let n : ℕ = get_or s.words 0 0 in
      let fuel : m.0.parts.fuel ≡ p.parts.fuel = ap (λ (z : Parts). z.fuel) (of_plan p slots id m up.held s k here) in
      let fits : n + 1 < 18446744073709551616 = omega
      (arith, k.seats.calm, k.plan.small.fuel, k.plan.seats.1, k.seats.all, past_le s.views) in
      let next : (n + 1) % 2 ^ 64 ≡ n + 1 = mod-eq_of_lt fits in
      let is = (k.seats.taken m.0 w m.0.last.0 (id, here)
      (subst (λ (l : List (ℕ × ℕ)). IsIn {X = ℕ × ℕ} (w, m.0.last.0) l) (sym up.taken) (inl refl))).0 in
      let drawn : n < p.parts.fuel → IsRuled p (after s 0 (n + 1) id (ticketed m.0 n)) = λ low. (
        ticket_keeps p s k id m.0 here w up low,
        ticket_pays p s k paid id m.0 here w is up.taken up.right up.rule n up.owed,
        ticket_recalls p s k told id m.0 here up.held w up.taken up.right up.rule n,
      ) in
      let P : ℕ → Type 0 = λ y. (w : View) × (a : Act (Unit {0})) × Valid s.homes m.1 a
      × IsRuled p (stepped s 0 y id m.1 w a) × draws (step slots 0 1 0 none) m n (w, carried_after m.1 a) in
      subst P (sym next) (elim (cases_lt n p.parts.fuel) [
        | inl low ↦ (
          ticketed m.0 n,
          keeps,
          tt,
          drawn low,
          (
            refl,
            (λ _. (
              refl,
              told_of p s k m.0 (id, here) up.held
                  (λ (q : Plan). Moment q (ticketed m.0 n))
                  (moment_after p slots id m up.held 0 (n + 1) (ticketed m.0 n) s here (drawn low)),
            )),
            (λ high. absurd (omega (arith, fuel, low, high))),
          ),
        )
        | inr high ↦ (
          late m.0,
          keeps,
          tt,
          (
            late_keeps p s k id m.0 here up.held up.under high
                (pair_active p s k m.0 w (id, here) up) (ticket_stands p s k),
            late_pays p s k paid id m.0 here (n + 1),
            plain_recalls p s told id m.0 (late m.0) 0 (n + 1) here (λ q. cc) (λ q. cc) refl refl refl,
          ),
          (refl, (λ low. absurd (omega (arith, fuel, low, high))), (λ _. refl)),
        )
      ])
