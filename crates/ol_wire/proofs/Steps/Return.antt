-- Putting a claimed pair back keeps the rule.
-- Used in Allowed.
use Rattle.std.proofs.Common.{◌≡◌, ◌≢◌, ℕ, suc, ◌<◌, ◌⊎◌, None, List, [], ◌∷◌, length, get_or, set}
use Rattle.std.proofs.Common.{sym, refl, ap, subst, inl, inr, arith, get_or-set_other}
use mathlib.Core.Option.{some}
use lib.ListN.{get_elem?}
use Rattle.ol_law_edges.specs.Edges.{IsIn}
use Rattle.ol_wire.specs.declared.plan.Plan.{Plan}
use Rattle.ol_wire.specs.declared.view.View.{View}
use Rattle.ol_wire.specs.Weights.{pairs}
use Rattle.ol_wire.specs.Layout.{left, part_of_word, table_size, left_word, cells_of}
use Rattle.ol_wire.specs.Events.{rule_between}
use Rattle.ol_wire.specs.Plays.{cell_at, swept_on}
use Rattle.ol_wire.specs.StepPlays.{returned, rest, cell_in_hand}
use Rattle.ol_wire.specs.Rule.{Table, Kept, Drawn}
use Rattle.ol_wire.proofs.InWords.Held.{held_within, held_empty}
use Rattle.ol_wire.proofs.Steps.Lists.{weigh_set}
use Rattle.ol_wire.proofs.Steps.Keep.{Change, IsSwept, after, step_keeps}
use Rattle.ol_wire.proofs.Steps.Plain.{left_past, left_passes}
use Rattle.ol_wire.proofs.Steps.Pair.{full_of_claimed, right_of_claimed}
use Rattle.ol_wire.proofs.Steps.Swept.{swept_stuck, swept_pair}

module _ (p : Plan) (s : Table) (k : Kept p s) (id : ℕ) (v : View)
    (here : get_elem? s.views id ≡ some v) (held : 0 < v.holds) where
  module _ (c w : ℕ) (low : c < cells_of p.parts) (at : w ≡ left_word p.parts c)
      (in_hand : v.taken ≡ (w, v.last.0) ∷ []) (right_known : IsIn (suc w, v.last.1) v.known) where
    abbrev x : ℕ
    x = v.last.0

    taken : IsIn (w, x) v.taken
    taken = subst (λ (l : List (ℕ × ℕ)). IsIn {X = ℕ × ℕ} (w, x) l) (sym in_hand) (inl refl)

    claimed : (part_of_word p.parts w ≡ left) × (get_or k.full w 0 ≡ x) × (get_or k.full w 0 ≢ 0)
    claimed = full_of_claimed p s k v w x (id, here) taken

    off : 1 < w
    off = left_past p.parts w claimed.0

    still : get_or (set s.words w x) 0 0 ≡ get_or s.words 0 0
    still = get_or-set_other s.words w 0 x 0 (λ e. omega (arith, off, e))

    nothing_left : rest v.taken ≡ []
    nothing_left = ap (λ (l : List (ℕ × ℕ)). rest l) in_hand

    swept : (n : ℕ) → n < (returned v).swept → (n < v.swept) ⊎ IsSwept p k.full v n
    swept n lt = of (swept_stuck (rule_between v.last.0 v.last.1) (rule_between v.last.1 v.last.0) _ v.swept n lt)
      where
        cell : swept_on v (cell_at v.parts (cell_in_hand v.taken)) ≡ swept_on v (cell_at v.parts w)
        cell = ap (λ (l : List (ℕ × ℕ)). swept_on v (cell_at v.parts (cell_in_hand l))) in_hand

        of : (n < v.swept) ⊎ ((rule_between v.last.0 v.last.1 ≡ None)
            × (rule_between v.last.1 v.last.0 ≡ None)
            × (n < swept_on v (cell_at v.parts (cell_in_hand v.taken)))) → (n < v.swept) ⊎ IsSwept p k.full v n
        of (inl lt') = inl lt'
        of (inr h) = swept_pair p s k id v here held c w low at v.last.0 v.last.1 claimed.1
            (right_of_claimed p s k v w v.last.0 v.last.1 (id, here) taken right_known) claimed.2
            (h.0, h.1) n (omega (arith, h.2, cell))

    return : Change p s k v (returned v) w x k.full
    return = record {
      holds = refl;
      parts = (refl, refl, refl);
      made = refl;
      published = refl;
      pending = refl;
      dead = refl;
      wide = refl;
      same = λ u lt. refl;
      written = λ h z. omega (
        arith,
        weigh_set h s.words (table_size p.parts) w x
            (held_within p s k v w x (id, here) (inr taken)) (omega (arith, k.words.wide)),
        ap (h w) (held_empty p s k v w x (id, here) (inr taken)),
        z w,
        ap (pairs h) in_hand,
        ap (pairs h) nothing_left,
      );
      tickets = subst (λ n. Drawn p.parts.fuel n (length k.log)) (sym still) k.tickets;
      up = omega (arith, still);
      calm = omega (arith, still);
      over = λ o. inl o;
      lasts = λ u l ne. get_or-set_other s.words w u x 0 (left_passes p.parts u w l claimed.0);
      known = λ u y m. elim m [ ];
      taken = λ u y m. elim (subst (λ (l : List (ℕ × ℕ)). IsIn {X = ℕ × ℕ} (u, y) l) nothing_left m) [ ];
      due = λ u y m. m;
      swept = swept;
    }

    pub return_keeps : Kept p (after s w v.last.0 id (returned v))
    return_keeps = step_keeps p s k id v (returned v) w x k.full here held return
