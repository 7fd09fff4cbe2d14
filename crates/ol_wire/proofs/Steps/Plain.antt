-- Claims, looks, writes and late tickets keep the rule.
-- Used in LinkSteps.Publish, Allowed, Live, Remembering and Return.
use Rattle.std.proofs.Common.{◌≡◌, ◌≢◌, ℕ, zero, suc, ◌+◌, ◌<◌, ◌≤◌, ◌⊎◌, false, if◌then◌else◌}
use Rattle.std.proofs.Common.{List, ◌∷◌, length, get_or, set, sym, refl, ap, ◌∙◌, subst, inl, inr}
use Rattle.std.proofs.Common.{arith, length-set, get_or-set_other, get_or-set_same}
use Rattle.std.proofs.lemmas.List.{set-get_or}
use mathlib.Core.Option.{some}
use lib.ListN.{get_elem?}
use Rattle.ol_law_edges.specs.Edges.{IsIn}
use Rattle.ol_net.specs.Pairs.{HasActive}
use Rattle.ol_wire.specs.declared.layout.Parts.{Parts}
use Rattle.ol_wire.specs.declared.plan.Plan.{Plan}
use Rattle.ol_wire.specs.declared.view.View.{View}
use Rattle.ol_wire.specs.Weights.{pairs, weigh}
use Rattle.ol_wire.specs.Layout.{WordPart, left, part_of_word, table_size, left_word, cells_of}
use Rattle.ol_wire.specs.Idle.{IsIdle}
use Rattle.ol_wire.specs.StepPlays.{missing, holding, paired, knowing, late, wrote, rest}
use Rattle.ol_wire.specs.Rule.{Table, Kept, Drawn, IsLasting}
use Rattle.ol_wire.proofs.InWords.Places.{is_left}
use Rattle.ol_wire.proofs.InWords.Held.{held_within, held_empty}
use Rattle.ol_wire.proofs.Steps.Lists.{weigh_set}
use Rattle.ol_wire.proofs.Steps.Keep.{Change, after, step_keeps}
use Rattle.ol_wire.proofs.Steps.Swept.{swept_empty}

ticket_first : (z : Parts) (u : ℕ) (a : WordPart) → part_of_word z u ≡ a → part_of_word z 0 ≢ a →
    part_of_word z 1 ≢ a → 1 < u
ticket_first z zero a e d f = absurd (d e)
ticket_first z (suc zero) a e d f = absurd (f e)
ticket_first z (suc (suc u)) a e d f = omega arith

pub left_past : (z : Parts) (u : ℕ) → part_of_word z u ≡ left → 1 < u
left_past z u e = ticket_first z u left e (λ q. cc) (λ q. cc)

pub lasting_past : (z : Parts) (u : ℕ) → IsLasting (part_of_word z u) → 1 < u
lasting_past z zero l = absurd l
lasting_past z (suc zero) l = absurd l
lasting_past z (suc (suc u)) l = omega arith

-- a left word isn't one that lasts
pub left_passes : (z : Parts) (u w : ℕ) → IsLasting (part_of_word z u) → part_of_word z w ≡ left → u ≢ w
left_passes z u w l e q = subst IsLasting (ap (part_of_word z) q ∙ e) l

module _ (p : Plan) (s : Table) (k : Kept p s) (id : ℕ) (v : View)
    (here : get_elem? s.views id ≡ some v) (held : 0 < v.holds) where
  -- the word 0 stays
  still : (i x : ℕ) → 1 < i → get_or (set s.words i x) 0 0 ≡ get_or s.words 0 0
  still i x lt = get_or-set_other s.words i 0 x 0 (λ e. omega arith)

  same_tickets : (i x : ℕ) → 1 < i → Drawn p.parts.fuel (get_or (set s.words i x) 0 0) (length k.log)
  same_tickets i x lt = subst (λ n. Drawn p.parts.fuel n (length k.log)) (sym (still i x lt)) k.tickets

  word_set : (h : ℕ → ℕ → ℕ) (i x : ℕ) → i < table_size p.parts →
      weigh h (set s.words i x) (table_size p.parts) + h i (get_or s.words i 0) ≡ weigh h s.words
      (table_size p.parts) + h i x
  word_set h i x lt = weigh_set h s.words (table_size p.parts) i x lt (omega (arith, k.words.wide))

  module _ (w : ℕ) (is : part_of_word p.parts w ≡ left) where
    left_lasts : (x u : ℕ) → IsLasting (part_of_word p.parts u) → get_or s.words u 0 ≢ 0 →
        get_or (set s.words w x) u 0 ≡ get_or s.words u 0
    left_lasts x u l ne = get_or-set_other s.words w u x 0 (left_passes p.parts u w l is)

    within : w < table_size p.parts
    within = omega (arith, (is_left p.parts w is).1)

    miss : (c : ℕ) → c < cells_of p.parts → w ≡ left_word p.parts c → IsIdle v →
        get_or s.words w 0 ≡ 0 → Change p s k v (missing v w) w 0 k.full
    miss c low at idle empty = record {
      holds = refl;
      parts = (refl, refl, refl);
      made = refl;
      published = refl;
      pending = refl;
      dead = refl;
      wide = refl;
      same = λ u lt. refl;
      written = λ h z. omega (arith, word_set h w 0 within, ap (h w) empty);
      tickets = same_tickets w 0 (left_past p.parts w is);
      up = omega (arith, still w 0 (left_past p.parts w is));
      calm = omega (arith, still w 0 (left_past p.parts w is));
      over = λ o. inl o;
      lasts = left_lasts 0;
      known = λ u y m. inl m;
      taken = λ u y m. inl m;
      due = λ u y m. m;
      swept = swept_empty p s k id v here held c w low at is empty idle.0 idle.2;
    }

    pub miss_keeps : (c : ℕ) → c < cells_of p.parts → w ≡ left_word p.parts c → IsIdle v →
        get_or s.words w 0 ≡ 0 → Kept p (after s w 0 id (missing v w))
    miss_keeps c low at idle empty = step_keeps p s k id v (missing v w) w 0 k.full here held (miss c low at idle empty)

    claim : get_or s.words w 0 ≢ 0 → Change p s k v (holding v w (get_or s.words w 0)) w 0 k.full
    claim some_pair = record {
      holds = refl;
      parts = (refl, refl, refl);
      made = refl;
      published = refl;
      pending = refl;
      dead = refl;
      wide = refl;
      same = λ u lt. refl;
      written = λ h z. omega (arith, word_set h w 0 within, z w);
      tickets = same_tickets w 0 (left_past p.parts w is);
      up = omega (arith, still w 0 (left_past p.parts w is));
      calm = omega (arith, still w 0 (left_past p.parts w is));
      over = λ o. inl o;
      lasts = left_lasts 0;
      known = λ u y m. inl m;
      taken = claimed;
      due = λ u y m. m;
      swept = λ n lt. inl lt;
    }
      where
        claimed : (u y : ℕ) → IsIn {X = ℕ × ℕ} (u, y) ((w, get_or s.words w 0) ∷ v.taken) →
            IsIn {X = ℕ × ℕ} (u, y) v.taken ⊎ ((part_of_word p.parts u ≡ left) × (y ≢ 0))
        claimed u y (inl e) =
            let a : u ≡ w = ap (λ (q : ℕ × ℕ). q.0) e in
            let b : y ≡ get_or s.words w 0 = ap (λ (q : ℕ × ℕ). q.1) e in
            inr (ap (part_of_word p.parts) a ∙ is, (λ q. some_pair (sym b ∙ q)))
        claimed u y (inr m) = inl m

    pub claim_keeps : get_or s.words w 0 ≢ 0 → Kept p (after s w 0 id (holding v w (get_or s.words w 0)))
    claim_keeps some_pair = step_keeps p s k id v
        (holding v w (get_or s.words w 0)) w 0 k.full here held (claim some_pair)

  -- a look at a word that lasts and isn't empty: `last` may change
  module _ (u : ℕ) (lasting : IsLasting (part_of_word p.parts u)) (lt : u < table_size p.parts)
      (some_word : get_or s.words u 0 ≢ 0) where
    unchanged : set s.words u (get_or s.words u 0) ≡ s.words
    unchanged = set-get_or s.words u 0

    look : (last : ℕ × ℕ) → Change p s k v
        (record (knowing v u (get_or s.words u 0)) { last = last }) u (get_or s.words u 0) k.full
    look last = record {
      holds = refl;
      parts = (refl, refl, refl);
      made = refl;
      published = refl;
      pending = refl;
      dead = refl;
      wide = refl;
      same = λ a lt. refl;
      written = λ h z. omega (arith, word_set h u (get_or s.words u 0) lt);
      tickets = same_tickets u (get_or s.words u 0) (lasting_past p.parts u lasting);
      up = omega (arith, still u (get_or s.words u 0) (lasting_past p.parts u lasting));
      calm = omega (arith, still u (get_or s.words u 0) (lasting_past p.parts u lasting));
      over = λ o. inl o;
      lasts = λ a l ne. ap (λ ws. get_or ws a 0) unchanged;
      known = seen;
      taken = λ a y m. inl m;
      due = λ a y m. m;
      swept = λ n lt. inl lt;
    }
      where
        seen : (a y : ℕ) → IsIn {X = ℕ × ℕ} (a, y) ((u, get_or s.words u 0) ∷ v.known) →
            IsIn {X = ℕ × ℕ} (a, y) v.known ⊎ ((get_or (set s.words u (get_or s.words u 0)) a 0 ≡ y)
            × (y ≢ 0) × IsLasting (part_of_word p.parts a))
        seen a y (inl e) =
            let b : a ≡ u = ap (λ (q : ℕ × ℕ). q.0) e in
            let c : y ≡ get_or s.words u 0 = ap (λ (q : ℕ × ℕ). q.1) e in
            inr (
              ap (λ ws. get_or ws a 0) unchanged ∙ ap (λ (j : ℕ). get_or s.words j 0) b ∙ sym c,
              (λ q. some_word (sym c ∙ q)),
              subst (λ (j : ℕ). IsLasting (part_of_word p.parts j)) (sym b) lasting,
            )
        seen a y (inr m) = inl m

    look_keeps : (last : ℕ × ℕ) → Kept p
        (after s u (get_or s.words u 0) id (record (knowing v u (get_or s.words u 0)) { last = last }))
    look_keeps last = step_keeps p s k id v
        (record (knowing v u (get_or s.words u 0)) { last = last }) u (get_or s.words u 0) k.full here held (look last)

    pub knowing_keeps : Kept p (after s u (get_or s.words u 0) id (knowing v u (get_or s.words u 0)))
    knowing_keeps = look_keeps v.last

    pub paired_keeps : Kept p (after s u (get_or s.words u 0) id (paired v u (get_or s.words u 0)))
    paired_keeps = look_keeps (v.last.0, get_or s.words u 0)

  -- a word that is due is written
  module _ (i x : ℕ) (ds : List (ℕ × ℕ)) (due : v.due ≡ (i, x) ∷ ds) (off : 1 < i) where
    first_due : IsIn {X = ℕ × ℕ} (i, x) v.due
    first_due = subst (λ (l : List (ℕ × ℕ)). IsIn {X = ℕ × ℕ} (i, x) l) (sym due) (inl refl)

    write : Change p s k v (wrote v) i x k.full
    write = record {
      holds = refl;
      parts = (refl, refl, refl);
      made = refl;
      published = refl;
      pending = refl;
      dead = refl;
      wide = refl;
      same = λ u lt. refl;
      written = λ h z. omega (
        arith,
        word_set h i x (held_within p s k v i x (id, here) (inl first_due)),
        ap (h i) (held_empty p s k v i x (id, here) (inl first_due)),
        z i,
        ap (pairs h) due,
        ap (λ l. pairs h (rest l)) due,
      );
      tickets = same_tickets i x off;
      up = omega (arith, still i x off);
      calm = omega (arith, still i x off);
      over = λ o. inl o;
      lasts = λ u l ne. get_or-set_other s.words i u x 0
          (λ e. ne (ap (λ (j : ℕ). get_or s.words j 0) e ∙ held_empty p s k v i x (id, here) (inl first_due)));
      known = λ u y m. inl m;
      taken = λ u y m. inl m;
      due = λ u y m. subst (λ (l : List (ℕ × ℕ)). IsIn {X = ℕ × ℕ} (u, y) l) (sym due)
          (inr (subst (λ (l : List (ℕ × ℕ)). IsIn {X = ℕ × ℕ} (u, y) (rest l)) due m));
      swept = λ n lt. inl lt;
    }

    pub write_keeps : Kept p (after s i x id (wrote v))
    write_keeps = step_keeps p s k id v (wrote v) i x k.full here held write

  -- the fuel is spent: the seat is late, and no ticket was drawn
  module _ (under : v.over ≡ false) (high : p.parts.fuel ≤ get_or s.words 0 0)
      (active : HasActive k.net) (stands : get_or k.full 0 0 ≡ get_or s.words 0 0) where
    more : ℕ
    more = get_or s.words 0 0 + 1

    one_more : get_or (set s.words 0 more) 0 0 ≡ more
    one_more = get_or-set_same s.words 0 more 0 (omega (arith, k.words.wide))

    is_late : Change p s k v (late v) 0 more (set k.full 0 more)
    unfolding more
    is_late = record {
      holds = refl;
      parts = (refl, refl, refl);
      made = refl;
      published = refl;
      pending = refl;
      dead = refl;
      wide = length-set k.full 0 more;
      same = λ u lt. get_or-set_other k.full 0 u more 0 (λ e. omega arith);
      written = λ h z. omega (
        arith,
        word_set h 0 more (omega arith),
        weigh_set h k.full (table_size p.parts) 0 more (omega arith)
            (omega (arith, k.words.full_wide)),
        ap (h 0) stands,
      );
      tickets = record {
        few = k.tickets.few;
        below = λ low. absurd (omega (arith, one_more, high, low));
        above = λ _. k.tickets.above high;
      };
      up = omega (arith, one_more);
      calm = omega (arith, one_more, held, ap (λ b. if b then v.holds else 0) under);
      over = λ o. inr (omega (arith, one_more, high), active);
      lasts = λ u l ne. get_or-set_other s.words 0 u more 0 (λ e. omega (arith, lasting_past p.parts u l));
      known = λ u y m. inl m;
      taken = λ u y m. inl m;
      due = λ u y m. m;
      swept = λ n lt. inl lt;
    }

    pub late_keeps : Kept p (after s 0 (get_or s.words 0 0 + 1) id (late v))
    unfolding more
    late_keeps = step_keeps p s k id v (late v) 0 more (set k.full 0 more) here held is_late
