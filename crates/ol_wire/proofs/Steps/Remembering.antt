-- Each kind of step keeps what the views remember of their last claims.
-- Used in LinkSteps.Allowed, Allowed, Cut, Join and LiveAllowed.
use Rattle.std.proofs.Common.{◌≡◌, ◌≢◌, ℕ, suc, ◌+◌, ◌<◌, ◌==◌, ◌⊎◌, Bool, true, false, if◌then◌else◌, Option, None}
use Rattle.std.proofs.Common.{List, [], ◌∷◌, ◌++◌, get_or, set, sym, refl, ap, ◌∙◌, subst, inl, inr, arith}
use Rattle.std.proofs.Common.{get_or-set_other, get_or-set_same}
use Rattle.std.proofs.lemmas.Bool.{cases_eq}
use Rattle.std.proofs.lemmas.List.{set-get_or}
use mathlib.Core.Option.{some, some-injective}
use lib.ListN.{get_elem?}
use Rattle.atomic_table.proofs.Lists.{set_here, set_else, at_longer}
use Rattle.ol_law_edges.specs.Edges.{IsIn}
use Rattle.ol_net.specs.declared.parts.Rule.{Rule}
use Rattle.ol_wire.specs.declared.layout.Parts.{Parts}
use Rattle.ol_wire.specs.declared.plan.Plan.{Plan}
use Rattle.ol_wire.specs.declared.view.View.{View}
use Rattle.ol_wire.specs.Layout.{WordPart, left, right, part_of_word, table_size, left_word, cells_of}
use Rattle.ol_wire.specs.Events.{rule_between, IsStuckPair}
use Rattle.ol_wire.specs.Idle.{IsIdle}
use Rattle.ol_wire.specs.Hands.{IsActiveLast}
use Rattle.ol_wire.specs.Plays.{cell_at, joined}
use Rattle.ol_wire.specs.LinkSteps.{spent_view}
use Rattle.ol_wire.specs.StepPlays.{missing, holding, paired, ticketed, returned, rest, fewer, one_seat}
use Rattle.ol_wire.specs.Credit.{active_in, ruled}
use Rattle.ol_wire.specs.Rule.{Table, Kept, IsView}
use Rattle.ol_wire.specs.Remembered.{Stays, IsRead, IsUnread, Recalls, Remembered}
use Rattle.ol_wire.proofs.InWords.Places.{is_left, part_cell, cell_of_left}
use Rattle.ol_wire.proofs.InWords.Held.{held_empty}
use Rattle.ol_wire.proofs.Credit.Sums.{is_active}
use Rattle.ol_wire.proofs.Steps.Keep.{after}
use Rattle.ol_wire.proofs.Steps.Lists.{each_set, each_cut}
use Rattle.ol_wire.proofs.Steps.Live.{index_in}
use Rattle.ol_wire.proofs.Steps.Plain.{left_past}
use Rattle.ol_wire.proofs.Steps.Hold.{same_pair}
use Rattle.ol_wire.proofs.Links.New.{pair_of}

-- words of one part that aren't empty stay as they are
abbrev pub PartStays : Plan → Table → WordPart → ℕ → ℕ → Type 0
PartStays p s part i x = (u : ℕ) → part_of_word p.parts u ≡ part → get_or s.words u 0 ≢ 0 →
    get_or (set s.words i x) u 0 ≡ get_or s.words u 0

none_in : (a y : ℕ) (l : List (ℕ × ℕ)) → l ≡ [] → IsIn {X = ℕ × ℕ} (a, y) l → ⊥
none_in a y l e m = subst (λ (k : List (ℕ × ℕ)). IsIn {X = ℕ × ℕ} (a, y) k) e m

only_in : (a y b z : ℕ) (l : List (ℕ × ℕ)) → l ≡ (b, z) ∷ [] → IsIn {X = ℕ × ℕ} (a, y) l → (a ≡ b) × (y ≡ z)
only_in a y b z l e m = of (subst (λ (k : List (ℕ × ℕ)). IsIn {X = ℕ × ℕ} (a, y) k) e m)
  where
    of : IsIn {X = ℕ × ℕ} (a, y) ((b, z) ∷ []) → (a ≡ b) × (y ≡ z)
    of (inl q) = pair_of a y b z q
    of (inr q) = absurd q

-- a pair without a rule isn't active
stuck_in : (y z : ℕ) → IsStuckPair y z → active_in y z ≡ 0
stuck_in y z e = ap (λ (q : Option Rule). if y == 0 then 0 else ruled q (rule_between z y)) e.0
    ∙ ap (λ (q : Option Rule). if y == 0 then 0 else ruled None q) e.1 ∙ either (y == 0)
  where
    either : (b : Bool) → ◌≡◌ {A = ℕ} (if b then 0 else 0) 0
    either true = refl
    either false = refl

-- one word and one view are set
module _ (p : Plan) (s : Table) (r : Remembered p s) (id : ℕ) (v w : View) (i x : ℕ)
    (here : get_elem? s.views id ≡ some v) where
  abbrev next : Table
  next = after s i x id w

  seen : IsView s v
  seen = (id, here)

  seen_next : IsView next w
  seen_next = (id, set_here s.views id w (index_in s.views id v here))

  -- what a view has claimed is still claimed, or it was the view of the step
  held_on : (a y : ℕ) → (u : View) → IsView s u → IsIn {X = ℕ × ℕ} (a, y) u.taken →
      (IsIn {X = ℕ × ℕ} (a, y) v.taken → Stays next a y) → Stays next a y
  held_on a y u is m mine = elim (cases_eq is.0 id) [
    | inl e ↦
        let same : v ≡ u = some-injective v u (sym here ∙ ap (get_elem? s.views) (sym e) ∙ is.1) in
        mine (subst (λ (q : View). IsIn {X = ℕ × ℕ} (a, y) q.taken) (sym same) m)
    | inr d ↦ inr (u, (is.0, set_else s.views id is.0 w d ∙ is.1), m)
  ]

  -- what each step has to show
  abbrev pub StaysThen : Type 0
  StaysThen = (a y z : ℕ) → part_of_word p.parts a ≡ left → y ≢ 0 → get_or s.words (suc a) 0 ≡ z →
      IsStuckPair y z → Stays s a y → Stays next a y

  -- the cell's words are as they were
  pub stays_plain : PartStays p s left i x →
      ((a y : ℕ) → IsIn {X = ℕ × ℕ} (a, y) v.taken → IsIn {X = ℕ × ℕ} (a, y) w.taken) → StaysThen
  stays_plain lefts more a y z is some_left e stuck (inl q) = inl (lefts a is (λ n. some_left (sym q ∙ n)) ∙ q)
  stays_plain lefts more a y z is some_left e stuck (inr h) = held_on a y h.0 h.1 h.2
      (λ m. inr (w, seen_next, more a y m))

  module _ (rights : PartStays p s right i x) (stays : StaysThen) where
    recalls_old : (u : View) → IsView s u → u.last.0 ≢ 0 → Recalls p next u.cell u.last u.taken
    recalls_old u is found = record { low = h.low; pair = of h.pair }
      where
        h : Recalls p s u.cell u.last u.taken
        h = r.last u is found

        place : (part_of_word p.parts (left_word p.parts u.cell) ≡ left)
            × (part_of_word p.parts (suc (left_word p.parts u.cell)) ≡ right)
            × (suc (left_word p.parts u.cell) < table_size p.parts)
        place = part_cell p.parts u.cell h.low

        of : IsRead s u.last (left_word p.parts u.cell)
            ⊎ IsUnread u.last u.taken (left_word p.parts u.cell) →
            IsRead next u.last (left_word p.parts u.cell) ⊎ IsUnread u.last u.taken (left_word p.parts u.cell)
        of (inl q) = inl (record {
          some = q.some;
          right = rights (suc (left_word p.parts u.cell)) place.1 (λ e. q.some (sym q.right ∙ e)) ∙ q.right;
          left = λ stuck. stays (left_word p.parts u.cell) u.last.0 u.last.1 place.0 found q.right stuck (q.left stuck);
        })
        of (inr q) = inr q

    pub recalled : (w.last.0 ≢ 0 → Recalls p next w.cell w.last w.taken) →
        ((a y : ℕ) → IsIn {X = ℕ × ℕ} (a, y) w.taken →
        (a ≡ left_word p.parts w.cell) × (y ≡ w.last.0)) → Remembered p next
    recalled now taken = record {
      last = λ u is. each_set (λ (q : View). q.last.0 ≢ 0 →
          Recalls p next q.cell q.last q.taken) s.views id w now (λ j q e. recalls_old q (j, e)) is.0 u is.1;
      taken = λ u a y is. each_set (λ (q : View). IsIn {X = ℕ × ℕ} (a, y) q.taken →
          (a ≡ left_word p.parts q.cell) × (y ≡ q.last.0)) s.views id w (taken a y)
          (λ j q e. r.taken q a y (j, e)) is.0 u is.1;
    }

    -- the pair was read, and is in the seat no more
    pub still_read : v.last.1 ≢ 0 → (l : List (ℕ × ℕ)) → v.last.0 ≢ 0 → Recalls p next v.cell v.last l
    still_read some_right l found = let h = recalls_old v seen found in record { low = h.low; pair = of h.pair }
      where
        of : IsRead next v.last (left_word p.parts v.cell)
            ⊎ IsUnread v.last v.taken (left_word p.parts v.cell) →
            IsRead next v.last (left_word p.parts v.cell) ⊎ IsUnread v.last l (left_word p.parts v.cell)
        of (inl q) = inl q
        of (inr q) = absurd (some_right q.0)

  -- the view's last claim is as it was, and it holds the same pair
  pub same_recalls : PartStays p s left i x → PartStays p s right i x → w.cell ≡ v.cell →
      w.last ≡ v.last → w.taken ≡ v.taken → Remembered p next
  same_recalls lefts rights cell last taken =
      let stays = stays_plain lefts (λ a y m. subst (λ (l : List (ℕ × ℕ)). IsIn {X = ℕ × ℕ} (a, y) l) (sym taken) m) in
      recalled rights stays
      (λ found. subst (λ (c : ℕ). Recalls p next c w.last w.taken) (sym cell)
      (subst (λ (q : ℕ × ℕ). Recalls p next v.cell q w.taken) (sym last)
      (subst (λ (l : List (ℕ × ℕ)). Recalls p next v.cell v.last l) (sym taken)
      (recalls_old rights stays v seen (λ e. found (ap (λ (q : ℕ × ℕ). q.0) last ∙ e))))))
      (λ a y m. let h = r.taken v a y seen
      (subst (λ (l : List (ℕ × ℕ)). IsIn {X = ℕ × ℕ} (a, y) l) taken m) in
      (h.0 ∙ ap (left_word p.parts) (sym cell), h.1 ∙ ap (λ (q : ℕ × ℕ). q.0) (sym last)))

-- words of another part, or words that don't change
pub off_part : (p : Plan) (s : Table) (part : WordPart) (i x : ℕ) → part_of_word p.parts i ≢ part →
    PartStays p s part i x
off_part p s at i x off u is some_word = get_or-set_other s.words i u x 0
    (λ e. off (ap (part_of_word p.parts) (sym e) ∙ is))

pub part_read : (p : Plan) (s : Table) (part : WordPart) (i x : ℕ) → x ≡ get_or s.words i 0 → PartStays p s part i x
part_read p s at i x same u is some_word = ap (λ ws. get_or ws u 0) (ap (set s.words i) same ∙ set-get_or s.words i 0)

pub part_empty : (p : Plan) (s : Table) (part : WordPart) (i x : ℕ) → get_or s.words i 0 ≡ 0 → PartStays p s part i x
part_empty p s at i x empty u is some_word = get_or-set_other s.words i u x 0
    (λ e. some_word (ap (λ (n : ℕ). get_or s.words n 0) e ∙ empty))

-- a word that is no word of a cell is set
pub plain_recalls : (p : Plan) (s : Table) (r : Remembered p s) (id : ℕ) (v w : View) (i x : ℕ) →
    get_elem? s.views id ≡ some v → part_of_word p.parts i ≢ left → part_of_word p.parts i ≢ right
    → w.cell ≡ v.cell → w.last ≡ v.last → w.taken ≡ v.taken → Remembered p (after s i x id w)
plain_recalls p s r id v w i x here not_left not_right = same_recalls p s r id v w i x here
    (off_part p s left i x not_left) (off_part p s right i x not_right)

-- a word is read
pub read_recalls : (p : Plan) (s : Table) (r : Remembered p s) (id : ℕ) (v w : View) (i x : ℕ) →
    get_elem? s.views id ≡ some v → x ≡ get_or s.words i 0
    → w.cell ≡ v.cell → w.last ≡ v.last → w.taken ≡ v.taken → Remembered p (after s i x id w)
read_recalls p s r id v w i x here same = same_recalls p s r id v w i x here
    (part_read p s left i x same) (part_read p s right i x same)

left_within : (p : Plan) (w : ℕ) → part_of_word p.parts w ≡ left → suc w < table_size p.parts
left_within p w is = (is_left p.parts w is).1

pub right_left : (p : Plan) (w : ℕ) → part_of_word p.parts w ≡ right → part_of_word p.parts w ≢ left
right_left p w is e = let bad : right ≡ left = sym is ∙ e in absurd (cc)

left_right : (p : Plan) (w : ℕ) → part_of_word p.parts w ≡ left → part_of_word p.parts w ≢ right
left_right p w is e = let bad : left ≡ right = sym is ∙ e in absurd (cc)

module _ (p : Plan) (s : Table) (k : Kept p s) (r : Remembered p s) (id : ℕ) (v : View)
    (here : get_elem? s.views id ≡ some v) (held : 0 < v.holds) where
  parts_are : v.parts ≡ p.parts
  parts_are = (k.seats.plans v (id, here) held).0

  -- a cell was empty
  pub miss_recalls : (w : ℕ) → IsIdle v → get_or s.words w 0 ≡ 0 → Remembered p (after s w 0 id (missing v w))
  miss_recalls w idle empty =
      recalled p s r id v (missing v w) w 0 here (part_read p s right w 0 (sym empty))
      (stays_plain p s r id v (missing v w) w 0 here (part_read p s left w 0 (sym empty)) (λ a y m. m))
      (λ found. absurd (found refl))
      (λ a y m. absurd (none_in a y v.taken idle.0 m))

  -- a pair goes from its cell to the view
  module _ (c w : ℕ) (low : c < cells_of p.parts) (at : w ≡ left_word p.parts c) (idle : IsIdle v)
      (some_pair : get_or s.words w 0 ≢ 0) where
    abbrev y0 : ℕ
    y0 = get_or s.words w 0

    abbrev claimed : View
    claimed = holding v w y0

    is : part_of_word p.parts w ≡ left
    is = ap (part_of_word p.parts) at ∙ (part_cell p.parts c low).0

    number : cell_at v.parts w ≡ c
    number = ap (λ (z : Parts). cell_at z w) parts_are ∙ ap (cell_at p.parts) at ∙ cell_of_left p.parts c low

    word : left_word p.parts (cell_at v.parts w) ≡ w
    word = ap (left_word p.parts) number ∙ sym at

    claim_stays : StaysThen p s r id v claimed w 0 here
    claim_stays a y z is_left some_left e stuck (inl q) = elim (cases_eq a w) [
      | inl same ↦ inr (
        claimed,
        seen_next p s r id v claimed w 0 here,
        inl (same_pair a y w y0 same (sym q ∙ ap (λ (n : ℕ). get_or s.words n 0) same)),
      )
      | inr d ↦ inl (get_or-set_other s.words w a 0 0 d ∙ q)
    ]
    claim_stays a y z is_left some_left e stuck
        (inr h) = held_on p s r id v claimed w 0 here a y h.0 h.1 h.2 (λ m. absurd (none_in a y v.taken idle.0 m))

    pub claim_recalls : Remembered p (after s w 0 id (holding v w (get_or s.words w 0)))
    claim_recalls =
        recalled p s r id v claimed w 0 here (off_part p s right w 0 (left_right p w is)) claim_stays
        (λ found. record {
          low = omega (arith, number, low);
          pair = inr (refl, inl (same_pair (left_word p.parts (cell_at v.parts w)) y0 w y0 word refl));
        })
        held_now
      where
        held_now : (a y : ℕ) → IsIn {X = ℕ × ℕ} (a, y) ((w, y0) ∷ v.taken) →
            (a ≡ left_word p.parts (cell_at v.parts w)) × (y ≡ y0)
        held_now a y (inl q) = let t = pair_of a y w y0 q in (t.0 ∙ sym word, t.1)
        held_now a y (inr m) = absurd (none_in a y v.taken idle.0 m)

  -- the right word of the pair in hand is read
  pub pair_recalls : (w x : ℕ) → v.taken ≡ (w, x) ∷ [] → get_or s.words (suc w) 0 ≢ 0 →
      Remembered p (after s (suc w) (get_or s.words (suc w) 0) id (paired v (suc w) (get_or s.words (suc w) 0)))
  pair_recalls w x only some_right =
      recalled p s r id v (paired v (suc w) y) (suc w) y here (part_read p s right (suc w) y refl)
      (stays_plain p s r id v (paired v (suc w) y) (suc w) y here (part_read p s left (suc w) y refl) (λ a b m. m))
      now
      (λ a b m. r.taken v a b (id, here) m)
    where
      y : ℕ
      y = get_or s.words (suc w) 0

      mine : IsIn {X = ℕ × ℕ} (w, x) v.taken
      mine = subst (λ (l : List (ℕ × ℕ)). IsIn {X = ℕ × ℕ} (w, x) l) (sym only) (inl refl)

      cell : w ≡ left_word p.parts v.cell
      cell = (r.taken v w x (id, here) mine).0

      first : x ≡ v.last.0
      first = (r.taken v w x (id, here) mine).1

      now : v.last.0 ≢ 0 → Recalls p (after s (suc w) y id (paired v (suc w) y)) v.cell (v.last.0, y) v.taken
      now found = record {
        low = (r.last v (id, here) found).low;
        pair = inl (record {
          some = some_right;
          right = ap (λ ws. get_or ws (suc (left_word p.parts v.cell)) 0)
              (set-get_or s.words (suc w) 0) ∙ ap (λ (n : ℕ). get_or s.words (suc n) 0) (sym cell);
          left = λ stuck. inr (
            paired v (suc w) y,
            seen_next p s r id v (paired v (suc w) y) (suc w) y here,
            subst (λ (n : ℕ). IsIn {X = ℕ × ℕ} (n, v.last.0) v.taken) cell
                (subst (λ (n : ℕ). IsIn {X = ℕ × ℕ} (w, n) v.taken) first mine),
          );
        });
      }

  -- the pair in hand, whose right word is known
  module _ (w : ℕ) (taken : v.taken ≡ (w, v.last.0) ∷ []) (known : IsIn (suc w, v.last.1) v.known) where
    at_right : get_or s.words (suc w) 0 ≡ v.last.1
    at_right = (k.words.known v (suc w) v.last.1 (id, here) known).0

    some_last : v.last.1 ≢ 0
    some_last = (k.words.known v (suc w) v.last.1 (id, here) known).1

    mine : IsIn {X = ℕ × ℕ} (w, v.last.0) v.taken
    mine = subst (λ (l : List (ℕ × ℕ)). IsIn {X = ℕ × ℕ} (w, v.last.0) l) (sym taken) (inl refl)

    is_cell : part_of_word p.parts w ≡ left
    is_cell = (k.seats.taken v w v.last.0 (id, here) mine).0

    none_then : (a y : ℕ) → IsIn {X = ℕ × ℕ} (a, y) (rest v.taken) → ⊥
    none_then a y m = none_in a y (rest v.taken) (ap (λ (l : List (ℕ × ℕ)). rest l) taken) m

    -- it is put back
    return_stays : StaysThen p s r id v (returned v) w v.last.0 here
    return_stays a y z is_left some_left e stuck (inl q) = elim (cases_eq a w) [
      | inl same ↦ absurd (some_left (sym q ∙ ap (λ (n : ℕ). get_or s.words n 0) same
          ∙ held_empty p s k v w v.last.0 (id, here) (inr mine)))
      | inr d ↦ inl (get_or-set_other s.words w a v.last.0 0 d ∙ q)
    ]
    return_stays a y z is_left some_left e stuck (inr h) = held_on p s r id v
        (returned v) w v.last.0 here a y h.0 h.1 h.2 (λ m.
        let t = only_in a y w v.last.0 v.taken taken m in
        inl (ap (λ (n : ℕ). get_or (set s.words w v.last.0) n 0) t.0
        ∙ get_or-set_same s.words w v.last.0 0 (omega (arith, k.words.wide, left_within p w is_cell)) ∙ sym t.1))

    pub return_recalls : Remembered p (after s w v.last.0 id (returned v))
    return_recalls =
        let rights = off_part p s right w v.last.0 (left_right p w is_cell) in
        recalled p s r id v (returned v) w v.last.0 here rights return_stays
        (still_read p s r id v (returned v) w v.last.0 here rights return_stays some_last (rest v.taken))
        (λ a y m. absurd (none_then a y m))

    -- it has become a ticket: it has a rule
    module _ (active : IsActiveLast v) (t : ℕ) where
      ticket_stays : StaysThen p s r id v (ticketed v t) 0 (t + 1) here
      ticket_stays a y z is_left some_left e stuck (inl q) = inl
          (get_or-set_other s.words 0 a (t + 1) 0 (λ n. omega (arith, left_past p.parts a is_left, n)) ∙ q)
      ticket_stays a y z is_left some_left e stuck (inr h) = held_on p s r id v (ticketed v t) 0
          (t + 1) here a y h.0 h.1 h.2 (λ m.
          let b = only_in a y w v.last.0 v.taken taken m in
          let same : z ≡ v.last.1 = sym e ∙ ap (λ (n : ℕ). get_or s.words (suc n) 0) b.0 ∙ at_right in
          let none : active_in v.last.0 v.last.1 ≡ 0 = ap (λ (n : ℕ). active_in n v.last.1)
          (sym b.1) ∙ ap (active_in y) (sym same) ∙ stuck_in y z stuck in
          absurd (omega (arith, none, is_active v.last.0 v.last.1 (λ n. some_left (b.1 ∙ n)) active)))

      pub ticket_recalls : Remembered p (after s 0 (t + 1) id (ticketed v t))
      ticket_recalls =
          let rights = off_part p s right 0 (t + 1) (λ q. cc) in
          recalled p s r id v (ticketed v t) 0 (t + 1) here rights ticket_stays
          (still_read p s r id v (ticketed v t) 0 (t + 1) here rights ticket_stays some_last (rest v.taken))
          (λ a y m. absurd (none_then a y m))

-- views alone change
module _ (p : Plan) (s : Table) (r : Remembered p s) (views : List View) where
  abbrev there : Table
  there = record { words = s.words; homes = s.homes; views = views }

  module _ (stays : (a y : ℕ) → Stays s a y → Stays there a y) where
    pub recalls_there : (c : ℕ) (last : ℕ × ℕ) (taken : List (ℕ × ℕ)) → Recalls p s c last taken →
        Recalls p there c last taken
    recalls_there c last taken h = record { low = h.low; pair = of h.pair }
      where
        of : IsRead s last (left_word p.parts c) ⊎ IsUnread last taken (left_word p.parts c) →
            IsRead there last (left_word p.parts c) ⊎ IsUnread last taken (left_word p.parts c)
        of (inl q) = inl (record {
          some = q.some;
          right = q.right;
          left = λ stuck. stays (left_word p.parts c) last.0 (q.left stuck);
        })
        of (inr q) = inr q

-- two seats that hold nothing are joined
module _ (p : Plan) (id : ℕ) (v : View) (other : ℕ) (w : View) (idle : IsIdle v) (idle' : IsIdle w)
    (s : Table) (r : Remembered p s)
    (here : get_elem? s.views id ≡ some v)
    (there' : get_elem? (set s.views id (joined v w)) other ≡ some w) (was : get_elem? s.views other ≡ some w) where
  abbrev glued : List View
  glued = set (set s.views id (joined v w)) other spent_view

  glued_viewed : (P : View → Type 0) → P (joined v w) → P spent_view →
      ((u : View) → IsView s u → P u) → (j : ℕ) (u : View) → get_elem? glued j ≡ some u → P u
  glued_viewed P a b old j u e = each_set P (set s.views id (joined v w)) other spent_view b
      (each_set P s.views id (joined v w) a (λ j' x e'. old x (j', e'))) j u e

  glued_stays : (a y : ℕ) → Stays s a y → Stays (record { words = s.words; homes = s.homes; views = glued }) a y
  glued_stays a y (inl q) = inl q
  glued_stays a y (inr h) = elim (cases_eq h.1.0 other) [
    | inl e ↦
        let same : w ≡ h.0 = some-injective w h.0 (sym was ∙ ap (get_elem? s.views) (sym e) ∙ h.1.1) in
        absurd (none_in a y w.taken idle'.0 (subst (λ (q : View). IsIn {X = ℕ × ℕ} (a, y) q.taken) (sym same) h.2))
    | inr d ↦ elim (cases_eq h.1.0 id) [
      | inl e ↦
          let same : v ≡ h.0 = some-injective v h.0 (sym here ∙ ap (get_elem? s.views) (sym e) ∙ h.1.1) in
          absurd (none_in a y v.taken idle.0 (subst (λ (q : View). IsIn {X = ℕ × ℕ} (a, y) q.taken) (sym same) h.2))
      | inr d' ↦ inr (
        h.0,
        (
          h.1.0,
          set_else (set s.views id (joined v w)) other h.1.0 spent_view d
              ∙ set_else s.views id h.1.0 (joined v w) d' ∙ h.1.1,
        ),
        h.2,
      )
    ]
  ]

  pub join_recalls : Remembered p (record { words = s.words; homes = s.homes; views = glued })
  join_recalls = record {
    last = λ u is. glued_viewed (λ (q : View). q.last.0 ≢ 0 →
        Recalls p (record { words = s.words; homes = s.homes; views = glued }) q.cell q.last q.taken)
        (λ found. recalls_there p s r glued glued_stays v.cell v.last v.taken
        (r.last v (id, here) found)) (λ found. absurd (found refl))
        (λ q is' found. recalls_there p s r glued glued_stays q.cell q.last q.taken (r.last q is' found)) is.0 u is.1;
    taken = λ u a y is. glued_viewed (λ (q : View). IsIn {X = ℕ × ℕ} (a, y) q.taken →
        (a ≡ left_word p.parts q.cell) × (y ≡ q.last.0))
        (λ m. r.taken v a y (id, here) m) (λ m. absurd m) (λ q is' m. r.taken q a y is' m) is.0 u is.1;
  }

-- a seat is cut off
module _ (p : Plan) (id : ℕ) (v : View) (s : Table) (r : Remembered p s) (here : get_elem? s.views id ≡ some v) where
  abbrev cut : List View
  cut = set s.views id (fewer v) ++ one_seat v ∷ []

  cut_stays : (a y : ℕ) → Stays s a y → Stays (record { words = s.words; homes = s.homes; views = cut }) a y
  cut_stays a y (inl q) = inl q
  cut_stays a y (inr h) = elim (cases_eq h.1.0 id) [
    | inl e ↦
        let same : v ≡ h.0 = some-injective v h.0 (sym here ∙ ap (get_elem? s.views) (sym e) ∙ h.1.1) in
        inr (
          fewer v,
          (
            id,
            at_longer (set s.views id (fewer v)) (one_seat v ∷ []) id (fewer v)
                (set_here s.views id (fewer v) (index_in s.views id v here)),
          ),
          subst (λ (q : View). IsIn {X = ℕ × ℕ} (a, y) q.taken) (sym same) h.2,
        )
    | inr d ↦ inr (
      h.0,
      (
        h.1.0,
        at_longer (set s.views id (fewer v)) (one_seat v ∷ []) h.1.0 h.0
            (set_else s.views id h.1.0 (fewer v) d ∙ h.1.1),
      ),
      h.2,
    )
  ]

  pub cut_recalls : Remembered p (record { words = s.words; homes = s.homes; views = cut })
  cut_recalls = record {
    last = λ u is. each_cut (λ (q : View). q.last.0 ≢ 0 →
        Recalls p (record {
          words = s.words;
          homes = s.homes;
          views = cut;
        }) q.cell q.last q.taken) s.views id (fewer v) (one_seat v)
        (λ found. recalls_there p s r cut cut_stays v.cell v.last v.taken
        (r.last v (id, here) found)) (λ found. absurd (found refl))
        (λ j q e found. recalls_there p s r cut cut_stays q.cell q.last q.taken (r.last q (j, e) found)) is.0 u is.1;
    taken = λ u a y is. each_cut (λ (q : View). IsIn {X = ℕ × ℕ} (a, y) q.taken →
        (a ≡ left_word p.parts q.cell) × (y ≡ q.last.0)) s.views id (fewer v) (one_seat v)
        (λ m. r.taken v a y (id, here) m) (λ m. absurd m) (λ j q e m. r.taken q a y (j, e) m) is.0 u is.1;
  }
