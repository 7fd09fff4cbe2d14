-- Each kind of step keeps the credit.
-- Used in LinkSteps.Allowed, Steps.Allowed and Steps.LiveAllowed.
use Rattle.std.proofs.Common.{◌≡◌, ◌≢◌, ℕ, zero, suc, ◌+◌, ◌-◌, ◌<◌, ◌≤◌, List, [], ◌∷◌, length, get_or, set, refl, sym}
use Rattle.std.proofs.Common.{ap, ◌∙◌, subst, arith, inl, inr, get_or-set_other, get_or-set_same, length-append}
use Rattle.std.proofs.lemmas.Bool.{cases_eq}
use mathlib.Core.Option.{some}
use lib.ListN.{get_elem?}
use Rattle.ol_law_edges.specs.Edges.{IsIn}
use Rattle.ol_rules.specs.Listed.{each}
use Rattle.ol_wire.specs.declared.plan.Plan.{Plan}
use Rattle.ol_wire.specs.declared.view.Link.{Link}
use Rattle.ol_wire.specs.declared.view.View.{View}
use Rattle.ol_wire.specs.References.{place_in}
use Rattle.ol_wire.specs.Layout.{WordPart, left, right, live_word, part_of_word}
use Rattle.ol_wire.specs.Idle.{IsIdle}
use Rattle.ol_wire.specs.LinkLists.{joins_in, link_of}
use Rattle.ol_wire.specs.Events.{entry_of}
use Rattle.ol_wire.specs.Plays.{event_in}
use Rattle.ol_wire.specs.StepPlays.{known_at, missing, holding, ticketed, late, wrote, returned, linked, moved}
use Rattle.ol_wire.specs.StepPlays.{relinked, knowing, publishing, owing, repaid, rest, first_active}
use Rattle.ol_wire.specs.Credit.{active_in, active_claims, Credited}
use Rattle.ol_wire.specs.Hands.{IsActiveLast}
use Rattle.ol_wire.specs.Rule.{Table, Kept, IsView, IsOwn}
use Rattle.ol_wire.proofs.InWords.Places.{is_left}
use Rattle.ol_wire.proofs.InWords.Held.{held_empty, word_full, total_at}
use Rattle.ol_wire.proofs.Ticket.Refs.{joins_few}
use Rattle.ol_wire.proofs.Steps.Keep.{after}
use Rattle.ol_wire.proofs.Steps.Pair.{full_of_claimed}
use Rattle.ol_wire.proofs.LinkSteps.Sites.{IsLinked}
use Rattle.ol_wire.proofs.Credit.Sums.{is_active, active_le, active_empty}
use Rattle.ol_wire.proofs.Credit.Words.{cells_off, cells_left, cells_right, claims_same}
use Rattle.ol_wire.proofs.Credit.Keep.{pays_keeps, no_claim, plain_keeps, read_keeps, IsNoClaim}

pub each_length : {A : Type 0} (n : ℕ) (f : ℕ → A) → length (each n (λ j. f j ∷ [])) ≡ n
each_length zero f = refl
each_length (suc n) f = omega (arith, length-append (each n (λ j. f j ∷ [])) (f n ∷ []), each_length n f)

relinked_length : (ls : List Link) (b c : ℕ) → length (relinked ls b c) ≡ length ls
relinked_length [] b c = refl
relinked_length (l ∷ ls) b c = refl

rest_length : {A : Type 0} (xs : List A) → length (rest xs) ≤ length xs
rest_length [] = omega arith
rest_length (x ∷ xs) = omega arith

pub own_not_left : (q : WordPart) → IsOwn q → q ≢ left
own_not_left q o e = subst IsOwn e o

pub own_not_right : (q : WordPart) → IsOwn q → q ≢ right
own_not_right q o e = subst IsOwn e o

pub linked_not_left : (q : WordPart) → IsLinked q → q ≢ left
linked_not_left q o e = subst IsLinked e o

pub linked_not_right : (q : WordPart) → IsLinked q → q ≢ right
linked_not_right q o e = subst IsLinked e o

module _ (p : Plan) (s : Table) (k : Kept p s) (c : Credited p s) (id : ℕ) (v : View)
    (here : get_elem? s.views id ≡ some v) where
  seen : IsView s v
  seen = (id, here)

  -- the live word is no word of a cell
  live_apart : (i : ℕ) (q : WordPart) → part_of_word p.parts i ≡ q → live_word ≢ q → 1 ≢ i
  live_apart i q is d e = d (ap (part_of_word p.parts) e ∙ is)

  module _ (w : ℕ) (is : part_of_word p.parts w ≡ left) where
    not_right : part_of_word p.parts w ≢ right
    not_right e = let bad : left ≡ right = sym is ∙ e in absurd (cc)

    live_stays : (x : ℕ) → get_or (set s.words w x) 1 0 ≡ get_or s.words 1 0
    live_stays x = get_or-set_other s.words w 1 x 0 (live_apart w left is (λ q. cc))

    within : w < length s.words
    within = omega (arith, (is_left p.parts w is).1, k.words.wide)

    right_stays : (x : ℕ) → get_or (set s.words w x) (suc w) 0 ≡ get_or s.words (suc w) 0
    right_stays x = get_or-set_other s.words w (suc w) x 0 (λ e. omega (arith, e))

    claims_stay : (x : ℕ) → active_claims (set s.words w x) v ≡ active_claims s.words v
    claims_stay x = claims_same (set s.words w x) s.words v
        (λ a y m. get_or-set_other s.words w (suc a) x 0 (no_claim p s k w not_right v a y seen m))

    -- the cell was empty
    pub miss_pays : get_or s.words w 0 ≡ 0 → Credited p (after s w 0 id (missing v w))
    miss_pays empty = read_keeps p s c w 0 id v (missing v w) (sym empty) here refl refl refl refl refl refl

    -- the pair goes from its cell to the view
    pub claim_pays : IsIdle v → 0 < v.holds → Credited p (after s w 0 id (holding v w (get_or s.words w 0)))
    claim_pays idle held = pays_keeps p s c id v (holding v w (get_or s.words w 0)) w 0 here record {
      off = no_claim p s k w not_right;
      balance = omega (
        arith,
        live_stays 0,
        cells_left p.parts s.words w 0 is within,
        active_empty 0 (get_or s.words (suc w) 0) refl,
        ap (active_in (get_or s.words w 0)) (right_stays 0),
        claims_stay 0,
      );
      links = c.links v seen;
      owes = omega (arith, idle.3);
      few = omega (arith, ap length idle.0, idle.3, held);
      settled = λ e. inl e;
      stays = λ e. live_stays 0 ∙ e;
    }

    -- and back
    pub return_pays : v.taken ≡ (w, v.last.0) ∷ [] → v.owed ≡ 0 → Credited p (after s w v.last.0 id (returned v))
    return_pays taken nothing = pays_keeps p s c id v (returned v) w v.last.0 here record {
      off = no_claim p s k w not_right;
      balance = omega (
        arith,
        live_stays v.last.0,
        cells_left p.parts s.words w v.last.0 is within,
        active_empty (get_or s.words w 0) (get_or s.words (suc w) 0) empty,
        claims_stay v.last.0,
        ap (λ (l : List (ℕ × ℕ)). active_claims s.words (record v { taken = l })) taken,
        ap (λ (l : List (ℕ × ℕ)). active_claims (set s.words w v.last.0) (record v { taken = rest l })) taken,
      );
      links = c.links v seen;
      owes = omega (arith, nothing);
      few = omega (arith, c.few v seen, rest_length v.taken);
      settled = λ e. inl e;
      stays = λ e. live_stays v.last.0 ∙ e;
    }
      where
        mine : IsIn {X = ℕ × ℕ} (w, v.last.0) v.taken
        mine = subst (λ (l : List (ℕ × ℕ)). IsIn {X = ℕ × ℕ} (w, v.last.0) l) (sym taken) (inl refl)

        empty : get_or s.words w 0 ≡ 0
        empty = held_empty p s k v w v.last.0 seen (inr mine)

    -- what is known of the right word of the pair in hand
    module _ (taken : v.taken ≡ (w, v.last.0) ∷ []) (known : IsIn (suc w, v.last.1) v.known)
        (active : IsActiveLast v) where
      in_taken : IsIn {X = ℕ × ℕ} (w, v.last.0) v.taken
      in_taken = subst (λ (l : List (ℕ × ℕ)). IsIn {X = ℕ × ℕ} (w, v.last.0) l) (sym taken) (inl refl)

      pub one_claim : active_claims s.words v ≡ 1
      one_claim =
          let some_left : v.last.0 ≢ 0 = (k.seats.taken v w v.last.0 seen in_taken).1 in
          let at_right : get_or s.words (suc w) 0 ≡ v.last.1 = (k.words.known v (suc w) v.last.1 seen known).0 in
          omega (
            arith,
            ap (λ (l : List (ℕ × ℕ)). active_claims s.words (record v { taken = l })) taken,
            ap (active_in v.last.0) at_right,
            is_active v.last.0 v.last.1 some_left active,
          )

      -- the pair in hand counts, so that the word isn't 0
      some_live : 1 ≤ get_or s.words 1 0
      some_live = omega (arith, c.live, one_claim, total_at (active_claims s.words) s.views id v here)

      -- its links are owed
      pub owe_pays : (n : ℕ) → n ≤ 4 → v.owed ≡ 0 → v.pending ≡ [] → 0 < v.holds →
          Credited p (after s 1 (get_or s.words 1 0 + n) id (owing v n))
      owe_pays n few owed pending held = pays_keeps p s c id v (owing v n) 1 (get_or s.words 1 0 + n) here record {
        off = no_claim p s k 1 (λ q. cc);
        balance = omega (arith, now, cells_off p.parts s.words 1 (get_or s.words 1 0 + n) (λ q. cc) (λ q. cc), claims);
        links = omega (arith, ap length pending);
        owes = omega (arith, owed, few, claims, one_claim);
        few = omega (arith, owed, few, held, ap length taken);
        settled = λ e. inl e;
        stays = λ e. absurd (omega (arith, e, some_live));
      }
        where
          now : get_or (set s.words 1 (get_or s.words 1 0 + n)) 1 0 ≡ get_or s.words 1 0 + n
          now = get_or-set_same s.words 1 (get_or s.words 1 0 + n) 0 (omega (arith, k.words.wide))

          claims : active_claims (set s.words 1 (get_or s.words 1 0 + n)) v ≡ active_claims s.words v
          claims = claims_same (set s.words 1 (get_or s.words 1 0 + n)) s.words v
              (λ a y m. get_or-set_other s.words 1 (suc a) (get_or s.words 1 0 + n) 0
              (no_claim p s k 1 (λ q. cc) v a y seen m))

      -- a ticket below the fuel: the pair isn't claimed any more, and it is owed with its links
      pub ticket_pays : (t : ℕ) → v.owed ≡ joins_in (event_in v) → Credited p (after s 0 (t + 1) id (ticketed v t))
      ticket_pays t owed = pays_keeps p s c id v (ticketed v t) 0 (t + 1) here record {
        off = no_claim p s k 0 (λ q. cc);
        balance = omega (
          arith,
          get_or-set_other s.words 0 1 (t + 1) 0 (λ e. omega (arith, e)),
          cells_off p.parts s.words 0 (t + 1) (λ q. cc) (λ q. cc),
          one_claim,
          ap (λ (l : List (ℕ × ℕ)). active_claims (set s.words 0 (t + 1)) (record v { taken = rest l })) taken,
        );
        links = omega (
          arith,
          owed,
          each_length (joins_in (event_in v))
              (λ j. link_of v.parts (event_in v) t
              (λ q. known_at v.known (place_in (event_in v).f + q))
              (λ q. known_at v.known (place_in (event_in v).g + q)) j),
        );
        owes = omega (
          arith,
          owed,
          joins_few (event_in v),
          length-append v.made ((t, entry_of v.parts (event_in v)) ∷ []),
        );
        few = omega (arith, c.few v seen, ap length taken, ap (λ (l : List (ℕ × ℕ)). length (rest l)) taken);
        settled = λ e. inl e;
        stays = λ e. get_or-set_other s.words 0 1 (t + 1) 0 (λ q. omega (arith, q)) ∙ e;
      }

  -- a ticket at or above it
  pub late_pays : (x : ℕ) → Credited p (after s 0 x id (late v))
  late_pays x = plain_keeps p s k c 0 x id v (late v) here (λ q. cc) (λ q. cc)
      (λ e. omega (arith, e)) (cells_off p.parts s.words 0 x (λ q. cc) (λ q. cc)) refl refl (omega arith) refl refl refl

  -- what is left is taken from the word
  pub repay_pays : v.pending ≡ [] → Credited p (after s 1 (get_or s.words 1 0 - v.owed) id (repaid v v.owed))
  repay_pays pending = pays_keeps p s c id v (repaid v v.owed) 1 (get_or s.words 1 0 - v.owed) here record {
    off = no_claim p s k 1 (λ q. cc);
    balance = omega (
      arith,
      enough,
      now,
      cells_off p.parts s.words 1 (get_or s.words 1 0 - v.owed) (λ q. cc) (λ q. cc),
      claims,
    );
    links = omega (arith, ap length pending);
    owes = omega arith;
    few = omega (arith, c.few v seen);
    settled = λ e. inl e;
    stays = λ e. omega (arith, now, e);
  }
    where
      enough : v.owed ≤ get_or s.words 1 0
      enough = omega (arith, c.live, total_at (λ (u : View). u.owed) s.views id v here)

      now : get_or (set s.words 1 (get_or s.words 1 0 - v.owed)) 1 0 ≡ get_or s.words 1 0 - v.owed
      now = get_or-set_same s.words 1 (get_or s.words 1 0 - v.owed) 0 (omega (arith, k.words.wide))

      claims : active_claims (set s.words 1 (get_or s.words 1 0 - v.owed)) v ≡ active_claims s.words v
      claims = claims_same (set s.words 1 (get_or s.words 1 0 - v.owed)) s.words v
          (λ a y m. get_or-set_other s.words 1 (suc a) (get_or s.words 1 0 - v.owed) 0
          (no_claim p s k 1 (λ q. cc) v a y seen m))

  pub owed_below : v.owed ≤ get_or s.words 1 0
  owed_below = omega (arith, c.live, total_at (λ (u : View). u.owed) s.views id v here)

  -- a word that is due is a field or a word of an entry
  pub write_pays : (i x : ℕ) (ds : List (ℕ × ℕ)) → v.due ≡ (i, x) ∷ ds → Credited p (after s i x id (wrote v))
  write_pays i x ds due = plain_keeps p s k c i x id v (wrote v) here not_left not_right
      (λ e. live_own (subst (λ (n : ℕ). IsOwn (part_of_word p.parts n)) e own))
      (cells_off p.parts s.words i x not_left not_right) refl refl (omega arith) refl refl refl
    where
      own : IsOwn (part_of_word p.parts i)
      own = (k.seats.due v i x seen (subst (λ (l : List (ℕ × ℕ)). IsIn {X = ℕ × ℕ} (i, x) l) (sym due) (inl refl))).1

      live_own : IsOwn (part_of_word p.parts 1) → ⊥
      live_own o = o

      not_left : part_of_word p.parts i ≢ left
      not_left = own_not_left (part_of_word p.parts i) own

      not_right : part_of_word p.parts i ≢ right
      not_right = own_not_right (part_of_word p.parts i) own

  -- the word of a wire or of a free port
  module _ (i x : ℕ) (site : IsLinked (part_of_word p.parts i)) where
    off_left : part_of_word p.parts i ≢ left
    off_left = linked_not_left (part_of_word p.parts i) site

    off_right : part_of_word p.parts i ≢ right
    off_right = linked_not_right (part_of_word p.parts i) site

    off_live : i ≢ 1
    off_live e = no (subst (λ (n : ℕ). IsLinked (part_of_word p.parts n)) e site)
      where
        no : IsLinked (part_of_word p.parts 1) → ⊥
        no l = l

    pub linked_pays : Credited p (after s i x id (linked v))
    linked_pays = plain_keeps p s k c i x id v (linked v) here off_left off_right off_live
        (cells_off p.parts s.words i x off_left off_right) refl refl (rest_length v.pending) refl refl refl

    pub moved_pays : (b d : ℕ) → Credited p (after s i x id (moved v i b d))
    moved_pays b d = plain_keeps p s k c i x id v (moved v i b d) here off_left off_right off_live
        (cells_off p.parts s.words i x off_left off_right) refl refl
        (omega (arith, relinked_length v.pending b d)) refl refl refl

  -- the first pending link is published
  module _ (l : Link) (ls : List Link) (pending : v.pending ≡ l ∷ ls) where
    first_link : IsIn l v.pending
    first_link = subst (λ (ks : List Link). IsIn l ks) (sym pending) (inl refl)

    cell_is : part_of_word p.parts l.cell ≡ left
    cell_is = (k.cells.unpublished v l seen first_link).0

    cell_full : get_or k.full l.cell 0 ≡ 0
    cell_full = (k.cells.unpublished v l seen first_link).1

    pub cell_empty : get_or s.words l.cell 0 ≡ 0
    cell_empty = elim (cases_eq (get_or s.words l.cell 0) 0) [
      | inl e ↦ e
      | inr d ↦ absurd (d (sym (word_full p s k l.cell
          (omega (arith, (is_left p.parts l.cell cell_is).1)) d) ∙ cell_full))
    ]

    right_is : part_of_word p.parts (suc l.cell) ≡ right
    right_is = (is_left p.parts l.cell cell_is).0

    -- no view has claimed it
    right_free : IsNoClaim s (suc l.cell)
    right_free u a y is m e =
        let h = full_of_claimed p s k u a y is m in
        let q : a ≡ l.cell = omega (arith, e) in
        h.2 (ap (λ (n : ℕ). get_or k.full n 0) q ∙ cell_full)

    pub place_pays : Credited p (after s (suc l.cell) l.two id (knowing v (suc l.cell) l.two))
    place_pays = pays_keeps p s c id v (knowing v (suc l.cell) l.two) (suc l.cell) l.two here record {
      off = right_free;
      balance = omega (
        arith,
        live,
        cells_right p.parts s.words (suc l.cell) l.two l.cell cell_is refl cell_empty,
        claims_same (set s.words (suc l.cell) l.two) s.words v
            (λ a y m. get_or-set_other s.words (suc l.cell) (suc a) l.two 0 (right_free v a y seen m)),
      );
      links = c.links v seen;
      owes = omega (
        arith,
        c.owes v seen,
        claims_same (set s.words (suc l.cell) l.two) s.words v
            (λ a y m. get_or-set_other s.words (suc l.cell) (suc a) l.two 0 (right_free v a y seen m)),
      );
      few = c.few v seen;
      settled = λ e. inl e;
      stays = λ e. live ∙ e;
    }
      where
        live : get_or (set s.words (suc l.cell) l.two) 1 0 ≡ get_or s.words 1 0
        live = get_or-set_other s.words (suc l.cell) 1 l.two 0 (live_apart (suc l.cell) right right_is (λ q. cc))

    pub publish_pays : IsIn (suc l.cell, l.two) v.known → Credited p (after s l.cell l.one id (publishing v l.cell))
    publish_pays known = pays_keeps p s c id v (publishing v l.cell) l.cell l.one here record {
      off = no_claim p s k l.cell (not_right l.cell cell_is);
      balance = omega (
        arith,
        live_stays l.cell cell_is l.one,
        cells_left p.parts s.words l.cell l.one cell_is (within l.cell cell_is),
        active_empty (get_or s.words l.cell 0) (get_or s.words (suc l.cell) 0) cell_empty,
        ap (active_in l.one) (k.words.known v (suc l.cell) l.two seen known).0,
        claims_stay l.cell cell_is l.one,
        paid,
        one,
        c.links v seen,
        ap length pending,
      );
      links = omega (
        arith,
        c.links v seen,
        ap length pending,
        ap (λ (ks : List Link). length (rest ks)) pending,
        paid,
        one,
      );
      owes = omega (arith, c.owes v seen, claims_stay l.cell cell_is l.one, paid, one);
      few = omega (arith, c.few v seen);
      settled = λ e. inl e;
      stays = λ e. live_stays l.cell cell_is l.one ∙ e;
    }
      where
        paid : first_active v.pending ≡ active_in l.one l.two
        paid = ap first_active pending

        one : active_in l.one l.two ≤ 1
        one = active_le l.one l.two
