-- Joining two seats and cutting one off keep the credit, and the word has room for what a seat adds.
-- Used in Steps.Cut, Steps.Join and Steps.LiveAllowed.
use Rattle.std.proofs.Common.{◌≡◌, ℕ, suc, ◌+◌, ◌*◌, ◌<◌, ◌≤◌, ◌||◌, Bool, true, false, List, []}
use Rattle.std.proofs.Common.{◌∷◌, ◌++◌, length, get_or, set, refl, ap, arith}
use mathlib.Core.Option.{some}
use mathlib.Core.Bool.{false≢true}
use lib.ListN.{get_elem?}
use Rattle.ol_wire.specs.declared.plan.Plan.{Plan}
use Rattle.ol_wire.specs.declared.view.View.{View}
use Rattle.ol_wire.specs.Weights.{total}
use Rattle.ol_wire.specs.Layout.{left_word, cells_of}
use Rattle.ol_wire.specs.Idle.{IsIdle}
use Rattle.ol_wire.specs.Plays.{joined}
use Rattle.ol_wire.specs.LinkSteps.{spent_view}
use Rattle.ol_wire.specs.StepPlays.{fewer, one_seat}
use Rattle.ol_wire.specs.Credit.{active_in, active_at, active_claims, Credited}
use Rattle.ol_wire.specs.Rule.{Table, Kept, IsView}
use Rattle.ol_wire.proofs.Steps.Lists.{total_set, total_cut, each_set, each_cut}
use Rattle.ol_wire.proofs.Credit.Sums.{sum_most, active_le, total_least, total_ones}

pub or_true : (a b : Bool) (X : Type 0) → (a ≡ true → X) → (b ≡ true → X) → (a || b) ≡ true → X
or_true true b X f g e = f refl
or_true false b X f g e = g e

module _ (p : Plan) (id : ℕ) (v : View) (other : ℕ) (w : View) (idle : IsIdle v) (idle' : IsIdle w)
    (s : Table) (c : Credited p s) (here : get_elem? s.views id ≡ some v)
    (there : get_elem? (set s.views id (joined v w)) other ≡ some w) (was : get_elem? s.views other ≡ some w) where
  abbrev views : List View
  views = set (set s.views id (joined v w)) other spent_view

  abbrev glued : Table
  glued = record { words = s.words; homes = s.homes; views = views }

  viewed : (P : View → Type 0) → P (joined v w) → P spent_view → ((u : View) → IsView s u → P u) →
      (u : View) → IsView glued u → P u
  viewed P a b old u is = each_set P (set s.views id (joined v w)) other spent_view b
      (each_set P s.views id (joined v w) a (λ j x e. old x (j, e))) is.0 u is.1

  total_glued : (g : View → ℕ) → total g views + (g v + g w) ≡ total g s.views + (g (joined v w) + g spent_view)
  total_glued g = omega (
    arith,
    total_set g s.views id v (joined v w) here,
    total_set g (set s.views id (joined v w)) other w spent_view there,
  )

  pub join_pays : Credited p glued
  join_pays = record {
    live = omega (
      arith,
      c.live,
      total_glued (active_claims s.words),
      total_glued (λ (u : View). u.owed),
      ap (λ (l : List (ℕ × ℕ)). active_claims s.words (record w { taken = l })) idle'.0,
    );
    links = viewed (λ u. length u.pending ≤ u.owed) (omega (arith, c.links v (id, here))) (omega arith) c.links;
    owes = viewed (λ u. u.owed ≤ 5 * (active_claims s.words u + length u.made))
        (omega (arith, idle.3, idle'.3)) (omega arith) c.owes;
    few = viewed (λ u. u.owed + length u.taken ≤ 5 * u.holds)
        (omega (arith, c.few v (id, here), c.few w (other, was))) (omega arith) c.few;
    settled = viewed (λ u. u.settled ≡ true → get_or s.words 1 0 ≡ 0)
        (or_true v.settled w.settled _ (c.settled v (id, here)) (c.settled w (other, was)))
        (λ e. absurd (false≢true e)) c.settled;
  }

module _ (p : Plan) (id : ℕ) (v : View) (two : 1 < v.holds) (idle : IsIdle v) (s : Table)
    (c : Credited p s) (here : get_elem? s.views id ≡ some v) where
  abbrev cut : Table
  cut = record { words = s.words; homes = s.homes; views = set s.views id (fewer v) ++ one_seat v ∷ [] }

  cut_viewed : (P : View → Type 0) → P (fewer v) → P (one_seat v) →
      ((u : View) → IsView s u → P u) → (u : View) → IsView cut u → P u
  cut_viewed P a b old u is = each_cut P s.views id (fewer v) (one_seat v) a b (λ j y e. old y (j, e)) is.0 u is.1

  pub cut_pays : Credited p cut
  cut_pays = record {
    live = omega (
      arith,
      c.live,
      total_cut (active_claims s.words) s.views id v (fewer v) (one_seat v) here (omega arith),
      total_cut (λ (u : View). u.owed) s.views id v (fewer v) (one_seat v) here (omega arith),
    );
    links = cut_viewed (λ u. length u.pending ≤ u.owed) (c.links v (id, here)) (omega arith) c.links;
    owes = cut_viewed (λ u. u.owed ≤ 5 * (active_claims s.words u + length u.made))
        (omega (arith, idle.3)) (omega arith) c.owes;
    few = cut_viewed (λ u. u.owed + length u.taken ≤ 5 * u.holds)
        (omega (arith, two, idle.3, ap length idle.0)) (omega arith) c.few;
    settled = cut_viewed (λ u. u.settled ≡ true → get_or s.words 1 0 ≡ 0) (c.settled v (id, here))
        (λ e. absurd (false≢true e)) c.settled;
  }

ones_length : {A : Type 0} (xs : List A) → total (λ x. 1) xs ≡ length xs
ones_length [] = refl
ones_length (x ∷ xs) = omega (arith, ones_length xs)

claims_few : (ws : List ℕ) (v : View) → active_claims ws v ≤ length v.taken
claims_few ws v = omega (
  arith,
  total_ones
      (λ (q : ℕ × ℕ). active_in q.1 (get_or ws (suc q.0) 0)) v.taken
      (λ q. active_le q.1 (get_or ws (suc q.0) 0)),
  ones_length v.taken,
)

total_times : {A : Type 0} (n : ℕ) (f : A → ℕ) (xs : List A) → total (λ x. n * f x) xs ≡ n * total f xs
total_times n f [] = omega arith
total_times n f (x ∷ xs) = grind (arith, total_times n f xs)

total_sum : {A : Type 0} (f g : A → ℕ) (xs : List A) → total (λ x. f x + g x) xs ≡ total f xs + total g xs
total_sum f g [] = refl
total_sum f g (x ∷ xs) = omega (arith, total_sum f g xs)

-- the live word is at most the cells and five for each seat
pub live_small : (p : Plan) (s : Table) → Kept p s → Credited p s → get_or s.words 1 0 ≤ cells_of p.parts + 5 * p.seats
live_small p s k c =
    let cells = sum_most (cells_of p.parts) (λ a. active_at s.words (left_word p.parts a))
    (λ a. active_le (get_or s.words (left_word p.parts a) 0) (get_or s.words (suc (left_word p.parts a)) 0)) in
    let held = total_least (λ (u : View). active_claims s.words u + u.owed)
    (λ (u : View). 5 * u.holds) s.views (λ j u e. omega (arith, c.few u (j, e), claims_few s.words u)) in
    omega (
      arith,
      c.live,
      cells,
      held,
      total_sum (active_claims s.words)
          (λ (u : View). u.owed) s.views,
      total_times 5 (λ (u : View). u.holds) s.views,
      k.seats.all,
    )
