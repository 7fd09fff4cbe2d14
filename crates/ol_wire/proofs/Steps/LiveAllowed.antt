-- What each kind of step on the live word asks of its seat.
-- Used in `owe`, `read_live` and `repay`.
use Rattle.std.proofs.Common.{◌≡◌, ℕ, ◌+◌, ◌-◌, ◌%◌, ◌^◌, ◌<◌, ◌≤◌, ◌||◌, nat_eq, List, [], ◌∷◌}
use Rattle.std.proofs.Common.{◌++◌, get_or, sym, refl, ap, ◌∙◌, subst, inl, arith}
use Rattle.std.proofs.lemmas.List.{set-get_or}
use native.Mathlib.Nat.{mod-eq_of_lt}
use mathlib.Core.Option.{none, some}
use lib.ListN.{get_elem?}
use Rattle.atomic_table.specs.Table.{step, Act, keeps, Valid, carried_after, stepped, Allows}
use Rattle.atomic_table.proofs.Lists.{set_here}
use Rattle.ol_law_edges.specs.Edges.{IsIn}
use Rattle.ol_wire.specs.declared.plan.Plan.{Plan}
use Rattle.ol_wire.specs.declared.view.View.{View}
use Rattle.ol_wire.specs.Hands.{IsActiveLast}
use Rattle.ol_wire.specs.InHand.{IsInHand}
use Rattle.ol_wire.specs.Plays.{live_read}
use Rattle.ol_wire.specs.StepPlays.{Seated, owing, repaid, owes, repays}
use Rattle.ol_wire.specs.Credit.{Credited, IsRuled}
use Rattle.ol_wire.specs.Rule.{Table, Kept, IsView, KnowsPlan}
use Rattle.ol_wire.specs.Looking.{MomentLive, reads_live}
use Rattle.ol_wire.proofs.Steps.Keep.{after}
use Rattle.ol_wire.proofs.Steps.Live.{live_keeps, index_in}
use Rattle.ol_wire.proofs.Credit.Steps.{owe_pays, repay_pays, owed_below}
use Rattle.ol_wire.proofs.Credit.Seats.{live_small}
use Rattle.ol_wire.proofs.Credit.Quiet.{listen_pays, quiet_complete}
use Rattle.ol_wire.specs.Remembered.{Remembered}
use Rattle.ol_wire.proofs.Steps.Remembering.{plain_recalls, read_recalls}
use Rattle.ol_wire.proofs.Steps.Sight.{one_plan}

module _ (p : Plan) (slots id : ℕ) (m : Seated) (held : 0 < m.0.holds) where
  pub owes_allowed : (w n : ℕ) → n ≤ 4 → IsInHand m.0 w → IsActiveLast m.0 → m.0.owed ≡ 0 →
      m.0.pending ≡ [] → Allows (IsRuled p) slots id m 1 (λ y. (y + n) % 2 ^ 64) (owes (step slots 1 n 0 none) m)
  owes_allowed w n few hand active owed pending s (k, c, r) homes here small =
      let y : ℕ = get_or s.words 1 0 in
      let fits : y + n < 18446744073709551616 = omega
      (arith, live_small p s k c, few, k.plan.small.fuel, k.plan.small.cells, k.plan.seats.1) in
      let next : (y + n) % 2 ^ 64 ≡ y + n = mod-eq_of_lt fits in
      let is = (k.seats.taken m.0 w m.0.last.0 (id, here)
      (subst (λ (l : List (ℕ × ℕ)). IsIn {X = ℕ × ℕ} (w, m.0.last.0) l) (sym hand.taken) (inl refl))).0 in
      let P : ℕ → Type 0 = λ q. (u : View) × (a : Act (Unit {0})) × Valid s.homes m.1 a
      × IsRuled p (stepped s 1 q id m.1 u a) × owes (step slots 1 n 0 none) m y (u, carried_after m.1 a) in
      subst P (sym next) (
        owing m.0 n,
        keeps,
        tt,
        (
          live_keeps p s k id m.0 here held (y + n) (m.0.owed + n) m.0.settled m.0.looked,
          owe_pays p s k c id m.0 here w is hand.taken hand.right active n few owed pending held,
          plain_recalls p s r id m.0 (owing m.0 n) 1 (y + n) here (λ q. cc) (λ q. cc) refl refl refl,
        ),
        (refl, refl),
      )

  pub repays_allowed : (n : ℕ) → m.0.owed ≡ n → m.0.pending ≡ [] →
      Allows (IsRuled p) slots id m 1 (λ y. (y + (2 ^ 64 - n)) % 2 ^ 64) (repays (step slots 1 n 0 none) m)
  repays_allowed n owed pending s (k, c, r) homes here small =
      subst (λ (q : ℕ). (u : View) × (a : Act (Unit {0})) × Valid s.homes m.1 a
      × IsRuled p (stepped s 1 ((get_or s.words 1 0 + (2 ^ 64 - q)) % 2 ^ 64) id m.1 u a)
      × repays (step slots 1 q 0 none) m (get_or s.words 1 0) (u, carried_after m.1 a)) owed there
    where
      y : ℕ
      y = get_or s.words 1 0

      low : m.0.owed ≤ y
      low = owed_below p s k c id m.0 here

      next : (y + (2 ^ 64 - m.0.owed)) % 2 ^ 64 ≡ y - m.0.owed
      next = omega (arith, low, small)

      there : (u : View) × (a : Act (Unit {0})) × Valid s.homes m.1 a
          × IsRuled p (stepped s 1 ((y + (2 ^ 64 - m.0.owed)) % 2 ^ 64) id m.1 u a)
          × repays (step slots 1 m.0.owed 0 none) m y (u, carried_after m.1 a)
      there = subst (λ (q : ℕ). (u : View) × (a : Act (Unit {0})) × Valid s.homes m.1 a
          × IsRuled p (stepped s 1 q id m.1 u a)
          × repays (step slots 1 m.0.owed 0 none) m y (u, carried_after m.1 a)) (sym next) (
            repaid m.0 m.0.owed,
            keeps,
            tt,
            (
              live_keeps p s k id m.0 here held (y - m.0.owed)
                  (m.0.owed - m.0.owed) m.0.settled m.0.looked,
              repay_pays p s k c id m.0 here pending,
              plain_recalls p s r id m.0 (repaid m.0 m.0.owed) 1 (y - m.0.owed) here (λ q. cc) (λ q. cc) refl refl refl,
            ),
            (refl, refl),
          )

-- a look at the live word: the moment after it
module _ (p : Plan) (id : ℕ) (v : View) (held : 0 < v.holds) (s : Table) (k : Kept p s)
    (c : Credited p s) (r : Remembered p s) (here : get_elem? s.views id ≡ some v) where
  abbrev y : ℕ
  y = get_or s.words 1 0

  abbrev next : Table
  next = after s 1 y id (live_read v y)

  kept : Kept p next
  kept = live_keeps p s k id v here held y v.owed (v.settled || nat_eq y 0) (v.looked ++ y ∷ [])

  credit : Credited p next
  credit = listen_pays p s c id v here

  recalls : Remembered p next
  recalls = read_recalls p s r id v (live_read v y) 1 y here refl refl refl refl

  seen : IsView next (live_read v y)
  seen = (id, set_here s.views id (live_read v y) (index_in s.views id v here))

  stands : get_or next.words 1 0 ≡ y
  stands = ap (λ ws. get_or ws 1 0) (set-get_or s.words 1 0)

  empty : y ≡ 0 → get_or next.words 1 0 ≡ 0
  empty e = stands ∙ e

  told : (q : Plan) → KnowsPlan q v → MomentLive q (live_read v y) y
  told q knows =
      let same : p ≡ q = one_plan p q v (k.seats.plans v (id, here) held) knows in
      subst (λ (t : Plan). MomentLive t (live_read v y) y) same (
        record { table = next; kept = kept; credit = credit; told = recalls; seen = seen },
        stands,
        (λ e. quiet_complete p next kept credit (empty e)),
      )

pub reads_live_allowed : (p : Plan) (slots id : ℕ) (m : Seated) → 0 < m.0.holds →
    Allows (IsRuled p) slots id m 1 (λ n. n) (reads_live (step slots 1 0 0 none) m)
reads_live_allowed p slots id m held s
    (k, c, r) homes here small = (
      live_read m.0 (get_or s.words 1 0),
      keeps,
      tt,
      (
        kept p id m.0 held s k c r here,
        credit p id m.0 held s k c r here,
        recalls p id m.0 held s k c r here,
      ),
      (refl, refl, told p id m.0 held s k c r here),
    )
