-- The parts of a worker's work, one after the other.
use Rattle.std.proofs.Common.{◌≡◌, ℕ, ◌+◌, ◌≤◌, [], ◌∷◌, ◌++◌, Bool, true, false, ◌||◌, Option}
use Rattle.std.proofs.Common.{None, Some, refl, sym, ap, ◌∙◌, subst, arith}
use Rattle.std.proofs.lemmas.List.{append-nil}
use Rattle.std.proofs.Math.Bool.{or-true}
use Rattle.ol_pool.specs.Pools.{HandState, PoolState, IsHandOf as IsOfPool}
use Rattle.ol_pool.specs.Weights.{weigh_given, weigh_parts}
use Rattle.ol_wire.specs.declared.layout.Parts.{Parts}
use Rattle.ol_wire.specs.declared.view.View.{View}
use Rattle.ol_wire.specs.Plays.{joined, live_read}
use Rattle.ol_wire.specs.Stand.{TableState, SeatState, IsSeatOf}
use Rattle.ol_reduce.specs.declared.answers.End.{End}
use Rattle.ol_reduce.specs.declared.answers.End.TheVariants.{Quiet, Spent}
use Rattle.ol_reduce.specs.declared.workers.Worker.{Worker}
use Rattle.ol_reduce.specs.Worked.{HasWorked, rested, turned, looked}
use Rattle.ol_reduce.specs.Working.{ClaimsGiven, PutsPublished, is_spent}
use Rattle.ol_reduce.specs.Offered.{HasOffered}
use Rattle.ol_reduce.specs.Works.{HasTurnedOn, HasKept, HasAsked, GoesOn}
use Rattle.ol_reduce.proofs.Offering.{offered_none, claims_first, puts_first, claims_still}
use Rattle.ol_reduce.proofs.Offering.{claims_more, puts_more, claims_on, puts_on}

-- ---- turns and looks

pub worked_on : (z : Parts) (u v n : View) → HasWorked z u v → HasWorked z v n → HasWorked z u n
worked_on z u v n a (rested e) = subst (λ (x : View). HasWorked z u x) (sym e) a
worked_on z u v n a (turned {m = m} c t w turn other) = turned {m = m} c t (worked_on z u v m a w) turn other
worked_on z u v n a (looked {m = m} word w listened) = looked {m = m} word (worked_on z u v m a w) listened

-- work after work
pub ended_on : (b : TableState) (u v : SeatState) (n : Worker) (r : Option End) →
    HasWorked b.plan.parts u.view v.view → GoesOn b v r n → GoesOn b u r n
ended_on b u v n None w g = worked_on b.plan.parts u.view v.view n.seat.view w g
ended_on b u v n (Some Quiet) w (q, missed) = ((q.0, q.1, worked_on b.plan.parts u.view v.view q.0 w q.2, q.3), missed)
ended_on b u v n (Some Spent) w g = (g.0, g.1, worked_on b.plan.parts u.view v.view g.0 w g.2, g.3)

-- a look, after such work
pub asked_on : (b : TableState) (u v : SeatState) (n : Worker) (r : Option End) →
    HasWorked b.plan.parts u.view v.view → HasAsked v r n.seat → n.hand.missed ≡ true → GoesOn b u r n
asked_on b u v n None w a missed = looked {m = v.view} a.0 w a.1
asked_on b u v n (Some Quiet) w a missed = ((v.view, a.0, w, a.1), missed)
asked_on b u v n (Some Spent) w a missed = absurd a

-- ---- what stays

pub kept_first : (b : TableState) (p : PoolState) (v : Worker) → IsSeatOf b v.seat → IsOfPool v.hand p → HasKept b p v false v
kept_first b p v seat hand = record {
  seat = seat;
  hand = hand;
  number = refl;
  holds = refl;
  refused = omega arith;
  claimed = claims_first v.seat v.hand;
  put = puts_first v.seat v.hand;
}

pub kept_on : (b : TableState) (p : PoolState) (u v n : Worker) (spent : Bool) → HasKept b p u false v →
    HasKept b p v spent n → HasKept b p u spent n
kept_on b p u v n spent k l = record {
  seat = l.seat;
  hand = l.hand;
  number = l.number ∙ k.number;
  holds = l.holds ∙ k.holds;
  refused = omega (arith, k.refused, l.refused);
  claimed = claims_on u.seat v.seat n.seat u.hand v.hand n.hand k.claimed l.claimed;
  put = puts_on u.seat v.seat n.seat u.hand v.hand n.hand spent l.refused k.put l.put;
}

-- a turn on a cell that the hand was given
pub kept_turn : (b : TableState) (p : PoolState) (u v n : Worker) (c : ℕ) (spent : Bool) → v.seat ≡ u.seat →
    v.number ≡ u.number → IsOfPool v.hand p → v.hand.sent ≡ u.hand.sent → v.hand.refused ≡ u.hand.refused
    → ((h : ℕ → ℕ) → weigh_given h v.hand ≤ weigh_given h u.hand + h c) → HasTurnedOn b v c spent n
    → HasKept b p u spent n
kept_turn b p u v n c spent seat number hand sent refused weighs t =
    let parts = t.offered.parts in record {
      seat = t.seat;
      hand = t.offered.pool ∙ hand;
      number = t.number ∙ number;
      holds = t.holds ∙ ap (λ (s : SeatState). s.view.holds) seat;
      refused = let r = t.offered.refused in omega (arith, r, refused);
      claimed = claims_more u.seat u.seat n.seat u.hand u.hand n.hand c (claims_first u.seat u.hand)
          (t.claimed ∙ ap (λ (s : SeatState). s.view.claimed ++ c ∷ []) seat)
          (λ h. let f = ap (λ l. weigh_parts h l) parts in let w = weighs h in omega (arith, f, w));
      put = puts_more u.seat u.seat n.seat u.hand u.hand v.hand n.hand spent t.cells
          (puts_first u.seat u.hand) sent refused
          (t.published ∙ ap (λ (s : SeatState). s.view.published ++ t.cells) seat) t.offered;
    }

-- a turn on a cell of the round
pub kept_own_turn : (b : TableState) (p : PoolState) (v n : Worker) (c : ℕ) (spent : Bool) → IsOfPool v.hand p →
    HasTurnedOn b v c spent n → HasKept b p v spent n
kept_own_turn b p v n c spent hand t = kept_turn b p v v n c spent refl refl hand refl refl (λ h. omega arith) t

-- a take that gave no cell
pub kept_missed : (b : TableState) (p : PoolState) (u v : Worker) → v.seat ≡ u.seat →
    v.number ≡ u.number → IsSeatOf b v.seat → IsOfPool v.hand p → v.hand.sent ≡ u.hand.sent →
    v.hand.refused ≡ u.hand.refused
    → ((h : ℕ → ℕ) → weigh_given h v.hand ≡ weigh_given h u.hand) → HasKept b p u false v
kept_missed b p u v seat number of hand sent refused weighs = record {
  seat = of;
  hand = hand;
  number = number;
  holds = ap (λ (s : SeatState). s.view.holds) seat;
  refused = omega (arith, refused);
  claimed = subst (λ (s : SeatState). ClaimsGiven u.seat u.hand s v.hand) (sym seat)
      (claims_still u.seat u.seat u.hand u.hand v.hand (claims_first u.seat u.hand) weighs);
  put = subst (λ (s : SeatState). PutsPublished u.seat u.hand false s v.hand) (sym seat)
      (puts_more u.seat u.seat u.seat u.hand u.hand v.hand v.hand false []
      (puts_first u.seat u.hand) sent refused (sym (append-nil u.seat.view.published)) (offered_none v.hand));
}

-- a look
seen : (v n : SeatState) (r : Option End) → HasAsked v r n → (word : ℕ) × (n.view ≡ live_read v.view word)
seen v n None a = (a.0, a.1.0)
seen v n (Some Quiet) a = (a.0, a.1.0)
seen v n (Some Spent) a = absurd a

-- a look is no turn
no_turn : (v n : SeatState) (r : Option End) → HasAsked v r n → is_spent r ≡ false
no_turn v n None a = refl
no_turn v n (Some Quiet) a = refl
no_turn v n (Some Spent) a = absurd a

pub kept_asked : (b : TableState) (p : PoolState) (v n : Worker) (r : Option End) →
    IsSeatOf b n.seat → IsOfPool v.hand p → n.hand ≡ v.hand → n.number ≡ v.number →
    HasAsked v.seat r n.seat → HasKept b p v (is_spent r) n
kept_asked b p v n r of hand same number a =
    let view = (seen v.seat n.seat r a).1 in
    let claimed = ap (λ (x : View). x.claimed) view in
    let published = ap (λ (x : View). x.published) view in record {
      seat = of;
      hand = ap (λ (h : HandState). h.pool) same ∙ hand;
      number = number;
      holds = ap (λ (x : View). x.holds) view;
      refused = let e = ap (λ (h : HandState). h.refused) same in omega (arith, e);
      claimed = subst (λ (h : HandState). ClaimsGiven v.seat v.hand n.seat h) (sym same)
          ([], claimed ∙ sym (append-nil v.seat.view.claimed), λ h. omega arith);
      put = subst (λ (x : Bool). PutsPublished v.seat v.hand x n.seat n.hand) (sym (no_turn v.seat n.seat r a))
          (puts_more v.seat v.seat n.seat v.hand v.hand v.hand n.hand false []
          (puts_first v.seat v.hand) refl refl (published ∙ sym (append-nil v.seat.view.published))
          (subst (λ (h : HandState). HasOffered v.hand [] h) (sym same) (offered_none v.hand)));
    }

-- ---- two workers that ended, joined

pub any_settled : (a b : Bool) (v w n : View) → n ≡ joined v w → (a ≡ true → v.settled ≡ true) →
    (b ≡ true → w.settled ≡ true) → (a || b) ≡ true → n.settled ≡ true
any_settled true b v w n e one other h = ap (λ (x : View). x.settled) e ∙ ap (λ x. x || w.settled) (one refl)
any_settled false b v w n e one other h = ap (λ (x : View). x.settled) e
    ∙ ap (λ x. v.settled || x) (other h) ∙ or-true v.settled

pub all_over : (a b : Bool) (v w n : View) → n ≡ joined v w → (a ≡ false → v.over ≡ true) →
    (b ≡ false → w.over ≡ true) → (a || b) ≡ false → n.over ≡ true
all_over true b v w n e one other h = absurd (cc)
all_over false b v w n e one other h = ap (λ (x : View). x.over) e ∙ ap (λ x. x || w.over) (one refl)
