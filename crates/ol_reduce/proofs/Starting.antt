-- The start cells, put by the hands one after the other.
use Rattle.std.proofs.Common.{◌≡◌, ◌≢◌, ◌∙◌, ℕ, suc, ◌+◌, ◌%◌, ◌<◌, List, [], ◌∷◌, ◌++◌, All, length, get_or, slice_set}
use Rattle.std.proofs.Common.{eq-eqb, ne_eqb, if◌then◌else◌, sym, ap, subst, arith, inl, inr, Bool}
use Rattle.std.proofs.lemmas.Bool.{cases_eq}
use Rattle.std.proofs.lemmas.List.{append-nil, length-append, length-set, get_or-set_same, get_or-set_other}
use Rattle.std.proofs.lemmas.Option.{slice_get-get_or}
use Rattle.ol_pool.specs.Pools.{HandState, PoolState, AreDealt}
use Rattle.ol_pool.specs.Weights.{weigh}
use Rattle.ol_pool.proofs.Balances.{weigh_append}
use Rattle.ol_reduce.specs.Offered.{HasOffered}
use Rattle.ol_reduce.specs.Started.{start_cells, HasStarted}

-- the hand at this place after the cells below `count` were offered
pub record StartsAt (of : PoolState) (count place : ℕ) (hand : HandState) : Type 0 where
  pub number : hand.number ≡ place
  pub started : HasStarted of count hand

abbrev pub AllStart : PoolState → ℕ → List HandState → Type 0
AllStart of count hands = (k : ℕ) (d : HandState) → k < length hands → StartsAt of count k (get_or hands k d)

-- none was offered
pub start_first : (of : PoolState) (hands : List HandState) → AreDealt of hands → AllStart of 0 hands
start_first of hands dealt k d lt =
    let n = dealt k (get_or hands k d) (slice_get-get_or hands k d lt) in record {
      number = n.number;
      started = record {
        pool = n.pool;
        put = λ few. ([], sym n.refused, λ h. let e = ap (weigh h) n.sent in omega (arith, e));
      };
    }

start_cells_own : (hands count number : ℕ) → count % hands ≡ number →
    start_cells hands (suc count) number ≡ start_cells hands count number ++ count ∷ []
start_cells_own hands count number e = ap
    (λ (b : Bool). start_cells hands count number ++ (if b then count ∷ [] else []))
    (eq-eqb (count % hands) number e)

start_cells_other : (hands count number : ℕ) → count % hands ≢ number →
    start_cells hands (suc count) number ≡ start_cells hands count number
start_cells_other hands count number d = ap
    (λ (b : Bool). start_cells hands count number ++ (if b then count ∷ [] else []))
    (ne_eqb (count % hands) number d) ∙ append-nil (start_cells hands count number)

-- one more was offered by this hand, or by another one
own_more : (of : PoolState) (count place : ℕ) (v n : HandState) → count % of.hands ≡ place →
    StartsAt of count place v → HasOffered v (count ∷ []) n → StartsAt of (suc count) place n
own_more of count place v n own s o = record {
  number = o.number ∙ s.number;
  started = record {
    pool = o.pool ∙ s.started.pool;
    put = λ few.
        let before = s.started.put (let r = o.refused in omega (arith, few, r)) in
        let now = o.put few in
        let cells : start_cells of.hands (suc count) n.number ≡ start_cells of.hands count v.number ++ count ∷ [] = ap
        (start_cells of.hands (suc count)) o.number
        ∙ start_cells_own of.hands count v.number (own ∙ sym s.number) in (
          before.0 ++ now.1,
          (let a = before.1 in let b = now.3 in omega (arith, a, b, length-append before.0 now.1)),
          λ h.
              let a = before.2 h in
              let b = now.4 h in
              let c = ap (weigh h) cells in
              let e = ap (weigh h) now.2 in
              omega (
                arith,
                a,
                b,
                c,
                e,
                weigh_append h (start_cells of.hands count v.number) (count ∷ []),
                weigh_append h v.sent now.0,
                weigh_append h before.0 now.1,
              ),
        );
  };
}

other_more : (of : PoolState) (count place : ℕ) (v : HandState) → count % of.hands ≢ place →
    StartsAt of count place v → StartsAt of (suc count) place v
other_more of count place v other s = record {
  number = s.number;
  started = record {
    pool = s.started.pool;
    put = λ few.
        let before = s.started.put few in
        let same = start_cells_other of.hands count v.number (λ e. other (e ∙ s.number)) in (
          before.0,
          before.1,
          λ h. ap (weigh h) same ∙ before.2 h,
        );
  };
}

pub start_more : (of : PoolState) (count next i : ℕ) (hands new : List HandState) (v n : HandState) →
    next ≡ count + 1 → i ≡ count % of.hands → i < length hands → v ≡ get_or hands i v →
    AllStart of count hands → HasOffered v (count ∷ []) n → new ≡ slice_set hands i n → AllStart of next new
start_more of count next i hands new v n up at low is before offered e k d lt =
    let size : length new ≡ length hands = ap (λ (l : List HandState). length l) e ∙ length-set hands i n in
    let ltk : k < length hands = omega (arith, lt, size) in
    let now : suc count ≡ next = omega (arith, up) in
    subst (λ c. StartsAt of c k (get_or new k d)) now (elim (cases_eq k i) [
      | inl own ↦
          let here : get_or new k d ≡ n = ap (λ (l : List HandState). get_or l k d) e
          ∙ ap (λ j. get_or (slice_set hands i n) j d) own ∙ get_or-set_same hands i n d low in
          let old : StartsAt of count k v = subst (λ x. StartsAt of count k x)
          (ap (λ j. get_or hands j v) own ∙ sym is) (before k v ltk) in
          subst (λ x. StartsAt of (suc count) k x) (sym here)
          (own_more of count k v n (sym at ∙ sym own) old offered)
      | inr other ↦
          let here : get_or new k d ≡ get_or hands k d = ap (λ (l : List HandState). get_or l k d) e
          ∙ get_or-set_other hands i k n d other in
          subst (λ x. StartsAt of (suc count) k x) (sym here)
          (other_more of count k (get_or hands k d) (λ q. other (sym q ∙ sym at)) (before k d ltk))
    ])

pub all_started : (of : PoolState) (count : ℕ) (hands : List HandState) → AllStart of count hands →
    All (HasStarted of count) hands
all_started of count hands all k d lt = (all k d lt).started
