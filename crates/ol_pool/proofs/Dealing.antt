-- The deques of a new pool, the access that is lent to them, and the hands.
use Rattle.std.proofs.Common.{◌≡◌, ◌∙◌, ℕ, zero, suc, ◌+◌, ◌-◌, ◌<◌, ◌≤◌, List, [], ◌∷◌, ◌++◌, length, map, reverse}
use Rattle.std.proofs.Common.{Some, slice_get, slice_set, All, sym, refl, ap, subst, arith}
use Rattle.std.specs.Option.{ForSome}
use Rattle.std.proofs.lemmas.List.{reverse-append}
use Rattle.std.proofs.lemmas.List.Elements.{All-head, All-tail, All-cons, All-nil, All-map, All-weaker}
use Rattle.std.proofs.lemmas.Option.{same_Some}
use Rattle.ol_pool.specs.declared.deques.Log.{Log}
use Rattle.ol_pool.specs.Deques.{log, lends}
use Rattle.ol_pool.specs.Looks.{part_at, new_part}
use Rattle.ol_pool.specs.Owned.{OwnState, ReachState, reach_part, own_part, IsReach, new_reach}
use Rattle.ol_pool.specs.Owned.{row_of, AreOpen, lends_one}
use Rattle.ol_pool.specs.Handed.{deques_of, pool_of, new_hand, IsHand}
use Rattle.ol_pool.specs.Pools.{DequeId, PoolState, HandState, IsHandOf, IsNewHand, AreDealt}
use Rattle.ol_pool.proofs.Places.{all_at, map_long}

pub long_snoc : {X : Type 0} (xs : List X) (x : X) → length (xs ++ x ∷ []) ≡ length xs + 1
long_snoc [] x = refl
long_snoc (y ∷ xs) x = let e = long_snoc xs x in omega arith

-- the first so many elements are changed
abbrev pub done : {X : Type 0} → (X → X) → ℕ → List X → List X
done f zero xs = xs
done f (suc k) [] = []
done f (suc k) (x ∷ xs) = f x ∷ done f k xs

pub done_at : {X : Type 0} (f : X → X) (k : ℕ) (xs : List X) → slice_get (done f k xs) k ≡ slice_get xs k
done_at f zero xs = refl
done_at f (suc k) [] = refl
done_at f (suc k) (x ∷ xs) = done_at f k xs

pub done_more : {X : Type 0} (f : X → X) (k : ℕ) (xs : List X) (x : X) → slice_get xs k ≡ Some x →
    slice_set (done f k xs) k (f x) ≡ done f (suc k) xs
done_more f zero [] x at = absurd (cc)
done_more f zero (y ∷ xs) x at = ap (λ z. f z ∷ xs) (sym (same_Some y x at))
done_more f (suc k) [] x at = absurd (cc)
done_more f (suc k) (y ∷ xs) x at = ap (λ l. f y ∷ l) (done_more f k xs x at)

pub done_all : {X : Type 0} (f : X → X) (k : ℕ) (xs : List X) → length xs ≤ k → done f k xs ≡ map f xs
done_all f zero [] le = refl
done_all f zero (x ∷ xs) le = absurd (omega arith)
done_all f (suc k) [] le = refl
done_all f (suc k) (x ∷ xs) le = ap (λ l. f x ∷ l) (done_all f k xs (omega arith))

pub done_long : {X : Type 0} (f : X → X) (k : ℕ) (xs : List X) → length (done f k xs) ≡ length xs
done_long f zero xs = refl
done_long f (suc k) [] = refl
done_long f (suc k) (x ∷ xs) = ap suc (done_long f k xs)

-- the images of the first so many elements
abbrev pub firsts : {X Y : Type 0} → (X → Y) → ℕ → List X → List Y
firsts g zero xs = []
firsts g (suc k) [] = []
firsts g (suc k) (x ∷ xs) = g x ∷ firsts g k xs

pub firsts_more : {X Y : Type 0} (g : X → Y) (k : ℕ) (xs : List X) (x : X) →
    slice_get xs k ≡ Some x → firsts g k xs ++ g x ∷ [] ≡ firsts g (suc k) xs
firsts_more g zero [] x at = absurd (cc)
firsts_more g zero (y ∷ xs) x at = ap (λ z. g z ∷ []) (sym (same_Some y x at))
firsts_more g (suc k) [] x at = absurd (cc)
firsts_more g (suc k) (y ∷ xs) x at = ap (λ l. g y ∷ l) (firsts_more g k xs x at)

pub firsts_all : {X Y : Type 0} (g : X → Y) (k : ℕ) (xs : List X) → length xs ≤ k → firsts g k xs ≡ map g xs
firsts_all g zero [] le = refl
firsts_all g zero (x ∷ xs) le = absurd (omega arith)
firsts_all g (suc k) [] le = refl
firsts_all g (suc k) (x ∷ xs) le = ap (λ l. g x ∷ l) (firsts_all g k xs (omega arith))

-- access to each deque, by the deques and their one bound
abbrev pub reach_to : OwnState → ReachState
reach_to own = new_reach own.deque own.log.bound

pub row_is : (bound : ℕ) (owns : List OwnState) →
    All (λ (own : OwnState). (1 < own.log.parts) × (own.log.bound ≡ bound)) owns
    → map reach_to owns ≡ map (λ deque. new_reach deque bound) (map (λ (own : OwnState). own.deque) owns)
row_is bound [] all = refl
row_is bound (own ∷ owns) all =
    let P : OwnState → Type 0 = λ (own : OwnState). (1 < own.log.parts) × (own.log.bound ≡ bound) in
    let e = row_is bound owns (All-tail P own owns all) in
    let b = (All-head P own owns all).1 in
    ap (λ n. new_reach own.deque n ∷ map reach_to owns) b ∙ ap (λ l. new_reach own.deque bound ∷ l) e

lent_deques : (owns : List OwnState) →
    map (λ (own : OwnState). own.deque) (map lends_one owns) ≡ map (λ (own : OwnState). own.deque) owns
lent_deques [] = refl
lent_deques (own ∷ owns) = ap (λ l. own.deque ∷ l) (lent_deques owns)

lent_log : (cells rows : ℕ) (own : OwnState) → own.log ≡ log cells (128 - rows) [] [] →
    (lends_one own).log ≡ log cells (128 - (rows + 1)) [] []
lent_log cells rows own e =
    let n : 128 - rows - 1 ≡ 128 - (rows + 1) = omega arith in
    ap lends e ∙ ap (λ k. log cells k [] []) n

pub one_row_more : (pool : PoolState) (rows : ℕ) (owns : List OwnState) → AreOpen pool rows owns →
    AreOpen pool (rows + 1) (map lends_one owns)
one_row_more pool rows owns opened = (
  All-map (λ (own : OwnState). own.log ≡ log pool.cells (128 - (rows + 1)) [] []) lends_one owns
      (All-weaker (λ (own : OwnState). own.log ≡ log pool.cells (128 - rows) [] [])
      (λ (own : OwnState). (lends_one own).log ≡ log pool.cells (128 - (rows + 1)) [] [])
      (lent_log pool.cells rows) owns opened.0),
  lent_deques owns ∙ opened.1,
)

pub can_lend : (pool : PoolState) (rows : ℕ) (owns : List OwnState) → rows < 64 → AreOpen pool rows owns
    → All (λ (own : OwnState). (1 < own.log.parts) × (own.log.bound ≡ pool.cells)) owns
can_lend pool rows owns few opened = All-weaker
    (λ (own : OwnState). own.log ≡ log pool.cells (128 - rows) [] [])
    (λ (own : OwnState). (1 < own.log.parts) × (own.log.bound ≡ pool.cells))
    (λ own e. let p = ap (λ (l : Log). l.parts) e in (omega arith, ap (λ (l : Log). l.bound) e)) owns opened.0

-- the hands of these deques, numbered from k
abbrev pub dealt : PoolState → ℕ → List OwnState → List HandState
dealt pool k [] = []
dealt pool k (own ∷ owns) = new_hand k own (row_of pool) ∷ dealt pool (suc k) owns

pub dealt_snoc : (pool : PoolState) (k : ℕ) (owns : List OwnState) (own : OwnState) →
    dealt pool k (owns ++ own ∷ []) ≡ dealt pool k owns ++ new_hand (k + length owns) own (row_of pool) ∷ []
dealt_snoc pool k [] own = let e : k ≡ k + 0 = omega arith in ap (λ n. new_hand n own (row_of pool) ∷ []) e
dealt_snoc pool k (x ∷ owns) own =
    let e : suc k + length owns ≡ k + suc (length owns) = omega arith in
    ap (λ l. new_hand k x (row_of pool) ∷ l)
    (dealt_snoc pool (suc k) owns own ∙ ap (λ n. dealt pool (suc k) owns ++ new_hand n own (row_of pool) ∷ []) e)

pub dealt_long : (pool : PoolState) (k : ℕ) (owns : List OwnState) → length (dealt pool k owns) ≡ length owns
dealt_long pool k [] = refl
dealt_long pool k (own ∷ owns) = ap suc (dealt_long pool (suc k) owns)

row_deques : (bound : ℕ) (deques : List DequeId) → deques_of (map (λ deque. new_reach deque bound) deques) ≡ deques
row_deques bound [] = refl
row_deques bound (d ∷ deques) = ap (λ l. d ∷ l) (row_deques bound deques)

row_reaches : (bound : ℕ) (deques : List DequeId) → All (IsReach bound) (map (λ deque. new_reach deque bound) deques)
row_reaches bound [] = All-nil (IsReach bound)
row_reaches bound (d ∷ deques) = All-cons (IsReach bound) (new_reach d bound)
    (map (λ deque. new_reach deque bound) deques)
    (refl, refl, refl, All-nil (λ c. c < bound), omega arith, omega arith) (row_reaches bound deques)

get_between : (xs ys : List OwnState) (x : OwnState) → slice_get (xs ++ x ∷ ys) (length xs) ≡ Some x
get_between [] ys x = refl
get_between (y ∷ xs) ys x = get_between xs ys x

get_mapped : (xs : List OwnState) (i : ℕ) (x : OwnState) → slice_get xs i ≡ Some x →
    slice_get (map (λ (own : OwnState). own.deque) xs) i ≡ Some x.deque
get_mapped [] i x at = absurd (cc)
get_mapped (y ∷ xs) zero x at = ap (λ (z : OwnState). Some z.deque) (same_Some y x at)
get_mapped (y ∷ xs) (suc i) x at = get_mapped xs i x at

pub hand_is : (pool : PoolState) (all owns rest : List OwnState) (own : OwnState) →
    all ≡ owns ++ own ∷ rest → AreOpen pool pool.hands all
    → length pool.deques ≡ pool.hands → pool.hands ≤ 64 → IsHand (length owns) own (row_of pool)
hand_is pool all owns rest own e opened long few =
    let at : slice_get all (length owns) ≡ Some own = subst
    (λ l. slice_get l (length owns) ≡ Some own) (sym e) (get_between owns rest own) in
    let is = all_at (λ (own : OwnState). own.log ≡ log pool.cells (128 - pool.hands) [] []) all
    (length owns) own at opened.0 in
    let b : own.log.bound ≡ pool.cells = ap (λ (l : Log). l.bound) is in
    let p = ap (λ (l : Log). l.parts) is in
    let m = map_long (λ deque. new_reach deque pool.cells) pool.deques in
    record {
      deque = ap (λ l. slice_get l (length owns)) (row_deques pool.cells pool.deques ∙ sym opened.1)
          ∙ get_mapped all (length owns) own at;
      others = subst (λ n. All (IsReach n) (row_of pool)) (sym b) (row_reaches pool.cells pool.deques);
      parts = omega arith;
    }

new_parts : (bound : ℕ) (deques : List DequeId) (k j : ℕ) →
    part_at (slice_set (map reach_part (map (λ deque. new_reach deque bound) deques)) k new_part) j ≡ new_part
new_parts bound [] k j = refl
new_parts bound (d ∷ deques) zero zero = refl
new_parts bound (d ∷ deques) zero (suc j) = no_part bound deques j where
  no_part : (bound : ℕ) (deques : List DequeId) (j : ℕ) →
      part_at (map reach_part (map (λ deque. new_reach deque bound) deques)) j ≡ new_part
  no_part bound [] j = refl
  no_part bound (d ∷ deques) zero = refl
  no_part bound (d ∷ deques) (suc j) = no_part bound deques j
new_parts bound (d ∷ deques) (suc k) zero = refl
new_parts bound (d ∷ deques) (suc k) (suc j) = new_parts bound deques k j

new_hand_is : (pool : PoolState) (k : ℕ) (own : OwnState) →
    own.log ≡ log pool.cells (128 - pool.hands) [] [] → length pool.deques ≡ pool.hands →
    IsNewHand pool k (new_hand k own (row_of pool))
new_hand_is pool k own is long =
    let mine : own_part own 0 ≡ new_part = ap (λ (l : Log). record { given = l.given; empties = 0; agains = 0 }) is in
    let few : length (row_of pool) ≡ pool.hands = map_long (λ deque. new_reach deque pool.cells) pool.deques ∙ long in
    let bound : own.log.bound ≡ pool.cells = ap (λ (l : Log). l.bound) is in
    let deques : deques_of (row_of pool) ≡ pool.deques = row_deques pool.cells pool.deques in
    let same : pool_of own (row_of pool) ≡ pool = λ i. record { hands = few i; cells = bound i; deques = deques i } in
    record {
      number = refl;
      pool = same;
      sent = ap (λ (l : Log). l.sent) is;
      parts = λ p. ap (λ x. part_at (slice_set (map reach_part (row_of pool)) k x) p) mine
          ∙ new_parts pool.cells pool.deques k p;
      refused = refl;
      stage = ap (λ (l : Log). l.stage) is;
      missed = refl;
    }

each_dealt : (pool : PoolState) (j : ℕ) (owns : List OwnState) →
    All (λ (own : OwnState). own.log ≡ log pool.cells (128 - pool.hands) [] []) owns → length pool.deques ≡ pool.hands
    → (k : ℕ) → ForSome (slice_get (dealt pool j owns) k) (IsNewHand pool (j + k))
each_dealt pool j [] all long k h at = absurd (cc)
each_dealt pool j (own ∷ owns) all long zero h at =
    let e : j ≡ j + 0 = omega arith in
    subst (λ n. IsNewHand pool n h) e
    (subst (IsNewHand pool j) (same_Some _ h at)
    (new_hand_is pool j own (All-head (λ (own : OwnState).
    own.log ≡ log pool.cells (128 - pool.hands) [] []) own owns all) long))
each_dealt pool j (own ∷ owns) all long (suc k) h at =
    let e : suc j + k ≡ j + suc k = omega arith in
    subst (λ n. IsNewHand pool n h) e (each_dealt pool (suc j) owns
    (All-tail (λ (own : OwnState). own.log ≡ log pool.cells (128 - pool.hands) [] []) own owns all) long k h at)

pub are_dealt : (pool : PoolState) (owns : List OwnState) (hands : List HandState) →
    AreOpen pool pool.hands owns → length pool.deques ≡ pool.hands → hands ≡ dealt pool 0 owns → AreDealt pool hands
are_dealt pool owns hands opened long e k =
    let z : 0 + k ≡ k = omega arith in
    subst (λ l. ForSome (slice_get l k) (IsNewHand pool k)) (sym e)
    (subst (λ n. ForSome (slice_get (dealt pool 0 owns) k) (IsNewHand pool n)) z
    (each_dealt pool 0 owns opened.0 long k))

pub dealt_of : (pool : PoolState) (hands : List HandState) → AreDealt pool hands →
    All (λ (hand : HandState). IsHandOf hand pool) hands
dealt_of pool [] each = All-nil (λ (hand : HandState). IsHandOf hand pool)
dealt_of pool (h ∷ hands) each = All-cons (λ (hand : HandState). IsHandOf hand pool) h hands
    (each 0 h refl).pool (rest hands (λ k. from k)) where
      from : (k : ℕ) → ForSome (slice_get hands k) (λ (x : HandState). IsHandOf x pool)
      from k x at = (each (suc k) x at).pool

      rest : (hands : List HandState) → ((k : ℕ) →
          ForSome (slice_get hands k) (λ (x : HandState). IsHandOf x pool)) →
          All (λ (hand : HandState). IsHandOf hand pool) hands
      rest [] f = All-nil (λ (hand : HandState). IsHandOf hand pool)
      rest (x ∷ xs) f = All-cons (λ (hand : HandState). IsHandOf hand pool) x xs (f 0 x refl)
          (rest xs (λ k y at. f (suc k) y at))

pub opened_of : (pool : PoolState) (hands : List HandState) → AreDealt pool hands →
    All (λ (hand : HandState). hand.stage ≡ 2) hands
opened_of pool [] each = All-nil (λ (hand : HandState). hand.stage ≡ 2)
opened_of pool (h ∷ hands) each = All-cons (λ (hand : HandState). hand.stage ≡ 2) h hands
    (each 0 h refl).stage (rest hands (λ k. from k)) where
      from : (k : ℕ) → ForSome (slice_get hands k) (λ (x : HandState). x.stage ≡ 2)
      from k x at = (each (suc k) x at).stage

      rest : (hands : List HandState) → ((k : ℕ) →
          ForSome (slice_get hands k) (λ (x : HandState). x.stage ≡ 2)) → All (λ (hand : HandState). hand.stage ≡ 2) hands
      rest [] f = All-nil (λ (hand : HandState). hand.stage ≡ 2)
      rest (x ∷ xs) f = All-cons (λ (hand : HandState). hand.stage ≡ 2) x xs (f 0 x refl)
          (rest xs (λ k y at. f (suc k) y at))

pub snoc_append : {X : Type 0} (xs ys : List X) (x : X) → (xs ++ x ∷ []) ++ ys ≡ xs ++ x ∷ ys
snoc_append [] ys x = refl
snoc_append (z ∷ xs) ys x = ap (λ l. z ∷ l) (snoc_append xs ys x)

-- a hand for the last deque that is left
pub one_dealt : (pool : PoolState) (owns less : List OwnState) (own : OwnState)
    (hands more all : List HandState) (hand : HandState) → owns ≡ less ++ own ∷ []
    → hand ≡ new_hand (length less) own (row_of pool) → more ≡ hands ++ hand ∷ [] →
    dealt pool 0 owns ++ reverse hands ≡ all → dealt pool 0 less ++ reverse more ≡ all
one_dealt pool owns less own hands more all hand split is added before =
    let z : 0 + length less ≡ length less = omega arith in
    let turned : reverse more ≡ hand ∷ reverse hands = ap reverse added ∙ reverse-append hands (hand ∷ []) in
    let whole : dealt pool 0 owns ≡ dealt pool 0 less ++ hand ∷ [] =
    ap (dealt pool 0) split ∙ dealt_snoc pool 0 less own
    ∙ ap (λ n. dealt pool 0 less ++ new_hand n own (row_of pool) ∷ []) z
    ∙ ap (λ h. dealt pool 0 less ++ h ∷ []) (sym is) in
    ap (λ l. dealt pool 0 less ++ l) turned
    ∙ sym (snoc_append (dealt pool 0 less) (reverse hands) hand)
    ∙ ap (λ l. l ++ reverse hands) (sym whole)
    ∙ before

pub all_dealt : (pool : PoolState) (owns : List OwnState) (hands turned all : List HandState) →
    owns ≡ [] → dealt pool 0 owns ++ reverse hands ≡ all → turned ≡ reverse hands → turned ≡ all
all_dealt pool owns hands turned all none before is = is ∙ ap (λ l. dealt pool 0 l ++ reverse hands) (sym none) ∙ before
