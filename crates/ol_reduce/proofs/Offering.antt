-- What a worker's seat and hand tell of each other, turn by turn.
use Rattle.std.proofs.Common.{◌≡◌, ◌≢◌, ◌∙◌, ℕ, ◌+◌, ◌≤◌, ⊎_elim, Bool, false, List, [], ◌∷◌, ◌++◌, Result, Ok}
use Rattle.std.proofs.Common.{Err, OnOk, OnErr, refl, sym, ap, arith}
use Rattle.std.proofs.lemmas.List.{append-nil, append_assoc, length-append}
use Rattle.ol_pool.specs.Looks.{CountsOne}
use Rattle.ol_pool.specs.Pools.{HandState}
use Rattle.ol_pool.specs.Weights.{weigh_given}
use Rattle.ol_pool.proofs.Balances.{weigh_append}
use Rattle.ol_net.specs.declared.parts.Rule.{Rule}
use Rattle.ol_wire.specs.declared.layout.Parts.{Parts}
use Rattle.ol_wire.specs.declared.view.View.{View}
use Rattle.ol_wire.specs.declared.turn.Turn.{Turn}
use Rattle.ol_wire.specs.declared.turn.Turn.TheVariants.{Rewrote, Gone, Stuck, Spent}
use Rattle.ol_wire.specs.Stand.{SeatState}
use Rattle.ol_wire.specs.Turns.{Leaves, masked}
use Rattle.ol_reduce.specs.Working.{ClaimsGiven, HasPut, PutsPublished, spent_cell}
use Rattle.ol_reduce.specs.Offered.{HasOffered}

put_none : (v n : HandState) → n.sent ≡ v.sent → n.refused ≡ v.refused → HasPut v [] n
put_none v n sent refused = ([], [], sent ∙ sym (append-nil v.sent), (let e = refused in omega arith), λ h. refl)

pub offered_none : (v : HandState) → HasOffered v [] v
offered_none v = record {
  number = refl;
  pool = refl;
  parts = refl;
  missed = refl;
  refused = omega arith;
  put = λ _. put_none v v refl refl;
}

-- `again` are put with the second list
put_more : (u v n : HandState) (again xs ys : List ℕ) → HasPut u xs v → HasPut v (again ++ ys) n →
    HasPut u (again ++ (xs ++ ys)) n
put_more u v n again xs ys (a, b, s, r, w) (c, d, t, q, z) = (
  a ++ c,
  b ++ d,
  t ∙ ap (λ l. l ++ c) s ∙ append_assoc u.sent a c,
  omega (arith, r, q, length-append b d),
  λ h. omega (
    arith,
    w h,
    z h,
    weigh_append h again (xs ++ ys),
    weigh_append h again ys,
    weigh_append h xs ys,
    weigh_append h a c,
    weigh_append h b d,
  ),
)

pub offered_more : (u v n : HandState) (xs ys : List ℕ) → HasOffered u xs v → HasOffered v ys n →
    HasOffered u (xs ++ ys) n
offered_more u v n xs ys a b = record {
  number = b.number ∙ a.number;
  pool = b.pool ∙ a.pool;
  parts = b.parts ∙ a.parts;
  missed = b.missed ∙ a.missed;
  refused = omega (arith, a.refused, b.refused);
  put = λ few. put_more u v n [] xs ys (a.put (omega (arith, few, b.refused))) (b.put few);
}

-- one put, by its answer
pub offered_one : {A : Type 0} (r : Result A ℕ) (v n : HandState) (cell : ℕ) →
    OnOk r (n ≡ record v { sent = v.sent ++ cell ∷ [] }) →
    OnErr r (n ≡ record v { refused = n.refused }) → OnErr r (CountsOne v.refused n.refused)
    → HasOffered v (cell ∷ []) n
offered_one (Ok x) v n cell sent same counts = record {
  number = ap (λ (s : HandState). s.number) sent;
  pool = ap (λ (s : HandState). s.pool) sent;
  parts = ap (λ (s : HandState). s.parts) sent;
  missed = ap (λ (s : HandState). s.missed) sent;
  refused = (let e = ap (λ (s : HandState). s.refused) sent in omega arith);
  put = λ _. (
    cell ∷ [],
    [],
    ap (λ (s : HandState). s.sent) sent,
    (let e = ap (λ (s : HandState). s.refused) sent in omega arith),
    λ h. omega arith,
  );
}
offered_one (Err x) v n cell sent same counts = record {
  number = ap (λ (s : HandState). s.number) same;
  pool = ap (λ (s : HandState). s.pool) same;
  parts = ap (λ (s : HandState). s.parts) same;
  missed = ap (λ (s : HandState). s.missed) same;
  refused = ⊎_elim (λ e. omega (arith, e)) (λ e. omega (arith, e.1)) counts;
  put = λ few. (
    [],
    cell ∷ [],
    ap (λ (s : HandState). s.sent) same ∙ sym (append-nil v.sent),
    ⊎_elim (λ e. omega (arith, e)) (λ e. absurd (omega (arith, few, e.0, e.1))) counts,
    λ h. omega arith,
  );
}

-- the cells that a turn published, by its answer
abbrev pub published_of : Turn → List ℕ
published_of Gone = []
published_of Stuck = []
published_of Spent = []
published_of (Rewrote t r b m) = masked b m

pub nothing : (t : Turn) → t ≢ Spent → ((a : ℕ) (r : Rule) (b m : ℕ) → t ≢ Rewrote a r b m) → published_of t ≡ []
nothing Gone a b = refl
nothing Stuck a b = refl
nothing Spent a b = refl
nothing (Rewrote t r c m) a b = absurd (b t r c m refl)

pub published_by : (z : Parts) (v : View) (c : ℕ) (t : Turn) (n : View) → Leaves z v c t n →
    n.published ≡ v.published ++ published_of t
published_by z v c Gone n l = ap (λ (u : View). u.published) l ∙ sym (append-nil v.published)
published_by z v c Stuck n l = ap (λ (u : View). u.published) l ∙ sym (append-nil v.published)
published_by z v c Spent n l = ap (λ (u : View). u.published) l ∙ sym (append-nil v.published)
published_by z v c (Rewrote t r b m) n l = ap (λ (u : View). u.published) l.view

pub claims_first : (s : SeatState) (v : HandState) → ClaimsGiven s v s v
claims_first s v = ([], sym (append-nil s.view.claimed), λ h. omega arith)

pub puts_first : (s : SeatState) (v : HandState) → PutsPublished s v false s v
puts_first s v = λ _. ([], sym (append-nil s.view.published), put_none v v refl refl)

-- a take that missed; a turn on a cell that was given
pub claims_still : (s t : SeatState) (v m b : HandState) → ClaimsGiven s v t m →
    ((h : ℕ → ℕ) → weigh_given h b ≡ weigh_given h m) → ClaimsGiven s v t b
claims_still s t v m b (cells, e, less) same = (cells, e, λ h. omega (arith, less h, same h))

pub claims_more : (s t u : SeatState) (v m b : HandState) (cell : ℕ) → ClaimsGiven s v t m →
    u.view.claimed ≡ t.view.claimed ++ cell ∷ [] → ((h : ℕ → ℕ) → weigh_given h b ≤ weigh_given h m + h cell)
    → ClaimsGiven s v u b
claims_more s t u v m b cell (cells, e, less) claimed one = (
  cells ++ cell ∷ [],
  claimed ∙ ap (λ l. l ++ cell ∷ []) e ∙ append_assoc s.view.claimed cells (cell ∷ []),
  λ h. omega (arith, less h, one h, weigh_append h cells (cell ∷ [])),
)

-- cells were published, and offered to the pool
pub puts_more : (s t u : SeatState) (v m b n : HandState) (spent : Bool) (cells : List ℕ) →
    PutsPublished s v false t m → b.sent ≡ m.sent → b.refused ≡ m.refused
    → u.view.published ≡ t.view.published ++ cells → HasOffered b (spent_cell spent u ++ cells) n
    → PutsPublished s v spent u n
puts_more s t u v m b n spent cells before sent refused published offered few =
    let again = spent_cell spent u in
    let less = offered.refused in
    let p = before (let e = refused in omega (arith, few, less)) in
    let here = put_more m b n again [] cells (put_none m b sent refused) (offered.put few) in (
      p.0 ++ cells,
      published ∙ ap (λ l. l ++ cells) p.1 ∙ append_assoc s.view.published p.0 cells,
      put_more v m n again p.0 cells p.2 here,
    )

-- one part of a worker's work after another
pub claims_on : (s t u : SeatState) (v m n : HandState) → ClaimsGiven s v t m →
    ClaimsGiven t m u n → ClaimsGiven s v u n
claims_on s t u v m n (xs, e, less) (ys, d, more) = (
  xs ++ ys,
  d ∙ ap (λ l. l ++ ys) e ∙ append_assoc s.view.claimed xs ys,
  λ h. omega (arith, less h, more h, weigh_append h xs ys),
)

pub puts_on : (s t u : SeatState) (v m n : HandState) (spent : Bool) → m.refused ≤ n.refused →
    PutsPublished s v false t m → PutsPublished t m spent u n → PutsPublished s v spent u n
puts_on s t u v m n spent le before after few =
    let p = before (omega (arith, few, le)) in
    let q = after few in (
      p.0 ++ q.0,
      q.1 ∙ ap (λ l. l ++ q.0) p.1 ∙ append_assoc s.view.published p.0 q.0,
      put_more v m n (spent_cell spent u) p.0 q.0 p.2 q.2,
    )
