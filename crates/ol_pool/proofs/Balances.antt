-- Each step of a deque keeps its rule.
use Rattle.std.proofs.Common.{◌≡◌, ◌≢◌, ◌∙◌, ℕ, zero, suc, ◌+◌, ◌<◌, inl, inr, ⊎_elim, List, [], ◌∷◌, ◌++◌, length, All}
use Rattle.std.proofs.Common.{Option, None, Some, MatchOption, slice_index, set, sym, refl, ap, subst, arith}
use Rattle.std.proofs.lemmas.List.Elements.{All-append, All-cons, All-nil, All-head, All-tail, All-set, All-push}
use mathlib.Core.Option.{some, some-ne-none, some-injective}
use lib.ListN.{get_elem?}
use Rattle.crossbeam_deque.specs.Tasks.{Pushes, Takes, Finds, Forks}
use Rattle.ol_pool.specs.declared.deques.Log.{Log}
use Rattle.ol_pool.specs.Weights.{weigh}
use Rattle.ol_pool.specs.Deques.{untold, told, opened, spent, puts, gets, lends, lent, total}
use Rattle.ol_pool.specs.Deques.{AllBelow, Fits, Runs, Kept}

pub weigh_append : (h : ℕ → ℕ) (xs ys : List ℕ) → weigh h (xs ++ ys) ≡ weigh h xs + weigh h ys
weigh_append h [] ys = omega arith
weigh_append h (x ∷ xs) ys = let e = weigh_append h xs ys in omega arith

-- the total after a change of one view
pub total_set : (f : Log → ℕ) (views : List Log) (port : ℕ) (v w : Log) →
    get_elem? views port ≡ some v → total f (set views port w) + f v ≡ total f views + f w
total_set f [] port v w at = absurd (some-ne-none v (sym at))
total_set f (u ∷ views) zero v w at = let e = ap f (some-injective u v at) in omega arith
total_set f (u ∷ views) (suc port) v w at = let e = total_set f views port v w at in omega arith

pub total_snoc : (f : Log → ℕ) (views : List Log) (w : Log) → total f (views ++ w ∷ []) ≡ total f views + f w
total_snoc f [] w = omega arith
total_snoc f (u ∷ views) w = let e = total_snoc f views w in omega arith

at_port : (P : Log → Type 0) (views : List Log) (port : ℕ) (v : Log) → All P views → get_elem? views port ≡ some v → P v
at_port P [] port v all at = absurd (some-ne-none v (sym at))
at_port P (u ∷ views) zero v all at = subst P (some-injective u v at) (All-head P u views all)
at_port P (u ∷ views) (suc port) v all at = at_port P views port v (All-tail P u views all) at

lone : (u v : Log) (port : ℕ) → get_elem? (u ∷ []) port ≡ some v → u ≡ v
lone u v zero at = some-injective u v at
lone u v (suc port) at = absurd (some-ne-none v (sym at))

lone_in : (u v : Log) (views : List Log) (port : ℕ) → views ≡ u ∷ [] → get_elem? views port ≡ some v → u ≡ v
lone_in u v views port e at = lone u v port (subst (λ l. get_elem? l port ≡ some v) e at)

set_lone : (u w : Log) (port : ℕ) (v : Log) → get_elem? (u ∷ []) port ≡ some v → set (u ∷ []) port w ≡ w ∷ []
set_lone u w zero v at = refl
set_lone u w (suc port) v at = absurd (some-ne-none v (sym at))

apart : (a b : ℕ) (u v : Log) → u ≡ v → u.stage ≡ a → v.stage ≡ b → a ≢ b → ⊥
apart a b u v e s t n = n (sym s ∙ ap (λ l. l.stage) e ∙ t)

-- a pass that knows an ready deque stands at an ready deque
running : (waiting : List ℕ) (views : List Log) (port : ℕ) (v : Log) → v.stage ≡ 2 →
    Kept waiting views → get_elem? views port ≡ some v
    → Runs v.bound waiting views × (0 < v.parts)
running waiting views port v ready rule at = ⊎_elim
    (λ s. absurd (apart 0 2 untold v (lone_in untold v views port s.1 at) refl ready (λ e. absurd (cc))))
    (λ r. ⊎_elim
    (λ t. absurd (apart 1 2 (told t.0) v (lone_in (told t.0) v views port t.2 at) refl ready (λ e. absurd (cc))))
    (λ u. ⊎_elim
    (λ gone. absurd (apart 2 3 v spent gone ready refl (λ e. absurd (cc))))
    (λ fits. (subst (λ b. Runs b waiting views) (sym fits.2) u.1, fits.0))
    (at_port (Fits u.0) views port v u.1.0 at))
    r)
    rule

all_rest : (P : ℕ → Type 0) (xs ys : List ℕ) → All P (xs ++ ys) → All P xs × All P ys
all_rest P [] ys all = (All-nil P, all)
all_rest P (x ∷ xs) ys all = let r = all_rest P xs ys (All-tail P x (xs ++ ys) all) in
    (All-cons P x xs (All-head P x (xs ++ ys) all) r.0, r.1)

-- what the owner's pop tells
pub gave : (E : Type 0) (r : Option ℕ) (v w : Log) →
    MatchOption r ((w ≡ v) × E) (λ x. (w ≡ gets v (x ∷ [])) × AllBelow v.bound (x ∷ [])) →
    v.stage ≡ 2 → AllBelow v.bound v.given
    → (w.stage ≡ 2) × AllBelow w.bound w.given × (w.sent ≡ v.sent)
gave E None v w e s b = (
  ap (λ l. l.stage) e.0 ∙ s,
  subst (λ (u : Log). AllBelow u.bound u.given) (sym e.0) b,
  ap (λ l. l.sent) e.0,
)
gave E (Some x) v w e s b = (
  ap (λ l. l.stage) e.0 ∙ s,
  subst (λ (u : Log). AllBelow u.bound u.given) (sym e.0) (All-append (λ c. c < v.bound) v.given (x ∷ []) b e.1),
  ap (λ l. l.sent) e.0,
)

pub begins : Kept [] (untold ∷ [])
begins = inl (refl, refl)

-- the bound is put into a new deque
pub tells : (port : ℕ) (v : Log) (bound : ℕ) → v ≡ untold →
    Pushes Kept port v (bound ∷ []) (λ w. w ≡ told (slice_index (bound ∷ []) 0))
tells port v bound new waiting views rule at = (
  told bound,
  ⊎_elim
      (λ s. inr (inl (
        bound,
        ap (λ l. l ++ bound ∷ []) s.0,
        subst (λ l. set l port (told bound) ≡ told bound ∷ []) (sym s.1)
            (set_lone untold (told bound) port v (subst (λ l. get_elem? l port ≡ some v) s.1 at)),
      )))
      (λ r. absurd (⊎_elim
      (λ t. apart 1 0 (told t.0) v (lone_in (told t.0) v views port t.2 at) refl
      (ap (λ l. l.stage) new) (λ e. absurd (cc)))
      (λ u. ⊎_elim
      (λ gone. apart 0 3 v spent gone (ap (λ l. l.stage) new) refl (λ e. absurd (cc)))
      (λ fits. absurd (differs (sym (ap (λ l. l.stage) new) ∙ fits.1)))
      (at_port (Fits u.0) views port v u.1.0 at))
      r))
      rule,
  refl,
) where
  differs : ◌≡◌ {A = ℕ} 0 2 → ⊥
  differs e = absurd (cc)

one_left : (xs items : List ℕ) (bound : ℕ) → 0 < length xs → xs ++ items ≡ bound ∷ [] → items ≡ []
one_left [] items bound any e = absurd (omega arith)
one_left (x ∷ []) items bound any e = cc
one_left (x ∷ y ∷ xs) items bound any e = absurd (cc)

runs_new : (bound : ℕ) → Runs bound [] (opened bound ∷ [])
runs_new bound = (
  All-cons (Fits bound) (opened bound) [] (inr (omega arith, refl, refl))
      (All-nil (Fits bound)),
  All-nil (λ c. c < bound),
  refl,
  λ h. refl,
)

-- a pass that knows that the bound waits stands at such a deque
waits : (waiting : List ℕ) (views : List Log) (port : ℕ) (v : Log) → v.stage ≡ 1 →
    Kept waiting views → get_elem? views port ≡ some v
    → (waiting ≡ v.bound ∷ []) × (views ≡ told v.bound ∷ [])
waits waiting views port v one rule at = ⊎_elim
    (λ s. absurd (apart 0 1 untold v (lone_in untold v views port s.1 at) refl one (λ e. absurd (cc))))
    (λ r. ⊎_elim
    (λ t. let e = ap (λ l. l.bound) (lone_in (told t.0) v views port t.2 at) in
    (subst (λ b. waiting ≡ b ∷ []) e t.1, subst (λ b. views ≡ told b ∷ []) e t.2))
    (λ u. ⊎_elim
    (λ gone. absurd (apart 1 3 v spent gone one refl (λ e. absurd (cc))))
    (λ fits. absurd (apart 2 1 v v refl fits.1 one (λ e. absurd (cc))))
    (at_port (Fits u.0) views port v u.1.0 at))
    r)
    rule

-- and it is taken out again
pub opens : (port : ℕ) (v : Log) → v.stage ≡ 1 → Takes Kept port v 1 (λ xs w. w ≡ opened v.bound)
opens port v one xs items views any few rule at =
    let w = waits (xs ++ items) views port v one rule at in
    let none = one_left xs items v.bound any w.0 in
    let alone = set_lone (told v.bound) (opened v.bound) port v (subst (λ l. get_elem? l port ≡ some v) w.1 at) in
    let now = subst (λ l. set l port (opened v.bound) ≡ opened v.bound ∷ []) (sym w.1) alone in (
      opened v.bound,
      inr (inr (
        v.bound,
        subst (λ l. Runs v.bound l (set views port (opened v.bound))) (sym none)
            (subst (λ l. Runs v.bound [] l) (sym now) (runs_new v.bound)),
      )),
      refl,
    )

pub never_empty : (port : ℕ) (v : Log) → Finds Kept port v (v.stage ≢ 1)
never_empty port v views rule at one = absurd (nothing (waits [] views port v one rule at).0) where
  nothing : ◌≡◌ {A = List ℕ} [] (v.bound ∷ []) → ⊥
  nothing e = absurd (cc)

-- one view becomes another of the same parts and bound
changes : (bound : ℕ) (views : List Log) (port : ℕ) (v w : Log) → get_elem? views port ≡ some v →
    Fits bound w → w.parts ≡ v.parts → All (Fits bound) views → total (λ u. u.parts) views ≡ 128
    → All (Fits bound) (set views port w) × (total (λ u. u.parts) (set views port w) ≡ 128)
changes bound views port v w at fits same all whole =
    let s = total_set (λ u. u.parts) views port v w at in
    (All-set (Fits bound) views port w fits all, omega arith)

pub pushes : (port : ℕ) (v : Log) (cell : ℕ) → v.stage ≡ 2 → cell < v.bound →
    Pushes Kept port v (cell ∷ []) (λ w. w ≡ puts v (cell ∷ []))
pushes port v cell ready below waiting views rule at =
    let w : Log = puts v (cell ∷ []) in
    let r = running waiting views port v ready rule at in
    let c = changes v.bound views port v w at (inr (r.1, ready, refl)) refl r.0.0 r.0.2 in (
      w,
      inr (inr (
        v.bound,
        (
          c.0,
          All-push (λ c. c < v.bound) waiting cell r.0.1 below,
          c.1,
          (λ h.
              let s = total_set (λ u. weigh h u.sent) views port v w at in
              let t = total_set (λ u. weigh h u.given) views port v w at in
              let p = r.0.3 h in
              let a = weigh_append h v.sent (cell ∷ []) in
              let d = weigh_append h waiting (cell ∷ []) in
              omega arith),
        ),
      )),
      refl,
    )

pub takes : (port : ℕ) (v : Log) → v.stage ≡ 2 → Takes Kept port v 1 (λ xs w. (w ≡ gets v xs) × AllBelow v.bound xs)
takes port v ready xs waiting views any few rule at =
    let w : Log = gets v xs in
    let r = running (xs ++ waiting) views port v ready rule at in
    let c = changes v.bound views port v w at (inr (r.1, ready, refl)) refl r.0.0 r.0.2 in
    let below = all_rest (λ c. c < v.bound) xs waiting r.0.1 in (
      w,
      inr (inr (
        v.bound,
        (
          c.0,
          below.1,
          c.1,
          (λ h.
              let s = total_set (λ u. weigh h u.sent) views port v w at in
              let t = total_set (λ u. weigh h u.given) views port v w at in
              let p = r.0.3 h in
              let a = weigh_append h v.given xs in
              let d = weigh_append h xs waiting in
              omega arith),
        ),
      )),
      (refl, below.0),
    )

pub forks : (port : ℕ) (v : Log) → v.stage ≡ 2 → 1 < v.parts → Forks Kept port v (lends v) (lent v.bound)
forks port v ready any waiting views rule at =
    let w : Log = lends v in
    let n : Log = lent v.bound in
    let r = running waiting views port v ready rule at in
    let less : 0 < w.parts = omega (arith, any) in
    let l = set views port w in
    inr (inr (
      v.bound,
      (
        All-push (Fits v.bound) l n (All-set (Fits v.bound) views port w
            (inr (less, ready, refl)) r.0.0) (inr (omega arith, refl, refl)),
        r.0.1,
        (let s = total_set (λ u. u.parts) views port v w at in
            let t = total_snoc (λ u. u.parts) l n in let p = r.0.2 in omega arith),
        (λ h.
            let s = total_set (λ u. weigh h u.sent) views port v w at in
            let t = total_set (λ u. weigh h u.given) views port v w at in
            let a = total_snoc (λ u. weigh h u.sent) l n in
            let b = total_snoc (λ u. weigh h u.given) l n in
            let p = r.0.3 h in
            omega arith),
      ),
    ))
