-- Two walks of an order from a term: one goes on from where the other ends, or they are one.
use Rattle.std.proofs.Common.{◌≡◌, ℕ, zero, suc, ◌+◌, ◌<◌, ◌≤◌, ◌⊎◌, inl, inr, List, [], ◌∷◌, ◌++◌, length, Option}
use Rattle.std.proofs.Common.{Some, None, IsSome, refl, sym, ap, ◌∙◌, subst, arith}
use Rattle.std.specs.Prelude.{slice_get}
use Rattle.std.proofs.lemmas.Bool.{cases_lt}
use Rattle.std.proofs.lemmas.List.{length_push}
use Rattle.ol_term.specs.Trees.{Tree}
use Rattle.ol_beta.specs.Beta.{IsWithin}
use Rattle.ol_law_edges.proofs.Lists.{got_append}
use Rattle.ol_strategies.specs.Redexes.{next}
use Rattle.ol_strategies.specs.Reductions.{IsStep}
use Rattle.ol_strategies.proofs.Rounds.{step_is_one}
use Rattle.ol_strategies.specs.declared.orders.Order.{Order}
use Rattle.ol_steps.specs.Steps.{Walk, starts, goes, IsNew}

-- the last step of a walk
record LastStep (o : Order) (t : Tree) (terms : List Tree) (v : Tree) : Type 0 where
  pub before : List Tree
  pub from : Tree
  pub is : terms ≡ before ++ from ∷ []
  pub walk : Walk o t before from
  pub step : IsStep o from v

abbrev Made : Order → Tree → List Tree → Tree → Type 0
Made o t terms v = ((terms ≡ []) × (v ≡ t)) ⊎ LastStep o t terms v

made : {o : Order} {t v : Tree} {terms : List Tree} → Walk o t terms v → Made o t terms v
made starts = inl (refl, refl)
made (goes {terms = xs} {u = u} walk new step within) =
    inr (record { before = xs; from = u; is = refl; walk = walk; step = step })

-- ---- walks of one length are one

begun_same : (o : Order) (t : Tree) (ys : List Tree) (v : Tree) → Made o t ys v → 0 ≡ length ys → ([] ≡ ys) × (t ≡ v)
begun_same o t ys v (inl (e, i)) l = (sym e, sym i)
begun_same o t ys v (inr s) l =
    let n = ap length s.is in
    let m = length_push s.before s.from in
    absurd (omega (arith, n, m, l))

more_same : (o : Order) (t : Tree) (xs : List Tree) (u v : Tree) → IsStep o u v → (ys : List Tree) (w : Tree) →
    Made o t ys w → length (xs ++ u ∷ []) ≡ length ys →
    ((zs : List Tree) (x : Tree) → Walk o t zs x → length xs ≡ length zs → (xs ≡ zs) × (u ≡ x)) →
    (xs ++ u ∷ [] ≡ ys) × (v ≡ w)
more_same o t xs u v step ys w (inl (e, i)) l each =
    let n = ap length e in
    let m = length_push xs u in
    absurd (omega (arith, n, m, l))
more_same o t xs u v step ys w (inr s) l each =
    let n = ap length s.is in
    let k = length_push s.before s.from in
    let m = length_push xs u in
    let r = each s.before s.from s.walk (omega (arith, n, k, m, l)) in (
      ap (λ (zs : List Tree). zs ++ u ∷ []) r.0 ∙ ap (λ (x : Tree). s.before ++ x ∷ []) r.1 ∙ sym s.is,
      step_is_one o u v w step (subst (λ (x : Tree). IsStep o x w) (sym r.1) s.step),
    )

same_walk : {o : Order} {t u : Tree} {xs : List Tree} → Walk o t xs u → (ys : List Tree) (v : Tree) → Walk o t ys v →
    length xs ≡ length ys → (xs ≡ ys) × (u ≡ v)
same_walk {o} {t} starts ys v other l = begun_same o t ys v (made other) l
same_walk {o} {t} (goes {terms = xs} {u = u} {v = v} walk new step within) ys w other l =
    more_same o t xs u v step ys w (made other) l (same_walk walk)

-- ---- the shorter goes on

pub record GoesOn (o : Order) (terms : List Tree) (v : Tree) : Type 0 where
  pub new : IsNew terms v
  pub after : Tree
  pub step : IsStep o v after
  pub within : IsWithin after

abbrev OrGoesOn : Order → List Tree → Tree → List Tree → Tree → Type 0
OrGoesOn o xs u ys v = ((xs ≡ ys) × (u ≡ v)) ⊎ GoesOn o xs u

as_it_goes : (o : Order) (xs : List Tree) (u : Tree) (ys : List Tree) (v w : Tree) → IsNew ys v → IsStep o v w →
    IsWithin w → OrGoesOn o xs u ys v → GoesOn o xs u
as_it_goes o xs u ys v w new step within (inl (e, i)) =
    subst (λ (zs : List Tree). GoesOn o zs u) (sym e) (subst (λ (x : Tree). GoesOn o ys x) (sym i)
    (record { new = new; after = w; step = step; within = within }))
as_it_goes o xs u ys v w new step within (inr g) = g

goes_on : {o : Order} {t u v : Tree} {xs ys : List Tree} → Walk o t xs u → Walk o t ys v → length xs ≤ length ys →
    OrGoesOn o xs u ys v
goes_on {t = t} {xs = xs} walk starts l = inl (same_walk walk [] t starts (let n : length xs ≡ 0 = omega (arith, l) in n))
goes_on {o = o} {t = t} {u = u} {xs = xs} walk (goes {terms = ys} {u = w} {v = v} other new step within) l =
    go (goes_on walk other) (cases_lt (length xs) (length (ys ++ w ∷ [])))
  where
    go : (length xs ≤ length ys → OrGoesOn o xs u ys w) →
        (length xs < length (ys ++ w ∷ [])) ⊎ (length (ys ++ w ∷ []) ≤ length xs) →
        OrGoesOn o xs u (ys ++ w ∷ []) v
    go each (inl m) =
        let n = length_push ys w in
        inr (as_it_goes o xs u ys w v new step within (each (omega (arith, m, n))))
    go each (inr m) = inl (same_walk walk (ys ++ w ∷ []) v (goes other new step within) (omega (arith, l, m)))

-- ---- walks that stop are one

-- a walk that no step leads on from, within so many steps
pub record Stops (o : Order) (most : ℕ) (t : Tree) (terms : List Tree) (v : Tree) : Type 0 where
  pub walk : Walk o t terms v
  pub few : length terms ≤ most
  pub last : length terms < most → GoesOn o terms v → ⊥

pub one_stop : (o : Order) (most : ℕ) (t : Tree) (xs ys : List Tree) (u v : Tree) → Stops o most t xs u →
    Stops o most t ys v → (xs ≡ ys) × (u ≡ v)
one_stop o most t xs ys u v a b = go (cases_lt (length xs) (length ys)) (cases_lt (length ys) (length xs))
  where
    shorter : (zs qs : List Tree) (x y : Tree) → length zs < length qs → Stops o most t zs x → Stops o most t qs y →
        OrGoesOn o zs x qs y → (zs ≡ qs) × (x ≡ y)
    shorter zs qs x y l c d (inl p) = p
    shorter zs qs x y l c d (inr g) = let f = d.few in absurd (c.last (omega (arith, l, f)) g)

    go : (length xs < length ys) ⊎ (length ys ≤ length xs) → (length ys < length xs) ⊎ (length xs ≤ length ys) →
        (xs ≡ ys) × (u ≡ v)
    go (inl l) other = shorter xs ys u v l a b (goes_on a.walk b.walk (omega (arith, l)))
    go (inr l) (inl m) =
        let r = shorter ys xs v u m b a (goes_on b.walk a.walk (omega (arith, m))) in (sym r.0, sym r.1)
    go (inr l) (inr m) = same_walk a.walk ys v b.walk (omega (arith, l, m))

-- ---- a term of a walk

got_one : (x : Tree) (q : ℕ) (y : Tree) → slice_get (x ∷ []) q ≡ Some y → (q ≡ 0) × (x ≡ y)
got_one x zero y e = (refl, cc)
got_one x (suc q) y e = absurd (cc)

-- a redex comes next in it
pub redex_in : {o : Order} {t v : Tree} {terms : List Tree} → Walk o t terms v → (k : ℕ) (x : Tree) →
    slice_get terms k ≡ Some x → IsSome (next o x)
redex_in starts k x e = absurd (cc)
redex_in {o} (goes {terms = terms} {u = u} {v = v} walk new step within) k x e =
    go (redex_in walk k x) (got_append terms (u ∷ []) k x e)
  where
    some : (r : Option (List ℕ)) (at : List ℕ) → r ≡ Some at → IsSome r
    some None at i = absurd (cc)
    some (Some b) at i = refl

    go : (slice_get terms k ≡ Some x → IsSome (next o x)) → (slice_get terms k ≡ Some x)
        ⊎ ((q : ℕ) × (k ≡ length terms + q) × (slice_get (u ∷ []) q ≡ Some x)) → IsSome (next o x)
    go on (inl g) = on g
    go on (inr g) = some (next o x) step.0 (ap (next o) (sym (got_one u g.0 x g.2).1) ∙ step.1)

-- and it is at one place
abbrev At : List Tree → Tree → Tree → ℕ → Type 0
At terms u x k = (slice_get terms k ≡ Some x) ⊎ ((q : ℕ) × (k ≡ length terms + q) × (slice_get (u ∷ []) q ≡ Some x))

one_at : (terms : List Tree) (u x : Tree) → IsNew terms u → (j k : ℕ) →
    (slice_get terms j ≡ Some x → slice_get terms k ≡ Some x → j ≡ k) → At terms u x j → At terms u x k → j ≡ k
one_at terms u x new j k each (inl g) (inl h) = each g h
one_at terms u x new j k each (inl g) (inr h) =
    absurd (new j (subst (λ (y : Tree). slice_get terms j ≡ Some y) (sym (got_one u h.0 x h.2).1) g))
one_at terms u x new j k each (inr g) (inl h) =
    absurd (new k (subst (λ (y : Tree). slice_get terms k ≡ Some y) (sym (got_one u g.0 x g.2).1) h))
one_at terms u x new j k each (inr g) (inr h) =
    let a = g.1 in
    let b = h.1 in
    let p = (got_one u g.0 x g.2).0 in
    let q = (got_one u h.0 x h.2).0 in
    omega (arith, a, b, p, q)

pub one_place : {o : Order} {t v : Tree} {terms : List Tree} → Walk o t terms v → (j k : ℕ) (x : Tree) →
    slice_get terms j ≡ Some x → slice_get terms k ≡ Some x → j ≡ k
one_place starts j k x e f = absurd (cc)
one_place (goes {terms = terms} {u = u} walk new step within) j k x e f =
    one_at terms u x new j k (one_place walk j k x) (got_append terms (u ∷ []) j x e) (got_append terms (u ∷ []) k x f)
