-- Where a term of a walk is an earlier one of it, the order has no end, and the first term hasn't got what it looks for.
use Rattle.std.proofs.Common.{◌≡◌, ℕ, zero, suc, ◌+◌, ◌⊎◌, inl, inr, List, [], ◌∷◌, length, Option, Some, None, IsSome}
use Rattle.std.proofs.Common.{◌++◌, length-append, refl, sym, subst, arith}
use Rattle.std.specs.Prelude.{slice_get}
use Rattle.ol_term.specs.Trees.{Tree}
use Rattle.ol_beta.specs.Beta.{contracted}
use Rattle.ol_beta.specs.Leftmost.{leftmost}
use Rattle.ol_beta.proofs.Redexes.{none_some}
use Rattle.ol_law_edges.proofs.Lists.{got_append}
use Rattle.ol_law_meaning.specs.Shows.{LeftmostReduces, HeadReduces, HasHeadRedex, ready, contract}
use Rattle.ol_law_confluence.specs.Reductions.{HasNormalForm}
use Rattle.ol_law_confluence.proofs.LeftmostEnds.{leftmost_finds}
use Rattle.ol_law_confluence.proofs.HeadForms.{forever_none}
use Rattle.ol_strategies.specs.Redexes.{head_redex}
use Rattle.ol_strategies.specs.Reductions.{IsStep, Leads}
use Rattle.ol_strategies.specs.declared.orders.Order.{Order}
use Rattle.ol_strategies.specs.declared.orders.Order.TheVariants as order
use Rattle.ol_strategies.proofs.Nexts.{next_is_redex, at_head_address}
use Rattle.ol_strategies.proofs.Rounds.{return_is_endless}
use Rattle.ol_steps.specs.Steps.{Walk, starts, goes}
use Rattle.ol_steps.specs.StepLaws.{HasNoEnd, HasNone, ReturnIsEndless, ReturnHasNone}
use Rattle.ol_steps.proofs.WeakHeads.{weak_none}
use Rattle.ol_steps.proofs.Unfoldings.{some_is}

-- ---- a walk leads from each of its terms to the last one

leads_on : (o : Order) (n : ℕ) (t u v : Tree) → Leads o n t u → IsStep o u v → Leads o (suc n) t v
leads_on o zero t u v e s = (v, subst (λ (x : Tree). IsStep o x v) (sym e) s, refl)
leads_on o (suc n) t u v l s = (l.0, l.1, leads_on o n l.0 u v l.2 s)

pub walk_counts : {o : Order} {t v : Tree} {terms : List Tree} → Walk o t terms v → Leads o (length terms) t v
walk_counts starts = refl
walk_counts {o} {t} (goes {terms = terms} {u = u} {v = v} w new s within) =
    let many : suc (length terms) ≡ length (terms ++ u ∷ []) = omega (arith, length-append terms (u ∷ [])) in
    subst (λ (n : ℕ). Leads o n t v) many (leads_on o (length terms) t u v (walk_counts w) s)

walk_leads : {o : Order} {t v : Tree} {terms : List Tree} → Walk o t terms v → (n : ℕ) × Leads o n t v
walk_leads {terms = terms} w = (length terms, walk_counts w)

-- so many steps to a term, and one or more from there
abbrev Between : Order → Tree → Tree → Tree → Type 0
Between o t u v = (before round : ℕ) × Leads o before t u × Leads o (suc round) u v

got_one : (x : Tree) (q : ℕ) (y : Tree) → slice_get (x ∷ []) q ≡ Some y → x ≡ y
got_one x zero y e = cc
got_one x (suc q) y e = absurd (cc)

between : {o : Order} {t v : Tree} {terms : List Tree} → Walk o t terms v → (k : ℕ) (u : Tree) →
    slice_get terms k ≡ Some u → Between o t u v
between starts k u e = absurd (cc)
between {o} {t} {v} (goes {terms = terms} {u = w} walk new s within) k u e =
    go (λ g. between walk k u g) (got_append terms (w ∷ []) k u e)
  where
    go : (slice_get terms k ≡ Some u → Between o t u w) → (slice_get terms k ≡ Some u)
        ⊎ ((q : ℕ) × (k ≡ length terms + q) × (slice_get (w ∷ []) q ≡ Some u)) → Between o t u v
    go on (inl g) = let b = on g in
        (b.0, suc b.1, b.2, leads_on o (suc b.1) u w v b.3 s)
    go on (inr g) =
        let l = walk_leads walk in
        let is : w ≡ u = got_one w g.0 u g.2 in (
          l.0,
          0,
          subst (λ (x : Tree). Leads o l.0 t x) is l.1,
          subst (λ (x : Tree). Leads o 1 x v) is (v, s, refl),
        )

pub endless : ReturnIsEndless
endless o t v terms k walk e n u leads =
    let b = between walk k v e in
    return_is_endless o b.0 b.1 n t v u b.2 b.3 leads

-- ---- what the first term hasn't got

there : (o : Option (List ℕ)) → IsSome o → (at : List ℕ) × (o ≡ Some at)
there None h = absurd (cc)
there (Some at) h = (at, refl)

leftmost_leads : {t u : Tree} → LeftmostReduces t u → (n : ℕ) × Leads order.Leftmost n t u
leftmost_leads ready = (0, refl)
leftmost_leads (contract {u = x} {at = at} c e r) =
    let l = leftmost_leads r in
    (suc l.0, (x, (at, c, e), l.1))

no_normal_form : (t : Tree) → HasNoEnd order.Leftmost t → HasNormalForm t → ⊥
no_normal_form t h has =
    let l = leftmost_leads (leftmost_finds has.reduces has.is_normal) in
    let at = there (leftmost has.form) (h l.0 has.form l.1) in
    none_some (contracted has.form at.0) (has.is_normal at.0) (next_is_redex order.Leftmost has.form at.0 at.1)

head_leads : {t u : Tree} → HeadReduces t u → (n : ℕ) × Leads order.Head n t u
head_leads ready = (0, refl)
head_leads {t} (contract {u = x} {at = at} c e r) =
    let l = head_leads r in
    (suc l.0, (x, (at, (at_head_address t at).1 (c, some_is (contracted t at) x e), e), l.1))

head_forever : (t : Tree) → HasNoEnd order.Head t → (u : Tree) → HeadReduces t u → HasHeadRedex u
head_forever t h u r =
    let l = head_leads r in
    let at = there (head_redex u) (h l.0 u l.1) in
    let is = (at_head_address u at.0).0 at.1 in
    (at.0, is.0, is.1)

has_none : (o : Order) (t : Tree) → HasNoEnd o t → HasNone o t
has_none order.Leftmost t h = no_normal_form t h
has_none order.Head t h = forever_none t (head_forever t h)
has_none order.WeakHead t h = weak_none t h
has_none order.Applicative t h = h
has_none order.Value t h = h

pub return_has_none : ReturnHasNone
return_has_none o t v terms k walk e = has_none o t (endless o t v terms k walk e)
