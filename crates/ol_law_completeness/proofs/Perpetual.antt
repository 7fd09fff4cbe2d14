-- Terms that the rules build are strongly normalising: the fundamental lemma of perpetuality
-- (van Raamsdonk, Severi, Sorensen and Xi, Perpetual reductions in lambda calculus, 1999).
-- Used in Strong.
use Rattle.std.proofs.Common.{◌≡◌, ℕ, Bool, true, false, List, [], ◌∷◌, Some, None, refl, sym, ap, ◌∙◌, subst}
use Rattle.std.specs.Prelude.{◌==◌, if◌then◌else◌}
use Rattle.std.specs.Option.{option_map}
use Rattle.ol_beta.specs.Beta.{substituted, contracted}
use Rattle.ol_beta.specs.Beta as beta_steps
use Rattle.ol_law_confluence.specs.Reductions.{WeakStep, weak_beta, weak_before, Parallel, of_redex}
use Rattle.ol_law_confluence.specs.Reductions as parallel
use Rattle.ol_law_confluence.proofs.Contractions.{parallel_beta}
use Rattle.ol_law_confluence.proofs.Parallels.{parallel_same, parallel_subst}
use Rattle.ol_law_confluence.proofs.Substitutions.{inst, up, point, subst_inst, inst_subst}
use Rattle.ol_law_meaning.specs.Shows.{ready, contract, BetaReduces}
use Rattle.ol_law_meaning.proofs.Filling.{fun_beta}
use Rattle.ol_term.specs.Trees.{Tree, var, free, lam, app}
use Rattle.ol_law_completeness.specs.StrongNormalisation.{IsStronglyNormalising, where_all, argument, Normalises}
use Rattle.ol_law_completeness.specs.StrongNormalisation as rules
use Rattle.ol_law_edges.proofs.Options.{mapped}

-- ---- a beta step, by where it is made (up to `beta_of` as in `ol_law_confluence`, Contractions)

data Beta : Tree → Tree → Type 0 where
  at_redex : {M N : Tree} → Beta (app (lam M) N) (substituted N 0 M)
  in_lam : {M M' : Tree} → Beta M M' → Beta (lam M) (lam M')
  in_fun : {M M' N : Tree} → Beta M M' → Beta (app M N) (app M' N)
  in_arg : {M N N' : Tree} → Beta N N' → Beta (app M N) (app M N')

applied_step : (f c u : Tree) → beta_steps.applied f c ≡ Some u → Beta (app f c) u
applied_step (var k) c u e = absurd (cc)
applied_step (free k) c u e = absurd (cc)
applied_step (lam b) c u e =
    let k : substituted c 0 b ≡ u = cc in subst (λ u. Beta (app (lam b) c) u) k at_redex
applied_step (app f a) c u e = absurd (cc)

beta_of : (t : Tree) (at : List ℕ) (u : Tree) → contracted t at ≡ Some u → Beta t u
beta_of (var k) at u e = absurd (cc)
beta_of (free k) at u e = absurd (cc)
beta_of (lam t) [] u e = absurd (cc)
beta_of (lam t) (m ∷ at) u e = go (beta_of t at) (m == 0) e
  where
    go : ((v : Tree) → contracted t at ≡ Some v → Beta t v) → (b : Bool) →
        (if b then option_map lam (contracted t at) else None) ≡ Some u → Beta (lam t) u
    go next true e =
        let r = mapped lam (contracted t at) u e in
        subst (λ u. Beta (lam t) u) r.2 (in_lam (next r.0 r.1))
    go next false e = absurd (cc)
beta_of (app f c) [] u e = applied_step f c u e
beta_of (app f c) (m ∷ at) u e = go (beta_of f at) (beta_of c at) (m == 1) (m == 2) e
  where
    go : ((v : Tree) → contracted f at ≡ Some v → Beta f v) →
        ((v : Tree) → contracted c at ≡ Some v → Beta c v) → (a b : Bool) →
        (if a then option_map (λ g. app g c) (contracted f at) else if b then option_map (app f)
        (contracted c at) else None) ≡ Some u → Beta (app f c) u
    go left right true b e =
        let r = mapped (λ g. app g c) (contracted f at) u e in
        subst (λ u. Beta (app f c) u) r.2 (in_fun (left r.0 r.1))
    go left right false true e =
        let r = mapped (app f) (contracted c at) u e in
        subst (λ u. Beta (app f c) u) r.2 (in_arg (right r.0 r.1))
    go left right false false e = absurd (cc)

beta_at : {t u : Tree} → Beta t u → (at : List ℕ) × (contracted t at ≡ Some u)
beta_at at_redex = ([], refl)
beta_at (in_lam b) = let r = beta_at b in (0 ∷ r.0, ap (option_map lam) r.1)
beta_at (in_fun {N = N} b) = let r = beta_at b in (1 ∷ r.0, ap (option_map (λ g. app g N)) r.1)
beta_at (in_arg {M = M} b) = let r = beta_at b in (2 ∷ r.0, ap (option_map (app M)) r.1)

beta_parallel : {t u : Tree} → Beta t u → Parallel t u
beta_parallel (at_redex {M = M} {N = N}) = of_redex (parallel_same M) (parallel_same N)
beta_parallel (in_lam b) = parallel.of_lam (beta_parallel b)
beta_parallel (in_fun {N = N} b) = parallel.of_app (beta_parallel b) (parallel_same N)
beta_parallel (in_arg {M = M} b) = parallel.of_app (parallel_same M) (beta_parallel b)

-- ---- with a term put in

beta_inst : {M M' : Tree} → Beta M M' → (σ : ℕ → Tree) → Beta (inst σ M) (inst σ M')
beta_inst (at_redex {M = M} {N = N}) σ =
    subst (λ u. Beta (app (lam (inst (up σ) M)) (inst σ N)) u) (sym (inst_subst σ N M)) at_redex
beta_inst (in_lam b) σ = in_lam (beta_inst b (up σ))
beta_inst (in_fun b) σ = in_fun (beta_inst b σ)
beta_inst (in_arg b) σ = in_arg (beta_inst b σ)

beta_body : (N M M' : Tree) → Beta M M' → Beta (substituted N 0 M) (substituted N 0 M')
beta_body N M M' b =
    subst (λ v. Beta v (substituted N 0 M')) (sym (subst_inst N M))
    (subst (λ v. Beta (inst (point N) M) v) (sym (subst_inst N M')) (beta_inst b (point N)))

beta_argument : (M N N' : Tree) → Beta N N' →
    BetaReduces (substituted N 0 M) (substituted N' 0 M)
beta_argument M N N' b = parallel_beta (parallel_subst (parallel_same M) (beta_parallel b))

-- ---- strongly normalising terms

made : {t : Tree} → ((u : Tree) → Beta t u → IsStronglyNormalising u) → IsStronglyNormalising t
made {t} h = where_all (λ at u e. h u (beta_of t at u e))

reduced : {t u : Tree} → BetaReduces t u → IsStronglyNormalising t → IsStronglyNormalising u
reduced ready h = h
reduced (contract {u = u} {at = at} c e r) (where_all h) = reduced r (h at u e)

-- ---- a weak head step, and another step of the same term

data After {t u : Tree} (s : WeakStep t u) (t' : Tree) : Type 0 where
  whole : t' ≡ u → After s t'
  outside : {u' : Tree} (s' : WeakStep t' u') → argument s' ≡ argument s → Beta u u' → After s t'
  inside : {u' : Tree} (s' : WeakStep t' u') → Beta (argument s) (argument s') →
      BetaReduces u u' → After s t'

no_weak : {M u : Tree} → WeakStep (lam M) u → ⊥
no_weak s = elim s [ ]

of_redex_step : {M N t' : Tree} → Beta (app (lam M) N) t' → After (weak_beta {M = M} {N = N}) t'
of_redex_step at_redex = whole refl
of_redex_step {M = M} {N = N} (in_fun (in_lam {M' = M'} b)) =
    outside weak_beta refl (beta_body N M M' b)
of_redex_step {M = M} {N = N} (in_arg {N' = N'} b) = inside weak_beta b (beta_argument M N N' b)

before_step : {M M' N M1 : Tree} (s : WeakStep M M') → After s M1 →
    After (weak_before {N = N} s) (app M1 N)
before_step {N = N} s (whole e) = whole (ap (λ m. app m N) e)
before_step {N = N} s (outside s' e b) = outside (weak_before s') e (in_fun b)
before_step {N = N} s (inside s' b r) = inside (weak_before s') b (fun_beta N r)

after_app : {M M' N t' : Tree} (s : WeakStep M M') →
    ((M1 : Tree) → Beta M M1 → After s M1) → Beta (app M N) t' → After (weak_before {N = N} s) t'
after_app s next at_redex = absurd (no_weak s)
after_app s next (in_fun {M' = M1} b) = before_step s (next M1 b)
after_app s next (in_arg b) = outside (weak_before s) refl (in_arg b)

after : {t u : Tree} (s : WeakStep t u) (t' : Tree) → Beta t t' → After s t'
after weak_beta t' b = of_redex_step b
after (weak_before s) t' b = after_app s (after s) b

-- ---- perpetuality

ended : {t u t' : Tree} (s : WeakStep t u) → IsStronglyNormalising u →
    ((u' : Tree) (s' : WeakStep t' u') → argument s' ≡ argument s → Beta u u' →
    IsStronglyNormalising t') →
    ((u' : Tree) (s' : WeakStep t' u') → Beta (argument s) (argument s') → BetaReduces u u' →
    IsStronglyNormalising t') → After s t' → IsStronglyNormalising t'
ended s h out into (whole e) = subst (λ t. IsStronglyNormalising t) (sym e) h
ended s h out into (outside {u' = u'} s' e b) = out u' s' e b
ended s h out into (inside {u' = u'} s' b r) = into u' s' b r

abbrev Back : Tree → Type 0
Back N = (u : Tree) → IsStronglyNormalising u → (t : Tree) (s : WeakStep t u) →
    argument s ≡ N → IsStronglyNormalising t

back_from : (N : Tree) → ((N' : Tree) → Beta N N' → Back N') → {u : Tree} →
    IsStronglyNormalising u → (t : Tree) (s : WeakStep t u) → argument s ≡ N →
    IsStronglyNormalising t
back_from N less {u} (where_all h) t s e = made (λ t' b. ended s (where_all h)
    (λ u' s' e' b'. back_from N less (h (beta_at b').0 u' (beta_at b').1) t' s' (e' ∙ e))
    (λ u' s' b' r. less (argument s') (subst (λ v. Beta v (argument s')) e b') u'
    (reduced r (where_all h)) t' s' refl)
    (after s t' b))

back : {N : Tree} → IsStronglyNormalising N → Back N
back {N} (where_all h) = λ u w t s e.
    back_from N (λ N' b. back (h (beta_at b).0 N' (beta_at b).1)) w t s e

-- ---- the other rules

-- a variable or a name with arguments
pub data Plain : Tree → Type 0 where
  plain_var : {y : ℕ} → Plain (var y)
  plain_free : {f : ℕ} → Plain (free f)
  plain_app : {M N : Tree} → Plain M → Plain (app M N)

no_lam : {M : Tree} → Plain (lam M) → ⊥
no_lam p = elim p [ ]

none_var : {y : ℕ} {u : Tree} → Beta (var y) u → ⊥
none_var b = elim b [ ]

none_free : {f : ℕ} {u : Tree} → Beta (free f) u → ⊥
none_free b = elim b [ ]

step_app : {M N u : Tree} → Plain M → ((M' : Tree) → Beta M M' → Plain M') → Beta (app M N) u →
    Plain u
step_app p next at_redex = absurd (no_lam p)
step_app p next (in_fun {M' = M'} b) = plain_app (next M' b)
step_app p next (in_arg b) = plain_app p

stays_plain : {t : Tree} → Plain t → (u : Tree) → Beta t u → Plain u
stays_plain plain_var u b = absurd (none_var b)
stays_plain plain_free u b = absurd (none_free b)
stays_plain (plain_app p) u b = step_app p (stays_plain p) b

app_cases : {M N u : Tree} → Plain M →
    ((M' : Tree) → Beta M M' → IsStronglyNormalising (app M' N)) →
    ((N' : Tree) → Beta N N' → IsStronglyNormalising (app M N')) → Beta (app M N) u →
    IsStronglyNormalising u
app_cases p left right at_redex = absurd (no_lam p)
app_cases p left right (in_fun {M' = M'} b) = left M' b
app_cases p left right (in_arg {N' = N'} b) = right N' b

app_from : (M : Tree) → Plain M →
    ((M' : Tree) → Beta M M' → (N : Tree) → IsStronglyNormalising N →
    IsStronglyNormalising (app M' N)) → {N : Tree} → IsStronglyNormalising N →
    IsStronglyNormalising (app M N)
app_from M p less {N} (where_all h) = made (λ u b. app_cases p
    (λ M' b'. less M' b' N (where_all h))
    (λ N' b'. app_from M p less (h (beta_at b').0 N' (beta_at b').1)) b)

strong_app : {M : Tree} → IsStronglyNormalising M → Plain M → (N : Tree) →
    IsStronglyNormalising N → IsStronglyNormalising (app M N)
strong_app {M} (where_all h) p N w = app_from M p
    (λ M' b. strong_app (h (beta_at b).0 M' (beta_at b).1) (stays_plain p M' b)) w

lam_case : {M u : Tree} → ((M' : Tree) → Beta M M' → IsStronglyNormalising (lam M')) →
    Beta (lam M) u → IsStronglyNormalising u
lam_case next (in_lam {M' = M'} b) = next M' b

strong_lam : {M : Tree} → IsStronglyNormalising M → IsStronglyNormalising (lam M)
strong_lam {M} (where_all h) = made (λ u b. lam_case
    (λ M' b'. strong_lam (h (beta_at b').0 M' (beta_at b').1)) b)

is_plain : {t : Tree} → Normalises true t → Plain t
is_plain rules.of_var = plain_var
is_plain rules.of_free = plain_free
is_plain (rules.of_app m n) = plain_app (is_plain m)

pub strong_of : {b : Bool} {t : Tree} → Normalises b t → IsStronglyNormalising t
strong_of rules.of_var = made (λ u b. absurd (none_var b))
strong_of rules.of_free = made (λ u b. absurd (none_free b))
strong_of (rules.of_app {N = N} m n) = strong_app (strong_of m) (is_plain m) N (strong_of n)
strong_of (rules.plain h) = strong_of h
strong_of (rules.of_lam h) = strong_lam (strong_of h)
strong_of (rules.of_redex {t = t} {u = u} s n h) = back (strong_of n) u (strong_of h) t s refl
