-- Standard reduction takes in beta reduction.
use Rattle.std.proofs.Common.{ℕ, zero, suc, ◌⊎◌, inl, inr, sym, subst}
use Rattle.ol_beta.specs.Beta.{substituted}
use Rattle.ol_law_meaning.specs.Contraction.{Tree, var, free, lam, app}
use Rattle.ol_law_meaning.specs.Shows.{ready, contract, BetaReduces}
use Rattle.ol_law_meaning.proofs.LeftmostRoads.{then_leads}
use Rattle.ol_law_confluence.specs.Reductions.{Parallel, of_var, of_free, of_lam, WeakStep, weak_beta}
use Rattle.ol_law_confluence.specs.Reductions.{weak_before, WeakReduces, weak_done, weak_step, Standard}
use Rattle.ol_law_confluence.specs.Reductions.{to_var, to_free, to_lam, to_app}
use Rattle.ol_law_confluence.proofs.Substitutions.{up_ren, ren, up, inst, point, subst_inst, inst_subst, ren_subst}
use Rattle.ol_law_confluence.proofs.Parallels.{of_lam_view, OfApp, OfRedex, of_app_view}
use Rattle.ol_law_confluence.proofs.Contractions.{contraction_step, redex_beta}
use Rattle.ol_law_meaning.proofs.Filling.{lam_beta, fun_beta, arg_beta}

-- ---- weak head reduction

pub weak_then : {t u v : Tree} → WeakReduces t u → WeakReduces u v → WeakReduces t v
weak_then weak_done r = r
weak_then (weak_step s l) r = weak_step s (weak_then l r)

pub weak_fun : (a : Tree) {t u : Tree} → WeakReduces t u → WeakReduces (app t a) (app u a)
weak_fun a weak_done = weak_done
weak_fun a (weak_step s l) = weak_step (weak_before s) (weak_fun a l)

step_ren : {t u : Tree} (ξ : ℕ → ℕ) → WeakStep t u → WeakStep (ren ξ t) (ren ξ u)
step_ren ξ (weak_beta {M = M} {N = N}) =
    subst (λ u. WeakStep (ren ξ (app (lam M) N)) u) (sym (ren_subst ξ N M)) weak_beta
step_ren ξ (weak_before s) = weak_before (step_ren ξ s)

weak_ren : {t u : Tree} (ξ : ℕ → ℕ) → WeakReduces t u → WeakReduces (ren ξ t) (ren ξ u)
weak_ren ξ weak_done = weak_done
weak_ren ξ (weak_step s l) = weak_step (step_ren ξ s) (weak_ren ξ l)

step_inst : {t u : Tree} (σ : ℕ → Tree) → WeakStep t u → WeakStep (inst σ t) (inst σ u)
step_inst σ (weak_beta {M = M} {N = N}) =
    subst (λ u. WeakStep (inst σ (app (lam M) N)) u) (sym (inst_subst σ N M)) weak_beta
step_inst σ (weak_before s) = weak_before (step_inst σ s)

weak_inst : {t u : Tree} (σ : ℕ → Tree) → WeakReduces t u → WeakReduces (inst σ t) (inst σ u)
weak_inst σ weak_done = weak_done
weak_inst σ (weak_step s l) = weak_step (step_inst σ s) (weak_inst σ l)

-- ---- standard reduction

pub standard_same : (t : Tree) → Standard t t
standard_same (var y) = to_var weak_done
standard_same (free f) = to_free weak_done
standard_same (lam t) = to_lam weak_done (standard_same t)
standard_same (app t u) = to_app weak_done (standard_same t) (standard_same u)

standard_after : {t u v : Tree} → WeakReduces t u → Standard u v → Standard t v
standard_after w (to_var r) = to_var (weak_then w r)
standard_after w (to_free r) = to_free (weak_then w r)
standard_after w (to_lam r s) = to_lam (weak_then w r) s
standard_after w (to_app r s s') = to_app (weak_then w r) s s'

standard_ren : {t u : Tree} (ξ : ℕ → ℕ) → Standard t u → Standard (ren ξ t) (ren ξ u)
standard_ren ξ (to_var r) = to_var (weak_ren ξ r)
standard_ren ξ (to_free r) = to_free (weak_ren ξ r)
standard_ren ξ (to_lam r s) = to_lam (weak_ren ξ r) (standard_ren (up_ren ξ) s)
standard_ren ξ (to_app r s s') = to_app (weak_ren ξ r) (standard_ren ξ s) (standard_ren ξ s')

standard_up : {σ τ : ℕ → Tree} → ((y : ℕ) → Standard (σ y) (τ y)) → (y : ℕ) →
    Standard (up σ y) (up τ y)
standard_up h zero = to_var weak_done
standard_up h (suc y) = standard_ren suc (h y)

standard_inst : {t u : Tree} (σ τ : ℕ → Tree) → ((y : ℕ) → Standard (σ y) (τ y)) → Standard t u →
    Standard (inst σ t) (inst τ u)
standard_inst σ τ h (to_var {y = y} r) = standard_after (weak_inst σ r) (h y)
standard_inst σ τ h (to_free r) = to_free (weak_inst σ r)
standard_inst σ τ h (to_lam r s) =
    to_lam (weak_inst σ r) (standard_inst (up σ) (up τ) (standard_up h) s)
standard_inst σ τ h (to_app r s s') =
    to_app (weak_inst σ r) (standard_inst σ τ h s) (standard_inst σ τ h s')

standard_point : {N N' : Tree} → Standard N N' → (y : ℕ) → Standard (point N y) (point N' y)
standard_point q zero = q
standard_point q (suc y) = to_var weak_done

standard_subst : {M M' N N' : Tree} → Standard M M' → Standard N N' →
    Standard (substituted N 0 M) (substituted N' 0 M')
standard_subst {M} {M'} {N} {N'} p q =
    subst (λ t. Standard t (substituted N' 0 M')) (sym (subst_inst N M))
    (subst (λ u. Standard (inst (point N) M) u) (sym (subst_inst N' M'))
    (standard_inst (point N) (point N') (standard_point q) p))

-- ---- a parallel step more

-- what standard reduction to an abstraction is
pub record ToLam (t M' : Tree) : Type 0 where
  pub body : Tree
  pub weak : WeakReduces t (lam body)
  pub inner : Standard body M'

pub to_lam_view : {t M' : Tree} → Standard t (lam M') → ToLam t M'
to_lam_view (to_lam {M = M} r s) = record { body = M; weak = r; inner = s }

-- a contracted redex of which the parts were reached
standard_redex : {t A B N' M' : Tree} → WeakReduces t (app A B) → Standard A (lam M') →
    Standard B N' → Standard t (substituted N' 0 M')
standard_redex {B = B} w s s' =
    let r = to_lam_view s in
    standard_after (weak_then w (weak_then (weak_fun B r.weak) (weak_step weak_beta weak_done)))
    (standard_subst r.inner s')

abbrev Onward : Tree → Tree → Type 0
Onward t u = (v : Tree) → Parallel u v → Standard t v

onward_app : {t A B M N : Tree} → WeakReduces t (app A B) → Onward A M → Onward B N →
    Onward t (app M N)
onward_app {t} {A} {B} {M} {N} w f g v p = go (of_app_view p)
  where
    go : OfApp M N v ⊎ OfRedex M N v → Standard t v
    go (inl r) =
        subst (λ v. Standard t v) (sym r.is) (to_app w (f r.fun r.fun_step) (g r.arg r.arg_step))
    go (inr r) =
        subst (λ v. Standard t v) (sym r.is)
        (standard_redex w
        (f (lam r.body) (subst (λ m. Parallel m (lam r.body)) (sym r.fun_is) (of_lam r.body_step)))
        (g r.arg r.arg_step))

onward_lam : {t A M : Tree} → WeakReduces t (lam A) → Onward A M → Onward t (lam M)
onward_lam {t} w f v p =
    let r = of_lam_view p in subst (λ v. Standard t v) (sym r.is) (to_lam w (f r.body r.step))

onward_var : {t : Tree} {y : ℕ} → WeakReduces t (var y) → Onward t (var y)
onward_var w v of_var = to_var w

onward_free : {t : Tree} {f : ℕ} → WeakReduces t (free f) → Onward t (free f)
onward_free w v of_free = to_free w

onward : {t u : Tree} → Standard t u → Onward t u
onward (to_var w) = onward_var w
onward (to_free w) = onward_free w
onward (to_lam w s) = onward_lam w (onward s)
onward (to_app w s s') = onward_app w (onward s) (onward s')

standard_on : {t u v : Tree} → Standard t u → BetaReduces u v → Standard t v
standard_on s ready = s
standard_on s (contract {t = u} {u = u'} {at = at} c e l) =
    standard_on (onward s u' (contraction_step u at u' e)) l

-- a term reduces to another exactly by standard reduction
pub standardized : {t u : Tree} → BetaReduces t u → Standard t u
standardized {t} l = standard_on (standard_same t) l

step_beta : {t u : Tree} → WeakStep t u → BetaReduces t u
step_beta (weak_beta {M = M} {N = N}) = redex_beta M N
step_beta (weak_before {N = N} s) = fun_beta N (step_beta s)

pub weak_beta_reduces : {t u : Tree} → WeakReduces t u → BetaReduces t u
weak_beta_reduces weak_done = ready
weak_beta_reduces (weak_step s l) = then_leads (step_beta s) (weak_beta_reduces l)

pub standard_beta : {t u : Tree} → Standard t u → BetaReduces t u
standard_beta (to_var w) = weak_beta_reduces w
standard_beta (to_free w) = weak_beta_reduces w
standard_beta (to_lam w s) = then_leads (weak_beta_reduces w) (lam_beta (standard_beta s))
standard_beta (to_app {M' = M'} {N = N} w s s') =
    then_leads (weak_beta_reduces w)
    (then_leads (fun_beta N (standard_beta s)) (arg_beta M' (standard_beta s')))
