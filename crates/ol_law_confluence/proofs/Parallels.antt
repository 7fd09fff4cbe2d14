-- Parallel reduction under substitution, and the complete development.
use Rattle.std.proofs.Common.{◌≡◌, ℕ, zero, suc, ◌⊎◌, inl, inr, refl, sym, ◌∙◌, subst}
use Rattle.ol_beta.specs.Beta.{substituted}
use Rattle.ol_law_meaning.specs.Contraction.{Tree, var, free, lam, app}
use Rattle.ol_law_confluence.specs.Reductions.{Parallel, of_var, of_free, of_lam, of_app, of_redex, developed}
use Rattle.ol_law_confluence.proofs.Substitutions.{up_ren, ren, up, inst, point, subst_inst, inst_subst, ren_subst}

pub parallel_same : (t : Tree) → Parallel t t
parallel_same (var y) = of_var
parallel_same (free f) = of_free
parallel_same (lam t) = of_lam (parallel_same t)
parallel_same (app t u) = of_app (parallel_same t) (parallel_same u)

-- ---- under substitution

parallel_ren : {t u : Tree} (ξ : ℕ → ℕ) → Parallel t u → Parallel (ren ξ t) (ren ξ u)
parallel_ren ξ of_var = of_var
parallel_ren ξ of_free = of_free
parallel_ren ξ (of_lam p) = of_lam (parallel_ren (up_ren ξ) p)
parallel_ren ξ (of_app p q) = of_app (parallel_ren ξ p) (parallel_ren ξ q)
parallel_ren ξ (of_redex {M = M} {M' = M'} {N = N} {N' = N'} p q) =
    subst (λ u. Parallel (ren ξ (app (lam M) N)) u) (sym (ren_subst ξ N' M'))
    (of_redex (parallel_ren (up_ren ξ) p) (parallel_ren ξ q))

parallel_up : {σ τ : ℕ → Tree} → ((y : ℕ) → Parallel (σ y) (τ y)) → (y : ℕ) →
    Parallel (up σ y) (up τ y)
parallel_up h zero = of_var
parallel_up h (suc y) = parallel_ren suc (h y)

parallel_inst : {t u : Tree} (σ τ : ℕ → Tree) → ((y : ℕ) → Parallel (σ y) (τ y)) → Parallel t u →
    Parallel (inst σ t) (inst τ u)
parallel_inst σ τ h (of_var {y = y}) = h y
parallel_inst σ τ h of_free = of_free
parallel_inst σ τ h (of_lam p) = of_lam (parallel_inst (up σ) (up τ) (parallel_up h) p)
parallel_inst σ τ h (of_app p q) = of_app (parallel_inst σ τ h p) (parallel_inst σ τ h q)
parallel_inst σ τ h (of_redex {M = M} {M' = M'} {N = N} {N' = N'} p q) =
    subst (λ u. Parallel (inst σ (app (lam M) N)) u) (sym (inst_subst τ N' M'))
    (of_redex (parallel_inst (up σ) (up τ) (parallel_up h) p) (parallel_inst σ τ h q))

parallel_point : {N N' : Tree} → Parallel N N' → (y : ℕ) → Parallel (point N y) (point N' y)
parallel_point q zero = q
parallel_point q (suc y) = of_var

pub parallel_subst : {M M' N N' : Tree} → Parallel M M' → Parallel N N' →
    Parallel (substituted N 0 M) (substituted N' 0 M')
parallel_subst {M} {M'} {N} {N'} p q =
    subst (λ t. Parallel t (substituted N' 0 M')) (sym (subst_inst N M))
    (subst (λ u. Parallel (inst (point N) M) u) (sym (subst_inst N' M'))
    (parallel_inst (point N) (point N') (parallel_point q) p))

-- ---- what a term comes to

pub record OfLam (M v : Tree) : Type 0 where
  pub body : Tree
  pub is : v ≡ lam body
  pub step : Parallel M body

pub of_lam_view : {M v : Tree} → Parallel (lam M) v → OfLam M v
of_lam_view (of_lam {M' = M'} p) = record { body = M'; is = refl; step = p }

pub record OfApp (M N v : Tree) : Type 0 where
  pub fun : Tree
  pub arg : Tree
  pub is : v ≡ app fun arg
  pub fun_step : Parallel M fun
  pub arg_step : Parallel N arg

pub record OfRedex (M N v : Tree) : Type 0 where
  pub inner : Tree
  pub body : Tree
  pub arg : Tree
  pub fun_is : M ≡ lam inner
  pub is : v ≡ substituted arg 0 body
  pub body_step : Parallel inner body
  pub arg_step : Parallel N arg

pub of_app_view : {M N v : Tree} → Parallel (app M N) v → OfApp M N v ⊎ OfRedex M N v
of_app_view (of_app {M' = M'} {N' = N'} p q) =
    inl (record { fun = M'; arg = N'; is = refl; fun_step = p; arg_step = q })
of_app_view (of_redex {M = M} {M' = M'} {N' = N'} p q) =
    inr
    (record
    { inner = M; body = M'; arg = N'; fun_is = refl; is = refl; body_step = p; arg_step = q })

-- ---- the complete development

lam_inner : {M v w : Tree} → Parallel v w → v ≡ lam M → (L : Tree) → w ≡ lam L → Parallel M L
lam_inner {M} {v} {w} p e L f =
    let r = of_lam_view (subst (λ v. Parallel v w) e p) in
    let k : L ≡ r.body = (let g : lam L ≡ lam r.body = sym f ∙ r.is in cc) in
    subst (λ L. Parallel M L) (sym k) r.step

develop_app : (M N : Tree) {M' N' : Tree} → Parallel M M' → Parallel M' (developed M) →
    Parallel N' (developed N) → Parallel (app M' N') (developed (app M N))
develop_app (var y) N p ih ihn = of_app ih ihn
develop_app (free f) N p ih ihn = of_app ih ihn
develop_app (lam M) N {M'} {N'} p ih ihn =
    let r = of_lam_view p in
    subst (λ M'. Parallel (app M' N') (substituted (developed N) 0 (developed M))) (sym r.is)
    (of_redex (lam_inner ih r.is (developed M) refl) ihn)
develop_app (app M P) N p ih ihn = of_app ih ihn

-- all that a parallel step has left is in the complete development
pub develops : {t u : Tree} → Parallel t u → Parallel u (developed t)
develops of_var = of_var
develops of_free = of_free
develops (of_lam p) = of_lam (develops p)
develops (of_app {M = M} {N = N} p q) = develop_app M N p (develops p) (develops q)
develops (of_redex p q) = parallel_subst (develops p) (develops q)
