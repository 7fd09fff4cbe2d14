-- Contraction is a parallel step, and a parallel step is a beta reduction.
use Rattle.std.proofs.Common.{◌≡◌, ℕ, Bool, true, false, List, [], ◌∷◌, Some, None, refl, subst}
use Rattle.std.specs.Prelude.{◌==◌, if◌then◌else◌}
use Rattle.std.specs.Option.{option_map}
use Rattle.ol_beta.specs.Beta.{substituted, contracted}
use Rattle.ol_beta.specs.Beta as beta_steps
use Rattle.ol_law_meaning.specs.Contraction.{Tree, var, free, lam, app}
use Rattle.ol_law_meaning.specs.Shows.{ready, contract, BetaReduces}
use Rattle.ol_law_meaning.proofs.LeftmostRoads.{then_leads}
use Rattle.ol_law_confluence.specs.Reductions.{Parallel, of_var, of_free, of_lam, of_app, of_redex}
use Rattle.ol_law_confluence.proofs.Parallels.{parallel_same}
use Rattle.ol_law_meaning.proofs.Filling.{lam_beta, fun_beta, arg_beta}
use Rattle.ol_law_edges.proofs.Options.{mapped}

-- ---- a contraction is a parallel step

-- a redex itself
applied_step : (f c u : Tree) → beta_steps.applied f c ≡ Some u → Parallel (app f c) u
applied_step (var k) c u e = absurd (cc)
applied_step (free k) c u e = absurd (cc)
applied_step (lam b) c u e =
    let k : substituted c 0 b ≡ u = cc in
    subst (λ u. Parallel (app (lam b) c) u) k (of_redex (parallel_same b) (parallel_same c))
applied_step (app f a) c u e = absurd (cc)

pub contraction_step : (t : Tree) (at : List ℕ) (u : Tree) → contracted t at ≡ Some u → Parallel t u
contraction_step (var k) at u e = absurd (cc)
contraction_step (free k) at u e = absurd (cc)
contraction_step (lam t) [] u e = absurd (cc)
contraction_step (lam t) (m ∷ at) u e = go (contraction_step t at) (m == 0) e
  where
    go : ((v : Tree) → contracted t at ≡ Some v → Parallel t v) → (b : Bool) →
        (if b then option_map lam (contracted t at) else None) ≡ Some u → Parallel (lam t) u
    go next true e =
        let r = mapped lam (contracted t at) u e in
        subst (λ u. Parallel (lam t) u) r.2 (of_lam (next r.0 r.1))
    go next false e = absurd (cc)
contraction_step (app f c) [] u e = applied_step f c u e
contraction_step (app f c) (m ∷ at) u e =
    go (contraction_step f at) (contraction_step c at) (m == 1) (m == 2) e
  where
    go : ((v : Tree) → contracted f at ≡ Some v → Parallel f v) →
        ((v : Tree) → contracted c at ≡ Some v → Parallel c v) →
        (a b : Bool) →
        (if a then option_map (λ g. app g c) (contracted f at) else if b then option_map (app f)
        (contracted c at) else None) ≡ Some u → Parallel (app f c) u
    go left right true b e =
        let r = mapped (λ g. app g c) (contracted f at) u e in
        subst (λ u. Parallel (app f c) u) r.2 (of_app (left r.0 r.1) (parallel_same c))
    go left right false true e =
        let r = mapped (app f) (contracted c at) u e in
        subst (λ u. Parallel (app f c) u) r.2 (of_app (parallel_same f) (right r.0 r.1))
    go left right false false e = absurd (cc)

-- ---- a parallel step is a beta reduction

pub redex_beta : (M N : Tree) → BetaReduces (app (lam M) N) (substituted N 0 M)
redex_beta M N = contract {at = []} tt refl ready

pub parallel_beta : {t u : Tree} → Parallel t u → BetaReduces t u
parallel_beta of_var = ready
parallel_beta of_free = ready
parallel_beta (of_lam p) = lam_beta (parallel_beta p)
parallel_beta (of_app {M' = M'} {N = N} p q) =
    then_leads (fun_beta N (parallel_beta p)) (arg_beta M' (parallel_beta q))
parallel_beta (of_redex {M' = M'} {N = N} {N' = N'} p q) =
    then_leads (fun_beta N (lam_beta (parallel_beta p)))
    (then_leads (arg_beta (lam M') (parallel_beta q)) (redex_beta M' N'))
