-- A step of a family leaves the rest of it: no redex of the same degree comes to be.
use Rattle.std.proofs.Common.{◌≡◌, ℕ, zero, suc, ◌⊎◌, inl, inr, List, Some, refl, sym, ap, ◌∙◌, subst}
use Rattle.std.proofs.lemmas.Option.{none-some}
use Rattle.ol_law_edges.specs.Edges.{IsIn}
use Rattle.ol_law_optimality.specs.Labels.{Label, none, over, under, joined, Labelled, var, free, lam, app}
use Rattle.ol_law_optimality.specs.Labels.{before, substituted, degree_of_abstraction}
use Rattle.ol_law_optimality.specs.LevysTheorem.{FamilyStepsDevelop}
use Rattle.ol_law_optimality.specs.Reductions.{Contracts, ready, contract, Parallel, of_var, of_free, of_lam}
use Rattle.ol_law_optimality.specs.Reductions.{of_app, of_redex, reduct, WholeFamily, all_var, all_free, all_lam}
use Rattle.ol_law_optimality.specs.Reductions.{all_app, all_redex}
use Rattle.ol_law_optimality.proofs.Histories.{HasPart, part_left, part_right, not_own_part}
use Rattle.ol_law_optimality.proofs.Histories.{before_degree, ren_degree, Bears}
use Rattle.ol_law_optimality.proofs.Needed.{Of, contraction_step}
use Rattle.ol_law_confluence.proofs.Substitutions.{up_ren}
use Rattle.ol_law_optimality.proofs.Putting.{ren, up, inst, point, substituted_inst, inst_reduct}
use Rattle.ol_law_optimality.proofs.Putting.{ren_reduct, before_reduct}
use Rattle.ol_law_optimality.proofs.Steps.{AllApp, AllRedex, all_lam_view, all_app_view}
use Rattle.ol_law_optimality.proofs.Together.{of_lam_view}

module _ (d : Label) where
  -- ---- under substitution

  whole_before : {t u : Labelled} (x : Label) → WholeFamily d t u →
      WholeFamily d (before x t) (before x u)
  whole_before x all_var = all_var
  whole_before x all_free = all_free
  whole_before x (all_lam p) = all_lam p
  whole_before x (all_app n p q) = all_app n p q
  whole_before x (all_redex {M = M} {M' = M'} {N = N} {N' = N'} {w = w} p q) =
      subst (λ u. WholeFamily d (app (lam M d) N (joined x w)) u) (sym (before_reduct x w d N' M'))
      (all_redex p q)

  whole_ren : {t u : Labelled} (ξ : ℕ → ℕ) → WholeFamily d t u → WholeFamily d (ren ξ t) (ren ξ u)
  whole_ren ξ all_var = all_var
  whole_ren ξ all_free = all_free
  whole_ren ξ (all_lam p) = all_lam (whole_ren (up_ren ξ) p)
  whole_ren ξ (all_app {M = M} n p q) =
      all_app (λ e. n (sym (ren_degree ξ M) ∙ e)) (whole_ren ξ p) (whole_ren ξ q)
  whole_ren ξ (all_redex {M = M} {M' = M'} {N = N} {N' = N'} {w = w} p q) =
      subst (λ u. WholeFamily d (ren ξ (app (lam M d) N w)) u) (sym (ren_reduct ξ w d N' M'))
      (all_redex (whole_ren (up_ren ξ) p) (whole_ren ξ q))

  -- terms that are put in, and what they come to
  record Both (σ τ : ℕ → Labelled) : Type 0 where
    step : (y : ℕ) → WholeFamily d (σ y) (τ y)
    bears : (y : ℕ) → Bears d (σ y)

  both_up : (σ τ : ℕ → Labelled) → Both σ τ → Both (up σ) (up τ)
  both_up σ τ h = record { step = steps; bears = bear }
    where
      steps : (y : ℕ) → WholeFamily d (up σ y) (up τ y)
      steps zero = all_var
      steps (suc y) = whole_ren suc (h.step y)

      bear : (y : ℕ) → Bears d (up σ y)
      bear zero v e = absurd (none-some _ e)
      bear (suc y) v e = h.bears y v (sym (ren_degree suc (σ y)) ∙ e)

  -- no redex of degree d comes to be
  still_other : (σ τ : ℕ → Labelled) → Both σ τ → (M : Labelled) →
      (degree_of_abstraction M ≡ Some d → ⊥) → degree_of_abstraction (inst σ M) ≡ Some d → ⊥
  still_other σ τ h (var y x) n e =
      let r = before_degree x (σ y) d e in
      not_own_part d (subst (HasPart d) (sym r.1) (part_right d x r.0 (h.bears y r.0 r.2)))
  still_other σ τ h (free k x) n e = none-some _ e
  still_other σ τ h (lam b x) n e = n e
  still_other σ τ h (app f a x) n e = none-some _ e

  whole_inst : {t u : Labelled} (σ τ : ℕ → Labelled) → Both σ τ → WholeFamily d t u →
      WholeFamily d (inst σ t) (inst τ u)
  whole_inst σ τ h (all_var {y = y} {w = w}) = whole_before w (h.step y)
  whole_inst σ τ h all_free = all_free
  whole_inst σ τ h (all_lam p) = all_lam (whole_inst (up σ) (up τ) (both_up σ τ h) p)
  whole_inst σ τ h (all_app {M = M} n p q) =
      all_app (still_other σ τ h M n) (whole_inst σ τ h p) (whole_inst σ τ h q)
  whole_inst σ τ h (all_redex {M = M} {M' = M'} {N = N} {N' = N'} {w = w} p q) =
      subst (λ u. WholeFamily d (inst σ (app (lam M d) N w)) u) (sym (inst_reduct τ w d N' M'))
      (all_redex (whole_inst (up σ) (up τ) (both_up σ τ h) p) (whole_inst σ τ h q))

  both_point : (N N' : Labelled) → WholeFamily d N N' →
      Both (point (before (under d none) N)) (point (before (under d none) N'))
  both_point N N' q = record { step = steps; bears = bear }
    where
      steps : (y : ℕ) →
          WholeFamily d (point (before (under d none) N) y) (point (before (under d none) N') y)
      steps zero = whole_before (under d none) q
      steps (suc y) = all_var

      bear : (y : ℕ) → Bears d (point (before (under d none) N) y)
      bear zero v e =
          let r = before_degree (under d none) N v e in subst (HasPart d) (sym r.1) (inl refl)
      bear (suc y) v e = absurd (none-some _ e)

  whole_reduct : {M M' N N' : Labelled} (w : Label) → WholeFamily d M M' → WholeFamily d N N' →
      WholeFamily d (reduct w d N M) (reduct w d N' M')
  whole_reduct {M} {M'} {N} {N'} w p q =
      let C = before (under d none) N in
      let C' = before (under d none) N' in
      whole_before (joined w (over d none))
      (subst (λ t. WholeFamily d t (substituted C' 0 M')) (sym (substituted_inst C M))
      (subst (λ u. WholeFamily d (inst (point C) M) u) (sym (substituted_inst C' M'))
      (whole_inst (point C) (point C') (both_point N N' q) p)))

  -- ---- after a step

  becomes : {t u : Labelled} → Parallel (Of d) t u → (v : Label) →
      degree_of_abstraction u ≡ Some v → (degree_of_abstraction t ≡ Some v) ⊎ HasPart d v
  becomes of_var v e = absurd (none-some _ e)
  becomes of_free v e = absurd (none-some _ e)
  becomes (of_lam p) v e = inl e
  becomes (of_app p q) v e = absurd (none-some _ e)
  becomes (of_redex {M' = M'} {N' = N'} {v = x} {w = w} i p q) v e =
      let r =
      before_degree (joined w (over x none)) (substituted (before (under x none) N') 0 M') v e in
      inr
      (subst (HasPart d) (sym r.1)
      (part_left d (joined w (over x none)) r.0 (part_right d w (over x none) (inl i))))

  other_stays : {t u : Labelled} → Parallel (Of d) t u → (degree_of_abstraction t ≡ Some d → ⊥) →
      degree_of_abstraction u ≡ Some d → ⊥
  other_stays p n e = elim (becomes p d e) [ inl k ↦ n k | inr h ↦ not_own_part d h ]

  pub rest : {t u v : Labelled} → Parallel (Of d) t u → WholeFamily d t v → WholeFamily d u v
  rest of_var q = q
  rest of_free q = q
  rest (of_lam {M' = M'} {w = w} p) q =
      let x = all_lam_view q in
      subst (λ v. WholeFamily d (lam M' w) v) (sym x.is) (all_lam (rest p x.step))
  rest {v = v} (of_app {M = M} {M' = M'} {N = N} {N' = N'} {w = w} p p') q =
      go (all_app_view q) (λ u f. rest p f) (λ u f. rest p' f)
    where
      go : AllApp d M N w v ⊎ AllRedex d M N w v →
          ((u : Labelled) → WholeFamily d M u → WholeFamily d M' u) →
          ((u : Labelled) → WholeFamily d N u → WholeFamily d N' u) →
          WholeFamily d (app M' N' w) v
      go (inl x) fun arg =
          subst (λ v. WholeFamily d (app M' N' w) v) (sym x.is)
          (all_app (other_stays p x.other) (fun x.fun x.fun_step) (arg x.arg x.arg_step))
      go (inr x) fun arg =
          let s = of_lam_view (subst (λ M. Parallel (Of d) M M') x.fun_is p) in
          let f : WholeFamily d M' (lam x.body d) =
          fun (lam x.body d)
          (subst (λ M. WholeFamily d M (lam x.body d)) (sym x.fun_is) (all_lam x.body_step)) in
          let b = all_lam_view (subst (λ M. WholeFamily d M (lam x.body d)) s.is f) in
          let k : b.body ≡ x.body = (let e = b.is in cc) in
          subst (λ v. WholeFamily d (app M' N' w) v) (sym x.is)
          (subst (λ M. WholeFamily d (app M N' w) (reduct w d x.arg x.body)) (sym s.is)
          (all_redex (subst (λ u. WholeFamily d s.body u) k b.step) (arg x.arg x.arg_step)))
  rest {v = z} (of_redex {M = M} {M' = M'} {N = N} {N' = N'} {v = v} {w = w} i p p') q =
      go (all_app_view q) (λ u f. rest p f) (λ u f. rest p' f)
    where
      go : AllApp d (lam M v) N w z ⊎ AllRedex d (lam M v) N w z →
          ((u : Labelled) → WholeFamily d M u → WholeFamily d M' u) →
          ((u : Labelled) → WholeFamily d N u → WholeFamily d N' u) →
          WholeFamily d (reduct w v N' M') z
      go (inl x) fun arg = absurd (x.other (ap Some i))
      go (inr x) fun arg =
          let k : x.inner ≡ M = (let e = x.fun_is in cc) in
          let f = fun x.body (subst (λ M. WholeFamily d M x.body) k x.body_step) in
          subst (λ z. WholeFamily d (reduct w v N' M') z) (sym x.is)
          (subst (λ v. WholeFamily d (reduct w v N' M') (reduct w d x.arg x.body)) (sym i)
          (whole_reduct w f (arg x.arg x.arg_step)))

  rest_of_steps : {t u v : Labelled} {ws : List Label} → Contracts t ws u →
      ((w : Label) → IsIn w ws → w ≡ d) → WholeFamily d t v → WholeFamily d u v
  rest_of_steps ready h p = p
  rest_of_steps (contract {t = t} {u = u} {w = w} at g e r) h p =
      rest_of_steps r (λ x i. h x (inr i))
      (rest (subst (λ d. Parallel (Of d) t u) (h w (inl refl)) (contraction_step t at w u g e)) p)

pub family_steps_develop : FamilyStepsDevelop
family_steps_develop d t u v s p = rest_of_steps d s.1 s.2 p
