-- Labelled parallel steps: some of the redexes that are there at once, all of them of chosen
-- degrees. Two such steps meet, and each goes on with the degrees that it had.
use Rattle.std.proofs.Common.{◌≡◌, ℕ, zero, suc, ◌⊎◌, inl, inr, refl, sym, ap, ◌∙◌, subst}
use Rattle.ol_law_optimality.specs.Labels.{Label, none, over, under, joined, Labelled, var, free, lam, app}
use Rattle.ol_law_optimality.specs.Labels.{before, substituted}
use Rattle.ol_law_optimality.specs.Reductions.{Parallel, of_var, of_free, of_lam, of_app, of_redex, reduct}
use Rattle.ol_law_confluence.proofs.Substitutions.{up_ren}
use Rattle.ol_law_optimality.proofs.Putting.{ren, up, inst, point, substituted_inst}
use Rattle.ol_law_optimality.proofs.Putting.{inst_reduct, ren_reduct, before_reduct}

module _ (P : Label → Type 0) where
  pub parallel_same : (t : Labelled) → Parallel P t t
  parallel_same (var y w) = of_var
  parallel_same (free f w) = of_free
  parallel_same (lam t w) = of_lam (parallel_same t)
  parallel_same (app t u w) = of_app (parallel_same t) (parallel_same u)

  -- ---- under substitution

  pub parallel_before : {t u : Labelled} (x : Label) → Parallel P t u →
      Parallel P (before x t) (before x u)
  parallel_before x of_var = of_var
  parallel_before x of_free = of_free
  parallel_before x (of_lam p) = of_lam p
  parallel_before x (of_app p q) = of_app p q
  parallel_before x (of_redex {M = M} {M' = M'} {N = N} {N' = N'} {v = v} {w = w} i p q) =
      subst (λ u. Parallel P (app (lam M v) N (joined x w)) u) (sym (before_reduct x w v N' M'))
      (of_redex i p q)

  pub parallel_ren : {t u : Labelled} (ξ : ℕ → ℕ) → Parallel P t u → Parallel P (ren ξ t) (ren ξ u)
  parallel_ren ξ of_var = of_var
  parallel_ren ξ of_free = of_free
  parallel_ren ξ (of_lam p) = of_lam (parallel_ren (up_ren ξ) p)
  parallel_ren ξ (of_app p q) = of_app (parallel_ren ξ p) (parallel_ren ξ q)
  parallel_ren ξ (of_redex {M = M} {M' = M'} {N = N} {N' = N'} {v = v} {w = w} i p q) =
      subst (λ u. Parallel P (ren ξ (app (lam M v) N w)) u) (sym (ren_reduct ξ w v N' M'))
      (of_redex i (parallel_ren (up_ren ξ) p) (parallel_ren ξ q))

  parallel_up : {σ τ : ℕ → Labelled} → ((y : ℕ) → Parallel P (σ y) (τ y)) → (y : ℕ) →
      Parallel P (up σ y) (up τ y)
  parallel_up h zero = of_var
  parallel_up h (suc y) = parallel_ren suc (h y)

  pub parallel_inst : {t u : Labelled} (σ τ : ℕ → Labelled) → ((y : ℕ) → Parallel P (σ y) (τ y)) →
      Parallel P t u → Parallel P (inst σ t) (inst τ u)
  parallel_inst σ τ h (of_var {y = y} {w = w}) = parallel_before w (h y)
  parallel_inst σ τ h of_free = of_free
  parallel_inst σ τ h (of_lam p) = of_lam (parallel_inst (up σ) (up τ) (parallel_up h) p)
  parallel_inst σ τ h (of_app p q) = of_app (parallel_inst σ τ h p) (parallel_inst σ τ h q)
  parallel_inst σ τ h (of_redex {M = M} {M' = M'} {N = N} {N' = N'} {v = v} {w = w} i p q) =
      subst (λ u. Parallel P (inst σ (app (lam M v) N w)) u) (sym (inst_reduct τ w v N' M'))
      (of_redex i (parallel_inst (up σ) (up τ) (parallel_up h) p) (parallel_inst σ τ h q))

  parallel_point : {N N' : Labelled} → Parallel P N N' → (y : ℕ) →
      Parallel P (point N y) (point N' y)
  parallel_point q zero = q
  parallel_point q (suc y) = of_var

  parallel_substituted : {M M' N N' : Labelled} → Parallel P M M' → Parallel P N N' →
      Parallel P (substituted N 0 M) (substituted N' 0 M')
  parallel_substituted {M} {M'} {N} {N'} p q =
      subst (λ t. Parallel P t (substituted N' 0 M')) (sym (substituted_inst N M))
      (subst (λ u. Parallel P (inst (point N) M) u) (sym (substituted_inst N' M'))
      (parallel_inst (point N) (point N') (parallel_point q) p))

  pub parallel_reduct : {M M' N N' : Labelled} (w v : Label) → Parallel P M M' →
      Parallel P N N' → Parallel P (reduct w v N M) (reduct w v N' M')
  parallel_reduct w v p q =
      parallel_before (joined w (over v none))
      (parallel_substituted p (parallel_before (under v none) q))

-- ---- what a term comes to

pub record OfLam (P : Label → Type 0) (M : Labelled) (w : Label) (u : Labelled) : Type 0 where
  pub body : Labelled
  pub is : u ≡ lam body w
  pub step : Parallel P M body

pub of_lam_view : {P : Label → Type 0} {M u : Labelled} {w : Label} → Parallel P (lam M w) u →
    OfLam P M w u
of_lam_view (of_lam {M' = M'} p) = record { body = M'; is = refl; step = p }

pub record OfApp (P : Label → Type 0) (M N : Labelled) (w : Label) (u : Labelled) : Type 0 where
  pub fun : Labelled
  pub arg : Labelled
  pub is : u ≡ app fun arg w
  pub fun_step : Parallel P M fun
  pub arg_step : Parallel P N arg

pub record OfRedex (P : Label → Type 0) (M N : Labelled) (w : Label) (u : Labelled) : Type 0 where
  pub inner : Labelled
  pub degree : Label
  pub body : Labelled
  pub arg : Labelled
  pub chosen : P degree
  pub fun_is : M ≡ lam inner degree
  pub is : u ≡ reduct w degree arg body
  pub body_step : Parallel P inner body
  pub arg_step : Parallel P N arg

pub of_app_view : {P : Label → Type 0} {M N u : Labelled} {w : Label} → Parallel P (app M N w) u →
    OfApp P M N w u ⊎ OfRedex P M N w u
of_app_view (of_app {M' = M'} {N' = N'} p q) =
    inl (record { fun = M'; arg = N'; is = refl; fun_step = p; arg_step = q })
of_app_view (of_redex {M = M} {M' = M'} {N' = N'} {v = v} i p q) =
    inr
    (record {
      inner = M;
      degree = v;
      body = M';
      arg = N';
      chosen = i;
      fun_is = refl;
      is = refl;
      body_step = p;
      arg_step = q;
    })

-- ---- two steps meet

pub record Meet (P Q : Label → Type 0) (u v : Labelled) : Type 0 where
  pub term : Labelled
  pub first : Parallel Q u term
  pub second : Parallel P v term

module _ (P Q : Label → Type 0) where
  -- an abstraction and its application, each gone on: the one contracts them and the other doesn't
  first_contracts : {M' N' body arg : Labelled} (w v : Label) → P v → Meet P Q M' body →
      Meet P Q N' arg → Meet P Q (reduct w v N' M') (app (lam body v) arg w)
  first_contracts w v i m n = record {
    term = reduct w v n.term m.term;
    first = parallel_reduct Q w v m.first n.first;
    second = of_redex i m.second n.second;
  }

  second_contracts : {M' N' body arg : Labelled} (w v : Label) → Q v →
      Meet P Q M' (lam body v) → (inner : Labelled) → M' ≡ lam inner v → Meet P Q N' arg →
      Meet P Q (app M' N' w) (reduct w v arg body)
  second_contracts {M'} {N'} {body} {arg} w v i m inner e n =
      let x = of_lam_view (subst (λ M. Parallel Q M m.term) e m.first) in
      let y = of_lam_view m.second in
      let k : x.body ≡ y.body = (let g : lam x.body v ≡ lam y.body v = sym x.is ∙ y.is in cc) in
      record {
        term = reduct w v n.term x.body;
        first =
            subst (λ M. Parallel Q (app M N' w) (reduct w v n.term x.body)) (sym e)
            (of_redex i x.step n.first);
        second =
            parallel_reduct P w v (subst (λ b. Parallel P body b) (sym k) y.step) n.second;
      }

  both_contract : {M' N' body arg : Labelled} (w v : Label) → Meet P Q M' body → Meet P Q N' arg →
      Meet P Q (reduct w v N' M') (reduct w v arg body)
  both_contract w v m n = record {
    term = reduct w v n.term m.term;
    first = parallel_reduct Q w v m.first n.first;
    second = parallel_reduct P w v m.second n.second;
  }

  pub meet : {t u v : Labelled} → Parallel P t u → Parallel Q t v → Meet P Q u v
  meet {v = v} of_var q = record { term = v; first = q; second = parallel_same P v }
  meet {v = v} of_free q = record { term = v; first = q; second = parallel_same P v }
  meet (of_lam {M' = M'} {w = w} p) q =
      let x = of_lam_view q in
      let m = meet p x.step in
      subst (λ v. Meet P Q (lam M' w) v) (sym x.is)
      (record { term = lam m.term w; first = of_lam m.first; second = of_lam m.second })
  meet {v = z} (of_app {M = M} {M' = M'} {N = N} {N' = N'} {w = w} p p') q =
      go (of_app_view q) (λ u f. meet p f) (λ u f. meet p' f)
    where
      go : OfApp Q M N w z ⊎ OfRedex Q M N w z →
          ((u : Labelled) → Parallel Q M u → Meet P Q M' u) →
          ((u : Labelled) → Parallel Q N u → Meet P Q N' u) → Meet P Q (app M' N' w) z
      go (inl x) fun arg =
          let m = fun x.fun x.fun_step in
          let n = arg x.arg x.arg_step in
          subst (λ v. Meet P Q (app M' N' w) v) (sym x.is)
          (record {
            term = app m.term n.term w;
            first = of_app m.first n.first;
            second = of_app m.second n.second;
          })
      go (inr x) fun arg =
          let s = of_lam_view (subst (λ M. Parallel P M M') x.fun_is p) in
          subst (λ v. Meet P Q (app M' N' w) v) (sym x.is)
          (second_contracts w x.degree x.chosen
          (fun (lam x.body x.degree)
          (subst (λ M. Parallel Q M (lam x.body x.degree)) (sym x.fun_is) (of_lam x.body_step)))
          s.body s.is (arg x.arg x.arg_step))
  meet {v = z} (of_redex {M = M} {M' = M'} {N = N} {N' = N'} {v = v} {w = w} i p p') q =
      go (of_app_view q) (λ u f. meet p f) (λ u f. meet p' f)
    where
      go : OfApp Q (lam M v) N w z ⊎ OfRedex Q (lam M v) N w z →
          ((u : Labelled) → Parallel Q M u → Meet P Q M' u) →
          ((u : Labelled) → Parallel Q N u → Meet P Q N' u) → Meet P Q (reduct w v N' M') z
      go (inl x) fun arg =
          let f = of_lam_view x.fun_step in
          subst (λ z. Meet P Q (reduct w v N' M') z) (sym (x.is ∙ ap (λ f. app f x.arg w) f.is))
          (first_contracts w v i (fun f.body f.step) (arg x.arg x.arg_step))
      go (inr x) fun arg =
          let k : x.inner ≡ M = (let e = x.fun_is in cc) in
          let l : x.degree ≡ v = (let e = x.fun_is in cc) in
          subst (λ z. Meet P Q (reduct w v N' M') z)
          (sym (x.is ∙ ap (λ d. reduct w d x.arg x.body) l))
          (both_contract w v (fun x.body (subst (λ M. Parallel Q M x.body) k x.body_step))
          (arg x.arg x.arg_step))
