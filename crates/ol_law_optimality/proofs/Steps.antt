-- A parallel step is a row of beta steps of the same degree, and so a family step.
use Rattle.std.proofs.Common.{◌≡◌, ◌≢◌, ℕ, ◌==◌, ◌⊎◌, inl, inr, List, [], ◌∷◌, ◌++◌, Some, refl, sym, ap, ◌∙◌, subst}
use Rattle.std.proofs.lemmas.Bool.{cases_eq}
use Rattle.std.proofs.lemmas.Option.{same_Some, none-some}
use Rattle.std.specs.Option.{option_map}
use Rattle.ol_law_edges.proofs.Lists.{in_cases}
use Rattle.ol_law_optimality.specs.Labels.{Label, none, atom, over, under, Labelled, var, free, lam, app}
use Rattle.ol_law_optimality.specs.Labels.{degree_of_abstraction}
use Rattle.ol_law_optimality.specs.LevysTheorem.{AtOnceIsOneStep, WholeFamiliesAreFamilies, WholeFamilyIsOne}
use Rattle.ol_law_optimality.specs.LevysTheorem.{LeftmostFamiliesAreWhole}
use Rattle.ol_law_optimality.specs.Reductions.{Contracts, ready, contract, FamilyStep, FamilyReduces, Parallel, of_var}
use Rattle.ol_law_optimality.specs.Reductions.{of_free, of_lam, of_app, of_redex, reduct, WholeFamily, all_var}
use Rattle.ol_law_optimality.specs.Reductions.{all_free, all_lam, all_app, all_redex, LeftmostFamilies}
use Rattle.ol_law_optimality.specs.Reductions as reductions
use Rattle.ol_law_optimality.proofs.Needed.{Of, contracts_then}

-- ---- within a term

contracts_lam : {t u : Labelled} {ws : List Label} (w : Label) → Contracts t ws u →
    Contracts (lam t w) ws (lam u w)
contracts_lam w ready = ready
contracts_lam w (contract at g e r) =
    contract (0 ∷ at) g (ap (option_map (λ t. lam t w)) e) (contracts_lam w r)

contracts_fun : {t u : Labelled} {ws : List Label} (a : Labelled) (w : Label) → Contracts t ws u →
    Contracts (app t a w) ws (app u a w)
contracts_fun a w ready = ready
contracts_fun a w (contract at g e r) =
    contract (1 ∷ at) g (ap (option_map (λ f. app f a w)) e) (contracts_fun a w r)

contracts_arg : {t u : Labelled} {ws : List Label} (f : Labelled) (w : Label) → Contracts t ws u →
    Contracts (app f t w) ws (app f u w)
contracts_arg f w ready = ready
contracts_arg f w (contract at g e r) =
    contract (2 ∷ at) g (ap (option_map (λ a. app f a w)) e) (contracts_arg f w r)

-- ---- of one degree

family_then : {d : Label} {t u v : Labelled} → FamilyStep d t u → FamilyStep d u v →
    FamilyStep d t v
family_then x y = (
  x.0 ++ y.0,
  contracts_then x.1 y.1,
  λ w i. elim (in_cases w x.0 y.0 i) [ inl j ↦ x.2 w j | inr j ↦ y.2 w j ],
)

family_lam : {d : Label} {t u : Labelled} (w : Label) → FamilyStep d t u →
    FamilyStep d (lam t w) (lam u w)
family_lam w x = (x.0, contracts_lam w x.1, x.2)

family_app : {d : Label} {f g a b : Labelled} (w : Label) → FamilyStep d f g → FamilyStep d a b →
    FamilyStep d (app f a w) (app g b w)
family_app {f} {g} {a} {b} w x y =
    family_then (x.0, contracts_fun a w x.1, x.2) (y.0, contracts_arg g w y.1, y.2)

family_ready : (d : Label) (t : Labelled) → FamilyStep d t t
family_ready d t = ([], ready, λ w i. absurd i)

family_redex : (d v : Label) (b c : Labelled) (w : Label) → v ≡ d →
    FamilyStep d (app (lam b v) c w) (reduct w v c b)
family_redex d v b c w e =
    (v ∷ [], contract [] refl refl ready, λ x i. elim i [ inl k ↦ k ∙ e | inr k ↦ absurd k ])

pub at_once : (d : Label) {t u : Labelled} → Parallel (Of d) t u → FamilyStep d t u
at_once d (of_var {y = y} {w = w}) = family_ready d (var y w)
at_once d (of_free {f = f} {w = w}) = family_ready d (free f w)
at_once d (of_lam {w = w} p) = family_lam w (at_once d p)
at_once d (of_app {w = w} p q) = family_app w (at_once d p) (at_once d q)
at_once d (of_redex {M' = M'} {N' = N'} {v = v} {w = w} e p q) =
    family_then (family_app w (family_lam v (at_once d p)) (at_once d q))
    (family_redex d v M' N' w e)

pub at_once_is_one_step : AtOnceIsOneStep
at_once_is_one_step d t u p = at_once d p

-- ---- all of one degree

pub whole_parallel : {d : Label} {t u : Labelled} → WholeFamily d t u → Parallel (Of d) t u
whole_parallel all_var = of_var
whole_parallel all_free = of_free
whole_parallel (all_lam p) = of_lam (whole_parallel p)
whole_parallel (all_app n p q) = of_app (whole_parallel p) (whole_parallel q)
whole_parallel (all_redex p q) = of_redex refl (whole_parallel p) (whole_parallel q)

pub whole_families_are_families : WholeFamiliesAreFamilies
whole_families_are_families T V ds reductions.ready = reductions.ready
whole_families_are_families T V ds (reductions.contract {u = u} {d = d} {ds = es} at g p r) =
    reductions.contract (at_once d (whole_parallel p)) (whole_families_are_families u V es r)

pub leftmost_families_are_whole : LeftmostFamiliesAreWhole
leftmost_families_are_whole T V ds reductions.ready = reductions.ready
leftmost_families_are_whole T V ds (reductions.contract {u = u} {ds = es} at e g p r) =
    reductions.contract at g p (leftmost_families_are_whole u V es r)

pub leftmost_families_are_families : (T V : Labelled) (ds : List Label) → LeftmostFamilies T ds V →
    FamilyReduces T ds V
leftmost_families_are_families T V ds r =
    whole_families_are_families T V ds (leftmost_families_are_whole T V ds r)

-- ---- whether two labels are one

atoms : (m n : ℕ) (v w : Label) → (m ≡ n) ⊎ (m ≢ n) → (v ≡ w) ⊎ (v ≢ w) →
    (atom m v ≡ atom n w) ⊎ (atom m v ≢ atom n w)
atoms m n v w (inl e) (inl f) = inl (λ i. atom (e i) (f i))
atoms m n v w (inr e) f = inr (λ k. e (let l : m ≡ n = cc in l))
atoms m n v w (inl e) (inr f) = inr (λ k. f (let l : v ≡ w = cc in l))

overs : (m n v w : Label) → (m ≡ n) ⊎ (m ≢ n) → (v ≡ w) ⊎ (v ≢ w) →
    (over m v ≡ over n w) ⊎ (over m v ≢ over n w)
overs m n v w (inl e) (inl f) = inl (λ i. over (e i) (f i))
overs m n v w (inr e) f = inr (λ k. e (let l : m ≡ n = cc in l))
overs m n v w (inl e) (inr f) = inr (λ k. f (let l : v ≡ w = cc in l))

unders : (m n v w : Label) → (m ≡ n) ⊎ (m ≢ n) → (v ≡ w) ⊎ (v ≢ w) →
    (under m v ≡ under n w) ⊎ (under m v ≢ under n w)
unders m n v w (inl e) (inl f) = inl (λ i. under (e i) (f i))
unders m n v w (inr e) f = inr (λ k. e (let l : m ≡ n = cc in l))
unders m n v w (inl e) (inr f) = inr (λ k. f (let l : v ≡ w = cc in l))

same_label : (v w : Label) → (v ≡ w) ⊎ (v ≢ w)
same_label none none = inl refl
same_label none (atom n w) = inr (λ e. absurd (cc))
same_label none (over u w) = inr (λ e. absurd (cc))
same_label none (under u w) = inr (λ e. absurd (cc))
same_label (atom m v) none = inr (λ e. absurd (cc))
same_label (atom m v) (atom n w) = atoms m n v w (cases_eq m n) (same_label v w)
same_label (atom m v) (over u w) = inr (λ e. absurd (cc))
same_label (atom m v) (under u w) = inr (λ e. absurd (cc))
same_label (over x v) none = inr (λ e. absurd (cc))
same_label (over x v) (atom n w) = inr (λ e. absurd (cc))
same_label (over x v) (over u w) = overs x u v w (same_label x u) (same_label v w)
same_label (over x v) (under u w) = inr (λ e. absurd (cc))
same_label (under x v) none = inr (λ e. absurd (cc))
same_label (under x v) (atom n w) = inr (λ e. absurd (cc))
same_label (under x v) (over u w) = inr (λ e. absurd (cc))
same_label (under x v) (under u w) = unders x u v w (same_label x u) (same_label v w)

-- ---- a family can be contracted

pub whole_family : (d : Label) (t : Labelled) → (u : Labelled) × WholeFamily d t u
whole_family d (var k w) = (var k w, all_var)
whole_family d (free k w) = (free k w, all_free)
whole_family d (lam t w) = let r = whole_family d t in (lam r.0 w, all_lam r.1)
whole_family d (app (lam b v) a w) =
    go (same_label v d) (whole_family d b) (whole_family d a)
  where
    go : (v ≡ d) ⊎ (v ≢ d) → ((u : Labelled) × WholeFamily d b u) →
        ((u : Labelled) × WholeFamily d a u) → (u : Labelled) × WholeFamily d (app (lam b v) a w) u
    go (inl e) x y = (
      reduct w d y.0 x.0,
      subst (λ v. WholeFamily d (app (lam b v) a w) (reduct w d y.0 x.0)) (sym e)
          (all_redex x.1 y.1),
    )
    go (inr n) x y =
        (app (lam x.0 v) y.0 w, all_app (λ e. n (same_Some v d e)) (all_lam x.1) y.1)
whole_family d (app (var k v) a w) =
    let y = whole_family d a in (app (var k v) y.0 w, all_app (λ e. none-some _ e) all_var y.1)
whole_family d (app (free k v) a w) =
    let y = whole_family d a in (app (free k v) y.0 w, all_app (λ e. none-some _ e) all_free y.1)
whole_family d (app (app f b v) a w) =
    let x = whole_family d (app f b v) in
    let y = whole_family d a in (app x.0 y.0 w, all_app (λ e. none-some _ e) x.1 y.1)

-- ---- in one way

pub record AllLam (d : Label) (M : Labelled) (w : Label) (u : Labelled) : Type 0 where
  pub body : Labelled
  pub is : u ≡ lam body w
  pub step : WholeFamily d M body

pub all_lam_view : {d : Label} {M u : Labelled} {w : Label} → WholeFamily d (lam M w) u →
    AllLam d M w u
all_lam_view (all_lam {M' = M'} p) = record { body = M'; is = refl; step = p }

pub record AllApp (d : Label) (M N : Labelled) (w : Label) (u : Labelled) : Type 0 where
  pub fun : Labelled
  pub arg : Labelled
  pub other : degree_of_abstraction M ≡ Some d → ⊥
  pub is : u ≡ app fun arg w
  pub fun_step : WholeFamily d M fun
  pub arg_step : WholeFamily d N arg

pub record AllRedex (d : Label) (M N : Labelled) (w : Label) (u : Labelled) : Type 0 where
  pub inner : Labelled
  pub body : Labelled
  pub arg : Labelled
  pub fun_is : M ≡ lam inner d
  pub is : u ≡ reduct w d arg body
  pub body_step : WholeFamily d inner body
  pub arg_step : WholeFamily d N arg

pub all_app_view : {d : Label} {M N u : Labelled} {w : Label} → WholeFamily d (app M N w) u →
    AllApp d M N w u ⊎ AllRedex d M N w u
all_app_view (all_app {M' = M'} {N' = N'} n p q) =
    inl
    (record { fun = M'; arg = N'; other = n; is = refl; fun_step = p; arg_step = q })
all_app_view (all_redex {M = M} {M' = M'} {N' = N'} p q) =
    inr
    (record {
      inner = M;
      body = M';
      arg = N';
      fun_is = refl;
      is = refl;
      body_step = p;
      arg_step = q;
    })

var_stays : {d : Label} {k : ℕ} {w : Label} {v : Labelled} → WholeFamily d (var k w) v →
    v ≡ var k w
var_stays all_var = refl

free_stays : {d : Label} {k : ℕ} {w : Label} {v : Labelled} → WholeFamily d (free k w) v →
    v ≡ free k w
free_stays all_free = refl

whole_is_one : {d : Label} {t u v : Labelled} → WholeFamily d t u → WholeFamily d t v → v ≡ u
whole_is_one all_var q = var_stays q
whole_is_one all_free q = free_stays q
whole_is_one (all_lam {w = w} p) q =
    let x = all_lam_view q in x.is ∙ ap (λ b. lam b w) (whole_is_one p x.step)
whole_is_one {d = d} {v = v} (all_app {M = M} {M' = M'} {N = N} {N' = N'} {w = w} n p p') q =
    go (all_app_view q) (λ u f. whole_is_one p f) (λ u f. whole_is_one p' f)
  where
    go : AllApp d M N w v ⊎ AllRedex d M N w v → ((u : Labelled) → WholeFamily d M u → u ≡ M') →
        ((u : Labelled) → WholeFamily d N u → u ≡ N') → v ≡ app M' N' w
    go (inl x) fun arg =
        x.is ∙ (λ i. app (fun x.fun x.fun_step i) (arg x.arg x.arg_step i) w)
    go (inr x) fun arg = absurd (n (ap degree_of_abstraction x.fun_is))
whole_is_one {d = d} {v = v} (all_redex {M = M} {M' = M'} {N = N} {N' = N'} {w = w} p p') q =
    go (all_app_view q) (λ u f. whole_is_one p f) (λ u f. whole_is_one p' f)
  where
    go : AllApp d (lam M d) N w v ⊎ AllRedex d (lam M d) N w v →
        ((u : Labelled) → WholeFamily d M u → u ≡ M') →
        ((u : Labelled) → WholeFamily d N u → u ≡ N') → v ≡ reduct w d N' M'
    go (inl x) fun arg = absurd (x.other refl)
    go (inr x) fun arg =
        let k : x.inner ≡ M = (let e = x.fun_is in cc) in
        let f = fun x.body (subst (λ M. WholeFamily d M x.body) k x.body_step) in
        let a = arg x.arg x.arg_step in
        x.is ∙ (λ i. reduct w d (a i) (f i))

pub whole_family_is_one : WholeFamilyIsOne
whole_family_is_one d t =
    let r = whole_family d t in
    (r.0, r.1, at_once d (whole_parallel r.1), λ v p. whole_is_one r.1 p)
