-- Where reduction goes on within a term, and what is left of it.
use Rattle.std.proofs.Common.{Bool, true, false, ◌≡◌, ℕ, zero, suc, ◌<◌, ◌⊎◌, inl, inr, List, [], ◌∷◌, refl, sym, ap}
use Rattle.std.proofs.Common.{◌∙◌, subst, arith}
use Rattle.std.proofs.lemmas.Bool.{cases_eq}
use Rattle.ol_law_edges.specs.Edges.{IsIn}
use Rattle.ol_law_optimality.specs.Labels.{Label, none, Labelled, var, free, lam, app, substituted}
use Rattle.ol_law_optimality.specs.Reductions.{Parallel, of_lam, of_app}
use Rattle.ol_law_optimality.proofs.Putting.{ren, up, inst, point, inst_like}
use Rattle.ol_law_optimality.proofs.Putting.{ren_ren, ren_inst, ren_is, ren_same, substituted_inst}
use Rattle.ol_law_optimality.proofs.Together.{parallel_same, parallel_ren}
use Rattle.ol_counts.proofs.Heaps.{with_at, with_own, with_other}
use Rattle.ol_counts.proofs.Normals.{HeadShape, shape_unren, Neutral, Normal, neutral_plain, normal_ren, neutral_after}
use Rattle.ol_counts.proofs.Firsts.{Any, to_any, FirstStep, first_function, first_argument, first_below, first_ren}

-- ---- a new name for the variable of an abstraction

abbrev pub open_at : ℕ → ℕ → ℕ
open_at x zero = x
open_at x (suc y) = y

abbrev pub close_at : ℕ → ℕ → ℕ
close_at x y = with_at suc x zero y

pub inst_same : (t : Labelled) → inst (λ y. var y none) t ≡ t
inst_same t = sym (ren_is t (λ y. y)) ∙ ren_same (λ y. y) (λ y. refl) t

open_point : (x y : ℕ) → point (var x none) y ≡ var (open_at x y) none
open_point x zero = refl
open_point x (suc y) = refl

pub substituted_open : (x : ℕ) (t : Labelled) → substituted (var x none) 0 t ≡ ren (open_at x) t
substituted_open x t =
    substituted_inst (var x none) t ∙ inst_like (open_point x) t ∙ sym (ren_is t (open_at x))

pub closed_again : (n : ℕ) (t : Labelled) (w : Label) →
    ((σ τ : ℕ → Labelled) → ((z : ℕ) → z < n → σ z ≡ τ z) → inst σ (lam t w) ≡ inst τ (lam t w)) →
    ren (close_at n) (ren (open_at n) t) ≡ t
closed_again n t w low =
    ap (λ t. ren (close_at n) (ren (open_at n) t)) (sym q)
    ∙ ren_ren (inst (up τ) t) (close_at n) (open_at n)
    ∙ ren_inst t ξ (up τ) ∙ inst_like at t ∙ q
  where
    σ : ℕ → Labelled
    σ y = var y none

    τ : ℕ → Labelled
    τ = with_at σ n (free zero none)

    ξ : ℕ → ℕ
    ξ y = close_at n (open_at n y)

    q : inst (up τ) t ≡ t
    q =
        let e : lam (inst (up σ) t) w ≡ lam (inst (up τ) t) w =
        low σ τ (λ z l. sym (with_other σ n (free zero none) z (λ e. absurd (omega (arith, e, l))))) in
        let f : inst (up σ) t ≡ inst (up τ) t = cc in
        let g : lam (inst (up σ) t) w ≡ lam t w = inst_same (lam t w) in
        let h : inst (up σ) t ≡ t = cc in
        sym f ∙ h

    far : (y : ℕ) → (y ≡ n) ⊎ (y ≡ n → ⊥) → ren ξ (up τ (suc y)) ≡ up τ (suc y)
    far y (inl e) =
        let f = with_own σ n (free zero none) y e in
        ap (λ t. ren ξ (ren suc t)) f ∙ sym (ap (ren suc) f)
    far y (inr e) =
        let f = with_other σ n (free zero none) y e in
        ap (λ t. ren ξ (ren suc t)) f
        ∙ ap (λ z. var z none) (with_other suc n zero y e) ∙ sym (ap (ren suc) f)

    at : (y : ℕ) → ren ξ (up τ y) ≡ up τ y
    at zero = ap (λ z. var z none) (with_own suc n zero n refl)
    at (suc y) = far y (cases_eq y n)

-- ---- places

-- W is reduced at a part of it, and the cells mean what is left of it. Where the flag is true there are
-- only abstractions round the part.
pub data Around (U : ℕ → Labelled) (W : Labelled) : Bool → List ℕ → Labelled → Type 0 where
  top : Around U W true [] W
  below : {M : Labelled} {w : Label} {b : Bool} {cs : List ℕ} (x : ℕ) →
      Around U W b cs (lam (ren (close_at x) M) w) → Around U W b cs M
  in_function : {G : Labelled} {w : Label} {c : ℕ} {b : Bool} {cs : List ℕ} → Neutral G →
      Around U W b cs (app G (U c) w) → Around U W false (c ∷ cs) G
  in_argument : {G A : Labelled} {w : Label} {b : Bool} {cs : List ℕ} → Neutral G → Normal G →
      Around U W b cs (app G A w) → Around U W false cs A

pub onward : {U : ℕ → Labelled} {W : Labelled} {b : Bool} {c : ℕ} {cs : List ℕ} {N : Labelled} →
    Around U W b (c ∷ cs) N → Normal N → (b : Bool) × Around U W b cs (U c)
onward {N = N} (below x a) h = onward a (normal_ren N (close_at x) h)
onward (in_function c a) h = (false, in_argument c h a)
onward (in_argument c g a) h = onward a (c, g, h)

pub finished : {U : ℕ → Labelled} {W : Labelled} {b : Bool} {N : Labelled} → Around U W b [] N →
    Normal N → Normal W
finished top h = h
finished {N = N} (below x a) h = finished a (normal_ren N (close_at x) h)
finished (in_argument c g a) h = finished a (c, g, h)

-- only abstractions are round it
pub shape_inside : {U : ℕ → Labelled} {W : Labelled} {b : Bool} {cs : List ℕ} {N : Labelled} →
    Around U W b cs N → b ≡ true → HeadShape W → HeadShape N
shape_inside top e h = h
shape_inside {N = N} (below x a) e h = shape_unren N (close_at x) (shape_inside a e h)
shape_inside (in_function c a) e h = absurd (cc)
shape_inside (in_argument c g a) e h = absurd (cc)

pub around_else : {U : ℕ → Labelled} {W : Labelled} {b : Bool} {cs : List ℕ} {N : Labelled}
    (V : ℕ → Labelled) → ((c : ℕ) → IsIn c cs → U c ≡ V c) → Around U W b cs N → Around V W b cs N
around_else V f top = top
around_else V f (below x a) = below x (around_else V f a)
around_else {W = W} V f (in_function {G = G} {w = w} {c = c} {b = b} {cs = cs} h a) =
    in_function h
    (subst (λ t. Around V W b cs (app G t w)) (f c (inl refl))
    (around_else V (λ c i. f c (inr i)) a))
around_else V f (in_argument h g a) = in_argument h g (around_else V f a)

pub record WholeStep (P : Label → Type 0) (W : Labelled) (V : ℕ → Labelled) (b : Bool) (cs : List ℕ)
    (N M : Labelled) : Type 0 where
  pub whole : Labelled
  pub step : Parallel P W whole
  pub around : Around V whole b cs M
  pub first : FirstStep N M → FirstStep W whole

module _ (P : Label → Type 0) where
  pub whole_step : {U : ℕ → Labelled} {W : Labelled} {b : Bool} {cs : List ℕ} {N : Labelled}
      (V : ℕ → Labelled) (M : Labelled) → ((c : ℕ) → Parallel P (U c) (V c)) → Parallel P N M →
      Around U W b cs N → WholeStep P W V b cs N M
  whole_step V M f p top = record { whole = M; step = p; around = top; first = λ x. x }
  whole_step V M f p (below {w = w} x a) =
      let y =
      whole_step V (lam (ren (close_at x) M) w) f (of_lam (parallel_ren P (close_at x) p)) a in
      record {
        whole = y.whole;
        step = y.step;
        around = below x y.around;
        first =
            λ z. y.first
            (record {
              middle = lam (ren (close_at x) z.middle) w;
              first = first_below (first_ren (close_at x) z.first);
              step = of_lam (parallel_ren Any (close_at x) z.step);
            });
      }
  whole_step {U} V M f p (in_function {G = G} {w = w} {c = c} h a) =
      let y = whole_step V (app M (V c) w) f (of_app p (f c)) a in
      record {
        whole = y.whole;
        step = y.step;
        around = in_function (neutral_after p h) y.around;
        first =
            λ z. y.first
            (record {
              middle = app z.middle (U c) w;
              first = first_function (neutral_plain G h) z.first;
              step = of_app z.step (to_any (f c));
            });
      }
  whole_step V M f p (in_argument {G = G} {w = w} h g a) =
      let y = whole_step V (app G M w) f (of_app (parallel_same P G) p) a in
      record {
        whole = y.whole;
        step = y.step;
        around = in_argument h g y.around;
        first =
            λ z. y.first
            (record {
              middle = app G z.middle w;
              first = first_argument h g z.first;
              step = of_app (parallel_same Any G) z.step;
            });
      }
