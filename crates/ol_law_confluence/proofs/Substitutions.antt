-- Terms with other terms for all their variables at once, and what the putting in of one is by
-- these.
use Rattle.std.proofs.Common.{◌≡◌, ℕ, zero, suc, ◌+◌, Option, Some, None, refl, sym, ap, ◌∙◌, arith}
use Rattle.ol_law_meaning.specs.Contraction.{Tree, var, free, lam, app, up_from, lift, suc_of, without, put, subst_for}
use Rattle.ol_beta.specs.Beta.{substituted}
use Rattle.ol_law_meaning.proofs.LeftmostSteps.{subst_is}

-- ---- variables for variables

abbrev pub up_ren : (ℕ → ℕ) → ℕ → ℕ
up_ren ξ zero = zero
up_ren ξ (suc y) = suc (ξ y)

abbrev pub ren : (ℕ → ℕ) → Tree → Tree
ren ξ (var y) = var (ξ y)
ren ξ (free f) = free f
ren ξ (lam t) = lam (ren (up_ren ξ) t)
ren ξ (app t u) = app (ren ξ t) (ren ξ u)

pub ren_like : {ξ ζ : ℕ → ℕ} → ((y : ℕ) → ξ y ≡ ζ y) → (t : Tree) → ren ξ t ≡ ren ζ t
ren_like h t = λ i. ren (λ y. h y i) t

pub up_ren_twice : (ζ ξ : ℕ → ℕ) (y : ℕ) → up_ren ζ (up_ren ξ y) ≡ up_ren (λ y. ζ (ξ y)) y
up_ren_twice ζ ξ zero = refl
up_ren_twice ζ ξ (suc y) = refl

pub ren_ren : (t : Tree) (ζ ξ : ℕ → ℕ) → ren ζ (ren ξ t) ≡ ren (λ y. ζ (ξ y)) t
ren_ren (var y) ζ ξ = refl
ren_ren (free f) ζ ξ = refl
ren_ren (lam t) ζ ξ = ap lam (ren_ren t (up_ren ζ) (up_ren ξ) ∙ ren_like (up_ren_twice ζ ξ) t)
ren_ren (app t u) ζ ξ = λ i. app (ren_ren t ζ ξ i) (ren_ren u ζ ξ i)

-- ---- terms for variables

abbrev pub up : (ℕ → Tree) → ℕ → Tree
up σ zero = var zero
up σ (suc y) = ren suc (σ y)

abbrev pub inst : (ℕ → Tree) → Tree → Tree
inst σ (var y) = σ y
inst σ (free f) = free f
inst σ (lam t) = lam (inst (up σ) t)
inst σ (app t u) = app (inst σ t) (inst σ u)

pub inst_like : {σ τ : ℕ → Tree} → ((y : ℕ) → σ y ≡ τ y) → (t : Tree) → inst σ t ≡ inst τ t
inst_like h t = λ i. inst (λ y. h y i) t

pub up_after_ren : (σ : ℕ → Tree) (ξ : ℕ → ℕ) (y : ℕ) → up σ (up_ren ξ y) ≡ up (λ y. σ (ξ y)) y
up_after_ren σ ξ zero = refl
up_after_ren σ ξ (suc y) = refl

pub inst_ren : (t : Tree) (σ : ℕ → Tree) (ξ : ℕ → ℕ) → inst σ (ren ξ t) ≡ inst (λ y. σ (ξ y)) t
inst_ren (var y) σ ξ = refl
inst_ren (free f) σ ξ = refl
inst_ren (lam t) σ ξ = ap lam (inst_ren t (up σ) (up_ren ξ) ∙ inst_like (up_after_ren σ ξ) t)
inst_ren (app t u) σ ξ = λ i. app (inst_ren t σ ξ i) (inst_ren u σ ξ i)

pub ren_after_up : (ξ : ℕ → ℕ) (σ : ℕ → Tree) (y : ℕ) →
    ren (up_ren ξ) (up σ y) ≡ up (λ y. ren ξ (σ y)) y
ren_after_up ξ σ zero = refl
ren_after_up ξ σ (suc y) = ren_ren (σ y) (up_ren ξ) suc ∙ sym (ren_ren (σ y) suc ξ)

pub ren_inst : (t : Tree) (ξ : ℕ → ℕ) (σ : ℕ → Tree) → ren ξ (inst σ t) ≡ inst (λ y. ren ξ (σ y)) t
ren_inst (var y) ξ σ = refl
ren_inst (free f) ξ σ = refl
ren_inst (lam t) ξ σ = ap lam (ren_inst t (up_ren ξ) (up σ) ∙ inst_like (ren_after_up ξ σ) t)
ren_inst (app t u) ξ σ = λ i. app (ren_inst t ξ σ i) (ren_inst u ξ σ i)

inst_after_up : (τ σ : ℕ → Tree) (y : ℕ) → inst (up τ) (up σ y) ≡ up (λ y. inst τ (σ y)) y
inst_after_up τ σ zero = refl
inst_after_up τ σ (suc y) = inst_ren (σ y) (up τ) suc ∙ sym (ren_inst (σ y) suc τ)

pub inst_inst : (t : Tree) (τ σ : ℕ → Tree) → inst τ (inst σ t) ≡ inst (λ y. inst τ (σ y)) t
inst_inst (var y) τ σ = refl
inst_inst (free f) τ σ = refl
inst_inst (lam t) τ σ = ap lam (inst_inst t (up τ) (up σ) ∙ inst_like (inst_after_up τ σ) t)
inst_inst (app t u) τ σ = λ i. app (inst_inst t τ σ i) (inst_inst u τ σ i)

up_var : (y : ℕ) → up var y ≡ var y
up_var zero = refl
up_var (suc y) = refl

inst_var : (t : Tree) → inst var t ≡ t
inst_var (var y) = refl
inst_var (free f) = refl
inst_var (lam t) = ap lam (inst_like up_var t ∙ inst_var t)
inst_var (app t u) = λ i. app (inst_var t i) (inst_var u i)

up_of_ren : (ξ : ℕ → ℕ) (y : ℕ) → var (up_ren ξ y) ≡ up (λ y. var (ξ y)) y
up_of_ren ξ zero = refl
up_of_ren ξ (suc y) = refl

ren_is : (t : Tree) (ξ : ℕ → ℕ) → ren ξ t ≡ inst (λ y. var (ξ y)) t
ren_is (var y) ξ = refl
ren_is (free f) ξ = refl
ren_is (lam t) ξ = ap lam (ren_is t (up_ren ξ) ∙ inst_like (up_of_ren ξ) t)
ren_is (app t u) ξ = λ i. app (ren_is t ξ i) (ren_is u ξ i)

-- ---- one term for one variable

pub up_from_up : (d i y : ℕ) → up_from (suc d) i y ≡ up_ren (up_from d i) y
up_from_up d i zero = refl
up_from_up d i (suc y) = refl

lift_ren : (t : Tree) (d i : ℕ) → lift d i t ≡ ren (up_from d i) t
lift_ren (var y) d i = refl
lift_ren (free f) d i = refl
lift_ren (lam t) d i = ap lam (lift_ren t (suc d) i ∙ ren_like (up_from_up d i) t)
lift_ren (app t u) d i = λ j. app (lift_ren t d i j) (lift_ren u d i j)

-- N for variable i, whose abstraction goes
abbrev spot : ℕ → Tree → ℕ → Tree
spot i N y = put i N (without i y)

put_up : (i : ℕ) (N : Tree) (r : Option ℕ) → put (suc i) N (suc_of r) ≡ ren suc (put i N r)
put_up i N None =
    lift_ren N 0 (suc i) ∙ ren_like (λ y. (let e : suc i + y ≡ suc (i + y) = omega arith in e)) N
    ∙ sym (ren_ren N suc (up_from 0 i)) ∙ ap (ren suc) (sym (lift_ren N 0 i))
put_up i N (Some y) = refl

spot_up : (i : ℕ) (N : Tree) (y : ℕ) → spot (suc i) N y ≡ up (spot i N) y
spot_up i N zero = refl
spot_up i N (suc y) = put_up i N (without i y)

subst_spot : (t : Tree) (i : ℕ) (N : Tree) → subst_for i N t ≡ inst (spot i N) t
subst_spot (var y) i N = refl
subst_spot (free f) i N = refl
subst_spot (lam t) i N = ap lam (subst_spot t (suc i) N ∙ inst_like (spot_up i N) t)
subst_spot (app t u) i N = λ j. app (subst_spot t i N j) (subst_spot u i N j)

-- N for variable 0
abbrev pub point : Tree → ℕ → Tree
point N zero = N
point N (suc y) = var y

spot_point : (N : Tree) (y : ℕ) → spot 0 N y ≡ point N y
spot_point N zero =
    lift_ren N 0 0 ∙ ren_like (λ y. (let e : 0 + y ≡ y = omega arith in e)) N ∙ ren_is N (λ y. y)
    ∙ inst_var N
spot_point N (suc y) = refl

pub subst_inst : (N M : Tree) → substituted N 0 M ≡ inst (point N) M
subst_inst N M = sym (subst_is M N 0) ∙ subst_spot M 0 N ∙ inst_like (spot_point N) M

inst_point : (σ : ℕ → Tree) (N : Tree) (y : ℕ) →
    inst σ (point N y) ≡ inst (point (inst σ N)) (up σ y)
inst_point σ N zero = refl
inst_point σ N (suc y) = sym (inst_ren (σ y) (point (inst σ N)) suc ∙ inst_var (σ y))

-- terms put into a redex that was contracted
pub inst_subst : (σ : ℕ → Tree) (N M : Tree) →
    inst σ (substituted N 0 M) ≡ substituted (inst σ N) 0 (inst (up σ) M)
inst_subst σ N M =
    ap (inst σ) (subst_inst N M) ∙ inst_inst M σ (point N) ∙ inst_like (inst_point σ N) M
    ∙ sym (inst_inst M (point (inst σ N)) (up σ)) ∙ sym (subst_inst (inst σ N) (inst (up σ) M))

pub ren_subst : (ξ : ℕ → ℕ) (N M : Tree) →
    ren ξ (substituted N 0 M) ≡ substituted (ren ξ N) 0 (ren (up_ren ξ) M)
ren_subst ξ N M =
    let σ : ℕ → Tree = λ y. var (ξ y) in
    ren_is (substituted N 0 M) ξ ∙ inst_subst σ N M
    ∙ ap (λ K. substituted K 0 (inst (up σ) M)) (sym (ren_is N ξ))
    ∙ ap (substituted (ren ξ N) 0) (sym (ren_is M (up_ren ξ) ∙ inst_like (up_of_ren ξ) M))
