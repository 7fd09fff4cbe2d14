-- Labelled terms with other terms for all their variables at once, and what the putting in of one is
-- by these.
use Rattle.std.proofs.Common.{◌≡◌, ◌≢◌, ℕ, zero, suc, ◌+◌, ◌-◌, ◌<◌, ◌≤◌, ◌==◌, nat_lt, Bool}
use Rattle.std.proofs.Common.{true, false, if◌then◌else◌, refl, sym, ap, ◌∙◌, arith}
use Rattle.std.proofs.lemmas.Bool.{eqb-true, eq-eqb, ltb-true, ltb-false}
use Rattle.ol_law_confluence.proofs.Substitutions.{up_ren, up_ren_twice, up_from_up}
use Rattle.ol_law_meaning.proofs.LeftmostSteps.{low, high}
use Rattle.ol_law_meaning.specs.Contraction.{up_from}
use Rattle.ol_law_optimality.specs.Labels.{Label, none, atom, over, under, joined, Labelled, var, free}
use Rattle.ol_law_optimality.specs.Labels.{lam, app, before, shifted, substituted}
use Rattle.ol_law_optimality.specs.Reductions.{reduct}

-- ---- words in a row

pub joined_none : (v : Label) → joined v none ≡ v
joined_none none = refl
joined_none (atom n v) = ap (atom n) (joined_none v)
joined_none (over u v) = ap (over u) (joined_none v)
joined_none (under u v) = ap (under u) (joined_none v)

pub joined_joined : (u v w : Label) → joined (joined u v) w ≡ joined u (joined v w)
joined_joined none v w = refl
joined_joined (atom n u) v w = ap (atom n) (joined_joined u v w)
joined_joined (over x u) v w = ap (over x) (joined_joined u v w)
joined_joined (under x u) v w = ap (under x) (joined_joined u v w)

pub before_joined : (v w : Label) (t : Labelled) → before v (before w t) ≡ before (joined v w) t
before_joined v w (var k x) = ap (var k) (sym (joined_joined v w x))
before_joined v w (free k x) = ap (free k) (sym (joined_joined v w x))
before_joined v w (lam t x) = ap (lam t) (sym (joined_joined v w x))
before_joined v w (app f a x) = ap (app f a) (sym (joined_joined v w x))

pub before_none : (t : Labelled) → before none t ≡ t
before_none (var y w) = refl
before_none (free f w) = refl
before_none (lam t w) = refl
before_none (app t u w) = refl

-- ---- variables for variables

abbrev pub ren : (ℕ → ℕ) → Labelled → Labelled
ren ξ (var y w) = var (ξ y) w
ren ξ (free f w) = free f w
ren ξ (lam t w) = lam (ren (up_ren ξ) t) w
ren ξ (app t u w) = app (ren ξ t) (ren ξ u) w

pub before_ren : (v : Label) (ξ : ℕ → ℕ) (t : Labelled) → ren ξ (before v t) ≡ before v (ren ξ t)
before_ren v ξ (var y w) = refl
before_ren v ξ (free f w) = refl
before_ren v ξ (lam t w) = refl
before_ren v ξ (app t u w) = refl

ren_like : {ξ ζ : ℕ → ℕ} → ((y : ℕ) → ξ y ≡ ζ y) → (t : Labelled) → ren ξ t ≡ ren ζ t
ren_like h t = λ i. ren (λ y. h y i) t

pub ren_ren : (t : Labelled) (ζ ξ : ℕ → ℕ) → ren ζ (ren ξ t) ≡ ren (λ y. ζ (ξ y)) t
ren_ren (var y w) ζ ξ = refl
ren_ren (free f w) ζ ξ = refl
ren_ren (lam t w) ζ ξ =
    ap (λ b. lam b w) (ren_ren t (up_ren ζ) (up_ren ξ) ∙ ren_like (up_ren_twice ζ ξ) t)
ren_ren (app t u w) ζ ξ = λ i. app (ren_ren t ζ ξ i) (ren_ren u ζ ξ i) w

-- ---- terms for variables

abbrev pub up : (ℕ → Labelled) → ℕ → Labelled
up σ zero = var zero none
up σ (suc y) = ren suc (σ y)

abbrev pub inst : (ℕ → Labelled) → Labelled → Labelled
inst σ (var y w) = before w (σ y)
inst σ (free f w) = free f w
inst σ (lam t w) = lam (inst (up σ) t) w
inst σ (app t u w) = app (inst σ t) (inst σ u) w

pub before_inst : (v : Label) (σ : ℕ → Labelled) (t : Labelled) →
    inst σ (before v t) ≡ before v (inst σ t)
before_inst v σ (var y w) = sym (before_joined v w (σ y))
before_inst v σ (free f w) = refl
before_inst v σ (lam t w) = refl
before_inst v σ (app t u w) = refl

pub inst_like : {σ τ : ℕ → Labelled} → ((y : ℕ) → σ y ≡ τ y) → (t : Labelled) → inst σ t ≡ inst τ t
inst_like h t = λ i. inst (λ y. h y i) t

up_after_ren : (σ : ℕ → Labelled) (ξ : ℕ → ℕ) (y : ℕ) → up σ (up_ren ξ y) ≡ up (λ y. σ (ξ y)) y
up_after_ren σ ξ zero = refl
up_after_ren σ ξ (suc y) = refl

pub inst_ren : (t : Labelled) (σ : ℕ → Labelled) (ξ : ℕ → ℕ) →
    inst σ (ren ξ t) ≡ inst (λ y. σ (ξ y)) t
inst_ren (var y w) σ ξ = refl
inst_ren (free f w) σ ξ = refl
inst_ren (lam t w) σ ξ =
    ap (λ b. lam b w) (inst_ren t (up σ) (up_ren ξ) ∙ inst_like (up_after_ren σ ξ) t)
inst_ren (app t u w) σ ξ = λ i. app (inst_ren t σ ξ i) (inst_ren u σ ξ i) w

ren_after_up : (ξ : ℕ → ℕ) (σ : ℕ → Labelled) (y : ℕ) →
    ren (up_ren ξ) (up σ y) ≡ up (λ y. ren ξ (σ y)) y
ren_after_up ξ σ zero = refl
ren_after_up ξ σ (suc y) = ren_ren (σ y) (up_ren ξ) suc ∙ sym (ren_ren (σ y) suc ξ)

pub ren_inst : (t : Labelled) (ξ : ℕ → ℕ) (σ : ℕ → Labelled) →
    ren ξ (inst σ t) ≡ inst (λ y. ren ξ (σ y)) t
ren_inst (var y w) ξ σ = before_ren w ξ (σ y)
ren_inst (free f w) ξ σ = refl
ren_inst (lam t w) ξ σ =
    ap (λ b. lam b w) (ren_inst t (up_ren ξ) (up σ) ∙ inst_like (ren_after_up ξ σ) t)
ren_inst (app t u w) ξ σ = λ i. app (ren_inst t ξ σ i) (ren_inst u ξ σ i) w

inst_after_up : (τ σ : ℕ → Labelled) (y : ℕ) → inst (up τ) (up σ y) ≡ up (λ y. inst τ (σ y)) y
inst_after_up τ σ zero = refl
inst_after_up τ σ (suc y) = inst_ren (σ y) (up τ) suc ∙ sym (ren_inst (σ y) suc τ)

pub inst_inst : (t : Labelled) (τ σ : ℕ → Labelled) → inst τ (inst σ t) ≡ inst (λ y. inst τ (σ y)) t
inst_inst (var y w) τ σ = before_inst w τ (σ y)
inst_inst (free f w) τ σ = refl
inst_inst (lam t w) τ σ =
    ap (λ b. lam b w) (inst_inst t (up τ) (up σ) ∙ inst_like (inst_after_up τ σ) t)
inst_inst (app t u w) τ σ = λ i. app (inst_inst t τ σ i) (inst_inst u τ σ i) w

-- ---- variables for themselves

plain : ℕ → Labelled
plain y = var y none

up_plain : (y : ℕ) → up plain y ≡ plain y
unfolding plain
up_plain zero = refl
up_plain (suc y) = refl

inst_plain : (t : Labelled) → inst plain t ≡ t
unfolding plain
inst_plain (var y w) = ap (var y) (joined_none w)
inst_plain (free f w) = refl
inst_plain (lam t w) = ap (λ b. lam b w) (inst_like up_plain t ∙ inst_plain t)
inst_plain (app t u w) = λ i. app (inst_plain t i) (inst_plain u i) w

up_of_ren : (ξ : ℕ → ℕ) (y : ℕ) → var (up_ren ξ y) none ≡ up (λ y. var (ξ y) none) y
up_of_ren ξ zero = refl
up_of_ren ξ (suc y) = refl

pub ren_is : (t : Labelled) (ξ : ℕ → ℕ) → ren ξ t ≡ inst (λ y. var (ξ y) none) t
ren_is (var y w) ξ = ap (var (ξ y)) (sym (joined_none w))
ren_is (free f w) ξ = refl
ren_is (lam t w) ξ = ap (λ b. lam b w) (ren_is t (up_ren ξ) ∙ inst_like (up_of_ren ξ) t)
ren_is (app t u w) ξ = λ i. app (ren_is t ξ i) (ren_is u ξ i) w

pub ren_same : (ξ : ℕ → ℕ) → ((y : ℕ) → ξ y ≡ y) → (t : Labelled) → ren ξ t ≡ t
unfolding plain
ren_same ξ h t = ren_like h t ∙ ren_is t (λ y. y) ∙ inst_plain t

-- ---- under more abstractions

shift_var : (d i y : ℕ) (b : Bool) → nat_lt y d ≡ b → (if b then y else y + i) ≡ up_from d i y
shift_var d i y true e = sym (low d i y (ltb-true y d e))
shift_var d i y false e = sym (high d i y (ltb-false y d e))

shifted_ren : (t : Labelled) (d i : ℕ) → shifted i d t ≡ ren (up_from d i) t
shifted_ren (var y w) d i = ap (λ y. var y w) (shift_var d i y (nat_lt y d) refl)
shifted_ren (free f w) d i = refl
shifted_ren (lam t w) d i =
    ap (λ b. lam b w)
    (ap (λ d. shifted i d t) (let e : d + 1 ≡ suc d = omega arith in e) ∙ shifted_ren t (suc d) i
    ∙ ren_like (up_from_up d i) t)
shifted_ren (app t u w) d i = λ j. app (shifted_ren t d i j) (shifted_ren u d i j) w

-- ---- one term for one variable

-- c for variable 0
abbrev pub point : Labelled → ℕ → Labelled
point c zero = c
point c (suc y) = var y none

-- c for variable d, whose abstraction goes
abbrev spot : ℕ → Labelled → ℕ → Labelled
spot zero c = point c
spot (suc d) c = up (spot d c)

spot_low : (d : ℕ) (c : Labelled) (y : ℕ) → y < d → spot d c y ≡ var y none
spot_low zero c y h = absurd (omega arith)
spot_low (suc d) c zero h = refl
spot_low (suc d) c (suc y) h = ap (ren suc) (spot_low d c y (omega arith))

spot_own : (d : ℕ) (c : Labelled) → spot d c d ≡ shifted d 0 c
spot_own zero c =
    sym (shifted_ren c 0 0 ∙ ren_same (up_from 0 0) (λ y. (let e : 0 + y ≡ y = omega arith in e)) c)
spot_own (suc d) c =
    ap (ren suc) (spot_own d c ∙ shifted_ren c 0 d) ∙ ren_ren c suc (up_from 0 d)
    ∙ ren_like (λ y. (let e : suc (d + y) ≡ suc d + y = omega arith in e)) c
    ∙ sym (shifted_ren c 0 (suc d))

spot_high : (d : ℕ) (c : Labelled) (y : ℕ) → d < y → spot d c y ≡ var (y - 1) none
spot_high zero c zero h = absurd (omega arith)
spot_high zero c (suc y) h = ap (λ y. var y none) (let e : y ≡ suc y - 1 = omega arith in e)
spot_high (suc d) c zero h = absurd (omega arith)
spot_high (suc d) c (suc y) h =
    ap (ren suc) (spot_high d c y (omega arith))
    ∙ ap (λ y. var y none) (let e : suc (y - 1) ≡ suc y - 1 = omega arith in e)

clash : false ≡ true → ⊥
clash e = absurd (cc)

put_var : (c : Labelled) (d y : ℕ) (w : Label) (b e : Bool) → nat_lt y d ≡ b → (y == d) ≡ e →
    (if b then var y w else if e then before w (shifted d 0 c) else var (y - 1) w)
    ≡ before w (spot d c y)
put_var c d y w true e l q =
    sym (ap (before w) (spot_low d c y (ltb-true y d l)) ∙ ap (var y) (joined_none w))
put_var c d y w false true l q =
    let k : y ≡ d = eqb-true y d q in
    ap (before w) (sym (spot_own d c) ∙ ap (spot d c) (sym k))
put_var c d y w false false l q =
    let h : d ≤ y = ltb-false y d l in
    let n : y ≢ d = λ k. clash (sym q ∙ eq-eqb y d k) in
    sym (ap (before w) (spot_high d c y (omega arith)) ∙ ap (var (y - 1)) (joined_none w))

substituted_spot : (t c : Labelled) (d : ℕ) → substituted c d t ≡ inst (spot d c) t
substituted_spot (var y w) c d = put_var c d y w (nat_lt y d) (y == d) refl refl
substituted_spot (free f w) c d = refl
substituted_spot (lam t w) c d =
    ap (λ b. lam b w)
    (ap (λ d. substituted c d t) (let e : d + 1 ≡ suc d = omega arith in e)
    ∙ substituted_spot t c (suc d))
substituted_spot (app t u w) c d = λ i. app (substituted_spot t c d i) (substituted_spot u c d i) w

pub substituted_inst : (c t : Labelled) → substituted c 0 t ≡ inst (point c) t
substituted_inst c t = substituted_spot t c 0

-- ---- what a labelled beta step leaves

inst_point : (σ : ℕ → Labelled) (c : Labelled) (y : ℕ) →
    inst σ (point c y) ≡ inst (point (inst σ c)) (up σ y)
unfolding plain
inst_point σ c zero = sym (before_none (inst σ c))
inst_point σ c (suc y) =
    before_none (σ y) ∙ sym (inst_ren (σ y) (point (inst σ c)) suc ∙ inst_plain (σ y))

pub inst_substituted : (σ : ℕ → Labelled) (c t : Labelled) →
    inst σ (substituted c 0 t) ≡ substituted (inst σ c) 0 (inst (up σ) t)
inst_substituted σ c t =
    ap (inst σ) (substituted_inst c t) ∙ inst_inst t σ (point c) ∙ inst_like (inst_point σ c) t
    ∙ sym (inst_inst t (point (inst σ c)) (up σ)) ∙ sym (substituted_inst (inst σ c) (inst (up σ) t))

pub inst_reduct : (σ : ℕ → Labelled) (w v : Label) (c b : Labelled) →
    inst σ (reduct w v c b) ≡ reduct w v (inst σ c) (inst (up σ) b)
inst_reduct σ w v c b =
    before_inst (joined w (over v none)) σ (substituted (before (under v none) c) 0 b)
    ∙ ap (before (joined w (over v none)))
    (inst_substituted σ (before (under v none) c) b
    ∙ ap (λ c. substituted c 0 (inst (up σ) b)) (before_inst (under v none) σ c))

pub ren_reduct : (ξ : ℕ → ℕ) (w v : Label) (c b : Labelled) →
    ren ξ (reduct w v c b) ≡ reduct w v (ren ξ c) (ren (up_ren ξ) b)
ren_reduct ξ w v c b =
    let σ : ℕ → Labelled = λ y. var (ξ y) none in
    ren_is (reduct w v c b) ξ ∙ inst_reduct σ w v c b
    ∙ ap (λ c. reduct w v c (inst (up σ) b)) (sym (ren_is c ξ))
    ∙ ap (reduct w v (ren ξ c)) (sym (ren_is b (up_ren ξ) ∙ inst_like (up_of_ren ξ) b))

pub before_reduct : (x w v : Label) (c b : Labelled) →
    before x (reduct w v c b) ≡ reduct (joined x w) v c b
before_reduct x w v c b =
    before_joined x (joined w (over v none)) (substituted (before (under v none) c) 0 b)
    ∙ ap (λ l. before l (substituted (before (under v none) c) 0 b))
    (sym (joined_joined x w (over v none)))
