-- A head step is the leftmost beta step.
use Rattle.std.proofs.Common.{◌≡◌, ◌≢◌, ℕ, zero, suc, ◌+◌, ◌-◌, ◌<◌, ◌≤◌, ◌==◌, nat_lt, Bool, true, false}
use Rattle.std.proofs.Common.{if◌then◌else◌, List, [], ◌∷◌, Some, None, refl, sym, ap, ◌∙◌, subst, arith}
use Rattle.std.proofs.lemmas.Bool.{eqb-true, eq-eqb, ltb-true, ltb-false}
use Rattle.std.proofs.lemmas.Option.{same_Some}
use Rattle.std.specs.Option.{option_map, option_or}
use Rattle.ol_beta.specs.Beta.{shifted, substituted, contracted}
use Rattle.ol_beta.specs.Leftmost.{leftmost}
use Rattle.ol_beta.specs.Leftmost as beta_steps
use Rattle.ol_law_meaning.specs.Contraction.{Tree, var, free, lam, app, up_from, lift, suc_of, without, put}
use Rattle.ol_law_meaning.specs.Contraction.{subst_for, HeadStep, beta, below, before}
use Rattle.ol_law_meaning.proofs.Addresses.{without_own}

-- ---- under more abstractions

pub low : (d i y : ℕ) → y < d → up_from d i y ≡ y
low zero i y h = absurd (omega arith)
low (suc d) i zero h = refl
low (suc d) i (suc y) h = ap suc (low d i y (omega arith))

pub high : (d i y : ℕ) → d ≤ y → up_from d i y ≡ y + i
high zero i y h = omega arith
high (suc d) i zero h = absurd (omega arith)
high (suc d) i (suc y) h = ap suc (high d i y (omega arith)) ∙ (let e : suc (y + i) ≡ suc y + i = omega arith in e)

pub shift_var : (d i y : ℕ) (b : Bool) → nat_lt y d ≡ b → up_from d i y ≡ (if b then y else y + i)
shift_var d i y true e = low d i y (ltb-true y d e)
shift_var d i y false e = high d i y (ltb-false y d e)

lift_shift : (t : Tree) (d i : ℕ) → lift d i t ≡ shifted i d t
lift_shift (var y) d i = ap var (shift_var d i y (nat_lt y d) refl)
lift_shift (free f) d i = refl
lift_shift (lam t) d i = ap lam (lift_shift t (suc d) i
    ∙ ap (λ d. shifted i d t) (let e : suc d ≡ d + 1 = omega arith in e))
lift_shift (app t u) d i = ap (λ t. app t (lift d i u)) (lift_shift t d i) ∙ ap (app (shifted i d t)) (lift_shift u d i)

-- ---- a term for a variable

pub kept : (i y : ℕ) → y < i → without i y ≡ Some y
kept zero y h = absurd (omega arith)
kept (suc i) zero h = refl
kept (suc i) (suc y) h = ap suc_of (kept i y (omega arith))

pub lowered : (i y : ℕ) → i < y → without i y ≡ Some (y - 1)
lowered zero zero h = absurd (omega arith)
lowered zero (suc y) h = ap Some (let e : y ≡ suc y - 1 = omega arith in e)
lowered (suc i) zero h = absurd (omega arith)
lowered (suc i) (suc y) h = ap suc_of (lowered i y (omega arith))
    ∙ ap Some (let e : suc (y - 1) ≡ suc y - 1 = omega arith in e)

put_var : (N : Tree) (i y : ℕ) (b c : Bool) → nat_lt y i ≡ b → (y == i) ≡ c →
    put i N (without i y) ≡ (if b then var y else if c then shifted i 0 N else var (y - 1))
put_var N i y true c e f = ap (put i N) (kept i y (ltb-true y i e))
put_var N i y false true e f = ap (put i N)
    (subst (λ j. without j y ≡ None) (eqb-true y i f) (without_own y)) ∙ lift_shift N 0 i
put_var N i y false false e f =
    let h : i ≤ y = ltb-false y i e in
    let n : y ≢ i = λ q. (let k : true ≡ false = sym (eq-eqb y i q) ∙ f in absurd (cc)) in
    ap (put i N) (lowered i y (omega arith))

pub subst_is : (t N : Tree) (i : ℕ) → subst_for i N t ≡ substituted N i t
subst_is (var y) N i = put_var N i y (nat_lt y i) (y == i) refl refl
subst_is (free f) N i = refl
subst_is (lam t) N i = ap lam (subst_is t N (suc i)
    ∙ ap (λ i. substituted N i t) (let e : suc i ≡ i + 1 = omega arith in e))
subst_is (app t u) N i = ap (λ t. app t (subst_for i N u)) (subst_is t N i)
    ∙ ap (app (substituted N i t)) (subst_is u N i)

-- ---- the leftmost redex

pub leftmost_step : {t t' : Tree} → HeadStep t t' → (at : List ℕ) × (leftmost t ≡ Some at) × (contracted t at ≡ Some t')
leftmost_step (beta {M = M} {N = N}) = ([], refl, ap Some (sym (subst_is M N 0)))
leftmost_step (below h) = let r = leftmost_step h in (0 ∷ r.0, ap (beta_steps.under 0) r.1, ap (option_map lam) r.2)
leftmost_step (before {R = R} {P = P} e h) =
    let r = leftmost_step h in (
      1 ∷ r.0,
      ap (λ b. if b then Some [] else option_or (beta_steps.under 1 (leftmost R))
          (beta_steps.under 2 (leftmost P))) e
          ∙ ap (λ x. option_or (beta_steps.under 1 x) (beta_steps.under 2 (leftmost P))) r.1,
      ap (option_map (λ g. app g P)) r.2,
    )

-- ---- leftmost steps are one

pub same_step : (t : Tree) {u w : Tree} {at bt : List ℕ} → leftmost t ≡ Some at →
    contracted t at ≡ Some u → leftmost t ≡ Some bt → contracted t bt ≡ Some w → u ≡ w
same_step t {u} {w} {at} {bt} e f g h = same_Some u w (sym f ∙ ap (contracted t) (same_Some at bt (sym e ∙ g)) ∙ h)
