-- A labelled term put in for a variable, as the laws of spots put in a term.
-- Used in Hops and Simulating.
use Rattle.std.proofs.Common.{◌≡◌, ◌≢◌, ℕ, zero, suc, ◌+◌, ◌-◌, ◌<◌, ◌≤◌, ◌==◌, nat_lt, Bool, true, false}
use Rattle.std.proofs.Common.{if◌then◌else◌, Option, Some, None, refl, sym, ap, ◌∙◌, subst, arith}
use Rattle.std.proofs.lemmas.Bool.{eqb-true, eq-eqb, ltb-true, ltb-false}
use Rattle.ol_law_meaning.proofs.Addresses.{without_own}
use Rattle.ol_law_meaning.proofs.LeftmostSteps.{shift_var, kept, lowered}
use Rattle.ol_law_meaning.specs.Contraction.{up_from, without, lift, put, subst_for}
use Rattle.ol_law_optimality.proofs.Erasing.{erased_before}
use Rattle.ol_law_optimality.specs.Labels.{Label, Labelled, var, free, lam, app, before, shifted, substituted, erased}
use Rattle.ol_term.specs.Trees.{Tree}
use Rattle.ol_term.specs.Trees as trees

abbrev pub lifted : ℕ → ℕ → Labelled → Labelled
lifted d i (var y w) = var (up_from d i y) w
lifted d i (free f w) = free f w
lifted d i (lam t w) = lam (lifted (suc d) i t) w
lifted d i (app t u w) = app (lifted d i t) (lifted d i u) w

abbrev pub placed : ℕ → Labelled → Label → Option ℕ → Labelled
placed i c w None = before w (lifted 0 i c)
placed i c w (Some y) = var y w

abbrev pub in_place : ℕ → Labelled → Labelled → Labelled
in_place i c (var y w) = placed i c w (without i y)
in_place i c (free f w) = free f w
in_place i c (lam t w) = lam (in_place (suc i) c t) w
in_place i c (app t u w) = app (in_place i c t) (in_place i c u) w

pub erased_lifted : (t : Labelled) (d i : ℕ) → erased (lifted d i t) ≡ lift d i (erased t)
erased_lifted (var y w) d i = refl
erased_lifted (free f w) d i = refl
erased_lifted (lam t w) d i = ap trees.lam (erased_lifted t (suc d) i)
erased_lifted (app t u w) d i = rw (erased_lifted t d i, erased_lifted u d i) refl

erased_placed : (i : ℕ) (c : Labelled) (w : Label) (y : Option ℕ) → erased (placed i c w y) ≡ put i (erased c) y
erased_placed i c w None = erased_before w (lifted 0 i c) ∙ erased_lifted c 0 i
erased_placed i c w (Some y) = refl

pub erased_in_place : (t c : Labelled) (i : ℕ) → erased (in_place i c t) ≡ subst_for i (erased c) (erased t)
erased_in_place (var y w) c i = erased_placed i c w (without i y)
erased_in_place (free f w) c i = refl
erased_in_place (lam t w) c i = ap trees.lam (erased_in_place t c (suc i))
erased_in_place (app t u w) c i = rw (erased_in_place t c i, erased_in_place u c i) refl

-- ---- it is `substituted`

lift_shift : (t : Labelled) (d i : ℕ) → lifted d i t ≡ shifted i d t
lift_shift (var y w) d i = ap (λ y. var y w) (shift_var d i y (nat_lt y d) refl)
lift_shift (free f w) d i = refl
lift_shift (lam t w) d i = ap (λ t. lam t w) (lift_shift t (suc d) i
    ∙ ap (λ d. shifted i d t) (let e : suc d ≡ d + 1 = omega arith in e))
lift_shift (app t u w) d i = ap (λ t. app t (lifted d i u) w) (lift_shift t d i) ∙ ap (λ u. app (shifted i d t) u w) (lift_shift u d i)

put_var : (c : Labelled) (w : Label) (i y : ℕ) (b e : Bool) → nat_lt y i ≡ b → (y == i) ≡ e →
    placed i c w (without i y) ≡ (if b then var y w else if e then before w (shifted i 0 c) else var (y - 1) w)
put_var c w i y true e h f = ap (placed i c w) (kept i y (ltb-true y i h))
put_var c w i y false true h f = ap (placed i c w)
    (subst (λ j. without j y ≡ None) (eqb-true y i f) (without_own y)) ∙ ap (before w) (lift_shift c 0 i)
put_var c w i y false false e f =
    let h : i ≤ y = ltb-false y i e in
    let n : y ≢ i = λ q. (let k : true ≡ false = sym (eq-eqb y i q) ∙ f in absurd (cc)) in
    ap (placed i c w) (lowered i y (omega arith))

pub in_place_is : (t c : Labelled) (i : ℕ) → in_place i c t ≡ substituted c i t
in_place_is (var y w) c i = put_var c w i y (nat_lt y i) (y == i) refl refl
in_place_is (free f w) c i = refl
in_place_is (lam t w) c i = ap (λ t. lam t w) (in_place_is t c (suc i)
    ∙ ap (λ i. substituted c i t) (let e : suc i ≡ i + 1 = omega arith in e))
in_place_is (app t u w) c i = ap (λ t. app t (in_place i c u) w) (in_place_is t c i)
    ∙ ap (λ u. app (substituted c i t) u w) (in_place_is u c i)
