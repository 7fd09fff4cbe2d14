-- Head reduction ends in a head normal form, or has no end.
use Rattle.std.proofs.Common.{◌≡◌, ℕ, zero, suc, ◌⊎◌, inl, inr, sym, subst}
use Rattle.ol_law_meaning.specs.Contraction.{Tree, Level, Wire, Place, HeadStep, beta, below, before}
use Rattle.ol_law_meaning.specs.Heads.{Steps, done, step, Spine, head_var, head_free, head_app, Normal, flat, layer}
use Rattle.ol_law_meaning.specs.Shows.{HeadReduces, HasHeadRedex, HeadReducesForever, IsHeadNormal}
use Rattle.ol_law_meaning.proofs.LeftmostSteps.{leftmost_step, same_step}
use Rattle.ol_law_meaning.proofs.HeadSteps.{has_redex, redex_step, reduces, as_steps}
use Rattle.ol_law_meaning.proofs.Walking.{normal_or_step}
use Rattle.ol_law_meaning.proofs.Shapes.{normal_is, normal_of}

-- a term has one head step
pub one_step : {t a b : Tree} → HeadStep t a → HeadStep t b → a ≡ b
one_step {t} {a} {b} g h =
    let x = leftmost_step g in
    let y = leftmost_step h in
    same_step t x.1 x.2 y.1 y.2

-- ---- a head normal form has none

pub spine_stops : {t v : Tree} {y : Wire} {a : Level} {j : ℕ} → Spine t y a j → HeadStep t v → ⊥
spine_stops {v = v} (head_var {y = y}) x6 = elim x6 [ ]
spine_stops {v = v} (head_free {f = f}) x7 = elim x7 [ ]
spine_stops (head_app {P = P} {y = y} {a = a} {w = w} {j = j} s e) (beta {M = M}) = elim s [ ]
spine_stops (head_app s e) (before f h) = spine_stops s h

pub normal_stops : {t v : Tree} {q : Place} {a : Level} {j : ℕ} → Normal t q a j → HeadStep t v → ⊥
normal_stops (flat s) h = spine_stops s h
normal_stops (layer k o) (below h) = normal_stops k h

-- ---- without end

-- what comes to no head normal form goes on
pub forever : (t : Tree) → ((u : Tree) → HeadReduces t u → IsHeadNormal u → ⊥) → HeadReducesForever t
forever t f u r = by (normal_or_step u)
  where
    by : ((q : Place) × (a : Level) × (j : ℕ) × Normal u q a j) ⊎ ((v : Tree) × HeadStep u v) →
        HasHeadRedex u
    by (inl k) = absurd (f u r (normal_is k.3))
    by (inr k) = has_redex k.1

-- and what goes on comes to none
pub comes_to_none : (t u : Tree) → HeadReducesForever t → HeadReduces t u → IsHeadNormal u → ⊥
comes_to_none t u f r n = normal_stops (normal_of n).3 (redex_step (f u r)).1

-- ---- any number of steps

last_step : {t u v : Tree} {m : ℕ} → Steps t u m → HeadStep u v → Steps t v (suc m)
last_step done h = step h done
last_step (step g s) h = step g (last_step s h)

pub any_number : {t : Tree} → HeadReducesForever t → (m : ℕ) → (u : Tree) × Steps t u m
any_number {t} f zero = (t, done)
any_number f (suc m) =
    let r = any_number f m in
    let h = redex_step (f r.0 (reduces r.1)) in
    (h.0, last_step r.1 h.1)

-- so many steps, and one more
goes_on : {t u w : Tree} {m : ℕ} → Steps t u m → Steps t w (suc m) → (v : Tree) × HeadStep u v
goes_on done (step {t' = v} h s) = (v, h)
goes_on (step {t' = a} g s) (step {t' = b} {u = w} {m = m} h r) = goes_on s
    (subst (λ a. Steps a w m) (sym (one_step g h)) r)

pub never_ends : {t : Tree} → ((m : ℕ) → (u : Tree) × Steps t u m) → HeadReducesForever t
never_ends f u r =
    let s = as_steps r in
    let w = f (suc s.0) in
    has_redex (goes_on s.1 w.1).1
