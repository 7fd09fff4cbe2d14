-- Reductions of a term with other numbers for its free names.
use Rattle.std.proofs.Common.{◌≡◌, ℕ, zero, suc, ◌+◌, ◌*◌, ◌^◌, ◌≤◌, if◌then◌else◌, List, [], ◌∷◌, length, Option, Some}
use Rattle.std.proofs.Common.{None, refl, sym, ap, ◌∙◌, subst, pow-suc, pow_pos, arith}
use Rattle.ol_beta.specs.Beta.{substituted}
use Rattle.std.specs.Option.{option_or}
use Rattle.ol_beta.specs.Leftmost.{leftmost, is_abstraction, IsNormal}
use Rattle.ol_beta.specs.Leftmost as beta_steps
use Rattle.ol_beta.proofs.Redexes.{no_leftmost}
use Rattle.ol_readback.specs.Terms.{abstracted}
use Rattle.ol_law_meaning.specs.Contraction.{Tree, var, free, lam, app, lift, without, put, subst_for}
use Rattle.ol_law_meaning.specs.Contraction.{HeadStep, beta, below, before}
use Rattle.ol_law_meaning.specs.Heads.{Steps, done, step}
use Rattle.ol_law_meaning.specs.Shows.{ready, contract, BetaReduces, HeadReducesForever, applied}
use Rattle.ol_law_meaning.proofs.LeftmostSteps.{subst_is}
use Rattle.ol_law_meaning.proofs.Endless.{any_number, never_ends}
use Rattle.ol_law_meaning.proofs.LeftmostRoads.{then_leads}
use Rattle.ol_law_meaning.proofs.Endings.{no_redex}
use Rattle.ol_law_confluence.specs.Reductions.{Parallel, of_var, of_free, of_lam, of_app, of_redex}
use Rattle.ol_law_confluence.specs.Compared.{number_of, renamed}
use Rattle.ol_law_confluence.proofs.Contractions.{contraction_step, parallel_beta}

module _ (f : ℕ → ℕ) where
  renamed_lift : (t : Tree) (d i : ℕ) → renamed f (lift d i t) ≡ lift d i (renamed f t)
  renamed_lift (var y) d i = refl
  renamed_lift (free k) d i = refl
  renamed_lift (lam t) d i = ap lam (renamed_lift t (suc d) i)
  renamed_lift (app t u) d i = λ j. app (renamed_lift t d i j) (renamed_lift u d i j)

  renamed_put : (i : ℕ) (N : Tree) (r : Option ℕ) → renamed f (put i N r) ≡ put i (renamed f N) r
  renamed_put i N None = renamed_lift N 0 i
  renamed_put i N (Some y) = refl

  renamed_subst : (t : Tree) (i : ℕ) (N : Tree) →
      renamed f (subst_for i N t) ≡ subst_for i (renamed f N) (renamed f t)
  renamed_subst (var y) i N = renamed_put i N (without i y)
  renamed_subst (free k) i N = refl
  renamed_subst (lam t) i N = ap lam (renamed_subst t (suc i) N)
  renamed_subst (app t u) i N = λ j. app (renamed_subst t i N j) (renamed_subst u i N j)

  renamed_substituted : (N t : Tree) →
      renamed f (substituted N 0 t) ≡ substituted (renamed f N) 0 (renamed f t)
  renamed_substituted N t =
      ap (renamed f) (sym (subst_is t N 0)) ∙ renamed_subst t 0 N
      ∙ subst_is (renamed f t) (renamed f N) 0

  renamed_parallel : {t u : Tree} → Parallel t u → Parallel (renamed f t) (renamed f u)
  renamed_parallel of_var = of_var
  renamed_parallel of_free = of_free
  renamed_parallel (of_lam p) = of_lam (renamed_parallel p)
  renamed_parallel (of_app p q) = of_app (renamed_parallel p) (renamed_parallel q)
  renamed_parallel (of_redex {M = M} {M' = M'} {N = N} {N' = N'} p q) =
      subst (λ u. Parallel (renamed f (app (lam M) N)) u) (sym (renamed_substituted N' M'))
      (of_redex (renamed_parallel p) (renamed_parallel q))

  pub renamed_beta : {t u : Tree} → BetaReduces t u → BetaReduces (renamed f t) (renamed f u)
  renamed_beta ready = ready
  renamed_beta (contract {t = t} {u = u} {at = at} c e l) =
      then_leads (parallel_beta (renamed_parallel (contraction_step t at u e))) (renamed_beta l)

  -- ---- head steps

  renamed_plain : (t : Tree) → is_abstraction (renamed f t) ≡ is_abstraction t
  renamed_plain (var y) = refl
  renamed_plain (free k) = refl
  renamed_plain (lam t) = refl
  renamed_plain (app t u) = refl

  renamed_step : {t u : Tree} → HeadStep t u → HeadStep (renamed f t) (renamed f u)
  renamed_step (beta {M = M} {N = N}) =
      subst (λ u. HeadStep (renamed f (app (lam M) N)) u) (sym (renamed_subst M 0 N)) beta
  renamed_step (below h) = below (renamed_step h)
  renamed_step (before {R = R} e h) = before (renamed_plain R ∙ e) (renamed_step h)

  renamed_steps : {t u : Tree} {m : ℕ} → Steps t u m → Steps (renamed f t) (renamed f u) m
  renamed_steps done = done
  renamed_steps (step h s) = step (renamed_step h) (renamed_steps s)

  pub renamed_forever : (t : Tree) → HeadReducesForever t → HeadReducesForever (renamed f t)
  renamed_forever t h =
      never_ends (λ m. (let r = any_number h m in (renamed f r.0, renamed_steps r.1)))

  -- ---- normal forms

  renamed_leftmost : (t : Tree) → leftmost (renamed f t) ≡ leftmost t
  renamed_leftmost (var y) = refl
  renamed_leftmost (free k) = refl
  renamed_leftmost (lam t) = ap (beta_steps.under 0) (renamed_leftmost t)
  renamed_leftmost (app t u) =
      λ i. if renamed_plain t i then Some [] else option_or
      (beta_steps.under 1 (renamed_leftmost t i)) (beta_steps.under 2 (renamed_leftmost u i))

  pub renamed_normal : (t : Tree) → IsNormal t → IsNormal (renamed f t)
  renamed_normal t n = no_leftmost (renamed f t) (renamed_leftmost t ∙ no_redex t n)

  -- ---- head normal forms

  abbrev pub renamed_all : List Tree → List Tree
  renamed_all [] = []
  renamed_all (P ∷ Ps) = renamed f P ∷ renamed_all Ps

  pub renamed_length : (Ps : List Tree) → length (renamed_all Ps) ≡ length Ps
  renamed_length [] = refl
  renamed_length (P ∷ Ps) = ap suc (renamed_length Ps)

  renamed_applied : (Ps : List Tree) (h : Tree) →
      renamed f (applied h Ps) ≡ applied (renamed f h) (renamed_all Ps)
  renamed_applied [] h = refl
  renamed_applied (P ∷ Ps) h = renamed_applied Ps (app h P)

  pub renamed_abstracted : (l : ℕ) (t : Tree) →
      renamed f (abstracted l t) ≡ abstracted l (renamed f t)
  renamed_abstracted zero t = refl
  renamed_abstracted (suc l) t = ap lam (renamed_abstracted l t)

  pub renamed_head_normal : (l : ℕ) (h : Tree) (Ps : List Tree) →
      renamed f (abstracted l (applied h Ps)) ≡ abstracted l
      (applied (renamed f h) (renamed_all Ps))
  renamed_head_normal l h Ps =
      renamed_abstracted l (applied h Ps) ∙ ap (abstracted l) (renamed_applied Ps h)

-- ---- numbers of names

odd_part : (x y m n : ℕ) → 2 ^ x * (2 * m + 1) ≡ 2 ^ y * (2 * n + 1) → (x ≡ y) × (m ≡ n)
odd_part zero zero m n e = (refl, omega arith)
odd_part zero (suc y) m n e =
    let k : 2 * m + 1 ≡ 2 * (2 ^ y * (2 * n + 1)) =
    (let a : 2 * m + 1 ≡ 1 * (2 * m + 1) = omega arith in a) ∙ e
    ∙ ap (λ p. p * (2 * n + 1)) (pow-suc 2 y)
    ∙ (let a : 2 ^ y * 2 * (2 * n + 1) ≡ 2 * (2 ^ y * (2 * n + 1)) = omega arith in a) in
    absurd (omega arith)
odd_part (suc x) zero m n e =
    let k : 2 * n + 1 ≡ 2 * (2 ^ x * (2 * m + 1)) =
    (let a : 2 * n + 1 ≡ 1 * (2 * n + 1) = omega arith in a) ∙ sym e
    ∙ ap (λ p. p * (2 * m + 1)) (pow-suc 2 x)
    ∙ (let a : 2 ^ x * 2 * (2 * m + 1) ≡ 2 * (2 ^ x * (2 * m + 1)) = omega arith in a) in
    absurd (omega arith)
odd_part (suc x) (suc y) m n e =
    let a : 2 ^ suc x * (2 * m + 1) ≡ 2 * (2 ^ x * (2 * m + 1)) =
    ap (λ p. p * (2 * m + 1)) (pow-suc 2 x)
    ∙ (let a : 2 ^ x * 2 * (2 * m + 1) ≡ 2 * (2 ^ x * (2 * m + 1)) = omega arith in a) in
    let b : 2 ^ suc y * (2 * n + 1) ≡ 2 * (2 ^ y * (2 * n + 1)) =
    ap (λ p. p * (2 * n + 1)) (pow-suc 2 y)
    ∙ (let a : 2 ^ y * 2 * (2 * n + 1) ≡ 2 * (2 ^ y * (2 * n + 1)) = omega arith in a) in
    let k : 2 * (2 ^ x * (2 * m + 1)) ≡ 2 * (2 ^ y * (2 * n + 1)) = sym a ∙ e ∙ b in
    let r = odd_part x y m n (omega arith) in
    (ap suc r.0, r.1)

some_number : (x : ℕ) (xs : List ℕ) → number_of (x ∷ xs) ≡ 0 → ⊥
some_number x xs e =
    let p : 1 ≤ 2 ^ x = pow_pos x in
    let q : 2 ^ x * (2 * number_of xs + 1) ≡ 0 = e in
    let r : 2 ^ x * (2 * number_of xs + 1) ≡ 2 ^ x * number_of xs * 2 + 2 ^ x = omega arith in
    absurd (omega arith)

pub number_of_one : (xs ys : List ℕ) → number_of xs ≡ number_of ys → xs ≡ ys
number_of_one [] [] e = refl
number_of_one [] (y ∷ ys) e = absurd (some_number y ys (sym e))
number_of_one (x ∷ xs) [] e = absurd (some_number x xs e)
number_of_one (x ∷ xs) (y ∷ ys) e =
    let r = odd_part x y (number_of xs) (number_of ys) e in
    (λ i. r.0 i ∷ number_of_one xs ys r.1 i)
