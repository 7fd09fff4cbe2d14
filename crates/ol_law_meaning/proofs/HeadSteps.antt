-- A head step is contraction at a head address, both ways: so rows of head steps are head reduction.
use Rattle.std.proofs.Common.{◌≡◌, ℕ, zero, suc, false, List, [], ◌∷◌, ◌++◌, replicate, Option}
use Rattle.std.proofs.Common.{Some, None, IsSome, refl, sym, ap, ◌∙◌, subst}
use Rattle.std.specs.Option.{option_map}
use Rattle.ol_beta.specs.Beta.{substituted, contracted}
use Rattle.ol_beta.specs.Leftmost.{is_abstraction}
use Rattle.ol_law_meaning.specs.Contraction.{Tree, var, free, lam, app, HeadStep, beta, below, before}
use Rattle.ol_law_meaning.specs.Heads.{Steps, done, step}
use Rattle.ol_law_meaning.specs.Shows.{ready, contract, IsHeadAddress, HeadReduces, HasHeadRedex}
use Rattle.ol_law_meaning.proofs.LeftmostSteps.{subst_is}
use Rattle.ol_law_edges.proofs.Options.{mapped}

-- ---- a head step is contraction at a head address

-- that of no abstraction by moves into functions alone
function_moves : {t u : Tree} → is_abstraction t ≡ false → HeadStep t u →
    (k : ℕ) × (contracted t (replicate k 1) ≡ Some u)
function_moves n (beta {M = M} {N = N}) = (0, ap Some (sym (subst_is M N 0)))
function_moves n (below h) = absurd (cc)
function_moves n (before {P = P} e h) =
    let r = function_moves e h in (suc r.0, ap (option_map (λ g. app g P)) r.1)

pub contraction : {t u : Tree} → HeadStep t u →
    (at : List ℕ) × IsHeadAddress at × (contracted t at ≡ Some u)
contraction (beta {M = M} {N = N}) = ([], (0, 0, refl), ap Some (sym (subst_is M N 0)))
contraction (below h) =
    let r = contraction h in
    (0 ∷ r.0, (suc r.1.0, r.1.1, ap (λ at. 0 ∷ at) r.1.2), ap (option_map lam) r.2)
contraction (before {P = P} e h) =
    let r = function_moves e h in
    (replicate (suc r.0) 1, (0, suc r.0, refl), ap (option_map (λ g. app g P)) r.1)

-- ---- contraction at a head address is a head step

-- moves into functions lead to no redex from an abstraction
plain : (k : ℕ) (t u : Tree) → contracted t (replicate k 1) ≡ Some u → is_abstraction t ≡ false
plain zero (lam t) u e = absurd (cc)
plain (suc k) (lam t) u e = absurd (cc)
plain k (var y) u e = refl
plain k (free f) u e = refl
plain k (app f a) u e = refl

by_functions : (k : ℕ) (t u : Tree) → contracted t (replicate k 1) ≡ Some u → HeadStep t u
by_functions zero (var y) u e = absurd (cc)
by_functions zero (free f) u e = absurd (cc)
by_functions zero (lam t) u e = absurd (cc)
by_functions zero (app (var y) a) u e = absurd (cc)
by_functions zero (app (free f) a) u e = absurd (cc)
by_functions zero (app (lam M) a) u e =
    let q : substituted a 0 M ≡ u = cc in
    subst (HeadStep (app (lam M) a)) (subst_is M a 0 ∙ q) beta
by_functions zero (app (app f b) a) u e = absurd (cc)
by_functions (suc k) (var y) u e = absurd (cc)
by_functions (suc k) (free f) u e = absurd (cc)
by_functions (suc k) (lam t) u e = absurd (cc)
by_functions (suc k) (app f a) u e =
    let r = mapped (λ g. app g a) (contracted f (replicate k 1)) u e in
    subst (HeadStep (app f a)) r.2 (before (plain k f r.0 r.1) (by_functions k f r.0 r.1))

by_bodies : (n k : ℕ) (t u : Tree) → contracted t (replicate n 0 ++ replicate k 1) ≡ Some u →
    HeadStep t u
by_bodies zero k t u e = by_functions k t u e
by_bodies (suc n) k (var y) u e = absurd (cc)
by_bodies (suc n) k (free f) u e = absurd (cc)
by_bodies (suc n) k (lam t) u e =
    let r = mapped lam (contracted t (replicate n 0 ++ replicate k 1)) u e in
    subst (HeadStep (lam t)) r.2 (below (by_bodies n k t r.0 r.1))
by_bodies (suc n) k (app f a) u e = absurd (cc)

pub step_of : {t u : Tree} {at : List ℕ} → IsHeadAddress at → contracted t at ≡ Some u → HeadStep t u
step_of {t} {u} h e = by_bodies h.0 h.1 t u (subst (λ at. contracted t at ≡ Some u) h.2 e)

-- ---- a head redex that is there

pub has_redex : {t u : Tree} → HeadStep t u → HasHeadRedex t
has_redex h = let r = contraction h in (r.0, r.1, subst IsSome (sym r.2) refl)

pub redex_step : {t : Tree} → HasHeadRedex t → (u : Tree) × HeadStep t u
redex_step {t} r = by (contracted t r.0) refl r.2
  where
    by : (o : Option Tree) → contracted t r.0 ≡ o → IsSome o → (u : Tree) × HeadStep t u
    by None e h = absurd (cc)
    by (Some u) e h = (u, step_of r.1 e)

-- ---- rows of head steps

pub step_then : {t u v : Tree} → HeadStep t u → HeadReduces u v → HeadReduces t v
step_then h l = let r = contraction h in contract {at = r.0} r.1 r.2 l

pub reduces : {t u : Tree} {m : ℕ} → Steps t u m → HeadReduces t u
reduces done = ready
reduces (step h s) = step_then h (reduces s)

pub as_steps : {t u : Tree} → HeadReduces t u → (m : ℕ) × Steps t u m
as_steps ready = (0, done)
as_steps (contract c e l) = let r = as_steps l in (suc r.0, step (step_of c e) r.1)
