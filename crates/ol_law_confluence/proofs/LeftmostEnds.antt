-- Standard reduction to a normal form is leftmost reduction.
use Rattle.std.proofs.Common.{◌≡◌, ℕ, Bool, true, false, List, [], ◌∷◌, Option, Some, None, refl, sym, ap, ◌∙◌, subst}
use Rattle.std.specs.Prelude.{◌==◌, if◌then◌else◌}
use Rattle.std.specs.Option.{option_map, option_or}
use Rattle.ol_beta.specs.Beta.{contracted}
use Rattle.ol_beta.specs.Leftmost.{leftmost, is_abstraction, IsNormal}
use Rattle.ol_beta.specs.Leftmost as beta_steps
use Rattle.ol_law_meaning.specs.Contraction.{Tree, var, free, lam, app, HeadStep, beta, before}
use Rattle.ol_law_meaning.specs.Shows.{ready, contract, BetaReduces, LeftmostReduces}
use Rattle.ol_law_meaning.proofs.LeftmostSteps.{leftmost_step, subst_is}
use Rattle.ol_law_meaning.proofs.LeftmostRoads.{then_leads, IsNeutral, arg_leftmost, lam_leads, fun_leftmost}
use Rattle.ol_law_meaning.proofs.Endings.{no_redex}
use Rattle.ol_law_confluence.specs.Reductions.{WeakStep, weak_beta, weak_before, WeakReduces, weak_done}
use Rattle.ol_law_confluence.specs.Reductions.{weak_step, Standard, to_var, to_free, to_lam, to_app}
use Rattle.ol_law_confluence.proofs.Standards.{standardized}
use Rattle.ol_beta.proofs.Redexes.{no_under, no_first}

-- ---- a weak head step is the leftmost one

weak_plain : {t u : Tree} → WeakStep t u → is_abstraction t ≡ false
weak_plain weak_beta = refl
weak_plain (weak_before s) = refl

pub weak_head : {t u : Tree} → WeakStep t u → HeadStep t u
weak_head (weak_beta {M = M} {N = N}) = subst (HeadStep (app (lam M) N)) (subst_is M N 0) beta
weak_head (weak_before s) = before (weak_plain s) (weak_head s)

weak_leads : {t u : Tree} → WeakReduces t u → LeftmostReduces t u
weak_leads weak_done = ready
weak_leads (weak_step s l) = let r = leftmost_step (weak_head s) in contract r.1 r.2 (weak_leads l)

-- ---- within a term

arg_leads : (f : Tree) → IsNeutral f → {t u : Tree} → LeftmostReduces t u →
    LeftmostReduces (app f t) (app f u)
arg_leads f n ready = ready
arg_leads f n (contract {t = t} {at = at} e g l) =
    contract {at = 2 ∷ at} (arg_leftmost f t (Some at) n e) (ap (option_map (app f)) g)
    (arg_leads f n l)

-- an abstraction stays one
map_lam : (o : Option Tree) (u : Tree) → option_map lam o ≡ Some u → is_abstraction u ≡ true
map_lam None u e = absurd (cc)
map_lam (Some t) u e = let k : lam t ≡ u = cc in ap is_abstraction (sym k)

lam_stays : (t : Tree) (at : List ℕ) (u : Tree) → is_abstraction t ≡ true →
    contracted t at ≡ Some u → is_abstraction u ≡ true
lam_stays (var k) at u n e = absurd (cc)
lam_stays (free k) at u n e = absurd (cc)
lam_stays (lam t) [] u n e = absurd (cc)
lam_stays (lam t) (m ∷ at) u n e = go (m == 0) e
  where
    go : (b : Bool) → (if b then option_map lam (contracted t at) else None) ≡ Some u →
        is_abstraction u ≡ true
    go true e = map_lam (contracted t at) u e
    go false e = absurd (cc)
lam_stays (app f c) at u n e = absurd (cc)

lam_ends : {t u : Tree} → LeftmostReduces t u → is_abstraction t ≡ true → is_abstraction u ≡ true
lam_ends ready n = n
lam_ends (contract {t = t} {u = u} {at = at} e f l) n = lam_ends l (lam_stays t at u n f)

-- steps of a function that never becomes an abstraction
fun_leads : (a : Tree) {t u : Tree} → LeftmostReduces t u → is_abstraction u ≡ false →
    LeftmostReduces (app t a) (app u a)
fun_leads a ready n = ready
fun_leads a {u = v} (contract {t = t} {u = u} {at = at} e f l) n =
    go (fun_leads a l n) (is_abstraction t) refl
  where
    go : LeftmostReduces (app u a) (app v a) → (b : Bool) → is_abstraction t ≡ b →
        LeftmostReduces (app t a) (app v a)
    go next true h =
        absurd (let k : true ≡ false = sym (lam_ends l (lam_stays t at u h f)) ∙ n in cc)
    go next false h =
        contract {at = 1 ∷ at} (fun_leftmost t a at h e) (ap (option_map (λ g. app g a)) f) next

-- ---- normal forms

record Parts (f a : Tree) : Type 0 where
  neutral : IsNeutral f
  arg_none : leftmost a ≡ None

parts_none : (f a : Tree) → leftmost (app f a) ≡ None → Parts f a
parts_none f a e = go (is_abstraction f) refl e
  where
    go : (b : Bool) → is_abstraction f ≡ b →
        (if b then Some [] else option_or (beta_steps.under 1 (leftmost f))
        (beta_steps.under 2 (leftmost a))) ≡ None → Parts f a
    go true h e = absurd (cc)
    go false h e =
        let r = no_first (beta_steps.under 1 (leftmost f)) (beta_steps.under 2 (leftmost a)) e in
        record {
          neutral = record { plain = h; none = no_under 1 (leftmost f) r.0 };
          arg_none =
              no_under 2 (leftmost a) r.1;
        }

standard_leads : {t u : Tree} → Standard t u → leftmost u ≡ None → LeftmostReduces t u
standard_leads (to_var w) n = weak_leads w
standard_leads (to_free w) n = weak_leads w
standard_leads (to_lam {M' = M'} w s) n =
    then_leads (weak_leads w) (lam_leads (standard_leads s (no_under 0 (leftmost M') n)))
standard_leads (to_app {M' = M'} {N = N} {N' = N'} w s s') n =
    let p = parts_none M' N' n in
    then_leads (weak_leads w)
    (then_leads (fun_leads N (standard_leads s p.neutral.none) p.neutral.plain)
    (arg_leads M' p.neutral (standard_leads s' p.arg_none)))

pub leftmost_finds : {t v : Tree} → BetaReduces t v → IsNormal v → LeftmostReduces t v
leftmost_finds {v = v} l n = standard_leads (standardized l) (no_redex v n)

pub leftmost_beta : {t u : Tree} → LeftmostReduces t u → BetaReduces t u
leftmost_beta ready = ready
leftmost_beta (contract {at = at} e f l) = contract {at = at} tt f (leftmost_beta l)
