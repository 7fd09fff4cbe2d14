-- Normal forms, one leftmost step more.
use Rattle.std.proofs.Common.{◌≡◌, ℕ, ◌+◌, List, [], ◌∷◌, Option, Some, None, refl, sym, ap, ◌∙◌, subst, arith}
use Rattle.std.specs.Prelude.{◌≢◌, ◌↔◌, Bool, true, false, not}
use Rattle.ol_term.specs.Trees.{Tree}
use Rattle.ol_beta.specs.Beta.{contracted, IsWithin, IsPastAfter}
use Rattle.ol_beta.specs.Leftmost.{leftmost}
use Rattle.ol_beta.specs.Roads.{RoadLeads}
use Rattle.ol_beta.proofs.Onward.{past_within}
use Rattle.ol_derivations.specs.NormalForms.{ReducesTo, DifferInNormalForm}
use Rattle.ol_derivations.specs.StepsFound.{IsNormalFound}

-- a term without a redex is its own normal form
pub normal_here : (n : ℕ) (t : Tree) → IsWithin t → leftmost t ≡ None → ReducesTo n t t
normal_here n t w e = ([], record { leads = refl; few = omega arith; within = w; none = e })

-- a term with a redex has none without a step
pub not_at_once : (t v : Tree) (at : List ℕ) (n : ℕ) → n ≡ 0 → leftmost t ≡ Some at → ReducesTo n t v → ⊥
not_at_once t v at n z l ([], h) =
    let e : leftmost t ≡ None = ap leftmost h.leads ∙ h.none in absurd (cc)
not_at_once t v at n z l (b ∷ road, h) = let f = h.few in absurd (omega arith)

reached_within : (t v : Tree) (road : List (List ℕ)) → RoadLeads t road v → IsWithin v → IsWithin t
reached_within t v [] h w = subst IsWithin (sym h) w
reached_within t v (b ∷ road) h w = h.0

-- where a leftmost step is made, both lead to the same
pub step_on : (t u v : Tree) (at : List ℕ) (n : ℕ) → leftmost t ≡ Some at → contracted t at ≡ Some u →
    ReducesTo (n + 1) t v → ReducesTo n u v
step_on t u v at n l c ([], h) =
    let e : leftmost t ≡ None = ap leftmost h.leads ∙ h.none in absurd (cc)
step_on t u v at n l c (b ∷ road, h) =
    let k = h.leads in
    let f = h.few in
    let same : b ≡ at = cc (k.1, l) in
    let one : k.2.0 ≡ u = cc (k.2.1.0, c, same) in (
      road,
      record {
        leads = subst (λ (x : Tree). RoadLeads x road v) one k.2.1.1;
        few = omega arith;
        within = h.within;
        none = h.none;
      },
    )

pub step_back : (t u v : Tree) (at : List ℕ) (n : ℕ) → IsWithin t → leftmost t ≡ Some at → contracted t at ≡ Some u →
    ReducesTo n u v → ReducesTo (n + 1) t v
step_back t u v at n w l c (road, h) =
    let f = h.few in (
      at ∷ road,
      record {
        leads = (w, l, (u, (c, h.leads)));
        few = omega arith;
        within = h.within;
        none = h.none;
      },
    )

-- a step out of bounds leads nowhere
pub past_nowhere : (t v : Tree) (at : List ℕ) (n size deep : ℕ) → leftmost t ≡ Some at →
    IsPastAfter t at size deep → ReducesTo n t v → ⊥
past_nowhere t v at n size deep l p ([], h) =
    let e : leftmost t ≡ None = ap leftmost h.leads ∙ h.none in absurd (cc)
past_nowhere t v at n size deep l p (b ∷ road, h) =
    let k = h.leads in
    let same : b ≡ at = cc (k.1, l) in
    let pis = p.is in
    let one : k.2.0 ≡ p.after = cc (k.2.1.0, pis, same) in
    past_within p.after p.past
    (subst IsWithin one (reached_within k.2.0 v road k.2.1.1 h.within))

-- ---- what a loop keeps: both have the same normal forms

abbrev pub Agree : ℕ → Tree → ℕ → Tree → Type 0
Agree n t m u = (v : Tree) → ReducesTo n t v ↔ ReducesTo m u v

pub agree_first : (n : ℕ) (t : Tree) → Agree n t n t
agree_first n t v = (λ h. h, λ h. h)

pub agree_on : (n m k : ℕ) (t u w : Tree) (at : List ℕ) → m ≡ k + 1 → IsWithin u → leftmost u ≡ Some at →
    contracted u at ≡ Some w → Agree n t m u → Agree n t k w
agree_on n m k t u w at e i l c a v = (
  λ h. step_on u w v at k l c (subst (λ m. ReducesTo m u v) e ((a v).0 h)),
  λ h. (a v).1 (subst (λ m. ReducesTo m u v) (sym e) (step_back u w v at k i l c h)),
)

-- its own normal form alone
own_alone : (n : ℕ) (t v : Tree) → leftmost t ≡ None → ReducesTo n t v → v ≡ t
own_alone n t v e ([], h) = sym h.leads
own_alone n t v e (b ∷ road, h) = let k = h.leads.1 in absurd (cc)

pub found_here : (n m : ℕ) (t u : Tree) → IsWithin u → leftmost u ≡ None → Agree n t m u →
    IsNormalFound n t (Some u)
found_here n m t u i e a = ((a u).1 (normal_here m u i e), λ v h. own_alone m u v e ((a v).0 h))

pub found_none : (n m : ℕ) (t u : Tree) (at : List ℕ) → m ≡ 0 → leftmost u ≡ Some at → Agree n t m u →
    IsNormalFound n t None
found_none n m t u at z l a = λ v h. not_at_once u v at m z l ((a v).0 h)

pub found_past : (n m size deep : ℕ) (t u : Tree) (at : List ℕ) → leftmost u ≡ Some at →
    IsPastAfter u at size deep → Agree n t m u → IsNormalFound n t None
found_past n m size deep t u at l p a = λ v h. past_nowhere u v at m size deep l p ((a v).0 h)

-- ---- two terms

pub differ_found : (n : ℕ) (t u v w : Tree) → IsNormalFound n t (Some v) → IsNormalFound n u (Some w) → v ≢ w →
    DifferInNormalForm n t u
differ_found n t u v w h k d = record { first = v; second = w; of_first = h.0; of_second = k.0; differ = d }

pub agree_found : (n : ℕ) (t u v w : Tree) → IsNormalFound n t (Some v) → IsNormalFound n u (Some w) → v ≡ w →
    DifferInNormalForm n t u → ⊥
agree_found n t u v w h k e d = d.differ (h.1 d.first d.of_first ∙ e ∙ sym (k.1 d.second d.of_second))

pub first_unknown : (n : ℕ) (t u : Tree) → IsNormalFound n t None → DifferInNormalForm n t u → ⊥
first_unknown n t u h d = h d.first d.of_first

pub second_unknown : (n : ℕ) (t u : Tree) → IsNormalFound n u None → DifferInNormalForm n t u → ⊥
second_unknown n t u h d = h d.second d.of_second

pub found_on : (n k : ℕ) (t w : Tree) (o : Option Tree) → Agree n t k w → IsNormalFound k w o → IsNormalFound n t o
found_on n k t w None a h = λ v g. h v ((a v).0 g)
found_on n k t w (Some x) a h = ((a x).1 h.0, λ v g. h.1 v ((a v).0 g))

-- ---- what is found of two terms

clash : false ≡ true → ⊥
clash h = absurd (cc)

pub no_first : (n : ℕ) (t u : Tree) (o : Option Tree) → o ≡ None → IsNormalFound n t o →
    (false ≡ true) ↔ DifferInNormalForm n t u
no_first n t u o e h = (λ f. absurd (clash f), λ d. absurd (first_unknown n t u (subst (IsNormalFound n t) e h) d))

pub no_second : (n : ℕ) (t u : Tree) (o : Option Tree) → o ≡ None → IsNormalFound n u o →
    (false ≡ true) ↔ DifferInNormalForm n t u
no_second n t u o e h = (λ f. absurd (clash f), λ d. absurd (second_unknown n t u (subst (IsNormalFound n u) e h) d))

pub both_found : (n : ℕ) (t u v w : Tree) (o p : Option Tree) (same : Bool) → o ≡ Some v → p ≡ Some w →
    IsNormalFound n t o → IsNormalFound n u p → ((same ≡ true) ↔ (v ≡ w)) →
    (not same ≡ true) ↔ DifferInNormalForm n t u
both_found n t u v w o p true e f h k s = (
  λ b. absurd (clash b),
  λ d. absurd (agree_found n t u v w (subst (IsNormalFound n t) e h) (subst (IsNormalFound n u) f k) (s.0 refl) d),
)
both_found n t u v w o p false e f h k s = (
  λ b. differ_found n t u v w (subst (IsNormalFound n t) e h) (subst (IsNormalFound n u) f k)
      (λ same. clash (s.1 same)),
  λ d. refl,
)
