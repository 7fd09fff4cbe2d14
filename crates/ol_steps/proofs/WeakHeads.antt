-- Where weak head reduction has no end, there is no weak head normal form.
use Rattle.std.proofs.Common.{◌≡◌, ℕ, zero, suc, Bool, false, List, [], ◌∷◌, Option, Some, None, IsSome}
use Rattle.std.proofs.Common.{refl, sym, ap, ◌∙◌, subst}
use Rattle.std.specs.Prelude.{if◌then◌else◌}
use Rattle.std.specs.Option.{option_map}
use Rattle.ol_term.specs.Trees.{Tree, var, free, lam, app}
use Rattle.ol_beta.specs.Leftmost.{is_abstraction, under}
use Rattle.ol_law_confluence.specs.Reductions.{WeakStep, weak_beta, weak_before, WeakReduces, weak_done, weak_step}
use Rattle.ol_law_confluence.specs.Reductions.{Standard, to_var, to_free, to_lam, to_app}
use Rattle.ol_law_confluence.proofs.Standards.{standardized}
use Rattle.ol_strategies.specs.Redexes.{weak_head_redex}
use Rattle.ol_strategies.specs.Reductions.{IsStep, Leads}
use Rattle.ol_strategies.specs.declared.orders.Order.TheVariants as order
use Rattle.ol_strategies.specs.declared.orders.Reached.TheVariants as word
use Rattle.ol_strategies.proofs.Finals.{no_next_is_end}
use Rattle.ol_steps.specs.StepLaws.{HasNoEnd, HasWeakHeadNormalForm}

abbrev IsWeakStep : Tree → Tree → Type 0
IsWeakStep t u = IsStep order.WeakHead t u

abbrev WeakLeads : ℕ → Tree → Tree → Type 0
WeakLeads n t u = Leads order.WeakHead n t u

no_some : (at : List ℕ) → None ≡ Some at → ⊥
no_some at e = absurd (cc)

-- a step of a function is one of its application
before : (M M' N : Tree) → IsWeakStep M M' → IsWeakStep (app M N) (app M' N)
before (var y) M' N s = absurd (no_some s.0 s.1)
before (free f) M' N s = absurd (no_some s.0 s.1)
before (lam M) M' N s = absurd (no_some s.0 s.1)
before (app f a) M' N s = (
  1 ∷ s.0,
  ap (λ (o : Option (List ℕ)). under 1 o) s.1,
  ap (λ (o : Option Tree). option_map (λ (g : Tree). app g N) o) s.2,
)

is_step : {t u : Tree} → WeakStep t u → IsWeakStep t u
is_step (weak_beta {M = M} {N = N}) = ([], refl, refl)
is_step (weak_before {M = M} {M' = M'} {N = N} s) = before M M' N (is_step s)

weak_leads : {t u : Tree} → WeakReduces t u → (n : ℕ) × WeakLeads n t u
weak_leads weak_done = (0, refl)
weak_leads (weak_step {u = x} s r) = let l = weak_leads r in (suc l.0, (x, is_step s, l.1))

leads_before : (n : ℕ) (M M' N : Tree) → WeakLeads n M M' → WeakLeads n (app M N) (app M' N)
leads_before zero M M' N e = ap (λ (f : Tree). app f N) e
leads_before (suc n) M M' N l = (app l.0 N, before M l.0 N l.1, leads_before n l.0 M' N l.2)

both : (n m : ℕ) (t u v : Tree) → WeakLeads n t u → WeakLeads m u v → (k : ℕ) × WeakLeads k t v
both zero m t u v e l = (m, subst (λ (x : Tree). WeakLeads m x v) (sym e) l)
both (suc n) m t u v k l = let r = both n m k.0 u v k.2 l in (suc r.0, (k.0, k.1, r.1))

-- Weak head reduction leads to a term where it ends, which is no abstraction if v is none.
record WeakEnds (t v : Tree) : Type 0 where
  steps : ℕ
  form : Tree
  leads : WeakLeads steps t form
  ended : weak_head_redex form ≡ None
  plain : is_abstraction v ≡ false → is_abstraction form ≡ false

-- an application without a weak head redex
parts : (M N : Tree) → weak_head_redex (app M N) ≡ None → (is_abstraction M ≡ false) × (weak_head_redex M ≡ None)
parts (var y) N e = (refl, refl)
parts (free f) N e = (refl, refl)
parts (lam M) N e = absurd (cc)
parts (app f a) N e = (refl, go (weak_head_redex (app f a)) e)
  where
    go : (o : Option (List ℕ)) → under 1 o ≡ None → o ≡ None
    go None e = refl
    go (Some at) e = absurd (cc)

-- and the other way round
whole : (M N : Tree) → is_abstraction M ≡ false → weak_head_redex M ≡ None → weak_head_redex (app M N) ≡ None
whole M N p e = ap (λ (b : Bool). if b then Some [] else under 1 (weak_head_redex M)) p
    ∙ ap (λ (o : Option (List ℕ)). under 1 o) e

ends : {t v : Tree} → Standard t v → weak_head_redex v ≡ None → WeakEnds t v
ends (to_var {y = y} r) e = let l = weak_leads r in
    record { steps = l.0; form = var y; leads = l.1; ended = refl; plain = λ p. refl }
ends (to_free {f = f} r) e = let l = weak_leads r in
    record { steps = l.0; form = free f; leads = l.1; ended = refl; plain = λ p. refl }
ends (to_lam {M = M} r s) e = let l = weak_leads r in
    record { steps = l.0; form = lam M; leads = l.1; ended = refl; plain = λ p. p }
ends {t} (to_app {M = M} {M' = M'} {N = N} {N' = N'} r s q) e =
    let l = weak_leads r in
    let p = parts M' N' e in
    let m = ends s p.1 in
    let on = both l.0 m.steps t (app M N) (app m.form N) l.1 (leads_before m.steps M m.form N m.leads) in
    record {
      steps = on.0;
      form = app m.form N;
      leads = on.1;
      ended = whole m.form N (m.plain p.0) m.ended;
      plain = λ p. refl;
    }

ended_some : (o : Option (List ℕ)) → o ≡ None → IsSome o → ⊥
ended_some None e h = absurd (cc)
ended_some (Some at) e h = absurd (cc)

pub weak_none : (t : Tree) → HasNoEnd order.WeakHead t → HasWeakHeadNormalForm t → ⊥
weak_none t h has =
    let none = (no_next_is_end order.WeakHead has.form).1 (word.WeakHeadNormal, has.is_weak_head_normal) in
    let end = ends (standardized has.reduces) none in
    ended_some (weak_head_redex end.form) end.ended (h end.steps end.form end.leads)
