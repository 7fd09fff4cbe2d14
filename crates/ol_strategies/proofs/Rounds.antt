-- An order has one step from a term; so where a term comes back, the order has no end.
use Rattle.std.proofs.Common.{◌≡◌, ℕ, zero, suc, ◌+◌, ◌<◌, List, Option, Some, None, IsSome, refl, sym, ap, ◌∙◌, subst}
use Rattle.std.proofs.Common.{arith}
use Rattle.std.proofs.lemmas.Option.{none-some, same_Some}
use Rattle.ol_term.specs.Trees.{Tree}
use Rattle.ol_beta.specs.Beta.{contracted}
use Rattle.ol_strategies.specs.Redexes.{next}
use Rattle.ol_strategies.specs.Reductions.{Leads}
use Rattle.ol_strategies.specs.Laws.{StepIsOne, ReductIsOne, ReturnIsEndless}
use Rattle.ol_strategies.specs.declared.orders.Order.{Order}

pub step_is_one : StepIsOne
step_is_one order t u v s r =
    let e : s.0 ≡ r.0 = same_Some s.0 r.0 (sym s.1 ∙ r.1) in
    same_Some u v (sym s.2 ∙ ap (λ (at : List ℕ). contracted t at) e ∙ r.2)

pub reduct_is_one : ReductIsOne
reduct_is_one order zero t u v s r = sym s ∙ r
reduct_is_one order (suc n) t u v s r =
    let e : s.0 ≡ r.0 = step_is_one order t s.0 r.0 s.1 r.1 in
    reduct_is_one order n r.0 u v (subst (λ (x : Tree). Leads order n x u) e s.2) r.2

-- what leads to an end goes on to it from each term on the way
rest : (order : Order) (j m : ℕ) (t u w : Tree) → Leads order m t u → next order u ≡ None →
    Leads order j t w → (k : ℕ) × (m ≡ j + k) × Leads order k w u
rest order zero m t u w s e r = (m, omega arith, subst (λ (x : Tree). Leads order m x u) r s)
rest order (suc j) zero t u w s e r = absurd
    (none-some r.1.0 (sym (ap (λ (x : Tree). next order x) s ∙ e) ∙ r.1.1))
rest order (suc j) (suc m) t u w s e r =
    let f : s.0 ≡ r.0 = step_is_one order t s.0 r.0 s.1 r.1 in
    let k = rest order j m r.0 u w (subst (λ (x : Tree). Leads order m x u) f s.2) e r.2 in
    let n : m ≡ j + k.0 = k.1 in
    (k.0, omega arith, k.2)

-- a term that comes back leads to no end
no_end : (bound : ℕ) (order : Order) (n m : ℕ) (t u : Tree) → m < bound → Leads order (suc n) t t →
    Leads order m t u → next order u ≡ None → ⊥
no_end zero order n m t u l r s e = absurd (omega arith)
no_end (suc bound) order n m t u l r s e =
    let k = rest order (suc n) m t u t s e r in
    let i : m ≡ suc n + k.0 = k.1 in
    no_end bound order n k.0 t u (omega arith) r k.2 e

there_is : (o : Option (List ℕ)) → (o ≡ None → ⊥) → IsSome o
there_is None h = absurd (h refl)
there_is (Some at) h = refl

pub return_is_endless : ReturnIsEndless
return_is_endless order before round n t u v b r s = there_is (next order v) (λ e.
    let k = rest order before n t v u s e b in
    no_end (suc k.0) order round k.0 u v (omega arith) r k.2 e)
