-- An order has one count.
use Rattle.std.proofs.Common.{◌≡◌, ℕ, zero, suc, ◌<◌, ◌≤◌, ◌⊎◌, Bool, true, false, None, IsSome, inl, inr, refl, sym, ap, ◌∙◌, subst, arith}
use Rattle.std.proofs.lemmas.Bool.{cases_order}
use Rattle.std.proofs.lemmas.Option.{none-some}
use Rattle.ol_term.specs.Trees.{Tree}
use Rattle.ol_beta.specs.Beta.{IsWithin, IsPast}
use Rattle.ol_beta.proofs.Onward.{past_within}
use Rattle.ol_beta.proofs.Redexes.{none_some}
use Rattle.ol_strategies.specs.Redexes.{next}
use Rattle.ol_strategies.specs.Reductions.{IsStep}
use Rattle.ol_strategies.specs.declared.orders.Order.{Order}
use Rattle.ol_strategies.proofs.Rounds.{step_is_one}
use Rattle.ol_counts.specs.Ordered.{LeadsWithin, IsOrderCount, CountIsOne, ended, short, past}

-- no step leads on from an end
at_end : (order : Order) (t v : Tree) → next order t ≡ None → IsStep order t v → ⊥
at_end order t v e s = none-some s.0 (sym e ∙ s.1)

-- an order ends after n steps in u, or is cut there
abbrev Stops : Order → (most n : ℕ) → Tree → Bool → Type 0
Stops order most n u true = IsWithin u × (next order u ≡ None)
Stops order most n u false = IsPast u ⊎ ((n ≡ most) × IsSome (next order u))

record Counted (order : Order) (t : Tree) (most n : ℕ) (b : Bool) : Type 0 where
  end : Tree
  few : n ≤ most
  leads : LeadsWithin order n t end
  stops : Stops order most n end b

counted : (order : Order) (t : Tree) (most n : ℕ) (b : Bool) → IsOrderCount order t most n b → Counted order t most n b
counted order t most n true (ended u f h w d) = record { end = u; few = f; leads = h; stops = (w, d) }
counted order t most n false (short u h w s) = record { end = u; few = omega arith; leads = h; stops = inr (refl, s) }
counted order t most n false (past u f h p) = record { end = u; few = f; leads = h; stops = inl p }

module _ (order : Order) where
  same_end : (n : ℕ) (t u v : Tree) → LeadsWithin order n t u → LeadsWithin order n t v → u ≡ v
  same_end zero t u v h k = sym h ∙ k
  same_end (suc n) t u v h k =
      let f : k.1.0 ≡ h.1.0 = step_is_one order t k.1.0 h.1.0 k.1.1.0 h.1.1.0 in
      same_end n h.1.0 u v h.1.1.1 (subst (λ (w : Tree). LeadsWithin order n w v) f k.1.1.1)

  -- where more steps are made
  goes_on : (n m : ℕ) (t u v : Tree) → LeadsWithin order n t u → LeadsWithin order m t v → n < m →
      IsWithin u × (next order u ≡ None → ⊥)
  goes_on n zero t u v h k l = absurd (omega (arith, l))
  goes_on zero (suc m) t u v h k l = (
    subst IsWithin h k.0,
    (λ e. at_end order t k.1.0 (ap (λ (t : Tree). next order t) h ∙ e) k.1.1.0),
  )
  goes_on (suc n) (suc m) t u v h k l =
      let f : k.1.0 ≡ h.1.0 = step_is_one order t k.1.0 h.1.0 k.1.1.0 h.1.1.0 in
      goes_on n m h.1.0 u v h.1.1.1 (subst (λ (w : Tree). LeadsWithin order m w v) f k.1.1.1) (omega (arith, l))

  one_stop : (most n m : ℕ) (u v : Tree) (a b : Bool) → u ≡ v → Stops order most n u a → Stops order most m v b → a ≡ b
  one_stop most n m u v true true e p q = refl
  one_stop most n m u v true false e p (inl q) = absurd (past_within v q (subst IsWithin e p.0))
  one_stop most n m u v true false e p (inr q) =
      absurd (none_some (next order v) (ap (λ (t : Tree). next order t) (sym e) ∙ p.1) q.1)
  one_stop most n m u v false true e (inl p) q = absurd (past_within u p (subst IsWithin (sym e) q.0))
  one_stop most n m u v false true e (inr p) q =
      absurd (none_some (next order u) (ap (λ (t : Tree). next order t) e ∙ q.1) p.1)
  one_stop most n m u v false false e p q = refl

  no_more : (most n m : ℕ) (u : Tree) (a : Bool) → Stops order most n u a → IsWithin u → (next order u ≡ None → ⊥) →
      n < m → m ≤ most → ⊥
  no_more most n m u true s w e l f = e s.1
  no_more most n m u false (inl p) w e l f = past_within u p w
  no_more most n m u false (inr s) w e l f = let d = s.0 in absurd (omega (arith, d, l, f))

  module _ (t : Tree) (most n m : ℕ) (a b : Bool) (c : Counted order t most n a) (d : Counted order t most m b) where
    not_more : n < m → ⊥
    not_more l =
        let g = goes_on n m t c.end d.end c.leads d.leads l in
        no_more most n m c.end a c.stops g.0 g.1 l d.few

    not_less : m < n → ⊥
    not_less l =
        let g = goes_on m n t d.end c.end d.leads c.leads l in
        no_more most m n d.end b d.stops g.0 g.1 l c.few

    one_count : (n ≡ m) ⊎ ((n < m) ⊎ (m < n)) → (n ≡ m) × (a ≡ b)
    one_count (inl e) = (
      e,
      one_stop most n m c.end d.end a b
          (same_end n t c.end d.end c.leads (subst (λ (k : ℕ). LeadsWithin order k t d.end) (sym e) d.leads)) c.stops d.stops,
    )
    one_count (inr (inl l)) = absurd (not_more l)
    one_count (inr (inr l)) = absurd (not_less l)

pub count_is_one : CountIsOne
count_is_one order t most n m a b h k =
    one_count order t most n m a b (counted order t most n a h) (counted order t most m b k) (cases_order n m)
