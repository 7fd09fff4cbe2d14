-- One step more of an order.
use Rattle.std.proofs.Common.{◌≡◌, ℕ, zero, suc, ◌≤◌, false, List, Some, refl, sym, subst}
use Rattle.ol_term.specs.Trees.{Tree}
use Rattle.ol_beta.specs.Beta.{IsWithin, IsPastAfter}
use Rattle.ol_strategies.specs.Redexes.{next}
use Rattle.ol_strategies.specs.Reductions.{IsStep}
use Rattle.ol_strategies.specs.declared.orders.Order.{Order}
use Rattle.ol_counts.specs.Ordered.{LeadsWithin, IsOrderCount, past}

pub leads_on : (order : Order) (n : ℕ) (t u v : Tree) → LeadsWithin order n t u → IsWithin u → IsStep order u v →
    LeadsWithin order (suc n) t v
leads_on order zero t u v e w s = (
  subst IsWithin (sym e) w,
  (v, (subst (λ (t : Tree). IsStep order t v) (sym e) s, refl)),
)
leads_on order (suc n) t u v h w s = (h.0, (h.1.0, (h.1.1.0, leads_on order n h.1.0 u v h.1.1.1 w s)))

pub past_on : (order : Order) (n most : ℕ) (t u : Tree) (at : List ℕ) (size deep : ℕ) → LeadsWithin order n t u →
    IsWithin u → next order u ≡ Some at → IsPastAfter u at size deep → suc n ≤ most → IsOrderCount order t most (suc n) false
past_on order n most t u at size deep l w a p f =
    past p.after f (leads_on order n t u p.after l w (at, a, p.is)) p.past
