-- The laws of edges with weights.
use Rattle.std.proofs.Common.{ℕ, ◌≤◌, max, ◌↔◌, arith}
use Rattle.ol_law_edges.specs.Edges.{IsIn, Joined, here, on, back, Contracted}
use Rattle.ol_diamond.specs.Weights.{JoinedBy, at, along, against, AtMost, WeightedEdgeOf}
use Rattle.ol_diamond.specs.Weights.{ContractedBy, HeaviestOnTheWay, HeaviestIsLeft}

module _ {V : Type 0} (E : V → V → ℕ → Type 0) (n : ℕ) where
  heaviest : {u v : V} → Joined (AtMost E n) u v → (w : ℕ) × JoinedBy E u v w × (w ≤ n)
  heaviest here = (0, at, omega arith)
  heaviest (on j e) =
      let h = heaviest j in
      let a = h.2 in
      let b = e.2 in
      (max h.0 e.0, along h.1 e.1, omega arith)
  heaviest (back j e) =
      let h = heaviest j in
      let a = h.2 in
      let b = e.2 in
      (max h.0 e.0, against h.1 e.1, omega arith)

  light : {u v : V} {w : ℕ} → JoinedBy E u v w → w ≤ n → Joined (AtMost E n) u v
  light at b = here
  light (along {m = m} {n = k} j e) b = on (light j (omega arith)) (k, e, omega arith)
  light (against {m = m} {n = k} j e) b = back (light j (omega arith)) (k, e, omega arith)

pub heaviest_on_the_way : {V : Type 0} → HeaviestOnTheWay V
heaviest_on_the_way es n u v = (heaviest (WeightedEdgeOf es) n, λ h. light (WeightedEdgeOf es) n h.1 h.2)

-- an edge of weight n at most is left exactly where the edges of weight n at most leave one, whatever the edges
pub left_by : {V : Type 0} (K : V → V → ℕ → Type 0) (G : V → Type 0) (n : ℕ) (u v : V) →
    Contracted (AtMost K n) G u v ↔ (w : ℕ) × ContractedBy K G u v w × (w ≤ n)
left_by K G n u v = (
  (λ c. let h = heaviest K n c.joined in
      (h.0, record { first = c.first; second = c.second; apart = c.apart; joined = h.1 }, h.2)),
  (λ h. record { first = h.1.first; second = h.1.second; apart = h.1.apart; joined = light K n h.1.joined h.2 }),
)

pub heaviest_is_left : {V : Type 0} → HeaviestIsLeft V
heaviest_is_left es ps n u v = left_by (WeightedEdgeOf es) (λ p. IsIn p ps) n u v
