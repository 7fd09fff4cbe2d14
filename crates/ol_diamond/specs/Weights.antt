-- Edges with weights: what joins, and by which greatest weight.
use Rattle.std.specs.Prelude.{◌≢◌, ℕ, ◌≤◌, max, ◌↔◌, List}
use Rattle.ol_law_edges.specs.Edges.{IsIn, Joined, Contracted}

-- u and v are joined by edges, taken either way, the heaviest of which has this weight
pub data JoinedBy {V : Type 0} (E : V → V → ℕ → Type 0) (u : V) : V → ℕ → Type 0 where
  at : JoinedBy E u u 0
  along : {v w : V} {m n : ℕ} → JoinedBy E u v m → E v w n → JoinedBy E u w (max m n)
  against : {v w : V} {m n : ℕ} → JoinedBy E u v m → E w v n → JoinedBy E u w (max m n)

-- the edges of weight n at most
abbrev pub AtMost : {V : Type 0} → (V → V → ℕ → Type 0) → ℕ → V → V → Type 0
AtMost E n u v = (w : ℕ) × E u v w × (w ≤ n)

-- what edges K become where the vertices of G are taken out: of two edges that become one, the greater weight stays
pub record ContractedBy {V : Type 0} (K : V → V → ℕ → Type 0) (G : V → Type 0) (u v : V) (n : ℕ) : Type 0 where
  pub first : G u → ⊥
  pub second : G v → ⊥
  pub apart : u ≢ v
  pub joined : JoinedBy K u v n

-- the edges of a list with weights
abbrev pub WeightedEdgeOf : {V : Type 0} → List (V × V × ℕ) → V → V → ℕ → Type 0
WeightedEdgeOf es u v w = IsIn (u, v, w) es

-- What is joined by edges of weight n at most is what is joined with a greatest weight of n at most.
abbrev pub HeaviestOnTheWay : Type 0 → Type 0
HeaviestOnTheWay V = (es : List (V × V × ℕ)) (n : ℕ) (u v : V) →
    Joined (AtMost (WeightedEdgeOf es) n) u v ↔ (w : ℕ) × JoinedBy (WeightedEdgeOf es) u v w × (w ≤ n)

-- So it is for contraction: an edge of weight n at most is left exactly where the edges of weight n at most leave one.
abbrev pub HeaviestIsLeft : Type 0 → Type 0
HeaviestIsLeft V = (es : List (V × V × ℕ)) (ps : List V) (n : ℕ) (u v : V) →
    Contracted (AtMost (WeightedEdgeOf es) n) (λ p. IsIn p ps) u v ↔ (w : ℕ)
    × ContractedBy (WeightedEdgeOf es) (λ p. IsIn p ps) u v w × (w ≤ n)
