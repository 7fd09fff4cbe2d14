-- Two rewirings in places apart: what is left of the edges after both, said without an order.
use Rattle.std.proofs.Common.{◌≡◌, ◌≢◌, ◌⊎◌, ◌↔◌, inl, inr, sym}
use Rattle.ol_law_edges.specs.Edges.{Joined, here, on, back, Edge, Contracted}
use Rattle.ol_law_edges.proofs.Joining.{joined_sym, joined_map}
use Rattle.ol_law_edges.proofs.Composing.{HasEdge, edge_of_apart, contracted_map, contracted_twice}

-- the edges left without those at P or P', and both places' joins
abbrev pub Edge2 : {V : Type 0} → (V → V → Type 0) → (V → Type 0) → (V → Type 0) →
    (V → V → Type 0) → (V → V → Type 0) → V → V → Type 0
Edge2 E P P' J J' u v = ((E u v × ((P u → ⊥) × (P v → ⊥)) × ((P' u → ⊥) × (P' v → ⊥))) ⊎ J u v) ⊎ J' u v

-- joins that end at no port of P, nor at one of G
pub record Clear {V : Type 0} (J : V → V → Type 0) (P G : V → Type 0) : Type 0 where
  pub first : (u v : V) → J u v → (P u → ⊥) × (G u → ⊥)
  pub second : (u v : V) → J u v → (P v → ⊥) × (G v → ⊥)

-- the second place (of P' and J') after the first (of P, G and J), whose edges are left
module _ {V : Type 0} (decide : (u v : V) → (u ≡ v) ⊎ (u ≢ v)) (E E' : V → V → Type 0)
    (P P' G G' : V → Type 0) (J J' : V → V → Type 0)
    (left : (u v : V) → E' u v ↔ Contracted (Edge E P J) G u v)
    (inside' : (u : V) → P' u → G' u)
    (clear : Clear J P G') (clear' : Clear J' P' G)
    (closed' : (u v : V) → E u v → (P' u → P' v) × (P' v → P' u)) where
  -- the first place's edges without the ports of the second
  abbrev Alone : V → V → Type 0
  Alone u v = (E u v × ((P u → ⊥) × (P v → ⊥)) × ((P' u → ⊥) × (P' v → ⊥))) ⊎ J u v

  join_clear : (u v : V) → J u v → (P' u → ⊥) × (P' v → ⊥)
  join_clear u v h = (λ p. (clear.first u v h).1 (inside' u p), λ p. (clear.second u v h).1 (inside' v p))

  alone_clear : (u : V) → HasEdge Alone u → P' u → ⊥
  alone_clear u a = go a.1
    where
      go : Alone u a.0 ⊎ Alone a.0 u → P' u → ⊥
      go (inl (inl t)) = t.2.0
      go (inl (inr h)) = (join_clear u a.0 h).0
      go (inr (inl t)) = t.2.1
      go (inr (inr h)) = (join_clear a.0 u h).1

  -- from a port that isn't one of P' one comes to none of P'
  keep : {u v : V} → (P' u → ⊥) → Joined (Edge E P J) u v → (P' v → ⊥) × Joined Alone u v
  keep n here = (n, here)
  keep n (on {v = v} {w = w} j (inl t)) =
      let r = keep n j in
      let m = λ (p : P' w). r.0 ((closed' v w t.0).1 p) in
      (m, on r.1 (inl (t.0, (t.1, t.2), (r.0, m))))
  keep n (on {v = v} {w = w} j (inr t)) = let r = keep n j in ((join_clear v w t).1, on r.1 (inr t))
  keep n (back {v = v} {w = w} j (inl t)) =
      let r = keep n j in
      let m = λ (p : P' w). r.0 ((closed' w v t.0).0 p) in
      (m, back r.1 (inl (t.0, (t.1, t.2), (m, r.0))))
  keep n (back {v = v} {w = w} j (inr t)) = let r = keep n j in ((join_clear w v t).0, back r.1 (inr t))

  more : (u v : V) → Alone u v → Joined (Edge E P J) u v
  more u v (inl t) = on here (inl (t.0, t.1.0, t.1.1))
  more u v (inr t) = on here (inr t)

  abbrev Later : V → V → Type 0
  Later u v = Contracted Alone G u v ⊎ J' u v

  -- the edges that the second step finds
  to_later : (u v : V) → Edge E' P' J' u v → Later u v
  to_later u v (inl t) = let c = (left u v).0 t.0 in
      inl (record { first = c.first; second = c.second; apart = c.apart; joined = (keep t.1 c.joined).1 })
  to_later u v (inr h) = inr h

  from_later : (u v : V) → Later u v → Edge E' P' J' u v
  from_later u v (inl c) = inl (
    (left u v).1 (record { first = c.first; second = c.second; apart = c.apart; joined = joined_map more c.joined }),
    alone_clear u (edge_of_apart c.joined c.apart),
    alone_clear v (edge_of_apart (joined_sym c.joined) (λ q. c.apart (sym q))),
  )
  from_later u v (inr h) = inr h

  -- what is left after both, in no order
  pub left_after : (u v : V) → Contracted (Edge E' P' J') G' u v ↔ Contracted (Edge2 E P P' J J') (λ u. G u ⊎ G' u) u v
  left_after u v =
      let t = contracted_twice decide Alone J' G G' (λ u v h. (clear'.first u v h).1)
      (λ u v h. (clear'.second u v h).1) u v in (
        (λ c. t.0 (contracted_map to_later (λ u h g. g) u v c)),
        (λ c. contracted_map from_later (λ u h g. g) u v (t.1 c)),
      )
