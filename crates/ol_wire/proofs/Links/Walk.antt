-- What links and joins connect, followed by the ends of ports.
-- Used in Joins.
use Rattle.std.proofs.Common.{◌≡◌, ◌⊎◌, inl, inr, subst}
use Rattle.ol_law_edges.specs.Edges.{Joined, here, on, back, Edge}
use Rattle.ol_law_edges.proofs.Joining.{joined_sym, joined_map, Follows, follow}

-- Ports stand at ends. Links L of ports are what the edges E join; the joins J are the edges K.
module _ {V W : Type 0} (At : V → W → Type 0) (L : V → V → Type 0) (P : V → Type 0)
    (J : V → V → Type 0) (E K : W → W → Type 0)
    (one_end : (p : V) (d e : W) → At p d → At p e → d ≡ e)
    (ended : (p q : V) → L p q → ((d : W) × At p d) × ((e : W) × At q e))
    (linked : (p q : V) (d e : W) → L p q → At p d → At q e → Joined E d e)
    (met : (p q : V) (d e : W) → At p d → At q e → Joined E d e → (p ≡ q) ⊎ L p q)
    (join_ends : (p q : V) → J p q → (d : W) × (e : W) × At p d × At q e × K d e)
    (end_joins : (d e : W) → K d e → (p : V) × (q : V) × At p d × At q e × J p q)
    (join_clear : (p q : V) → J p q → (P p → ⊥) × (P q → ⊥)) where
  abbrev Ends : W → W → Type 0
  Ends d e = E d e ⊎ K d e

  abbrev Ports : V → V → Type 0
  Ports = Edge L P J

  by_edges : {d e : W} → Joined E d e → Joined Ends d e
  by_edges j = joined_map (λ u v h. on here (inl h)) j

  forth : (u v : V) (w : W) → Ports u v → At v w → (x : W) × At u x × Joined Ends x w
  forth u v w (inl h) r = let a = (ended u v h.0).0 in (a.0, a.1, by_edges (linked u v a.0 w h.0 a.1 r))
  forth u v w (inr h) r = let j = join_ends u v h in
      (j.0, j.2, subst (λ w. Joined Ends j.0 w) (one_end v j.1 w j.3 r) (on here (inr j.4)))

  other_way : (u v : V) (w : W) → Ports u v → At u w → (x : W) × At v x × Joined Ends x w
  other_way u v w (inl h) r = let a = (ended u v h.0).1 in
      (a.0, a.1, joined_sym (by_edges (linked u v w a.0 h.0 r a.1)))
  other_way u v w (inr h) r = let j = join_ends u v h in
      (j.1, j.3, subst (λ w. Joined Ends j.1 w) (one_end u j.0 w j.2 r) (back here (inr j.4)))

  follows : Follows Ports Ends At
  follows = record { forth = forth; back' = other_way }

  pub to_ends : (p q : V) (d e : W) → At p d → At q e → Joined Ports p q → Joined Ends d e
  to_ends p q d e a b j = let t = follow follows j e b in subst (λ d. Joined Ends d e) (one_end p t.0 d t.1 a) t.2

  -- where a walk by edges stands: the last port that it has come to, and then edges of E
  abbrev Stands : V → W → Type 0
  Stands p w = (q : V) × (d : W) × At q d × (P q → ⊥) × Joined Ports p q × Joined E d w

  reach : (p q : V) (e : W) → At q e → (P q → ⊥) → Stands p e → Joined Ports p q
  reach p q e b n s = go (met s.0 q s.1 e s.2 b s.5)
    where
      go : (s.0 ≡ q) ⊎ L s.0 q → Joined Ports p q
      go (inl h) = subst (λ q. Joined Ports p q) h s.4
      go (inr h) = on s.4 (inl (h, s.3, n))

  stands : {d w : W} (p : V) → At p d → (P p → ⊥) → Joined Ends d w → Stands p w
  stands {d} p a n here = (p, d, a, n, here, here)
  stands p a n (on {v = v} {w = w} j e) = go (stands p a n j) e
    where
      go : Stands p v → E v w ⊎ K v w → Stands p w
      go s (inl h) = (s.0, s.1, s.2, s.3, s.4, on s.5 h)
      go s (inr h) =
          let t = end_joins v w h in
          let f = join_clear t.0 t.1 t.4 in
          (t.1, w, t.3, f.1, on (reach p t.0 v t.2 f.0 s) (inr t.4), here)
  stands p a n (back {v = v} {w = w} j e) = go (stands p a n j) e
    where
      go : Stands p v → E w v ⊎ K w v → Stands p w
      go s (inl h) = (s.0, s.1, s.2, s.3, s.4, back s.5 h)
      go s (inr h) =
          let t = end_joins w v h in
          let f = join_clear t.0 t.1 t.4 in
          (t.0, w, t.2, f.0, back (reach p t.1 v t.3 f.1 s) (inr t.4), here)

  pub from_ends : (p q : V) (d e : W) → At p d → At q e → (P p → ⊥) → (P q → ⊥) → Joined Ends d e → Joined Ports p q
  from_ends p q d e a b n m j = reach p q e b m (stands p a n j)
