-- States that go, and what the others are joined by then.
use Rattle.std.proofs.Common.{◌≡◌, ◌⊎◌, inl, inr, refl, sym, subst}
use Rattle.ol_law_edges.proofs.Joining.{follow}
use Rattle.ol_law_edges.specs.Edges.{Joined, here, on, back}

-- Old states and their moves, new states and their moves. The old state u goes where Mid u c. From there one comes
-- only to a state that goes with the same c, and to a state that stays and has Out c.
pub record Rewire {S W C : Type 0} (M : S → S → Type 0) (emb : S → W) (K : W → W → Type 0)
    (Stays : S → Type 0) (Mid Out : C → S → Type 0) : Type 0 where
  pub goes : (u : S) (c : C) → Mid c u → Stays u → ⊥
  pub one : (u : S) (c d : C) → Mid c u → Mid d u → c ≡ d
  pub stay : (u : S) (c : C) → Out c u → Stays u
  -- each old move, seen from both ends
  pub move : (u v : S) → M u v →
      (Stays u × Stays v × K (emb u) (emb v))
      ⊎ (((c : C) × Mid c u × Mid c v) ⊎ (((c : C) × Mid c u × Out c v) ⊎ ((c : C) × Out c u × Mid c v)))
  -- what leaves one state that goes is joined afterwards
  pub out : (c : C) (u v : S) → Out c u → Out c v → Joined K (emb u) (emb v)

module _ {S W C : Type 0} {M : S → S → Type 0} {emb : S → W} {K : W → W → Type 0} {Stays : S →
    Type 0} {Mid Out : C → S → Type 0} (r : Rewire M emb K Stays Mid Out) where
  abbrev Img : S → W → Type 0
  Img u w = (Stays u × (w ≡ emb u)) ⊎ ((c : C) × (z : S) × Mid c u × Out c z × (w ≡ emb z))

  Kept : S → S → Type 0
  Kept u v = (w : W) → Img v w → (x : W) × Img u x × Joined K x w

  at : {u w : W} → w ≡ u → Joined K u w
  at {u = u} q = subst (λ w. Joined K u w) (sym q) here

  kept_stay : (u v : S) → Stays u → Stays v → Joined K (emb u) (emb v) → Kept u v
  unfolding Kept
  kept_stay u v a b j w (inl i) = (emb u, inl (a, refl), subst (λ w. Joined K (emb u) w) (sym i.1) j)
  kept_stay u v a b j w (inr i) = absurd (r.goes v i.0 i.2 b)

  kept_mid : (u v : S) (c : C) → Mid c u → Mid c v → Kept u v
  unfolding Kept
  kept_mid u v c a b w (inl i) = absurd (r.goes v c b i.0)
  kept_mid u v c a b w (inr i) = (w, inr (c, i.1, a, subst (λ d. Out d i.1) (r.one v i.0 c i.2 b) i.3, i.4), here)

  kept_in : (u v : S) (c : C) → Mid c u → Out c v → Kept u v
  unfolding Kept
  kept_in u v c a b w (inl i) = (w, inr (c, v, a, b, i.1), here)
  kept_in u v c a b w (inr i) = absurd (r.goes v i.0 i.2 (r.stay v c b))

  kept_out : (u v : S) (c : C) → Out c u → Mid c v → Kept u v
  unfolding Kept
  kept_out u v c a b w (inl i) = absurd (r.goes v c b i.0)
  kept_out u v c a b w (inr i) = (
    emb u,
    inl (r.stay u c a, refl),
    subst (λ w. Joined K (emb u) w) (sym i.4) (r.out c u i.1 a (subst (λ d. Out d i.1) (r.one v i.0 c i.2 b) i.3)),
  )

  kept : (u v : S) → M u v → Kept u v × Kept v u
  kept u v m = go (r.move u v m)
    where
      go : (Stays u × Stays v × K (emb u) (emb v))
          ⊎ (((c : C) × Mid c u × Mid c v) ⊎ (((c : C) × Mid c u × Out c v)
          ⊎ ((c : C) × Out c u × Mid c v))) → Kept u v × Kept v u
      go (inl t) = (kept_stay u v t.0 t.1 (on here t.2), kept_stay v u t.1 t.0 (back here t.2))
      go (inr (inl t)) = (kept_mid u v t.0 t.1 t.2, kept_mid v u t.0 t.2 t.1)
      go (inr (inr (inl t))) = (kept_in u v t.0 t.1 t.2, kept_out v u t.0 t.2 t.1)
      go (inr (inr (inr t))) = (kept_out u v t.0 t.1 t.2, kept_in v u t.0 t.2 t.1)

  -- what was joined is joined still
  pub rewired : (u v : S) → Stays u → Stays v → Joined M u v → Joined K (emb u) (emb v)
  unfolding Kept
  rewired u v a b j = go (follow {R = Img}
      (record {
        forth = λ u v w m i. (kept u v m).0 w i;
        back' = λ u v w m i. (kept u v m).1 w i;
      }) j (emb v) (inl (b, refl)))
    where
      go : ((x : W) × Img u x × Joined K x (emb v)) → Joined K (emb u) (emb v)
      go t = go' t.1
        where
          go' : Img u t.0 → Joined K (emb u) (emb v)
          go' (inl i) = subst (λ x. Joined K x (emb v)) i.1 t.2
          go' (inr i) = absurd (r.goes u i.0 i.2 a)
