-- A walk that leaves and meets no active pair is at none.
use Rattle.std.proofs.Common.{◌≡◌, ℕ, ◌⊎◌, inl, inr, refl, sym, ◌∙◌, subst}
use Rattle.ol_context.proofs.Ways.{through_back, through_one}
use Rattle.ol_context.specs.Contexts.{Context}
use Rattle.ol_context.specs.Paths.{Through, through, inward, outward, IsBarred}
use Rattle.ol_demand.proofs.Pairs.{no_free}
use Rattle.ol_demand.specs.Chains.{IsAtNoPair, Chain, starts, crosses, left, undefined, Stands, at_port, barred}
use Rattle.ol_law_edges.specs.Edges.{Joined, here, on, back}
use Rattle.ol_net.specs.Nets.{NamedPort, free, slot, NamedNet, Linked, IsNet, IsPrincipalOf}
use Rattle.ol_rules.proofs.FreshPairs.{linked_sym}
use Rattle.ol_law_optimality.specs.Seen.{Move, link, node, IsOnWalk, MeetsNone}

module _ {A : Type 0} (N : NamedNet A) (is_net : IsNet N) where
  -- along a link or through a node
  Beside : NamedPort A → Context → NamedPort A → Context → Type 0
  Beside p c q d = (Linked N p q × (c ≡ d)) ⊎ Through N p c q d

  forth : {u v : NamedPort A × Context} → Move N u v → Beside u.0 u.1 v.0 v.1
  unfolding Beside
  forth (link h) = inl (h, refl)
  forth (node k i h b e) = inr (through h (outward b e))

  back' : {u v : NamedPort A × Context} → Move N u v → Beside v.0 v.1 u.0 u.1
  unfolding Beside
  back' (link {p = p} {q = q} h) = inl (linked_sym N p q h, refl)
  back' (node k i h b e) = inr (through h (inward b e))

  free_through : (n : ℕ) {p q : NamedPort A} {c d : Context} → Through N p c q d → p ≡ free n → ⊥
  free_through n (through {x = x} {s = s} h y) e = let z : slot x s ≡ free n = e in absurd (cc)

  -- the other end of a link is at no pair either
  other_end : (p q : NamedPort A) → Linked N p q → IsAtNoPair N p → IsAtNoPair N q
  other_end p q h n f g r a = go a.principal
    where
      l : Linked N q p
      l = linked_sym N p q h

      go : IsPrincipalOf f g q → ⊥
      go (inl e) = n f g r (record {
        active = a.active;
        principal = inr (is_net.one_link (slot f 0) p (slot g 0) (subst (λ q. Linked N q p) e l)
            a.active.faces.linked);
      })
      go (inr e) = n f g r (record {
        active = a.active;
        principal = inl (is_net.one_link (slot g 0) p (slot f 0) (subst (λ q. Linked N q p) e l)
            (linked_sym N (slot f 0) (slot g 0) a.active.faces.linked));
      })

  module _ (p : ℕ) (c : Context) where
    -- the ports of a chain, with their contexts
    On : {n : ℕ} {u : NamedPort A} {d : Context} → Chain N p c n u d → NamedPort A → Context →
        Type 0
    On starts v e = (v ≡ free p) × (e ≡ c)
    On (crosses {d = d} {e = d'} {x = x} {s = s} {t = t} r h b l n y) v e =
        On r v e ⊎ (((v ≡ slot x s) × (e ≡ d)) ⊎ ((v ≡ slot x t) × (e ≡ d')))

    end_on : {n : ℕ} {u : NamedPort A} {d : Context} (r : Chain N p c n u d) → On r u d
    unfolding On
    end_on starts = (refl, refl)
    end_on (crosses r h b l n y) = inr (inr (refl, refl))

    -- what is beside a port of the chain is one, or is linked to its end
    Near : {n : ℕ} {u : NamedPort A} {d : Context} → Chain N p c n u d → NamedPort A → Context →
        Type 0
    Near {u = u} {d = d} r v e = On r v e ⊎ (Linked N u v × (e ≡ d))

    near : {n : ℕ} {u : NamedPort A} {d : Context} (r : Chain N p c n u d) (v w : NamedPort A)
        (e e' : Context) → On r v e → Beside v e w e' → Near r w e'
    unfolding On Near Beside
    near starts v w e e' o (inl h) = inr (subst (λ v. Linked N v w) o.0 h.0, sym h.1 ∙ o.1)
    near starts v w e e' o (inr h) = absurd (free_through p h o.0)
    near (crosses {u = u} {d = d} {e = d'} {x = x} {s = s} {t = t} r h b l n y) v w e e' (inl o) m =
        go (near r v w e e' o m)
      where
        go : On r w e' ⊎ (Linked N u w × (e' ≡ d)) →
            (On r w e' ⊎ (((w ≡ slot x s) × (e' ≡ d)) ⊎ ((w ≡ slot x t) × (e' ≡ d'))))
            ⊎ (Linked N (slot x t) w × (e' ≡ d'))
        go (inl z) = inl (inl z)
        go (inr z) = inl (inr (inl (is_net.one_link u w (slot x s) z.0 l, z.1)))
    near (crosses {u = u} {d = d} {e = d'} {x = x} {s = s} {t = t} r h b l n y) v w e e'
        (inr (inl o)) (inl m) =
        let q : w ≡ u = is_net.one_link (slot x s) w u (subst (λ v. Linked N v w) o.0 m.0)
        (linked_sym N u (slot x s) l) in
        let q' : e' ≡ d = sym m.1 ∙ o.1 in
        inl (inl (subst (λ w. On r w e') (sym q) (subst (λ e. On r u e) (sym q') (end_on r))))
    near (crosses {u = u} {d = d} {e = d'} {x = x} {s = s} {t = t} r h b l n y) v w e e'
        (inr (inl o)) (inr m) =
        let z = through_one N is_net (subst (λ v. Through N v d w e') o.0
        (subst (λ e. Through N v e w e') o.1 m)) (through n y) in
        inl (inr (inr (z.0, z.1)))
    near (crosses {u = u} {d = d} {e = d'} {x = x} {s = s} {t = t} r h b l n y) v w e e'
        (inr (inr o)) (inl m) =
        inr (subst (λ v. Linked N v w) o.0 m.0, sym m.1 ∙ o.1)
    near (crosses {u = u} {d = d} {e = d'} {x = x} {s = s} {t = t} r h b l n y) v w e e'
        (inr (inr o)) (inr m) =
        let z = through_one N is_net (subst (λ v. Through N v d' w e') o.0
        (subst (λ e. Through N v e w e') o.1 m))
        (through_back N (slot x s) (slot x t) d d' (through n y)) in
        inl (inr (inl (z.0, z.1)))

    quiet_on : {n : ℕ} {u : NamedPort A} {d : Context} (r : Chain N p c n u d) → IsAtNoPair N u →
        (v : NamedPort A) (e : Context) → On r v e → IsAtNoPair N v
    unfolding On
    quiet_on starts q v e o = subst (λ v. IsAtNoPair N v) (sym o.0) q
    quiet_on (crosses {u = u} {x = x} {s = s} r h b l n y) q v e (inl o) = quiet_on r h v e o
    quiet_on (crosses {u = u} {x = x} {s = s} r h b l n y) q v e (inr (inl o)) =
        subst (λ v. IsAtNoPair N v) (sym o.0) (other_end u (slot x s) l h)
    quiet_on (crosses r h b l n y) q v e (inr (inr o)) = subst (λ v. IsAtNoPair N v) (sym o.0) q

    module _ (q : ℕ) (made : ℕ) (u : NamedPort A) (X : Context) (r : Chain N p c made u X)
        (h : Linked N u (free q)) where
      Walked : NamedPort A → Context → Type 0
      Walked v e = On r v e ⊎ ((v ≡ free q) × (e ≡ X))

      stays : (v w : NamedPort A) (e e' : Context) → Walked v e → Beside v e w e' → Walked w e'
      unfolding Walked Near Beside
      stays v w e e' (inl o) m = go (near r v w e e' o m)
        where
          go : On r w e' ⊎ (Linked N u w × (e' ≡ X)) → On r w e' ⊎ ((w ≡ free q) × (e' ≡ X))
          go (inl z) = inl z
          go (inr z) = inr (is_net.one_link u w (free q) z.0 h, z.1)
      stays v w e e' (inr o) (inl m) =
          let z : w ≡ u = is_net.one_link (free q) w u (subst (λ v. Linked N v w) o.0 m.0)
          (linked_sym N u (free q) h) in
          let z' : e' ≡ X = sym m.1 ∙ o.1 in
          inl (subst (λ w. On r w e') (sym z) (subst (λ e. On r u e) (sym z') (end_on r)))
      stays v w e e' (inr o) (inr m) = absurd (free_through q m o.0)

      start_on : {m : ℕ} {v : NamedPort A} {d : Context} (s : Chain N p c m v d) → On s (free p) c
      unfolding On
      start_on starts = (refl, refl)
      start_on (crosses s a b l n y) = inl (start_on s)

      walked : {v : NamedPort A × Context} → Joined (Move N) (free p, c) v → Walked v.0 v.1
      unfolding Walked
      walked here = inl (start_on r)
      walked (on {v = v} {w = w} j m) = stays v.0 w.0 v.1 w.1 (walked j) (forth m)
      walked (back {v = v} {w = w} j m) = stays v.0 w.0 v.1 w.1 (walked j) (back' m)

      no_pair : (v : NamedPort A) (e : Context) → Walked v e → IsAtNoPair N v
      unfolding Walked
      no_pair v e (inl o) = quiet_on r (no_free N is_net u q h) v e o
      no_pair v e (inr o) = λ f g s a. go f g a.principal
        where
          go : (f g : A) → IsPrincipalOf f g v → ⊥
          go f g (inl z) = let y : free q ≡ slot f 0 = sym o.0 ∙ z in absurd (cc)
          go f g (inr z) = let y : free q ≡ slot g 0 = sym o.0 ∙ z in absurd (cc)

    module _ (made : ℕ) (u : NamedPort A) (d : Context) (r : Chain N p c made u d)
        (x : A) (s : ℕ) (h : Linked N u (slot x s)) (bar : IsBarred N (slot x s) d)
        (quiet : IsAtNoPair N u) where
      Broken : NamedPort A → Context → Type 0
      Broken v e = On r v e ⊎ ((v ≡ slot x s) × (e ≡ d))

      stays_there : (v w : NamedPort A) (e e' : Context) → Broken v e → Beside v e w e' →
          Broken w e'
      unfolding Broken Near Beside
      stays_there v w e e' (inl o) m = go (near r v w e e' o m)
        where
          go : On r w e' ⊎ (Linked N u w × (e' ≡ d)) → On r w e' ⊎ ((w ≡ slot x s) × (e' ≡ d))
          go (inl z) = inl z
          go (inr z) = inr (is_net.one_link u w (slot x s) z.0 h, z.1)
      stays_there v w e e' (inr o) (inl m) =
          let z : w ≡ u = is_net.one_link (slot x s) w u (subst (λ v. Linked N v w) o.0 m.0)
          (linked_sym N u (slot x s) h) in
          let z' : e' ≡ d = sym m.1 ∙ o.1 in
          inl (subst (λ w. On r w e') (sym z) (subst (λ e. On r u e) (sym z') (end_on r)))
      stays_there v w e e' (inr o) (inr m) =
          absurd (bar w e' (subst (λ v. Through N v d w e') o.0
          (subst (λ e. Through N v e w e') o.1 m)))

      first_on : {m : ℕ} {v : NamedPort A} {e : Context} (s : Chain N p c m v e) → On s (free p) c
      unfolding On
      first_on starts = (refl, refl)
      first_on (crosses s a b l n y) = inl (first_on s)

      walked_there : {v : NamedPort A × Context} → Joined (Move N) (free p, c) v → Broken v.0 v.1
      unfolding Broken
      walked_there here = inl (first_on r)
      walked_there (on {v = v} {w = w} j m) =
          stays_there v.0 w.0 v.1 w.1 (walked_there j) (forth m)
      walked_there (back {v = v} {w = w} j m) =
          stays_there v.0 w.0 v.1 w.1 (walked_there j) (back' m)

      no_pair_there : (v : NamedPort A) (e : Context) → Broken v e → IsAtNoPair N v
      unfolding Broken
      no_pair_there v e (inl o) = quiet_on r quiet v e o
      no_pair_there v e (inr o) =
          subst (λ v. IsAtNoPair N v) (sym o.0) (other_end u (slot x s) h quiet)

    pub quiet_walk : MeetsNone N p c → (v : NamedPort A) (e : Context) → IsOnWalk N p c v e →
        IsAtNoPair N v
    quiet_walk (inl t) v e o = go t.2.made t.2.port t.2.context t.2.chain t.2.stands
      where
        go : (n : ℕ) (u : NamedPort A) (d : Context) → Chain N p c n u d →
            Stands N n u d (left t.0 t.1) → IsAtNoPair N v
        go n u d r (at_port l) = no_pair t.0 n u d r l v e (walked t.0 n u d r l o)
    quiet_walk (inr t) v e o = go t.made t.port t.context t.chain t.stands
      where
        go : (n : ℕ) (u : NamedPort A) (d : Context) → Chain N p c n u d →
            Stands N n u d undefined → IsAtNoPair N v
        go n u d r (barred {x = x} {s = s} q l b) =
            no_pair_there n u d r x s l b q v e (walked_there n u d r x s l b q o)
