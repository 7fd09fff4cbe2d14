-- A net whose links are listed more than once is the same as one where each stands once.
use Rattle.std.proofs.Common.{◌≡◌, ◌≢◌, ℕ, ◌<◌, ◌≤◌, List, [], ◌∷◌, Bool, true, false, ◌⊎◌, inl}
use Rattle.std.proofs.Common.{inr, refl, sym, ap, ◌∙◌, subst, arith}
use Rattle.ol_law_edges.proofs.Contraction.{is_or_is_not, is_other, ends_in}
use Rattle.ol_law_edges.specs.Edges.{Near, ends, bit, IsTest}
use Rattle.ol_net.specs.Nets.{NamedPort, free, slot, NamedNet, IsPort, IsNet, SameNet}
use Rattle.ol_rules.proofs.EndCounts.{ends_near}
use Rattle.ol_rules.proofs.Tests.{port_test}
use Rattle.ol_rules.specs.Contracting.{port_same, IsCounted}

module _ {V : Type 0} (same : V → V → Bool) (t : IsTest same) where
  near_flip : (es : List (V × V)) (u v : V) → Near es u v → Near es v u
  near_flip es u v (inl h) = inr h
  near_flip es u v (inr h) = inl h

  -- whether an edge is there, either way
  near_is : (u v : V) (es : List (V × V)) → Near es u v ⊎ (Near es u v → ⊥)
  near_is u v [] = inr none
    where
      none : Near {V = V} [] u v → ⊥
      none (inl h) = h
      none (inr h) = h
  near_is u v (e ∷ es) = go (is_or_is_not same t u e.0) (is_or_is_not same t v e.1)
      (is_or_is_not same t v e.0) (is_or_is_not same t u e.1) (near_is u v es)
    where
      more : Near es u v → Near (e ∷ es) u v
      more (inl h) = inl (inr h)
      more (inr h) = inr (inr h)

      none : (e.0 ≢ u) ⊎ (e.1 ≢ v) → (e.0 ≢ v) ⊎ (e.1 ≢ u) → (Near es u v → ⊥) → Near (e ∷ es) u v → ⊥
      none (inl n) b k (inl (inl q)) = n (sym (ap (λ (d : V × V). d.0) q))
      none (inr n) b k (inl (inl q)) = n (sym (ap (λ (d : V × V). d.1) q))
      none a b k (inl (inr h)) = k (inl h)
      none a (inl n) k (inr (inl q)) = n (sym (ap (λ (d : V × V). d.0) q))
      none a (inr n) k (inr (inl q)) = n (sym (ap (λ (d : V × V). d.1) q))
      none a b k (inr (inr h)) = k (inr h)

      second : (e.0 ≢ u) ⊎ (e.1 ≢ v) → (e.0 ≡ v) ⊎ (e.0 ≢ v) → (e.1 ≡ u) ⊎ (e.1 ≢ u) →
          Near es u v ⊎ (Near es u v → ⊥) → Near (e ∷ es) u v ⊎ (Near (e ∷ es) u v → ⊥)
      second a b c (inl h) = inl (more h)
      second a (inl q) (inl q') (inr k) = inl (inr (inl (ap (λ x. (x, u)) (sym q) ∙ ap (λ x. (e.0, x)) (sym q'))))
      second a (inr n) c (inr k) = inr (none a (inl n) k)
      second a (inl q) (inr n) (inr k) = inr (none a (inr n) k)

      go : (e.0 ≡ u) ⊎ (e.0 ≢ u) → (e.1 ≡ v) ⊎ (e.1 ≢ v) → (e.0 ≡ v) ⊎ (e.0 ≢ v) →
          (e.1 ≡ u) ⊎ (e.1 ≢ u) → Near es u v ⊎ (Near es u v → ⊥) → Near (e ∷ es) u v ⊎ (Near (e ∷ es) u v → ⊥)
      go (inl q) (inl q') b c d = inl (inl (inl (ap (λ x. (x, v)) (sym q) ∙ ap (λ x. (e.0, x)) (sym q'))))
      go (inr n) a' b c d = second (inl n) b c d
      go (inl q) (inr n) b c d = second (inr n) b c d

  -- a list of the same edges, in which each end has one at most
  record Single (es fs : List (V × V)) : Type 0 where
    there : (u v : V) → Near es u v → Near fs u v
    back : (u v : V) → Near fs u v → Near es u v
    once : (v : V) → ends same v fs ≤ 1

  single : (es : List (V × V)) → ((u v w : V) → Near es u v → Near es u w → v ≡ w) →
      ((u : V) → Near es u u → ⊥) → (fs : List (V × V)) × Single es fs
  single [] one apart = ([], record { there = λ u v h. h; back = λ u v h. h; once = λ v. omega arith })
  single (e ∷ es) one apart = go (single es
      (λ u v w h h'. one u v w (ahead es u v h) (ahead es u w h')) (λ u h. apart u (ahead es u u h)))
    where
      ahead : (fs : List (V × V)) (u v : V) → Near fs u v → Near (e ∷ fs) u v
      ahead fs u v (inl h) = inl (inr h)
      ahead fs u v (inr h) = inr (inr h)

      here : Near (e ∷ es) e.0 e.1
      here = inl (inl refl)

      go : ((fs : List (V × V)) × Single es fs) → (fs : List (V × V)) × Single (e ∷ es) fs
      go (fs, s) = pick (near_is e.0 e.1 fs)
        where
          at_edge : (P : V → V → Type 0) → P e.0 e.1 → P e.1 e.0 → (u v : V) →
              (◌≡◌ {A = V × V} (u, v) e) ⊎ (◌≡◌ {A = V × V} (v, u) e) → P u v
          at_edge P h h' u v (inl q) = subst (λ (d : V × V). P d.0 d.1) (sym q) h
          at_edge P h h' u v (inr q) = subst (λ (d : V × V). P d.1 d.0) (sym q) h'

          pick : Near fs e.0 e.1 ⊎ (Near fs e.0 e.1 → ⊥) → (fs : List (V × V)) × Single (e ∷ es) fs
          pick (inl h) = (fs, record { there = there; back = λ u v k. ahead es u v (s.back u v k); once = s.once })
            where
              there : (u v : V) → Near (e ∷ es) u v → Near fs u v
              there u v (inl (inl q)) = at_edge (λ u v. Near fs u v) h (near_flip fs e.0 e.1 h) u v (inl q)
              there u v (inr (inl q)) = at_edge (λ u v. Near fs u v) h (near_flip fs e.0 e.1 h) u v (inr q)
              there u v (inl (inr k)) = s.there u v (inl k)
              there u v (inr (inr k)) = s.there u v (inr k)
          pick (inr n) = (e ∷ fs, record { there = there; back = back; once = once })
            where
              there : (u v : V) → Near (e ∷ es) u v → Near (e ∷ fs) u v
              there u v (inl (inl q)) = inl (inl q)
              there u v (inr (inl q)) = inr (inl q)
              there u v (inl (inr k)) = ahead fs u v (s.there u v (inl k))
              there u v (inr (inr k)) = ahead fs u v (s.there u v (inr k))

              back : (u v : V) → Near (e ∷ fs) u v → Near (e ∷ es) u v
              back u v (inl (inl q)) = inl (inl q)
              back u v (inr (inl q)) = inr (inl q)
              back u v (inl (inr k)) = ahead es u v (s.back u v (inl k))
              back u v (inr (inr k)) = ahead es u v (s.back u v (inr k))

              zero_or : (n : ℕ) → (n ≡ 0) ⊎ (1 ≤ n)
              zero_or n = grind arith

              none_first : ends same e.0 fs ≡ 0
              none_first = check (zero_or (ends same e.0 fs))
                where
                  check : (ends same e.0 fs ≡ 0) ⊎ (1 ≤ ends same e.0 fs) → ends same e.0 fs ≡ 0
                  check (inl z) = z
                  check (inr b) =
                      let r = ends_near same t e.0 fs b in
                      let q = one e.0 r.0 e.1 (ahead es e.0 r.0 (s.back e.0 r.0 r.1)) here in
                      absurd (n (subst (λ z. Near fs e.0 z) q r.1))

              none_second : ends same e.1 fs ≡ 0
              none_second = check (zero_or (ends same e.1 fs))
                where
                  check : (ends same e.1 fs ≡ 0) ⊎ (1 ≤ ends same e.1 fs) → ends same e.1 fs ≡ 0
                  check (inl z) = z
                  check (inr b) =
                      let r = ends_near same t e.1 fs b in
                      let q = one e.1 r.0 e.0 (ahead es e.1 r.0 (s.back e.1 r.0 r.1))
                      (near_flip (e ∷ es) e.0 e.1 here) in
                      absurd (n (near_flip fs e.1 e.0 (subst (λ z. Near fs e.1 z) q r.1)))

              one_bit : (b : Bool) → bit b ≤ 1
              one_bit true = omega arith
              one_bit false = omega arith

              once : (v : V) → ends same v (e ∷ fs) ≤ 1
              once v = split (is_or_is_not same t v e.0) (is_or_is_not same t v e.1)
                where
                  split : (e.0 ≡ v) ⊎ (e.0 ≢ v) → (e.1 ≡ v) ⊎ (e.1 ≢ v) → ends same v (e ∷ fs) ≤ 1
                  split (inl q) (inl q') = absurd (apart e.0 (subst (λ z. Near (e ∷ es) e.0 z) (q' ∙ sym q) here))
                  split (inl q) (inr m) =
                      let z = ap bit (is_other same t v e.1 m) in
                      let y = subst (λ v. ends same v fs ≡ 0) q none_first in
                      let x = one_bit (same v e.0) in
                      omega arith
                  split (inr m) (inl q) =
                      let z = ap bit (is_other same t v e.0 m) in
                      let y = subst (λ v. ends same v fs ≡ 0) q none_second in
                      let x = one_bit (same v e.1) in
                      omega arith
                  split (inr m) (inr m') =
                      let z = ap bit (is_other same t v e.0 m) in
                      let y = ap bit (is_other same t v e.1 m') in
                      let x = s.once v in
                      omega arith

module _ {A : Type 0} (same : A → A → Bool) (t : IsTest same) where
  pub recount : (N : NamedNet A) → IsNet N → (M : NamedNet A) × IsCounted same M × SameNet N M
  recount N n = go (single (port_same same) (port_test same t) N.links n.one_link n.apart)
    where
      go : ((fs : List (NamedPort A × NamedPort A))
          × Single (port_same same) (port_test same t) N.links fs) → (M : NamedNet A) × IsCounted same M × SameNet N M
      go (fs, s) = (
        record N { links = fs },
        record { one_node = n.one_node; of_ports = λ p q h. port p (n.of_ports p q (s.back p q h)).0; once = once },
        record { nodes = λ x k i. ((λ h. h), (λ h. h)); free_ports = refl; links = λ p q. (s.there p q, s.back p q) },
      )
        where
          port : (p : NamedPort A) → IsPort N p → IsPort (record N { links = fs }) p
          port (free m) h = h
          port (slot x r) h = h

          port_back : (p : NamedPort A) → IsPort (record N { links = fs }) p → IsPort N p
          port_back (free m) h = h
          port_back (slot x r) h = h

          once : (p : NamedPort A) → IsPort (record N { links = fs }) p → ends (port_same same) p fs ≡ 1
          once p h =
              let l = n.some_link p (port_back p h) in
              let b = ends_in (port_same same) (port_test same t) p l.0 fs (s.there p l.0 l.1) in
              let c = s.once p in
              omega arith

-- to be a net doesn't hang on the order of the lists
pub net_same : {A : Type 0} (M N : NamedNet A) → SameNet M N → IsNet M → IsNet N
net_same {A} M N s m = record {
  one_node = λ x k l i j h h'. m.one_node x k l i j ((s.nodes x k i).1 h) ((s.nodes x l j).1 h');
  of_ports = λ p q h. let c = m.of_ports p q ((s.links p q).1 h) in (port p c.0, port q c.1);
  one_link = λ p q r h h'. m.one_link p q r ((s.links p q).1 h) ((s.links p r).1 h');
  apart = λ p h. m.apart p ((s.links p p).1 h);
  some_link = λ p h. let l = m.some_link p (port_back p h) in (l.0, (s.links p l.0).0 l.1);
}
  where
    port : (p : NamedPort A) → IsPort M p → IsPort N p
    port (free n) h = subst (λ b. n < b) s.free_ports h
    port (slot x r) (k, i, h, b) = (k, i, (s.nodes x k i).0 h, b)

    port_back : (p : NamedPort A) → IsPort N p → IsPort M p
    port_back (free n) h = subst (λ b. n < b) (sym s.free_ports) h
    port_back (slot x r) (k, i, h, b) = (k, i, (s.nodes x k i).1 h, b)
