-- Each step of a net with weights has a wave, and leaves weights.
use Rattle.std.proofs.Common.{◌≡◌, ℕ, suc, ◌+◌, ◌≤◌, max, List, [], ◌∷◌, ◌++◌, map, filter, Option}
use Rattle.std.proofs.Common.{Some, None, Bool, ◌⊎◌, ◌↔◌, inl, inr, refl, sym, subst, arith}
use Rattle.ol_law_edges.specs.Edges.{IsIn, IsTest, Joined, here, on, back, Edge, Contracted}
use Rattle.ol_law_edges.proofs.Contraction.{is_or_is_not}
use Rattle.ol_law_edges.proofs.Joining.{joined_map}
use Rattle.ol_law_edges.proofs.Composing.{contracted_map}
use Rattle.ol_law_edges.proofs.Lists.{in_left, in_right, in_cases, only, in_map, in_map_of}
use Rattle.ol_net.specs.declared.parts.Kind.{Kind}
use Rattle.ol_net.specs.Parts.{arity}
use Rattle.ol_net.specs.Nets.{NamedPort, slot, NamedNet, Linked, IsPrincipalOf, IsSlotOf}
use Rattle.ol_rules.specs.Listed.{each}
use Rattle.ol_rules.specs.Contracting.{port_same}
use Rattle.ol_rules.specs.Rewriting.{Action, meeting, crossing, action_of, JoinOf, meet, at_f, at_g, between}
use Rattle.ol_rules.proofs.EndCounts.{in_filter, in_filter_of}
use Rattle.ol_rules.proofs.Lists.{in_each, in_each_of}
use Rattle.ol_rules.proofs.Tests.{port_test}
use Rattle.ol_diamond.specs.Weights.{AtMost, WeightedEdgeOf}
use Rattle.ol_diamond.specs.Waves.{WeightedNet, LinkedWithin, JoinWithin, LeftWithin}
use Rattle.ol_diamond.specs.WaveLaws.{StepHasWave}
use Rattle.ol_diamond.proofs.Bottlenecks.{Under, bottle, joined_of, under_of}
use Rattle.ol_diamond.proofs.Confluence.{tell, tell_holds, told}

-- the number, or 0
abbrev number : Option ℕ → ℕ
number None = 0
number (Some w) = w

under_number : (x : Option ℕ) (n : ℕ) → Under x n → number x ≤ n
under_number None n h = absurd h
under_number (Some w) n h = h

under_less : (x : Option ℕ) (m n : ℕ) → Under x m → number x ≤ n → Under x n
under_less None m n h b = absurd h
under_less (Some w) m n h b = b

-- ---- the joins of a step, listed

module _ {A : Type 0} (names : ℕ → A) (f g : A) (k l : Kind) where
  abbrev P : Type 0
  P = NamedPort A × NamedPort A

  at_f_row : ℕ → List (NamedPort A × NamedPort A)
  at_f_row p = (slot (names (arity l + p)) 0, slot f (suc p)) ∷ []

  at_g_row : ℕ → List (NamedPort A × NamedPort A)
  at_g_row q = (slot (names q) 0, slot g (suc q)) ∷ []

  between_row : ℕ → ℕ → List (NamedPort A × NamedPort A)
  between_row p q = (slot (names q) (suc p), slot (names (arity l + p)) (suc q)) ∷ []

  meet_row : ℕ → List (NamedPort A × NamedPort A)
  meet_row s = (slot f (suc s), slot g (suc s)) ∷ []

  betweens : ℕ → List (NamedPort A × NamedPort A)
  betweens p = each (arity l) (between_row p)

  joins : Action → List (NamedPort A × NamedPort A)
  joins meeting = each (arity k) meet_row
  joins (crossing j) = each (arity k) at_f_row ++ (each (arity l) at_g_row ++ each (arity k) betweens)

  in_joins : (a : Action) (u v : NamedPort A) → JoinOf names f g k l a u v → IsIn (u, v) (joins a)
  unfolding joins at_f_row at_g_row between_row meet_row betweens
  in_joins a u v (meet {s = s} e b) = subst (λ a. IsIn (u, v) (joins a)) (sym e)
      (in_each (u, v) (arity k) meet_row s b (inl refl))
  in_joins a u v (at_f {p = p} j e b) = subst (λ a. IsIn (u, v) (joins a)) (sym e)
      (in_left (u, v) (each (arity k) at_f_row) (each (arity l) at_g_row ++ each (arity k) betweens)
      (in_each (u, v) (arity k) at_f_row p b (inl refl)))
  in_joins a u v (at_g {q = q} j e b) = subst (λ a. IsIn (u, v) (joins a)) (sym e)
      (in_right (u, v) (each (arity k) at_f_row) (each (arity l) at_g_row ++ each (arity k) betweens)
      (in_left (u, v) (each (arity l) at_g_row) (each (arity k) betweens)
      (in_each (u, v) (arity l) at_g_row q b (inl refl))))
  in_joins a u v (between {p = p} {q = q} j e b b') = subst (λ a. IsIn (u, v) (joins a)) (sym e)
      (in_right (u, v) (each (arity k) at_f_row) (each (arity l) at_g_row ++ each (arity k) betweens)
      (in_right (u, v) (each (arity l) at_g_row) (each (arity k) betweens)
      (in_each (u, v) (arity k) betweens p b (in_each (u, v) (arity l) (between_row p) q b' (inl refl)))))

  abbrev JoinAt : Action → NamedPort A × NamedPort A → Type 0
  JoinAt a e = JoinOf names f g k l a e.0 e.1

  of_joins : (a : Action) (e : NamedPort A × NamedPort A) → IsIn e (joins a) → JoinAt a e
  unfolding joins at_f_row at_g_row between_row meet_row betweens
  of_joins meeting e h =
      let t = in_each_of e (arity k) meet_row h in
      subst (JoinAt meeting) (sym (only e (slot f (suc t.0), slot g (suc t.0)) t.2)) (meet refl t.1)
  of_joins (crossing j) e h = go (in_cases e (each (arity k) at_f_row)
      (each (arity l) at_g_row ++ each (arity k) betweens) h)
    where
      last : IsIn e (each (arity k) betweens) → JoinAt (crossing j) e
      last h =
          let t = in_each_of e (arity k) betweens h in
          let s = in_each_of e (arity l) (between_row t.0) t.2 in
          subst (JoinAt (crossing j)) (sym (only e
          (slot (names s.0) (suc t.0), slot (names (arity l + t.0)) (suc s.0)) s.2)) (between j refl t.1 s.1)

      rest : IsIn e (each (arity l) at_g_row) ⊎ IsIn e (each (arity k) betweens) → JoinAt (crossing j) e
      rest (inl h) = let t = in_each_of e (arity l) at_g_row h in
          subst (JoinAt (crossing j)) (sym (only e (slot (names t.0) 0, slot g (suc t.0)) t.2)) (at_g j refl t.1)
      rest (inr h) = last h

      go : IsIn e (each (arity k) at_f_row)
          ⊎ IsIn e (each (arity l) at_g_row ++ each (arity k) betweens) → JoinAt (crossing j) e
      go (inl h) = let t = in_each_of e (arity k) at_f_row h in
          subst (JoinAt (crossing j)) (sym (only e
          (slot (names (arity l + t.0)) 0, slot f (suc t.0)) t.2)) (at_f j refl t.1)
      go (inr h) = rest (in_cases e (each (arity l) at_g_row) (each (arity k) betweens) h)

-- ---- the edges of a step, listed with their weights

module _ {A : Type 0} (same : A → A → Bool) (test : IsTest same) (names : ℕ → A) (N : WeightedNet A)
    (f g : A) (k l : Kind) (a : Action) (wave : ℕ) where
  abbrev Port : Type 0
  Port = NamedPort A

  -- the link has no end at the two principal ports
  abbrev Stays : Port × Port → Type 0
  Stays e = (IsPrincipalOf f g e.0 → ⊥) × (IsPrincipalOf f g e.1 → ⊥)

  principal_is : (u : Port) → IsPrincipalOf f g u ⊎ (IsPrincipalOf f g u → ⊥)
  principal_is u = go (is_or_is_not (port_same same) (port_test same test) (slot f 0) u)
      (is_or_is_not (port_same same) (port_test same test) (slot g 0) u)
    where
      go : (u ≡ slot f 0) ⊎ (u ≡ slot f 0 → ⊥) → (u ≡ slot g 0) ⊎ (u ≡ slot g 0 → ⊥) →
          IsPrincipalOf f g u ⊎ (IsPrincipalOf f g u → ⊥)
      go (inl e) y = inl (inl e)
      go (inr n) (inl e) = inl (inr e)
      go (inr n) (inr m) = inr (neither n m)
        where
          neither : (u ≡ slot f 0 → ⊥) → (u ≡ slot g 0 → ⊥) → IsPrincipalOf f g u → ⊥
          neither n m (inl e) = n e
          neither n m (inr e) = m e

  stays : (e : Port × Port) → Stays e ⊎ (Stays e → ⊥)
  stays e = go (principal_is e.0) (principal_is e.1)
    where
      go : IsPrincipalOf f g e.0 ⊎ (IsPrincipalOf f g e.0 → ⊥) →
          IsPrincipalOf f g e.1 ⊎ (IsPrincipalOf f g e.1 → ⊥) → Stays e ⊎ (Stays e → ⊥)
      go (inl h) y = inr (λ s. s.0 h)
      go (inr n) (inl h) = inr (λ s. s.1 h)
      go (inr n) (inr m) = inl (n, m)

  keep : Port × Port → Bool
  keep e = tell (stays e)

  kept : List (Port × Port)
  kept = filter keep N.net.links

  as_join : Port × Port → Port × Port × ℕ
  as_join e = (e.0, e.1, wave)

  as_link : Port × Port → Port × Port × ℕ
  as_link e = (e.0, e.1, N.weight e.0 e.1)

  as_back : Port × Port → Port × Port × ℕ
  as_back e = (e.1, e.0, N.weight e.1 e.0)

  links : List (Port × Port × ℕ)
  links = map as_link kept ++ map as_back kept

  listed : List (Port × Port × ℕ)
  listed = map as_join (joins names f g k l a) ++ links

  abbrev Within : ℕ → Port → Port → Type 0
  Within n = Edge (LinkedWithin N n) (IsPrincipalOf f g) (JoinWithin names f g k l a wave n)

  abbrev Listed : ℕ → Port → Port → Type 0
  Listed n = AtMost (WeightedEdgeOf listed) n

  in_kept : (e : Port × Port) → IsIn e N.net.links → Stays e → IsIn e kept
  unfolding kept keep
  in_kept e h s = in_filter keep e N.net.links h (tell_holds (stays e) s)

  of_kept : (e : Port × Port) → IsIn e kept → IsIn e N.net.links × Stays e
  unfolding kept keep
  of_kept e h = let t = in_filter_of keep e N.net.links h in (t.0, told (stays e) t.1)

  to_listed : (n : ℕ) (u v : Port) → Within n u v → Listed n u v
  unfolding listed links as_join as_link as_back
  to_listed n u v (inr h) = (
    wave,
    in_left (u, v, wave) (map as_join (joins names f g k l a)) links
        (in_map as_join (u, v) (joins names f g k l a) (in_joins names f g k l a u v h.0)),
    h.1,
  )
  to_listed n u v (inl ((inl h, b), x, y)) = (
    N.weight u v,
    in_right (u, v, N.weight u v) (map as_join (joins names f g k l a)) links
        (in_left (u, v, N.weight u v) (map as_link kept) (map as_back kept)
        (in_map as_link (u, v) kept (in_kept (u, v) h (x, y)))),
    b,
  )
  to_listed n u v (inl ((inr h, b), x, y)) = (
    N.weight u v,
    in_right (u, v, N.weight u v) (map as_join (joins names f g k l a)) links
        (in_right (u, v, N.weight u v) (map as_link kept) (map as_back kept)
        (in_map as_back (v, u) kept (in_kept (v, u) h (y, x)))),
    b,
  )

  abbrev WithinAt : ℕ → Port × Port × ℕ → Type 0
  WithinAt n t = t.2 ≤ n → Within n t.0 t.1

  of_listed : (n : ℕ) (t : Port × Port × ℕ) → IsIn t listed → WithinAt n t
  unfolding listed links as_join as_link as_back
  of_listed n t h = go (in_cases t (map as_join (joins names f g k l a)) links h)
    where
      rest : IsIn t (map as_link kept) ⊎ IsIn t (map as_back kept) → WithinAt n t
      rest (inl h) = let x = in_map_of as_link t kept h in let c = of_kept x.0 x.1 in
          subst (WithinAt n) (sym x.2) (λ b. inl ((inl c.0, b), c.1.0, c.1.1))
      rest (inr h) = let x = in_map_of as_back t kept h in let c = of_kept x.0 x.1 in
          subst (WithinAt n) (sym x.2) (λ b. inl ((inr c.0, b), c.1.1, c.1.0))

      go : IsIn t (map as_join (joins names f g k l a)) ⊎ IsIn t links → WithinAt n t
      go (inl h) = let x = in_map_of as_join t (joins names f g k l a) h in
          subst (WithinAt n) (sym x.2) (λ b. inr (of_joins names f g k l a x.0 x.1, b))
      go (inr h) = rest (in_cases t (map as_link kept) (map as_back kept) h)

  from_listed : (n : ℕ) (u v : Port) → Listed n u v → Within n u v
  from_listed n u v (w, h, b) = of_listed n (u, v, w) h b

  abbrev Plain : Port → Port → Type 0
  Plain = Edge (Linked N.net) (IsPrincipalOf f g) (JoinOf names f g k l a)

  plain_of : (n : ℕ) (u v : Port) → Within n u v → Plain u v
  plain_of n u v (inl h) = inl (h.0.0, h.1, h.2)
  plain_of n u v (inr h) = inr h.0

  -- each edge is light enough for some weight
  some_weight : (u v : Port) → Plain u v → (n : ℕ) × Listed n u v
  some_weight u v (inl h) = (N.weight u v, to_listed (N.weight u v) u v (inl ((h.0, omega arith), h.1, h.2)))
  some_weight u v (inr h) = (wave, to_listed wave u v (inr (h, omega arith)))

  heavier_too : {u v : Port} {m n : ℕ} → m ≤ n → Joined (Listed m) u v → Joined (Listed n) u v
  heavier_too b j = joined_map (λ u v e. let c = e.2 in on here (e.0, e.1, omega arith)) j

  some_way : {u v : Port} → Joined Plain u v → (n : ℕ) × Joined (Listed n) u v
  some_way here = (0, here)
  some_way (on {v = v} {w = z} j e) = let r = some_way j in let w = some_weight v z e in
      (max r.0 w.0, on (heavier_too (omega arith) r.1) (w.1.0, w.1.1, let b = w.1.2 in omega arith))
  some_way (back {v = v} {w = z} j e) = let r = some_way j in let w = some_weight z v e in
      (max r.0 w.0, back (heavier_too (omega arith) r.1) (w.1.0, w.1.1, let b = w.1.2 in omega arith))

  narrowest : Port → Port → Option ℕ
  narrowest u v = bottle (port_same same) (port_test same test) listed u v

  weight : Port → Port → ℕ
  weight u v = number (narrowest u v)

  weighs : (M : NamedNet A) → ((u v : Port) → Linked M u v ↔ Contracted Plain (IsSlotOf f g) u v) →
      (n : ℕ) (u v : Port) →
      (Linked M u v × (weight u v ≤ n)) ↔ LeftWithin names f g k l a wave (LinkedWithin N) n u v
  unfolding weight narrowest
  weighs M left n u v = (to, from)
    where
      to : Linked M u v × (weight u v ≤ n) → LeftWithin names f g k l a wave (LinkedWithin N) n u v
      to (h, b) =
          let c = (left u v).0 h in
          let s = some_way c.joined in
          let x = under_of (port_same same) (port_test same test) listed s.0 u v s.1 in
          let y = under_less (narrowest u v) s.0 n x b in
          record {
            first = c.first;
            second = c.second;
            apart = c.apart;
            joined = joined_map (λ u v e. on here (from_listed n u v e))
                (joined_of (port_same same) (port_test same test) listed n u v y);
          }

      from : LeftWithin names f g k l a wave (LinkedWithin N) n u v → Linked M u v × (weight u v ≤ n)
      from c = (
        (left u v).1 (contracted_map (plain_of n) (λ u e s. s) u v c),
        under_number (narrowest u v) n (under_of (port_same same) (port_test same test) listed n u v
            (joined_map (λ u v e. on here (to_listed n u v e)) c.joined)),
      )

pub step_has_wave : {A : Type 0} → StepHasWave A
step_has_wave same test names N f g r M s =
    let a = s.active in
    let wave = suc (N.weight (slot f 0) (slot g 0)) in (
      weight same test names N f g a.k a.l (action_of r a.j) wave,
      record {
        step = s;
        wave_is = refl;
        weights = weighs same test names N f g a.k a.l (action_of r a.j) wave M s.rewrites.links;
      },
    )
