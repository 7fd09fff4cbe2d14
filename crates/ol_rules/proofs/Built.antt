-- The net that a step builds is the one that its relation asks for, and is counted again.
use Rattle.std.proofs.Common.{◌≡◌, ◌≢◌, ℕ, zero, suc, ◌+◌, ◌<◌, ◌≤◌, List, [], ◌∷◌, ◌++◌, map, ap, ◌∙◌, subst, arith}
use Rattle.std.proofs.Common.{filter, Bool, true, false, not, ◌||◌, ◌⊎◌, ◌↔◌, inl, inr, refl, sym}
use Rattle.ol_law_edges.proofs.Contraction.{is_or_is_not, is_other, contracted, left_edges, one_edge, ends_loop}
use Rattle.ol_law_edges.proofs.Joining.{joined_sym, joined_map}
use Rattle.ol_law_edges.specs.Edges.{IsIn, Near, ends, bit, IsTest, Joined, here, on, back, EdgeOf, Ready, contract_all}
use Rattle.ol_net.specs.Nets.{NamedPort, free, slot, NamedNet, HasNode, Linked, IsPort, IsNet, Faces, IsPrincipalOf}
use Rattle.ol_net.specs.Parts.{arity}
use Rattle.ol_net.specs.declared.parts.Kind.{Kind}
use Rattle.ol_rules.proofs.EndCounts.{in_filter, in_filter_of, ends_append, ends_filter}
use Rattle.ol_rules.proofs.EndCounts.{ends_filter_le, ends_near, ends_map}
use Rattle.ol_rules.proofs.Joins.{HasJoins}
use Rattle.ol_law_edges.proofs.Lists.{in_left, in_right, in_cases, in_map, in_map_of}
use Rattle.ol_rules.proofs.Lists.{in_each, in_each_of}
use Rattle.ol_rules.proofs.Ports.{Lasts, LinkAfter, links_of, Real, name_one, lasts_real, first_edge}
use Rattle.ol_rules.proofs.Tests.{port_test, vertex_test}
use Rattle.ol_rules.specs.Contracting.{Vertex, old, f_copy, g_copy, vertex_same, gone, name, IsCounted}
use Rattle.ol_rules.specs.Contracting.{is_principal, nodes_left, links_left, rewritten, port_same}
use Rattle.ol_rules.proofs.Wires.{Off, Join, Wire, stays, join}
use Rattle.ol_rules.specs.Laws.{IsFresh}
use Rattle.ol_rules.specs.Listed.{each}
use Rattle.ol_rules.specs.Rewriting.{Action, meeting, crossing, NodeOf, left, of_f, of_g, Rewrites}

module _ {A : Type 0} (same : A → A → Bool) (t : IsTest same) where
  flip : (N : NamedNet A) (p q : NamedPort A) → Linked N p q → Linked N q p
  flip N p q (inl h) = inr h
  flip N p q (inr h) = inl h

  -- a counted net is a net
  pub net_of : (N : NamedNet A) → IsCounted same N → IsNet N
  net_of N c = record {
    one_node = c.one_node;
    of_ports = λ p q h. (c.of_ports p q h, c.of_ports q p (flip N p q h));
    one_link = λ p q r h h'. let o = c.once p (c.of_ports p q h) in
        one_edge (port_same same) (port_test same t) p q r N.links (omega arith) h h';
    apart = λ p h. let o = c.once p (c.of_ports p p h) in
        let b = ends_loop (port_same same) (port_test same t) p N.links (either p h) in omega arith;
    some_link = λ p h. let o = c.once p h in ends_near (port_same same) (port_test same t) p N.links (omega arith);
  }
    where
      either : (p : NamedPort A) → Linked N p p → IsIn (p, p) N.links
      either p (inl h) = h
      either p (inr h) = h

  module _ (born : ℕ → A) (N : NamedNet A) (f g : A) (k : Kind) (i : ℕ) (l : Kind) (j : ℕ) (a : Action) where
    abbrev V : Type 0
    V = Vertex A

    abbrev vs : V → V → Bool
    vs = vertex_same same

    abbrev W : V → V → Type 0
    W = Wire N f g k i l j a

    abbrev rest : List (V × V)
    rest = links_left f g same born N

    abbrev dead : List V
    dead = gone f g (arity k) (arity l)

    -- the list of the nodes born
    pub record HasBorn (ns : List (A × Kind × ℕ)) : Type 0 where
      pub sound : (x : A) (m : Kind) (n : ℕ) → IsIn (x, m, n) ns → NodeOf N born f g k i l a x m n
      pub of_f : (q j' : ℕ) → a ≡ crossing j' → q < arity l → IsIn {X = A × Kind × ℕ} (born q, k, i) ns
      pub of_g : (p j' : ℕ) → a ≡ crossing j' → p < arity k → IsIn {X = A × Kind × ℕ} (born (arity l + p), l, j') ns

    module _ (counted : IsCounted same N) (faces : Faces N f g k i l j) (fresh : IsFresh N born)
        (js : List (V × V)) (has : HasJoins same t N f g k i l j a js)
        (arities : a ≡ meeting → arity k ≡ arity l)
        (dead_join : (u : V) → IsIn u dead → (w : V) × (Join N f g k i l j a u w ⊎ Join N f g k i l j a w u)) where
      is_net : IsNet N
      is_net = net_of N counted

      abbrev es : List (V × V)
      es = js ++ rest

      principal_of : (p : NamedPort A) → IsPrincipalOf f g p → is_principal f g same p ≡ true
      principal_of p (inl e) = subst (λ p. is_principal f g same p ≡ true) (sym e)
          (at_left (same f f) (same f g) (t.holds f))
        where
          at_left : (a b : Bool) → a ≡ true → a || b ≡ true
          at_left a b h = subst (λ a. a || b ≡ true) (sym h) refl
      principal_of p (inr e) = subst (λ p. is_principal f g same p ≡ true) (sym e)
          (at_right (same g f) (same g g) (t.holds g))
        where
          at_right : (a b : Bool) → b ≡ true → a || b ≡ true
          at_right true b h = refl
          at_right false b h = h

      principal_is : (p : NamedPort A) → is_principal f g same p ≡ true → IsPrincipalOf f g p
      principal_is (free n) h = absurd (cc)
      principal_is (slot x (suc s)) h = absurd (cc)
      principal_is (slot x zero) h = go (same x f) (same x g) refl refl h
        where
          go : (a b : Bool) → same x f ≡ a → same x g ≡ b → a || b ≡ true → IsPrincipalOf f g (slot x 0)
          go true b q r h = inl (ap (λ x. slot x 0) (t.tells x f q))
          go false true q r h = inr (ap (λ x. slot x 0) (t.tells x g r))
          go false false q r h = absurd (cc)

      -- what f or g faces is g or f
      faced : (p q : NamedPort A) → Linked N p q → IsPrincipalOf f g p → IsPrincipalOf f g q
      faced p q h (inl e) = inr (is_net.one_link (slot f 0) q (slot g 0) (subst (λ p. Linked N p q) e h) faces.linked)
      faced p q h (inr e) = inl (is_net.one_link (slot g 0) q (slot f 0)
          (subst (λ p. Linked N p q) e h) (flip N (slot f 0) (slot g 0) faces.linked))

      not_true : (b : Bool) → not b ≡ true → b ≡ true → ⊥
      not_true true h e = absurd (cc)
      not_true false h e = absurd (cc)

      to_not : (b : Bool) → (b ≡ true → ⊥) → not b ≡ true
      to_not true n = absurd (n refl)
      to_not false n = refl

      off_of : (p : NamedPort A) → (IsPrincipalOf f g p → ⊥) → Off f g p
      off_of p n = record { first = λ e. n (inl e); second = λ e. n (inr e) }

      not_principal : (p : NamedPort A) → Off f g p → IsPrincipalOf f g p → ⊥
      not_principal p o (inl e) = o.first e
      not_principal p o (inr e) = o.second e

      -- the edges of the list
      sound_rest : (u v : V) → ((e : NamedPort A × NamedPort A)
          × IsIn e (filter (λ e. not (is_principal f g same e.0)) N.links)
          × (◌≡◌ {A = V × V} (u, v) (old e.0, old e.1))) → W u v
      sound_rest u v (e, h, q) =
          let r = in_filter_of (λ (e : NamedPort A × NamedPort A). not (is_principal f g same e.0)) e N.links h in
          let n : IsPrincipalOf f g e.0 → ⊥ = λ m. not_true (is_principal f g same e.0) r.1 (principal_of e.0 m) in
          subst (λ (d : V × V). W d.0 d.1) (sym q)
          (stays (inl r.0) (off_of e.0 n) (off_of e.1 (λ m. n (faced e.1 e.0 (inr r.0) m))))

      sound : (u v : V) → IsIn (u, v) es → W u v
      sound u v h = go (in_cases (u, v) js rest h)
        where
          go : IsIn (u, v) js ⊎ IsIn (u, v) rest → W u v
          go (inl h) = join (has.sound u v h)
          go (inr h) = sound_rest u v (in_map_of
              (λ (e : NamedPort A × NamedPort A). (old e.0, old e.1)) (u, v)
              (filter (λ e. not (is_principal f g same e.0)) N.links) h)

      in_rest : (p q : NamedPort A) → IsIn (p, q) N.links → Off f g p → IsIn {X = V × V} (old p, old q) rest
      in_rest p q h o = in_map (λ (e : NamedPort A × NamedPort A). (old e.0, old e.1)) (p, q)
          (filter (λ e. not (is_principal f g same e.0)) N.links)
          (in_filter (λ e. not (is_principal f g same e.0)) (p, q) N.links h
          (to_not (is_principal f g same p) (λ m. not_principal p o (principal_is p m))))

      complete : (u v : V) → W u v → Near es u v
      complete u v (stays {p = p} {q = q} (inl h) o o') = inl (in_right (u, v) js rest (in_rest p q h o))
      complete u v (stays {p = p} {q = q} (inr h) o o') = inr (in_right (v, u) js rest (in_rest q p h o'))
      complete u v (join h) = inl (in_left (u, v) js rest (has.complete u v h))

      joined_wire : {u v : V} → Joined (EdgeOf es) u v → Joined W u v
      joined_wire x = joined_map (λ u v h. on here (sound u v h)) x

      joined_list : {u v : V} → Joined W u v → Joined (EdgeOf es) u v
      joined_list x = joined_map (λ u v h. near (complete u v h)) x
        where
          near : {u v : V} → Near es u v → Joined (EdgeOf es) u v
          near (inl h) = on here h
          near (inr h) = back here h

      -- the vertices that go
      Dead : V → Type 0
      Dead u = ((s : ℕ) × (s < arity k) × (u ≡ old (slot f (suc s))))
          ⊎ ((s : ℕ) × (s < arity l) × (u ≡ old (slot g (suc s))))

      dead_is : (u : V) → IsIn u dead → Dead u
      unfolding Dead
      dead_is u h = go (in_cases u (each (arity k) (λ p. old (slot f (suc p)) ∷ []))
          (each (arity l) (λ q. old (slot g (suc q)) ∷ [])) h)
        where
          one : (x : A) (n : ℕ) → ((s : ℕ) × (s < n) × IsIn u (old (slot x (suc s)) ∷ [])) →
              (s : ℕ) × (s < n) × (u ≡ old (slot x (suc s)))
          one x n (s, b, inl e) = (s, b, e)
          one x n (s, b, inr e) = absurd e

          go : IsIn u (each (arity k) (λ p. old (slot f (suc p)) ∷ []))
              ⊎ IsIn u (each (arity l) (λ q. old (slot g (suc q)) ∷ [])) → Dead u
          go (inl h) = inl (one f (arity k) (in_each_of u (arity k) (λ p. old (slot f (suc p)) ∷ []) h))
          go (inr h) = inr (one g (arity l) (in_each_of u (arity l) (λ q. old (slot g (suc q)) ∷ []) h))

      dead_f : (s : ℕ) → s < arity k → IsIn {X = V} (old (slot f (suc s))) dead
      dead_f s b = in_left (old (slot f (suc s))) (each (arity k) (λ p. old (slot f (suc p)) ∷ []))
          (each (arity l) (λ q. old (slot g (suc q)) ∷ []))
          (in_each (old (slot f (suc s))) (arity k) (λ p. old (slot f (suc p)) ∷ []) s b (inl refl))

      dead_g : (s : ℕ) → s < arity l → IsIn {X = V} (old (slot g (suc s))) dead
      dead_g s b = in_right (old (slot g (suc s))) (each (arity k) (λ p. old (slot f (suc p)) ∷ []))
          (each (arity l) (λ q. old (slot g (suc q)) ∷ []))
          (in_each (old (slot g (suc s))) (arity l) (λ q. old (slot g (suc q)) ∷ []) s b (inl refl))

      -- counts among the links that stay
      apart_bits : (p : NamedPort A) (e : NamedPort A × NamedPort A) → e.0 ≢ p → e.1 ≢ p →
          bit (port_same same p e.0) + bit (port_same same p e.1) ≡ 0
      apart_bits p e m n =
          let x = ap bit (is_other (port_same same) (port_test same t) p e.0 m) in
          let y = ap bit (is_other (port_same same) (port_test same t) p e.1 n) in
          omega arith

      ends_rest : (p : NamedPort A) → Off f g p → ends vs (old p) rest ≡ ends (port_same same) p N.links
      ends_rest p o = ends_map (port_same same) vs old p (old p)
          (filter (λ e. not (is_principal f g same e.0)) N.links) (λ e i. (refl, refl))
          ∙ ends_filter (port_same same) p (λ e. not (is_principal f g same e.0)) N.links gone_apart
        where
          not_false : (b : Bool) → not b ≡ false → b ≡ true
          not_false true h = refl
          not_false false h = absurd (cc)

          gone_apart : (e : NamedPort A × NamedPort A) → IsIn e N.links →
              not (is_principal f g same e.0) ≡ false → bit (port_same same p e.0) + bit (port_same same p e.1) ≡ 0
          gone_apart e h z =
              let m = principal_is e.0 (not_false (is_principal f g same e.0) z) in
              let m' = faced e.0 e.1 (inl h) m in
              apart_bits p e (λ r. not_principal p o (subst (λ q. IsPrincipalOf f g q) r m))
              (λ r. not_principal p o (subst (λ q. IsPrincipalOf f g q) r m'))

      ends_none : (v : V) (xs : List (NamedPort A × NamedPort A)) →
          ((p : NamedPort A) → old p ≢ v) → ends vs v
          (map (λ (e : NamedPort A × NamedPort A). (old e.0, old e.1)) xs) ≡ 0
      ends_none v [] h = refl
      ends_none v (e ∷ xs) h =
          let r = ends_none v xs h in
          let x = ap bit (is_other vs (vertex_test same t) v (old e.0) (h e.0)) in
          let y = ap bit (is_other vs (vertex_test same t) v (old e.1) (h e.1)) in
          omega arith

      ends_copy : (v : V) → ((p : NamedPort A) → old p ≢ v) → ends vs v rest ≡ 0
      ends_copy v h = ends_none v (filter (λ e. not (is_principal f g same e.0)) N.links) h

      zero_or : (n : ℕ) → (n ≡ 0) ⊎ (1 ≤ n)
      zero_or n = grind arith

      counted_le : (p : NamedPort A) → ends (port_same same) p N.links ≤ 1
      counted_le p = go (zero_or (ends (port_same same) p N.links))
        where
          go : (ends (port_same same) p N.links ≡ 0) ⊎ (1 ≤ ends (port_same same) p N.links) →
              ends (port_same same) p N.links ≤ 1
          go (inl z) = omega arith
          go (inr b) =
              let r = ends_near (port_same same) (port_test same t) p N.links b in
              let o = counted.once p (counted.of_ports p r.0 r.1) in
              omega arith

      ends_rest_le : (p : NamedPort A) → ends vs (old p) rest ≤ 1
      ends_rest_le p =
          let e = ends_map (port_same same) vs old p (old p)
          (filter (λ e. not (is_principal f g same e.0)) N.links) (λ e i. (refl, refl)) in
          let b = ends_filter_le (port_same same) p (λ e. not (is_principal f g same e.0)) N.links in
          let c = counted_le p in
          omega arith

      JoinEnd : V → Type 0
      JoinEnd u = (w : V) × (Join N f g k i l j a u w ⊎ Join N f g k i l j a w u)

      join_once : (u : V) → JoinEnd u → ends vs u js ≡ 1
      unfolding JoinEnd
      join_once u (w, inl h) = (has.once u w h).0
      join_once u (w, inr h) = (has.once w u h).1

      join_cases : (u : V) → (ends vs u js ≡ 0) ⊎ JoinEnd u
      unfolding JoinEnd
      join_cases u = go (zero_or (ends vs u js))
        where
          at : ((w : V) × Near js u w) → (w : V) × (Join N f g k i l j a u w ⊎ Join N f g k i l j a w u)
          at (w, inl h) = (w, inl (has.sound u w h))
          at (w, inr h) = (w, inr (has.sound w u h))

          go : (ends vs u js ≡ 0) ⊎ (1 ≤ ends vs u js) →
              (ends vs u js ≡ 0) ⊎ ((w : V) × (Join N f g k i l j a u w ⊎ Join N f g k i l j a w u))
          go (inl z) = inl z
          go (inr b) = inr (at (ends_near vs (vertex_test same t) u js b))

      ends_es : (u : V) → ends vs u es ≡ ends vs u js + ends vs u rest
      ends_es u = ends_append vs u js rest

      off_aux : (x : A) (s : ℕ) → Off f g (slot x (suc s))
      off_aux x s = record {
        first = λ e. let n : suc s ≡ 0 = cc in
            absurd (omega arith);
        second = λ e. let n : suc s ≡ 0 = cc in absurd (omega arith);
      }

      port_f : (s : ℕ) → s < arity k → IsPort N (slot f (suc s))
      port_f s b = (k, i, faces.first, b)

      port_g : (s : ℕ) → s < arity l → IsPort N (slot g (suc s))
      port_g s b = (l, j, faces.second, b)

      dead_twice : (u : V) → IsIn u dead → ends vs u es ≡ 2
      unfolding Dead JoinEnd
      dead_twice u h =
          let o = join_once u (dead_join u h) in
          let r = at_rest (dead_is u h) in
          let e = ends_es u in
          omega arith
        where
          one : (x : A) (s : ℕ) → IsPort N (slot x (suc s)) → ends vs (old (slot x (suc s))) rest ≡ 1
          one x s p = ends_rest (slot x (suc s)) (off_aux x s) ∙ counted.once (slot x (suc s)) p

          at_rest : Dead u → ends vs u rest ≡ 1
          at_rest (inl (s, b, e)) = subst (λ u. ends vs u rest ≡ 1) (sym e) (one f s (port_f s b))
          at_rest (inr (s, b, e)) = subst (λ u. ends vs u rest ≡ 1) (sym e) (one g s (port_g s b))

      -- an end of a join goes, or is a slot of a copy
      data IsCopy : V → Type 0 where
        of_f' : {q s : ℕ} (j' : ℕ) → q < arity l → s ≤ arity k → a ≡ crossing j' → IsCopy (f_copy q s)
        of_g' : {p s : ℕ} (j' : ℕ) → p < arity k → s ≤ arity l → a ≡ crossing j' → IsCopy (g_copy p s)

      join_kind : (b : Action) → b ≡ a → (u w : V) → Join N f g k i l j b u w →
          (IsIn u dead ⊎ IsCopy u) × (IsIn w dead ⊎ IsCopy w)
      join_kind b e u w (Join.meet {s = s} h) = (
        inl (dead_f s h),
        inl (dead_g s (subst (λ n. s < n) (arities (sym e)) h)),
      )
      join_kind b e u w (Join.at_f {j' = j'} {p = p} h) = (inr (of_g' j' h (omega arith) (sym e)), inl (dead_f p h))
      join_kind b e u w (Join.at_g {j' = j'} {q = q} h) = (inr (of_f' j' h (omega arith) (sym e)), inl (dead_g q h))
      join_kind b e u w (Join.between {j' = j'} h h') = (inr (of_f' j' h' h (sym e)), inr (of_g' j' h h' (sym e)))

      end_kind : (u : V) → JoinEnd u → IsIn u dead ⊎ IsCopy u
      unfolding JoinEnd
      end_kind u (w, inl h) = (join_kind a refl u w h).0
      end_kind u (w, inr h) = (join_kind a refl w u h).1

      copy_rest : (u : V) → IsCopy u → ends vs u rest ≡ 0
      copy_rest u (of_f' {q = q} {s = s} j' b b' e) = ends_copy (f_copy q s) (λ p r. absurd (cc))
      copy_rest u (of_g' {p = p} {s = s} j' b b' e) = ends_copy (g_copy p s) (λ p r. absurd (cc))

      rest_le : (u : V) → ends vs u rest ≤ 1
      rest_le (old p) = ends_rest_le p
      rest_le (f_copy q s) = let z = ends_copy (f_copy q s) (λ p r. absurd (cc)) in omega arith
      rest_le (g_copy q s) = let z = ends_copy (g_copy q s) (λ p r. absurd (cc)) in omega arith

      others_once : (u : V) → ¬ (IsIn u dead) → ends vs u es ≤ 1
      others_once u n = go (join_cases u)
        where
          copy : JoinEnd u → IsIn u dead ⊎ IsCopy u → ends vs u es ≤ 1
          copy h (inl d) = absurd (n d)
          copy h (inr c) = let z = copy_rest u c in let o = join_once u h in let e = ends_es u in omega arith

          go : (ends vs u js ≡ 0) ⊎ JoinEnd u → ends vs u es ≤ 1
          go (inl z) = let r = rest_le u in let e = ends_es u in omega arith
          go (inr h) = copy h (end_kind u h)

      pub ready : Ready vs dead es
      ready = record { two = λ u h. inl (dead_twice u h); one = others_once }

      fs : List (V × V)
      fs = contract_all vs dead es

      edges : (u v : V) → Near (contract_all vs dead es) u v ↔ (u ≢ v) × ¬ (IsIn u dead)
          × ¬ (IsIn v dead) × Joined (EdgeOf es) u v
      edges u v = left_edges vs (vertex_test same t) dead es ready u v

      -- an end of an edge that doesn't go is a port afterwards, and stands in the list once
      record IsLeft (u : V) : Type 0 where
        lasts : Lasts N f g k i l j a born u
        once : ends vs u es ≡ 1

      not_dead_name : (x : A) (s : ℕ) → IsPort N (slot x s) → Off f g (slot x s) →
          ¬ (IsIn {X = V} (old (slot x s)) dead) → (x ≢ f) × (x ≢ g)
      not_dead_name x zero h o n = (λ e. o.first (ap (λ x. slot x 0) e), λ e. o.second (ap (λ x. slot x 0) e))
      not_dead_name x (suc s) (m, n', h, b) o n = (
        λ e. let r = is_net.one_node f m k n' i (subst (λ x. HasNode N x m n') e h) faces.first in
            n (subst (λ x. IsIn {X = V} (old (slot x (suc s))) dead) (sym e)
            (dead_f s (subst (λ m. suc s ≤ arity m) r.0 b))),
        λ e. let r = is_net.one_node g m l n' j (subst (λ x. HasNode N x m n') e h) faces.second in
            n (subst (λ x. IsIn {X = V} (old (slot x (suc s))) dead) (sym e)
            (dead_g s (subst (λ m. suc s ≤ arity m) r.0 b))),
      )

      no_join : (p : NamedPort A) → ¬ (IsIn {X = V} (old p) dead) → ends vs (old p) js ≡ 0
      no_join p n = go (join_cases (old p))
        where
          copy : (u : V) → u ≡ old p → IsCopy u → ⊥
          copy u e (of_f' j' b b' e') = absurd (cc)
          copy u e (of_g' j' b b' e') = absurd (cc)

          kind : IsIn {X = V} (old p) dead ⊎ IsCopy (old p) → ⊥
          kind (inl d) = n d
          kind (inr c) = copy (old p) refl c

          go : (ends vs (old p) js ≡ 0) ⊎ JoinEnd (old p) → ends vs (old p) js ≡ 0
          go (inl z) = z
          go (inr h) = absurd (kind (end_kind (old p) h))

      old_port : (p : NamedPort A) → IsPort N p → Off f g p → ¬ (IsIn {X = V} (old p) dead) → IsLeft (old p)
      old_port p h o n = record {
        lasts = lasting p h o n;
        once = let z = no_join p n in
            let r = ends_rest p o in let c = counted.once p h in let e = ends_es (old p) in omega arith;
      }
        where
          lasting : (p : NamedPort A) → IsPort N p → Off f g p → ¬ (IsIn {X = V} (old p) dead) →
              Lasts N f g k i l j a born (old p)
          lasting (free m) h o n = tt
          lasting (slot x s) h o n = let r = not_dead_name x s h o n in (r.0, r.1, (h.0, h.1, h.2))

      copy_port : (u : V) → IsCopy u → JoinEnd u → IsLeft u
      copy_port u c h = record {
        lasts = lasting u c;
        once = let z = copy_rest u c in
            let o = join_once u h in let e = ends_es u in omega arith;
      }
        where
          lasting : (u : V) → IsCopy u → Lasts N f g k i l j a born u
          lasting u (of_f' j' b b' e) = b
          lasting u (of_g' j' b b' e) = tt

      Wired : V → Type 0
      Wired u = (w : V) × (W u w ⊎ W w u)

      wired_port : (u : V) → Wired u → ¬ (IsIn u dead) → IsLeft u
      unfolding Wired JoinEnd
      wired_port u (w, inl (stays {p = p} {q = q} h o o')) n = old_port p (counted.of_ports p q h) o n
      wired_port u (w, inr (stays {p = p} {q = q} h o o')) n = old_port q (counted.of_ports q p (flip N p q h)) o' n
      wired_port u (w, inl (join h)) n = go (end_kind u (w, inl h))
        where
          go : IsIn u dead ⊎ IsCopy u → IsLeft u
          go (inl d) = absurd (n d)
          go (inr c) = copy_port u c (w, inl h)
      wired_port u (w, inr (join h)) n = go (end_kind u (w, inr h))
        where
          go : IsIn u dead ⊎ IsCopy u → IsLeft u
          go (inl d) = absurd (n d)
          go (inr c) = copy_port u c (w, inr h)

      nm : V → NamedPort A
      nm = name f g (arity l) born

      wired_of : (u v : V) → Joined (EdgeOf es) u v → u ≢ v → Wired u
      unfolding Wired
      wired_of u v h n = go (first_edge (joined_wire h))
        where
          go : (u ≡ v) ⊎ ((w : V) × (W u w ⊎ W w u)) → (w : V) × (W u w ⊎ W w u)
          go (inl e) = absurd (n e)
          go (inr r) = r

      both_ports : (u v : V) → Near (contract_all vs dead es) u v → IsLeft u × IsLeft v
      both_ports u v h =
          let r = (edges u v).0 h in
          (wired_port u (wired_of u v r.3 r.0) r.1, wired_port v (wired_of v u (joined_sym r.3) (λ e. r.0 (sym e))) r.2)

      lasts_not_dead : (u : V) → Lasts N f g k i l j a born u → ¬ (IsIn u dead)
      unfolding Dead
      lasts_not_dead u h d = go u h (dead_is u d)
        where
          go : (u : V) → Lasts N f g k i l j a born u → Dead u → ⊥
          go (old (free n)) h (inl (s, b, e)) = absurd (cc)
          go (old (free n)) h (inr (s, b, e)) = absurd (cc)
          go (old (slot x r)) h (inl (s, b, e)) = h.0 (cc)
          go (old (slot x r)) h (inr (s, b, e)) = h.1 (cc)
          go (f_copy q r) h (inl (s, b, e)) = absurd (cc)
          go (f_copy q r) h (inr (s, b, e)) = absurd (cc)
          go (g_copy q r) h (inl (s, b, e)) = absurd (cc)
          go (g_copy q r) h (inr (s, b, e)) = absurd (cc)

      named_links : List (NamedPort A × NamedPort A)
      named_links = map (λ (e : V × V). (name f g (arity l) born e.0, name f g (arity l) born e.1))
          (contract_all vs dead es)

      link_after : (u v : V) → Near (contract_all vs dead es) u v → LinkAfter N f g k i l j a born (nm u) (nm v)
      unfolding nm
      link_after u v h =
          let r = (edges u v).0 h in
          let p = both_ports u v h in
          record {
            from = u;
            to = v;
            from_lasts = p.0.lasts;
            to_lasts = p.1.lasts;
            apart = r.0;
            joined = joined_wire r.3;
            from_is = refl;
            to_is = refl;
          }

      links_to : (p q : NamedPort A) → Near named_links p q → LinkAfter N f g k i l j a born p q
      unfolding named_links nm
      links_to p q (inl h) = go (in_map_of
          (λ (e : V × V). (name f g (arity l) born e.0, name f g (arity l) born e.1)) (p, q)
          (contract_all vs dead es) h)
        where
          go : ((e : V × V) × IsIn e (contract_all vs dead es)
              × (◌≡◌ {A = NamedPort A × NamedPort A} (p, q) (nm e.0, nm e.1))) → LinkAfter N f g k i l j a born p q
          go (e, h, r) = subst (λ (d : NamedPort A × NamedPort A).
              LinkAfter N f g k i l j a born d.0 d.1) (sym r) (link_after e.0 e.1 (inl h))
      links_to p q (inr h) = go (in_map_of
          (λ (e : V × V). (name f g (arity l) born e.0, name f g (arity l) born e.1)) (q, p)
          (contract_all vs dead es) h)
        where
          go : ((e : V × V) × IsIn e (contract_all vs dead es)
              × (◌≡◌ {A = NamedPort A × NamedPort A} (q, p) (nm e.0, nm e.1))) → LinkAfter N f g k i l j a born p q
          go (e, h, r) = subst (λ (d : NamedPort A × NamedPort A).
              LinkAfter N f g k i l j a born d.1 d.0) (sym r) (link_after e.1 e.0 (inr h))

      links_from : (p q : NamedPort A) → LinkAfter N f g k i l j a born p q → Near named_links p q
      unfolding named_links nm
      links_from p q c = go ((edges c.from c.to).1
          (c.apart, lasts_not_dead c.from c.from_lasts, lasts_not_dead c.to c.to_lasts, joined_list c.joined))
        where
          m : V × V → NamedPort A × NamedPort A
          m e = (name f g (arity l) born e.0, name f g (arity l) born e.1)

          go : Near (contract_all vs dead es) c.from c.to → Near named_links p q
          go (inl h) = inl (subst (λ (d : NamedPort A × NamedPort A). IsIn d named_links)
              (ap (λ p. (p, nm c.to)) (sym c.from_is) ∙ ap (λ q. (p, q)) (sym c.to_is))
              (in_map m (c.from, c.to) (contract_all vs dead es) h))
          go (inr h) = inr (subst (λ (d : NamedPort A × NamedPort A). IsIn d named_links)
              (ap (λ q. (q, nm c.from)) (sym c.to_is) ∙ ap (λ p. (q, p)) (sym c.from_is))
              (in_map m (c.to, c.from) (contract_all vs dead es) h))

      module _ (ns : List (A × Kind × ℕ)) (births : HasBorn ns) where
        abbrev pub built : NamedNet A
        built = rewritten f g same born N ns js (arity k) (arity l)

        nodes_to : (x : A) (m : Kind) (n : ℕ) → HasNode built x m n → NodeOf N born f g k i l a x m n
        nodes_to x m n h = go (in_cases (x, m, n) (nodes_left f g same born N) ns h)
          where
            neither : (b c : Bool) → not (b || c) ≡ true → (b ≡ false) × (c ≡ false)
            neither true c h = absurd (cc)
            neither false true h = absurd (cc)
            neither false false h = (refl, refl)

            apart : (y : A) → same x y ≡ false → x ≢ y
            apart y z e = let r : same x y ≡ true = subst (λ y. same x y ≡ true) e (t.holds x) in absurd (cc)

            go : IsIn {X = A × Kind × ℕ} (x, m, n) (nodes_left f g same born N)
                ⊎ IsIn {X = A × Kind × ℕ} (x, m, n) ns → NodeOf N born f g k i l a x m n
            go (inl h) =
                let r = in_filter_of (λ (n : A × Kind × ℕ). not (same n.0 f || same n.0 g)) (x, m, n) N.nodes h in
                let z = neither (same x f) (same x g) r.1 in
                left r.0 (apart f z.0) (apart g z.1)
            go (inr h) = births.sound x m n h

        nodes_from : (x : A) (m : Kind) (n : ℕ) → NodeOf N born f g k i l a x m n → HasNode built x m n
        nodes_from x m n (left h x' x'') =
            let a = is_other same t x f (λ e. x' (sym e)) in
            let b = is_other same t x g (λ e. x'' (sym e)) in
            in_left (x, m, n) (nodes_left f g same born N) ns
            (in_filter (λ (n : A × Kind × ℕ). not (same n.0 f || same n.0 g)) (x, m, n) N.nodes h
            (subst (λ b. not (b || same x g) ≡ true) (sym a) (subst (λ b. not b ≡ true) (sym b) refl)))
        nodes_from x m n (of_f {q = q} j' e b) = in_right (born q, k, i)
            (nodes_left f g same born N) ns (births.of_f q j' e b)
        nodes_from x m n (of_g {p = p} j' e b) = in_right (born (arity l + p), l, j')
            (nodes_left f g same born N) ns (births.of_g p j' e b)

        pub built_rewrites : Rewrites born N f g k i l a built
        unfolding named_links
        built_rewrites = record {
          free_ports = refl;
          nodes = λ x m n. (nodes_to x m n, nodes_from x m n);
          links = λ p q.
              let c = links_of N f g k i l j a born is_net faces fresh p q in
              ((λ h. c.0 (links_to p q h)), (λ h. links_from p q (c.1 h)));
        }

        Origin : A → Kind → ℕ → Type 0
        Origin x m n = HasNode N x m n ⊎ (((q : ℕ) × (q < arity l) × (x ≡ born q) × (m ≡ k)
            × (n ≡ i)) ⊎ ((p : ℕ) × (j' : ℕ) × (a ≡ crossing j') × (x ≡ born (arity l + p)) × (m ≡ l) × (n ≡ j')))

        origin : (x : A) (m : Kind) (n : ℕ) → NodeOf N born f g k i l a x m n → Origin x m n
        unfolding Origin
        origin x m n (left h x' x'') = inl h
        origin x m n (of_f {q = q} j' e b) = inr (inl (q, b, refl, refl, refl))
        origin x m n (of_g {p = p} j' e b) = inr (inr (p, j', e, refl, refl, refl))

        one_origin : (x : A) (m m' : Kind) (n n' : ℕ) → Origin x m n → Origin x m' n' → (m ≡ m') × (n ≡ n')
        unfolding Origin
        one_origin x m m' n n' (inl h) (inl h') = counted.one_node x m m' n n' h h'
        one_origin x m m' n n' (inl h) (inr (inl r)) = absurd (fresh.unused x m n r.0 h r.2)
        one_origin x m m' n n' (inl h) (inr (inr r)) = absurd (fresh.unused x m n (arity l + r.0) h r.3)
        one_origin x m m' n n' (inr (inl r)) (inl h) = absurd (fresh.unused x m' n' r.0 h r.2)
        one_origin x m m' n n' (inr (inr r)) (inl h) = absurd (fresh.unused x m' n' (arity l + r.0) h r.3)
        one_origin x m m' n n' (inr (inl r)) (inr (inl r')) = (r.3 ∙ sym r'.3, r.4 ∙ sym r'.4)
        one_origin x m m' n n' (inr (inl r)) (inr (inr r')) = let z = fresh.apart r.0
            (arity l + r'.0) (sym r.2 ∙ r'.3) in let b = r.1 in absurd (omega arith)
        one_origin x m m' n n' (inr (inr r)) (inr (inl r')) = let z = fresh.apart r'.0
            (arity l + r.0) (sym r'.2 ∙ r.3) in let b = r'.1 in absurd (omega arith)
        one_origin x m m' n n' (inr (inr r)) (inr (inr r')) =
            let z : crossing r.1 ≡ crossing r'.1 = sym r.2 ∙ r'.2 in
            let z' : r.1 ≡ r'.1 = cc in
            (r.4 ∙ sym r'.4, r.5 ∙ z' ∙ sym r'.5)

        port_built : (u : V) → Wired u → ¬ (IsIn u dead) → IsPort built (nm u)
        unfolding Wired JoinEnd nm
        port_built u w n = go u w n
          where
            of_old : (p : NamedPort A) → IsPort N p → Off f g p → ¬ (IsIn {X = V} (old p) dead) → IsPort built p
            of_old (free m) h o n = h
            of_old (slot x s) h o n = let r = not_dead_name x s h o n in
                (h.0, h.1, nodes_from x h.0 h.1 (left h.2 r.0 r.1), h.3)

            of_copy : (u : V) → IsCopy u → IsPort built (nm u)
            of_copy u (of_f' {q = q} j' b b' e) = (k, i, nodes_from (born q) k i (of_f j' e b), b')
            of_copy u (of_g' {p = p} j' b b' e) = (l, j', nodes_from (born (arity l + p)) l j' (of_g j' e b), b')

            of_kind : (u : V) → ¬ (IsIn u dead) → IsIn u dead ⊎ IsCopy u → IsPort built (nm u)
            of_kind u n (inl d) = absurd (n d)
            of_kind u n (inr c) = of_copy u c

            go : (u : V) → ((w : V) × (W u w ⊎ W w u)) → ¬ (IsIn u dead) → IsPort built (nm u)
            go u (w, inl (stays {p = p} {q = q} h o o')) n = of_old p (counted.of_ports p q h) o n
            go u (w, inr (stays {p = p} {q = q} h o o')) n = of_old q (counted.of_ports q p (flip N p q h)) o' n
            go u (w, inl (join h)) n = of_kind u n (end_kind u (w, inl h))
            go u (w, inr (join h)) n = of_kind u n (end_kind u (w, inr h))

        -- the vertex of a port afterwards
        record VertexOf (p : NamedPort A) : Type 0 where
          vertex : V
          named : p ≡ nm vertex
          lasts : Lasts N f g k i l j a born vertex
          once : ends vs vertex es ≡ 1

        of_port' : (p : NamedPort A) (u : V) → p ≡ nm u → IsLeft u → VertexOf p
        of_port' p u e h = record { vertex = u; named = e; lasts = h.lasts; once = h.once }

        join_at : (u v : V) (b : Action) → a ≡ b → Join N f g k i l j b u v → Join N f g k i l j a u v
        join_at u v b e h = subst (λ a. Join N f g k i l j a u v) (sym e) h

        f_end : (q s j' : ℕ) → a ≡ crossing j' → q < arity l → s ≤ arity k → JoinEnd (f_copy q s)
        unfolding JoinEnd
        f_end q zero j' e b b' = (
          old (slot g (suc q)),
          inl (join_at (f_copy q 0) (old (slot g (suc q))) (crossing j') e (Join.at_g b)),
        )
        f_end q (suc s) j' e b b' = (
          g_copy s (suc q),
          inl (join_at (f_copy q (suc s)) (g_copy s (suc q)) (crossing j') e (Join.between b' b)),
        )

        g_end : (p s j' : ℕ) → a ≡ crossing j' → p < arity k → s ≤ arity l → JoinEnd (g_copy p s)
        unfolding JoinEnd
        g_end p zero j' e b b' = (
          old (slot f (suc p)),
          inl (join_at (g_copy p 0) (old (slot f (suc p))) (crossing j') e (Join.at_f b)),
        )
        g_end p (suc s) j' e b b' = (
          f_copy s (suc p),
          inr (join_at (f_copy s (suc p)) (g_copy p (suc s)) (crossing j') e (Join.between b b')),
        )

        not_dead : (u : V) → Lasts N f g k i l j a born u → ¬ (IsIn u dead)
        not_dead = lasts_not_dead

        vertex_slot : (x : A) (s : ℕ) (m : Kind) (n : ℕ) → NodeOf N born f g k i l a x m n →
            s ≤ arity m → VertexOf (slot x s)
        unfolding nm
        vertex_slot x s m n (left h x' x'') b =
            let o : Off f g (slot x s) = record { first = λ e. x' (cc); second = λ e. x'' (cc) } in
            of_port' (slot x s) (old (slot x s)) refl
            (old_port (slot x s) (m, n, h, b) o (not_dead (old (slot x s)) (x', x'', (m, n, h))))
        vertex_slot x s m n (of_f {q = q} j' e b') b = of_port' (slot (born q) s) (f_copy q s) refl
            (copy_port (f_copy q s) (of_f' j' b' b e) (f_end q s j' e b' b))
        vertex_slot x s m n (of_g {p = p} j' e b') b = of_port' (slot (born (arity l + p)) s)
            (g_copy p s) refl (copy_port (g_copy p s) (of_g' j' b' b e) (g_end p s j' e b' b))

        vertex_of : (p : NamedPort A) → IsPort built p → VertexOf p
        unfolding nm
        vertex_of (free n) h = of_port' (free n) (old (free n)) refl
            (old_port (free n) h (record { first = λ e. absurd (cc); second = λ e. absurd (cc) })
            (not_dead (old (free n)) tt))
        vertex_of (slot x s) (m, n, h, b) = vertex_slot x s m n (nodes_to x m n h) b

        agree : (u v : V) → Real N f g k i l j a born u → Real N f g k i l j a born v →
            port_same same (nm u) (nm v) ≡ vs u v
        unfolding nm
        agree u v r r' = go (is_or_is_not vs (vertex_test same t) u v)
          where
            go : (v ≡ u) ⊎ (v ≢ u) → port_same same (name f g (arity l) born u) (name f g (arity l) born v) ≡ vs u v
            go (inl e) =
                subst (λ v. port_same same (name f g (arity l) born u)
                (name f g (arity l) born v) ≡ true) (sym e) ((port_test same t).holds (name f g (arity l) born u))
                ∙ sym (subst (λ v. vs u v ≡ true) (sym e) ((vertex_test same t).holds u))
            go (inr n) =
                is_other (port_same same) (port_test same t) (name f g (arity l) born u)
                (name f g (arity l) born v) (λ e. n (name_one N f g k i l j a born is_net faces fresh v u r' r e))
                ∙ sym (is_other vs (vertex_test same t) u v n)

        once_built : (p : NamedPort A) → IsPort built p → ends (port_same same) p built.links ≡ 1
        unfolding nm
        once_built p h =
            let v = vertex_of p h in
            let d = contracted vs (vertex_test same t) dead es (λ u h. inl (dead_twice u h)) in
            ap (λ p. ends (port_same same) p (map
            (λ (e : V × V). (name f g (arity l) born e.0, name f g (arity l) born e.1))
            (contract_all vs dead es))) v.named
            ∙ ends_map vs (port_same same) (name f g (arity l) born) v.vertex (nm v.vertex) (contract_all vs dead es)
            (λ e h. let r = both_ports e.0 e.1 (inl h) in (
              agree v.vertex e.0 (lasts_real N f g k i l j a born is_net faces fresh v.vertex
                  v.lasts) (lasts_real N f g k i l j a born is_net faces fresh e.0 r.0.lasts),
              agree v.vertex e.1 (lasts_real N f g k i l j a born is_net faces fresh v.vertex
                  v.lasts) (lasts_real N f g k i l j a born is_net faces fresh e.1 r.1.lasts),
            ))
            ∙ d.ends_stay v.vertex (not_dead v.vertex v.lasts) ∙ v.once

        pub built_counted : IsCounted same built
        unfolding nm named_links
        built_counted = record {
          one_node = λ x m m' n n' h h'. one_origin x m m' n n' (origin x m n (nodes_to x m n h))
              (origin x m' n' (nodes_to x m' n' h'));
          of_ports = λ p q h. of_link p q (links_to p q h);
          once = once_built;
        }
          where
            of_link : (p q : NamedPort A) → LinkAfter N f g k i l j a born p q → IsPort built p
            of_link p q c = subst (λ p. IsPort built p) (sym c.from_is)
                (port_built c.from (wired_of c.from c.to (joined_list c.joined) c.apart) (not_dead c.from c.from_lasts))
