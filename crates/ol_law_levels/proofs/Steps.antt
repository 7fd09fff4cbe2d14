-- A step of a levelled net leaves a levelled net.
-- Used in Runs, for `step_keeps_levels`, and in crates above.
use Rattle.std.proofs.Common.{◌≡◌, ◌≢◌, ℕ, zero, suc, ◌+◌, ◌-◌, ◌<◌, Bool, true, false, not, nat_lt, if◌then◌else◌}
use Rattle.std.proofs.Common.{Option, Some, None, inl, inr, refl, sym, ap, ◌∙◌, subst, arith}
use Rattle.ol_law_edges.specs.Edges.{IsTest}
use Rattle.ol_law_edges.proofs.Lists.{if_below, if_above}
use Rattle.ol_net.specs.Nets.{NamedPort, free, slot, NamedNet, HasNode, Linked, IsNet, Faces}
use Rattle.ol_net.specs.Parts.{arity}
use Rattle.ol_net.specs.declared.parts.Kind.{Kind}
use Rattle.ol_rules.proofs.Ports.{named, LinkAfter, links_of}
use Rattle.ol_rules.specs.Contracting.{Vertex, old, f_copy, g_copy}
use Rattle.ol_rules.specs.Laws.{IsFresh}
use Rattle.ol_rules.specs.Rewriting.{Action, meeting, crossing, action_of, NodeOf, left, of_f, of_g, Rewrites}
use Rattle.ol_law_levels.specs.Levels.{CanStand, depth_beside, out_beside, IsLevelled}
use Rattle.ol_law_levels.specs.Laws.{StepKeepsLevels}
use Rattle.ol_law_levels.proofs.Copies.{depth_of, out_of, g_depths, g_outs, f_depths, f_outs, joined_depth, IsThere}
use Rattle.ol_law_levels.proofs.Copies.{turned}
use Rattle.ol_law_levels.proofs.Table.{Suits, rule_suits}

module _ {A : Type 0} (same : A → A → Bool) (t : IsTest same) (born : ℕ → A) where
  -- the last place before n at which a node has this name
  place_of : ℕ → A → Option ℕ
  place_of zero x = None
  place_of (suc n) x = if same x (born n) then Some n else place_of n x

  not_born : (n : ℕ) (x : A) → ((p : ℕ) → x ≢ born p) → place_of n x ≡ None
  unfolding place_of
  not_born zero x h = refl
  not_born (suc n) x h = go (not_born n x h) (same x (born n)) refl
    where
      go : place_of n x ≡ None → (b : Bool) → same x (born n) ≡ b →
          (if b then Some n else place_of n x) ≡ None
      go rest true e = absurd (h n (t.tells x (born n) e))
      go rest false e = rest

  is_born : ((m n : ℕ) → born m ≡ born n → m ≡ n) → (n p : ℕ) → p < n → place_of n (born p) ≡ Some p
  unfolding place_of
  is_born apart zero p h = absurd (omega arith)
  is_born apart (suc n) p h = go (is_born apart n p) (same (born p) (born n)) refl
    where
      go : (p < n → place_of n (born p) ≡ Some p) → (b : Bool) → same (born p) (born n) ≡ b →
          (if b then Some n else place_of n (born p)) ≡ Some p
      go rest true e = ap (λ m. Some m) (sym (apart p n (t.tells (born p) (born n) e)))
      go rest false e = rest (let off : p ≢ n = differ e in omega arith)
        where
          differ : same (born p) (born n) ≡ false → p ≢ n
          differ e q = let r : same (born n) (born n) ≡ false =
              subst (λ p. same (born p) (born n) ≡ false) q e in let h = t.holds (born n) in
              absurd (cc)

  -- the vertex of a port, where m copies of the one node come before those of the other
  at_place : ℕ → A → ℕ → Option ℕ → Vertex A
  at_place m x s None = old (slot x s)
  at_place m x s (Some p) = if nat_lt p m then f_copy p s else g_copy (p - m) s

  vertex : ℕ → ℕ → NamedPort A → Vertex A
  vertex m n (free f) = old (free f)
  vertex m n (slot x s) = at_place m x s (place_of n x)

  vertex_old : (m n : ℕ) (x : A) (s : ℕ) → ((p : ℕ) → x ≢ born p) →
      vertex m n (slot x s) ≡ old (slot x s)
  unfolding vertex at_place
  vertex_old m n x s h = ap (at_place m x s) (not_born n x h)

  vertex_f : ((m n : ℕ) → born m ≡ born n → m ≡ n) → (m n q s : ℕ) → q < m →
      vertex m (m + n) (slot (born q) s) ≡ f_copy q s
  unfolding vertex at_place
  vertex_f apart m n q s h = ap (at_place m (born q) s) (is_born apart (m + n) q (omega arith))
      ∙ if_below q m (f_copy q s) (g_copy (q - m) s) h

  vertex_g : ((m n : ℕ) → born m ≡ born n → m ≡ n) → (m n p s : ℕ) → p < n →
      vertex m (m + n) (slot (born (m + p)) s) ≡ g_copy p s
  unfolding vertex at_place
  vertex_g apart m n p s h =
      let e : m + p - m ≡ p = omega arith in
      ap (at_place m (born (m + p)) s) (is_born apart (m + n) (m + p) (omega arith))
      ∙ if_above (m + p) m (f_copy (m + p) s) (g_copy (m + p - m) s) (omega arith)
      ∙ ap (λ p. g_copy p s) e

  module _ (N : NamedNet A) (is_net : IsNet N) (fresh : IsFresh N born) (L : IsLevelled N)
      (f g : A) (k : Kind) (i : ℕ) (l : Kind) (j : ℕ) (faces : Faces N f g k i l j)
      (a : Action) (suits : Suits a k i l (L.depth (slot f 0)) (L.is_out (slot f 0)))
      (M : NamedNet A) (rewrites : Rewrites born N f g k i l a M) where
    abbrev vertex_of : NamedPort A → Vertex A
    vertex_of p = vertex (arity l) (arity l + arity k) p

    abbrev depth : Vertex A → ℕ
    depth u = depth_of N L f g k i l j u

    abbrev out : Vertex A → Bool
    out u = out_of N L f g k i l j u

    abbrev There : Vertex A → Type 0
    There u = IsThere N L f g k i l j faces a suits same t is_net born u

    old_of : (x : A) (s : ℕ) (m : Kind) (n : ℕ) → HasNode N x m n →
        vertex_of (slot x s) ≡ old (slot x s)
    old_of x s m n h = vertex_old (arity l) (arity l + arity k) x s (λ p. fresh.unused x m n p h)

    vertex_named : (u : Vertex A) → There u → vertex_of (named N f g k i l j a born u) ≡ u
    unfolding vertex
    vertex_named (old (free n)) h = refl
    vertex_named (old (slot x s)) h = old_of x s h.2.0 h.2.1 h.2.2
    vertex_named (f_copy q s) h = vertex_f fresh.apart (arity l) (arity k) q s h
    vertex_named (g_copy p s) h = vertex_g fresh.apart (arity l) (arity k) p s h

    linked : (p q : NamedPort A) → LinkAfter N f g k i l j a born p q →
        (depth (vertex_of p) ≡ depth (vertex_of q)) × (out (vertex_of p) ≡ not (out (vertex_of q)))
    linked p q h =
        let r = turned N L f g k i l j faces a suits same t is_net born h.from_lasts h.to_lasts
        h.apart h.joined in
        let e : vertex_of p ≡ h.from = ap vertex_of h.from_is ∙ vertex_named h.from r.0 in
        let e' : vertex_of q ≡ h.to = ap vertex_of h.to_is ∙ vertex_named h.to r.1 in (
          ap depth e ∙ joined_depth N L f g k i l j faces a suits h.joined ∙ sym (ap depth e'),
          ap out e ∙ r.2 ∙ ap (λ u. not (out u)) (sym e'),
        )

    abbrev Stands : A → Kind → ℕ → Type 0
    Stands x m n = CanStand m n (depth (vertex_of (slot x 0))) (out (vertex_of (slot x 0)))

    abbrev Beside : A → Kind → ℕ → Type 0
    Beside x m s =
        (depth (vertex_of (slot x (suc s))) ≡ depth_beside m s (depth (vertex_of (slot x 0))))
        × (out (vertex_of (slot x (suc s))) ≡ out_beside m s (out (vertex_of (slot x 0))))

    -- by the vertices of slot 0 and of the slot beside it
    beside_at : (x : A) (m : Kind) (s : ℕ) (u v : Vertex A) → vertex_of (slot x 0) ≡ u →
        vertex_of (slot x (suc s)) ≡ v
        → (depth v ≡ depth_beside m s (depth u)) × (out v ≡ out_beside m s (out u)) → Beside x m s
    beside_at x m s u v e e' h = (
      ap depth e' ∙ h.0 ∙ ap (λ u. depth_beside m s (depth u)) (sym e),
      ap out e' ∙ h.1 ∙ ap (λ u. out_beside m s (out u)) (sym e),
    )

    stands_at : (x : A) (m : Kind) (n : ℕ) (u : Vertex A) → vertex_of (slot x 0) ≡ u →
        CanStand m n (depth u) (out u) → Stands x m n
    stands_at x m n u e h = subst (λ u. CanStand m n (depth u) (out u)) (sym e) h

    f_copy_stands : (b : Action) → Suits b k i l (L.depth (slot f 0)) (L.is_out (slot f 0)) →
        (j' q : ℕ) → b ≡ crossing j' → q < arity l →
        CanStand k i (depth (f_copy q 0)) (out (f_copy q 0))
    f_copy_stands meeting m j' q e h = absurd (cc)
    f_copy_stands (crossing j2) m j' q e h =
        subst (λ d. CanStand k i d (L.is_out (slot g (suc q))))
        (sym (g_depths N L f g k i l j faces a suits q h))
        (subst (λ o. CanStand k i (depth_beside l q (L.depth (slot f 0))) o)
        (sym (g_outs N L f g k i l j faces a suits q h)) (m.f_stands q h))

    index_is : (j2 j' : ℕ) → crossing j2 ≡ crossing j' → j2 ≡ j'
    index_is j2 j' e = cc

    g_copy_stands : (b : Action) → Suits b k i l (L.depth (slot f 0)) (L.is_out (slot f 0)) →
        (j' p : ℕ) → b ≡ crossing j' → p < arity k →
        CanStand l j' (depth (g_copy p 0)) (out (g_copy p 0))
    g_copy_stands meeting m j' p e h = absurd (cc)
    g_copy_stands (crossing j2) m j' p e h =
        subst (λ n. CanStand l n (L.depth (slot f (suc p))) (L.is_out (slot f (suc p))))
        (index_is j2 j' e)
        (subst (λ d. CanStand l j2 d (L.is_out (slot f (suc p))))
        (sym (f_depths N L f g k i l j faces a suits p h))
        (subst (λ o. CanStand l j2 (depth_beside k p (L.depth (slot f 0))) o)
        (sym (f_outs N L f g k i l j faces a suits p h)) (m.g_stands p h)))

    stands : (x : A) (m : Kind) (n : ℕ) → NodeOf N born f g k i l a x m n → Stands x m n
    stands x m n (left h y z) = stands_at x m n (old (slot x 0)) (old_of x 0 m n h)
        (L.stands x m n h)
    stands x m n (of_f {q = q} j' e h) =
        stands_at (born q) k i (f_copy q 0) (vertex_f fresh.apart (arity l) (arity k) q 0 h)
        (f_copy_stands a suits j' q e h)
    stands x m n (of_g {p = p} j' e h) =
        stands_at (born (arity l + p)) l j' (g_copy p 0)
        (vertex_g fresh.apart (arity l) (arity k) p 0 h) (g_copy_stands a suits j' p e h)

    beside : (x : A) (m : Kind) (n s : ℕ) → NodeOf N born f g k i l a x m n → s < arity m →
        Beside x m s
    beside x m n s (left h y z) b =
        beside_at x m s (old (slot x 0)) (old (slot x (suc s))) (old_of x 0 m n h)
        (old_of x (suc s) m n h) (L.beside x m n s h b)
    beside x m n s (of_f {q = q} j' e h) b =
        beside_at (born q) k s (f_copy q 0) (f_copy q (suc s))
        (vertex_f fresh.apart (arity l) (arity k) q 0 h)
        (vertex_f fresh.apart (arity l) (arity k) q (suc s) h) (refl, refl)
    beside x m n s (of_g {p = p} j' e h) b =
        beside_at (born (arity l + p)) l s (g_copy p 0) (g_copy p (suc s))
        (vertex_g fresh.apart (arity l) (arity k) p 0 h)
        (vertex_g fresh.apart (arity l) (arity k) p (suc s) h) (refl, refl)

    pub after : IsLevelled M
    unfolding vertex
    after = record {
      depth = λ p. depth (vertex_of p);
      is_out = λ p. out (vertex_of p);
      links = λ p q h. linked p q ((links_of N f g k i l j a born is_net faces fresh p q).1
          ((rewrites.links p q).0 h));
      stands = λ x m n h. stands x m n ((rewrites.nodes x m n).0 h);
      beside = λ x m n s h b. beside x m n s ((rewrites.nodes x m n).0 h) b;
      root = L.root;
      names = L.names;
    }

module _ {A : Type 0} where
  pub step_keeps_levels : StepKeepsLevels A
  step_keeps_levels same t born N M f g r is_net fresh s L =
      let x = s.active in
      let c' : CanStand x.l x.j (L.depth (slot f 0)) (not (L.is_out (slot f 0))) =
      subst (λ d. CanStand x.l x.j d (not (L.is_out (slot f 0)))) (turn x.faces.linked).0
      (subst (λ o. CanStand x.l x.j (L.depth (slot g 0)) o) (turn x.faces.linked).1
      (L.stands g x.l x.j x.faces.second)) in
      let suits = rule_suits x.k x.i x.l x.j (L.depth (slot f 0)) (L.is_out (slot f 0)) r
      (L.stands f x.k x.i x.faces.first) c' x.fits in
      after same t born N is_net fresh L f g x.k x.i x.l x.j x.faces (action_of r x.j) suits M
      s.rewrites
    where
      turn : Linked N (slot f 0) (slot g 0) → (L.depth (slot g 0) ≡ L.depth (slot f 0))
          × (L.is_out (slot g 0) ≡ not (L.is_out (slot f 0)))
      turn (inl h) = L.links (slot g 0) (slot f 0) (inr h)
      turn (inr h) = L.links (slot g 0) (slot f 0) (inl h)
