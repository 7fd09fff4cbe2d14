-- What a step makes of virtual redexes.
use Rattle.std.proofs.Common.{◌≡◌, ◌≢◌, ℕ, suc, ◌+◌, ◌<◌, Bool, ◌⊎◌, inl, inr, List, ◌∷◌, length}
use Rattle.std.proofs.Common.{refl, sym, ap, ◌∙◌, subst, arith}
use Rattle.ol_context.proofs.Contexts.{injective}
use Rattle.ol_context.specs.Contexts.{Level, Context, empty, up}
use Rattle.ol_law_edges.proofs.Contraction.{is_or_is_not}
use Rattle.ol_law_edges.specs.Edges.{IsTest}
use Rattle.ol_invariance.proofs.Moves.{Meets, Suits}
use Rattle.ol_net.specs.Nets.{NamedPort, slot, NamedNet, HasNode, Linked, IsNet, Faces}
use Rattle.ol_net.specs.Parts.{arity}
use Rattle.ol_net.specs.declared.parts.Kind.{Kind}
use Rattle.ol_net.specs.declared.parts.Kind.TheVariants as kind
use Rattle.ol_rules.proofs.FreshPairs.{linked_sym}
use Rattle.ol_rules.specs.Contracting.{old, g_copy}
use Rattle.ol_rules.specs.Laws.{IsFresh}
use Rattle.ol_rules.specs.Rewriting.{Action, meeting, crossing, Rewrites}
use Rattle.ol_law_optimality.specs.Redexes.{Carries, put, IsVirtualRedex}
use Rattle.ol_law_optimality.specs.Routes.{Crossing, fall, Row, along, rises, falls, Route, HasRoute}
use Rattle.ol_law_optimality.specs.Routes.{Residue, IsResidue, from_other, from_copy, IsLinkOf}
use Rattle.ol_law_optimality.proofs.Carrying.{fall_at, AreIn, are_in, Ends, the_same, at_a_copy}
use Rattle.ol_law_optimality.proofs.Carrying.{carries_back, carries_on, was, still, copy_of_g}
use Rattle.ol_law_optimality.proofs.Puts.{lift, lower, above}
use Rattle.ol_law_optimality.proofs.Table.{Gap}
use Rattle.ol_law_optimality.proofs.Targets.{toward}
use Rattle.ol_law_optimality.proofs.Trails.{at_old, at_f}
use Rattle.ol_invariance.proofs.WrongTables.{at_its_level}
use Rattle.ol_context.proofs.LeafMoves.{marked_empty}

nothing : Context
nothing n = empty

module _ {A : Type 0} (N : NamedNet A) (f g : A) (k : Kind) (i : ℕ) (l : Kind) (j : ℕ)
    (a : Action) (born : ℕ → A) (same : A → A → Bool) (test : IsTest same) (is_net : IsNet N)
    (faces : Faces N f g k i l j) (fresh : IsFresh N born) (M : NamedNet A) (net_after : IsNet M)
    (rewrites : Rewrites born N f g k i l a M) (suits : Suits a k i l j)
    (quiet : (j' : ℕ) → a ≡ crossing j' → (k ≢ kind.Lam) × (k ≢ kind.App))
    (gaps : (j' s : ℕ) → a ≡ crossing j' → s < arity k → Gap k i j j') where
  abbrev Rest : List (Crossing A) → A → List (Crossing A) → A → Type 0
  Rest w y v z = Residue born f g (arity l) a w y v z

  abbrev EndsHere : A → A → Context → Context → Type 0
  EndsHere y z c d =
      Ends N f g k i l j a born is_net faces fresh M net_after rewrites suits y z c d

  is_same : (y z : A) (c d : Context) → EndsHere y z c d → y ≢ g → c ≡ d
  is_same y z c d (the_same e q n n') h = q
  is_same y z c d (at_a_copy p j' e b q q' r) h = absurd (h q)

  is_copy : (y z : A) (c d : Context) → EndsHere y z c d → y ≡ g → (p : ℕ) →
      z ≡ born (arity l + p) → up k i p d ≡ c
  is_copy y z c d (the_same e q n n') h p o = absurd (n' h)
  is_copy y z c d (at_a_copy p' j' e b q q' r) h p o =
      let s = fresh.apart (arity l + p') (arity l + p) (sym q' ∙ o) in
      let s' : p' ≡ p = omega arith in
      ap (λ p. up k i p d) (sym s') ∙ r

  pub index_one : {B : NamedNet A} → IsNet B → (x : A) (m m' : Kind) (n n' : ℕ) → HasNode B x m n →
      HasNode B x m' n' → (m ≡ m') × (n ≡ n')
  index_one net x m m' n n' h h' = net.one_node x m m' n n' h h'

  -- the last levels, before the step
  pub ends_back : (w v : List (Crossing A)) (y z : A) → Rest w y v z → AreIn N is_net w →
      (jy jz : ℕ) → HasNode N y kind.Lam jy → HasNode M z kind.Lam jz → (last : List Level) →
      length last ≡ jz → (F : Context → Context) →
      ((c : Context) → Carries M (F c) v (put last c)) →
      (ws : List Level) × (length ws ≡ jy) × ((c : Context) → Carries N (F c) w (put ws c))
  ends_back w v y z r ins jy jz hy hz last len F t = go (back nothing).2
    where
      back : (c : Context) → (e : Context) × Carries N (F c) w e × EndsHere y z e (put last c)
      back c = carries_back N f g k i l j a born is_net faces fresh M net_after rewrites suits r ins
          (F c) (put last c) (t c)

      go : EndsHere y z (back nothing).0 (put last nothing) →
          (ws : List Level) × (length ws ≡ jy) × ((c : Context) → Carries N (F c) w (put ws c))
      go (the_same e q n n') = (
        last,
        len ∙ (index_one is_net y kind.Lam kind.Lam jz jy
            (was N f g k i l j a born is_net faces fresh M net_after rewrites suits y kind.Lam jz
            (subst (λ z. HasNode M z kind.Lam jz) e hz) kind.Lam jy hy) hy).1,
        λ c. let b = back c in
            subst (λ e. Carries N (F c) w e) (is_same y z b.0 (put last c) b.2 n') b.1,
      )
      go (at_a_copy p j' e b q q' s) =
          let G = gaps j' p e b in
          let x = index_one net_after z kind.Lam l jz j' hz
          (subst (λ z. HasNode M z l j') (sym q')
          (copy_of_g N f g k i l j a born is_net faces fresh M net_after rewrites suits j' p e b))
          in
          let y' = index_one is_net y kind.Lam l jy j hy
          (subst (λ y. HasNode N y l j) (sym q) faces.second) in
          let L = lift k i p G.crosser G.n last (len ∙ x.1 ∙ G.after) in (
            L.0,
            L.1 ∙ sym G.before ∙ sym y'.1,
            λ c. let b = back c in
                subst (λ e. Carries N (F c) w e)
                (sym (is_copy y z b.0 (put last c) b.2 q p q') ∙ L.2.all c) b.1,
          )

  -- the last levels, after the step
  pub ends_on : (w v : List (Crossing A)) (y z : A) → Rest w y v z →
      (jy jz : ℕ) → HasNode N y kind.Lam jy → HasNode M z kind.Lam jz → (last : List Level) →
      length last ≡ jy → (F : Context → Context) →
      ((c : Context) → Carries N (F c) w (put last c)) →
      (ws : List Level) × (length ws ≡ jz) × ((c : Context) → Carries M (F c) v (put ws c))
  ends_on w v y z r jy jz hy hz last len F t = go (on nothing).2
    where
      on : (c : Context) → (d : Context) × Carries M (F c) v d × EndsHere y z (put last c) d
      on c = carries_on N f g k i l j a born is_net faces fresh M net_after rewrites suits r
          (F c) (put last c) (t c)

      go : EndsHere y z (put last nothing) (on nothing).0 →
          (ws : List Level) × (length ws ≡ jz) × ((c : Context) → Carries M (F c) v (put ws c))
      go (the_same e q n n') = (
        last,
        len ∙ sym (index_one is_net y kind.Lam kind.Lam jz jy
            (was N f g k i l j a born is_net faces fresh M net_after rewrites suits y kind.Lam jz
            (subst (λ z. HasNode M z kind.Lam jz) e hz) kind.Lam jy hy) hy).1,
        λ c. let b = on c in
            subst (λ e. Carries M (F c) v e) (sym (is_same y z (put last c) b.0 b.2 n')) b.1,
      )
      go (at_a_copy p j' e b q q' s) =
          let G = gaps j' p e b in
          let x = index_one net_after z kind.Lam l jz j' hz
          (subst (λ z. HasNode M z l j') (sym q')
          (copy_of_g N f g k i l j a born is_net faces fresh M net_after rewrites suits j' p e b))
          in
          let y' = index_one is_net y kind.Lam l jy j hy
          (subst (λ y. HasNode N y l j) (sym q) faces.second) in
          let L = lower k i p G.crosser G.n last (len ∙ y'.1 ∙ G.before) (on nothing).0 nothing s
          in (
            L.0,
            L.1 ∙ sym G.after ∙ sym x.1,
            λ c. let z' = on c in
                subst (λ e. Carries M (F c) v e)
                (injective k i p p z'.0 (put L.0 c) b b
                (is_copy y z (put last c) z'.0 z'.2 q p q' ∙ sym (L.2.all c))).1 z'.1,
          )

  -- the route before the step of a virtual redex after it
  pub virtual_back : (s u : Route A) → HasRoute N s → IsResidue born f g (arity l) a s u →
      IsVirtualRedex M u → IsVirtualRedex N s
  virtual_back s u h (from_other {x = x} {y = y} {z = z} {w = w} {v = v} n n' r) V =
      let E = ends_back w v y z r (are_in N is_net h.row) h.j V.route.j h.abstraction
      V.route.abstraction V.last V.last_is (λ c. put V.begin c) V.carries in
      let o = index_one net_after x kind.App kind.App V.route.i h.i V.route.application
      (still N f g k i l j a born is_net faces fresh M net_after rewrites suits x kind.App h.i
      h.application n n') in
      record {
        route = h;
        begin = V.begin;
        last = E.0;
        begin_is = V.begin_is ∙ o.1;
        last_is = E.1;
        carries = E.2;
      }
  virtual_back s u h (from_copy {y = y} {z = z} {p = p} {j = j'} {w = w} {v = v} e r) V =
      let ins = are_in N is_net h.row in
      let b : p < arity k = subst (λ m. p < arity m)
      (index_one is_net f ins.0 k ins.1 i ins.2 faces.first).0 ins.3 in
      let E = ends_back w v y z r ins.4 h.j V.route.j h.abstraction V.route.abstraction V.last
      V.last_is (λ c. put V.begin c) V.carries in
      let G = gaps j' p e b in
      let o = index_one net_after (born (arity l + p)) kind.App l V.route.i j' V.route.application
      (copy_of_g N f g k i l j a born is_net faces fresh M net_after rewrites suits j' p e b) in
      let o' = index_one is_net g kind.App l h.i j h.application faces.second in
      let L = lift k i p G.crosser G.n V.begin (V.begin_is ∙ o.1 ∙ G.after) in
      record {
        route = h;
        begin = L.0;
        last = E.0;
        begin_is = L.1 ∙ sym G.before ∙ sym o'.1;
        last_is = E.1;
        carries = λ c. (k, i, faces.first, b, put V.begin c, L.2.all c, E.2 c);
      }

  -- what a step leaves of a virtual redex
  abbrev Left : Route A → Type 0
  Left s = IsLinkOf f g s
      ⊎ ((u : Route A) × IsVirtualRedex M u × IsResidue born f g (arity l) a s u)

  meets : a ≡ meeting → Meets k i l j
  meets e = subst (λ a. Suits a k i l j) e suits

  slot_node : (x y : A) (s n : ℕ) → ◌≡◌ {A = NamedPort A} (slot x s) (slot y n) → x ≡ y
  slot_node x y s n e = cc

  slot_number : (x y : A) (s n : ℕ) → ◌≡◌ {A = NamedPort A} (slot x s) (slot y n) → s ≡ n
  slot_number x y s n e = cc

  -- no context is led through what an application meets, with its own level as it was
  not_begun : (n m : ℕ) (begin : List Level) (b : Context) → length begin ≡ n →
      up kind.App n m b ≡ put begin nothing → ⊥
  unfolding nothing
  not_begun n m begin b e q =
      marked_empty m (b n) (sym (at_its_level n m b) ∙ ap (λ (c : Context). c n) q
      ∙ above begin nothing n e)

  module _ (s : Route A) (V : IsVirtualRedex N s) where
    bare : put V.last nothing V.route.j ≡ empty
    unfolding nothing
    bare = above V.last nothing V.route.j V.last_is

    elsewhere : s.from ≢ f → s.from ≢ g → Left s
    elsewhere n n' =
        let h = V.route in
        let hm = still N f g k i l j a born is_net faces fresh M net_after rewrites suits s.from
        kind.App h.i h.application n n' in
        let T = toward N f g k i l j a born same test is_net faces fresh M rewrites suits quiet
        net_after s.to h.j h.abstraction (put V.last nothing) bare h.row refl (put V.begin nothing)
        (V.carries nothing) (old (slot s.from 0)) at_old (kind.App, h.i, h.application)
        (kind.App, h.i, hm, omega arith) in
        let E = ends_on s.row T.w s.to T.z T.residue h.j T.index h.abstraction T.abstraction V.last
        V.last_is (λ c. put V.begin c) V.carries in
        inr (
          record { from = s.from; row = T.w; to = T.z },
          record {
            route = record {
              i = h.i;
              j = T.index;
              application = hm;
              abstraction = T.abstraction;
              row = T.row;
            };
            begin = V.begin;
            last = E.0;
            begin_is = V.begin_is;
            last_is = E.1;
            carries = E.2;
          },
          from_other n n' T.residue,
        )

    -- a route from f or g
    begins : {p q : NamedPort A} {w : List (Crossing A)} → Row N p w q → p ≡ slot s.from 0 →
        q ≡ slot s.to 0 → w ≡ s.row → (s.from ≡ f) ⊎ (s.from ≡ g) → Left s
    begins (along {p = p} {q = q} h) e e' ew (inl d) =
        let o = is_net.one_link (slot f 0) q (slot g 0) (subst (λ p. Linked N p q)
        (e ∙ ap (λ x. slot x 0) d) h) faces.linked in
        inl (sym ew, inl (d, slot_node s.to g 0 0 (sym e' ∙ o)))
    begins (along {p = p} {q = q} h) e e' ew (inr d) =
        let o = is_net.one_link (slot g 0) q (slot f 0) (subst (λ p. Linked N p q)
        (e ∙ ap (λ x. slot x 0) d) h) (linked_sym N (slot f 0) (slot g 0) faces.linked) in
        inl (sym ew, inr (d, slot_node s.to f 0 0 (sym e' ∙ o)))
    begins (rises {p = p} {x = x} {s = m} k' i' h hn b r) e e' ew (inl d) =
        let o = slot_number x g (suc m) 0 (is_net.one_link (slot f 0) (slot x (suc m)) (slot g 0)
        (subst (λ p. Linked N p (slot x (suc m))) (e ∙ ap (λ x. slot x 0) d) h) faces.linked) in
        absurd (omega arith)
    begins (rises {p = p} {x = x} {s = m} k' i' h hn b r) e e' ew (inr d) =
        let o = slot_number x f (suc m) 0 (is_net.one_link (slot g 0) (slot x (suc m)) (slot f 0)
        (subst (λ p. Linked N p (slot x (suc m))) (e ∙ ap (λ x. slot x 0) d) h)
        (linked_sym N (slot f 0) (slot g 0) faces.linked)) in
        absurd (omega arith)
    begins (falls {p = p} {x = x} {s = m} {w = w} k' i' h hn b r) e e' ew (inl d) =
        absurd (by a refl)
      where
        x_is : x ≡ g
        x_is = slot_node x g 0 0 (is_net.one_link (slot f 0) (slot x 0) (slot g 0)
            (subst (λ p. Linked N p (slot x 0)) (e ∙ ap (λ x. slot x 0) d) h) faces.linked)

        app : (kind.App ≡ k) × (V.route.i ≡ i)
        app = index_one is_net f kind.App k V.route.i i (subst (λ x. HasNode N x kind.App V.route.i)
            d
            V.route.application) faces.first

        by : (a' : Action) → a ≡ a' → ⊥
        by (crossing j') q = (quiet j' q).1 (sym app.0)
        by meeting q =
            let t = fall_at N is_net g l j faces.second m w (put V.begin nothing)
            (put V.last nothing)
            (subst (λ w. Carries N (put V.begin nothing) w (put V.last nothing))
            (sym ew ∙ ap (λ x. fall x m ∷ w) x_is) (V.carries nothing)) in
            let u : up k i m t.1 ≡ put V.begin nothing =
            (meets q).alike m t.1 (subst (λ n. m < n) (sym (meets q).arities) t.0) ∙ t.2 in
            not_begun V.route.i m V.begin t.1 V.begin_is
            (ap (λ k. up k V.route.i m t.1) app.0 ∙ ap (λ i. up k i m t.1) app.1 ∙ u)
    begins (falls {p = p} {q = q0} {x = x} {s = m} {w = w} k' i' h hn b r) e e' ew (inr d) =
        by a refl
      where
        x_is : x ≡ f
        x_is = slot_node x f 0 0 (is_net.one_link (slot g 0) (slot x 0) (slot f 0)
            (subst (λ p. Linked N p (slot x 0)) (e ∙ ap (λ x. slot x 0) d) h)
            (linked_sym N (slot f 0) (slot g 0) faces.linked))

        app : (kind.App ≡ l) × (V.route.i ≡ j)
        app = index_one is_net g kind.App l V.route.i j (subst (λ x. HasNode N x kind.App V.route.i)
            d
            V.route.application) faces.second

        at : (c : Context) → (m < arity k) × (b : Context) × (up k i m b ≡ put V.begin c)
            × Carries N b w (put V.last c)
        at c = fall_at N is_net f k i faces.first m w (put V.begin c)
            (put V.last c) (subst (λ w. Carries N (put V.begin c) w (put V.last c))
            (sym ew ∙ ap (λ x. fall x m ∷ w) x_is) (V.carries c))

        by : (a' : Action) → a ≡ a' → Left s
        by meeting q =
            let t = at nothing in
            let u : up l j m t.1 ≡ put V.begin nothing = sym ((meets q).alike m t.1 t.0) ∙ t.2 in
            absurd (not_begun V.route.i m V.begin t.1 V.begin_is
            (ap (λ k. up k V.route.i m t.1) app.0 ∙ ap (λ i. up l i m t.1) app.1 ∙ u))
        by (crossing j') q =
            let t = at nothing in
            let v = V.route in
            let G = gaps j' m q t.0 in
            let cg = copy_of_g N f g k i l j a born is_net faces fresh M net_after rewrites suits j'
            m
            q t.0 in
            let T = toward N f g k i l j a born same test is_net faces fresh M rewrites suits quiet
            net_after s.to v.j v.abstraction (put V.last nothing) bare
            (subst (λ x. Row N (slot x (suc m)) w q0) x_is r) e' t.1 t.3 (g_copy m 0) at_f tt
            (l, j', cg, omega arith) in
            let L = lower k i m G.crosser G.n V.begin (V.begin_is ∙ app.1 ∙ G.before) t.1 nothing
            t.2 in
            let E = ends_on w T.w s.to T.z T.residue v.j T.index v.abstraction T.abstraction V.last
            V.last_is (λ c. put L.0 c) (λ c.
            let z = at c in
            subst (λ b. Carries N b w (put V.last c)) (injective k i m m z.1 (put L.0 c) z.0 z.0
            (z.2 ∙ sym (L.2.all c))).1 z.3) in
            inr (
              record { from = born (arity l + m); row = T.w; to = T.z },
              record {
                route = record {
                  i = j';
                  j = T.index;
                  application = subst (λ l'. HasNode M (born (arity l + m)) l' j') (sym app.0) cg;
                  abstraction = T.abstraction;
                  row = T.row;
                };
                begin = L.0;
                last = E.0;
                begin_is = L.1 ∙ sym G.after;
                last_is = E.1;
                carries = E.2;
              },
              subst (λ s. IsResidue born f g (arity l) a s
                  (record { from = born (arity l + m); row = T.w; to = T.z }))
                  (sym (route_is d (sym ew ∙ ap (λ x. fall x m ∷ w) x_is)))
                  (from_copy q T.residue),
            )
          where
            route_is : {x : A} {v : List (Crossing A)} → s.from ≡ x → s.row ≡ v →
                s ≡ record { from = x; row = v; to = s.to }
            route_is e e' = λ i. record { from = e i; row = e' i; to = s.to }

    pub virtual_on : Left s
    virtual_on = go (is_or_is_not same test f s.from) (is_or_is_not same test g s.from)
      where
        go : (s.from ≡ f) ⊎ (s.from ≢ f) → (s.from ≡ g) ⊎ (s.from ≢ g) → Left s
        go (inl e) d = begins V.route.row refl refl refl (inl e)
        go (inr n) (inl e) = begins V.route.row refl refl refl (inr e)
        go (inr n) (inr n') = elsewhere n n'
