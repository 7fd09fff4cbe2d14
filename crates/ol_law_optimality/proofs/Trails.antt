-- What is joined by way of the slots of a step's two nodes, said by links and joins in turn.
use Rattle.std.proofs.Common.{◌≡◌, ◌≢◌, ℕ, zero, suc, ◌<◌, Bool, true, false, refl, sym, ap, ◌∙◌, subst}
use Rattle.ol_law_edges.specs.Edges.{IsTest, Joined, here, on, back}
use Rattle.ol_net.specs.Nets.{NamedPort, free, slot, NamedNet, Linked, IsNet, Faces}
use Rattle.ol_net.specs.Parts.{arity}
use Rattle.ol_net.specs.declared.parts.Kind.{Kind}
use Rattle.ol_rules.proofs.FreshPairs.{linked_sym}
use Rattle.ol_rules.proofs.Ports.{Lasts}
use Rattle.ol_rules.proofs.Wires.{Off, Join, Wire, stays, join}
use Rattle.ol_rules.proofs.Wires as wires
use Rattle.ol_rules.specs.Contracting.{Vertex, old, f_copy, g_copy}
use Rattle.ol_rules.specs.Rewriting.{Action, meeting, crossing}

module _ {A : Type 0} (N : NamedNet A) (f g : A) (k : Kind) (i : ℕ) (l : Kind) (j : ℕ)
    (a : Action) where
  -- the two ends of a join, either way
  pub data Mated : Vertex A → Vertex A → Type 0 where
    f_meets : {s : ℕ} → a ≡ meeting → s < arity k →
        Mated (old (slot f (suc s))) (old (slot g (suc s)))
    g_meets : {s : ℕ} → a ≡ meeting → s < arity k →
        Mated (old (slot g (suc s))) (old (slot f (suc s)))
    f_copied : {j' p : ℕ} → a ≡ crossing j' → p < arity k →
        Mated (old (slot f (suc p))) (g_copy p 0)
    copy_of_g : {j' p : ℕ} → a ≡ crossing j' → p < arity k →
        Mated (g_copy p 0) (old (slot f (suc p)))
    g_copied : {j' q : ℕ} → a ≡ crossing j' → q < arity l →
        Mated (old (slot g (suc q))) (f_copy q 0)
    copy_of_f : {j' q : ℕ} → a ≡ crossing j' → q < arity l →
        Mated (f_copy q 0) (old (slot g (suc q)))
    f_beside : {j' p q : ℕ} → a ≡ crossing j' → p < arity k → q < arity l →
        Mated (f_copy q (suc p)) (g_copy p (suc q))
    g_beside : {j' p q : ℕ} → a ≡ crossing j' → p < arity k → q < arity l →
        Mated (g_copy p (suc q)) (f_copy q (suc p))

  mated : (b : Action) → a ≡ b → (u v : Vertex A) → Join N f g k i l j b u v → Mated u v × Mated v u
  mated meeting e u v (wires.Join.meet h) = (f_meets e h, g_meets e h)
  mated (crossing j') e u v (wires.Join.at_f h) = (copy_of_g e h, f_copied e h)
  mated (crossing j') e u v (wires.Join.at_g h) = (copy_of_f e h, g_copied e h)
  mated (crossing j') e u v (wires.Join.between h h') = (f_beside e h h', g_beside e h h')

  -- From u by links and joins in turn. After true a link comes next, after false a join.
  pub data Trail (u : Vertex A) : Bool → Vertex A → Type 0 where
    link_first : {x : Vertex A} → x ≡ u → ((w : Vertex A) → Mated u w → ⊥) → Trail u true x
    join_first : {x : Vertex A} → x ≡ u → ((p : NamedPort A) → u ≡ old p → ⊥) → Trail u false x
    by_link : {p q : NamedPort A} → Trail u true (old p) → Linked N p q → Trail u false (old q)
    by_join : {v w : Vertex A} → Trail u false v → Mated v w → Trail u true w

  module _ (same : A → A → Bool) (t : IsTest same) (is_net : IsNet N)
      (faces : Faces N f g k i l j) where
    f_is_g : f ≡ g → ⊥
    f_is_g e = is_net.apart (slot f 0)
        (subst (λ x. Linked N (slot f 0) (slot x 0)) (sym e) faces.linked)

    is_not_f : same g f ≡ false
    is_not_f = go (same g f) refl
      where
        go : (b : Bool) → same g f ≡ b → b ≡ false
        go true e = absurd (f_is_g (sym (t.tells g f e)))
        go false e = refl

    -- the other end of a vertex's join
    mate_of : Action → Bool → ℕ → Vertex A
    mate_of meeting true s = old (slot g (suc s))
    mate_of meeting false s = old (slot f (suc s))
    mate_of (crossing j') true s = g_copy s 0
    mate_of (crossing j') false s = f_copy s 0

    mate : Vertex A → Vertex A
    mate (old (free n)) = old (free n)
    mate (old (slot x zero)) = old (slot x 0)
    mate (old (slot x (suc s))) = mate_of a (same x f) s
    mate (f_copy q zero) = old (slot g (suc q))
    mate (f_copy q (suc p)) = g_copy p (suc q)
    mate (g_copy p zero) = old (slot f (suc p))
    mate (g_copy p (suc q)) = f_copy q (suc p)

    of_f : (b : Action) (s : ℕ) → a ≡ b → mate (old (slot f (suc s))) ≡ mate_of b true s
    unfolding mate
    of_f b s e = ap (λ x. mate_of a x s) (t.holds f) ∙ ap (λ b. mate_of b true s) e

    of_g : (b : Action) (s : ℕ) → a ≡ b → mate (old (slot g (suc s))) ≡ mate_of b false s
    unfolding mate
    of_g b s e = ap (λ x. mate_of a x s) is_not_f ∙ ap (λ b. mate_of b false s) e

    mate_is : {u v : Vertex A} → Mated u v → mate u ≡ v
    unfolding mate mate_of
    mate_is (f_meets {s = s} e h) = of_f meeting s e
    mate_is (g_meets {s = s} e h) = of_g meeting s e
    mate_is (f_copied {j' = j'} {p = p} e h) = of_f (crossing j') p e
    mate_is (copy_of_g e h) = refl
    mate_is (g_copied {j' = j'} {q = q} e h) = of_g (crossing j') q e
    mate_is (copy_of_f e h) = refl
    mate_is (f_beside e h h') = refl
    mate_is (g_beside e h h') = refl

    pub turn : {u v : Vertex A} → Mated u v → Mated v u
    turn (f_meets e h) = g_meets e h
    turn (g_meets e h) = f_meets e h
    turn (f_copied e h) = copy_of_g e h
    turn (copy_of_g e h) = f_copied e h
    turn (g_copied e h) = copy_of_f e h
    turn (copy_of_f e h) = g_copied e h
    turn (f_beside e h h') = g_beside e h h'
    turn (g_beside e h h') = f_beside e h h'

    mate_one : {u v w : Vertex A} → Mated u v → Mated u w → v ≡ w
    mate_one h h' = sym (mate_is h) ∙ mate_is h'

    module _ (u : Vertex A) where
      on_link : {b : Bool} {x : Vertex A} (p q : NamedPort A) → x ≡ old p → Linked N p q →
          Trail u b x → (c : Bool) × Trail u c (old q)
      on_link p q e l (link_first d n) =
          (false, by_link (subst (λ x. Trail u true x) e (link_first d n)) l)
      on_link p q e l (join_first d n) = absurd (n p (sym d ∙ e))
      on_link p q e l (by_join r m) =
          (false, by_link (subst (λ x. Trail u true x) e (by_join r m)) l)
      on_link p q e l (by_link {p = p0} {q = p1} r m) =
          let e' : p1 ≡ p = old_one p1 p e in
          let m' : Linked N p p0 = subst (λ z. Linked N z p0) e' (linked_sym N p0 p1 m) in
          (true, subst (λ z. Trail u true (old z)) (is_net.one_link p p0 q m' l) r)
        where
          old_one : (p q : NamedPort A) → old p ≡ old q → p ≡ q
          old_one p q e = cc

      on_join : {b : Bool} {x y : Vertex A} → Mated x y → Trail u b x → (c : Bool) × Trail u c y
      on_join {y = y} m (link_first d n) = absurd (n y (subst (λ x. Mated x y) d m))
      on_join m (join_first d n) = (true, by_join (join_first d n) m)
      on_join m (by_link r h) = (true, by_join (by_link r h) m)
      on_join m (by_join {v = v} r h) =
          (false, subst (λ z. Trail u false z) (mate_one (turn h) m) r)

      on_wire : {b : Bool} {x y : Vertex A} → Wire N f g k i l j a x y → Trail u b x →
          (c : Bool) × Trail u c y
      on_wire (stays {p = p} {q = q} h o o') r = on_link p q refl h r
      on_wire (join {u = x} {v = y} h) r = on_join (mated a refl x y h).0 r

      back_wire : {b : Bool} {x y : Vertex A} → Wire N f g k i l j a y x → Trail u b x →
          (c : Bool) × Trail u c y
      back_wire (stays {p = p} {q = q} h o o') r = on_link q p refl (linked_sym N p q h) r
      back_wire (join {u = x} {v = y} h) r = on_join (mated a refl x y h).1 r

      pub trail : {v : Vertex A} {b0 : Bool} → Trail u b0 u → Joined (Wire N f g k i l j a) u v →
          (c : Bool) × Trail u c v
      trail {b0 = b0} s here = (b0, s)
      trail s (on r e) = let t = trail s r in on_wire e t.1
      trail s (back r e) = let t = trail s r in back_wire e t.1

    -- where u stands for port p of the net before
    pub data At : Vertex A → NamedPort A → Type 0 where
      at_old : {p : NamedPort A} → At (old p) p
      at_f : {p : ℕ} → At (g_copy p 0) (slot f (suc p))
      at_g : {q : ℕ} → At (f_copy q 0) (slot g (suc q))

    -- from port p by links, and by way of nodes that meet, to a vertex
    pub data Next : NamedPort A → Vertex A → Type 0 where
      direct : {p q : NamedPort A} → Linked N p q → Next p (old q)
      to_f : {p : NamedPort A} {j' s : ℕ} → a ≡ crossing j' → s < arity k →
          Linked N p (slot f (suc s)) → Next p (g_copy s 0)
      to_g : {p : NamedPort A} {j' q : ℕ} → a ≡ crossing j' → q < arity l →
          Linked N p (slot g (suc q)) → Next p (f_copy q 0)
      by_f : {p : NamedPort A} {s : ℕ} {v : Vertex A} → a ≡ meeting → s < arity k →
          Linked N p (slot f (suc s)) → Next (slot g (suc s)) v → Next p v
      by_g : {p : NamedPort A} {s : ℕ} {v : Vertex A} → a ≡ meeting → s < arity k →
          Linked N p (slot g (suc s)) → Next (slot f (suc s)) v → Next p v

    module _ (u v : Vertex A) (p : NamedPort A) (at : At u p) where
      at_is : (q : NamedPort A) → old q ≡ u → p ≡ q
      at_is q e = go u p at q e
        where
          go : (u : Vertex A) (p : NamedPort A) → At u p → (q : NamedPort A) → old q ≡ u → p ≡ q
          go (old b) c at_old q e = cc
          go (g_copy n s) c at_f q e = absurd (cc)
          go (f_copy n s) c at_g q e = absurd (cc)

      at_f_copy : (s : ℕ) → g_copy s 0 ≡ u → p ≡ slot f (suc s)
      at_f_copy s e = go u p at s e
        where
          go : (u : Vertex A) (p : NamedPort A) → At u p → (s : ℕ) → g_copy s 0 ≡ u →
              p ≡ slot f (suc s)
          go (old b) c at_old s e = absurd (cc)
          go (g_copy n z) c at_f s e = let e' : n ≡ s = cc in ap (λ n. slot f (suc n)) e'
          go (f_copy n z) c at_g s e = absurd (cc)

      at_g_copy : (s : ℕ) → f_copy s 0 ≡ u → p ≡ slot g (suc s)
      at_g_copy s e = go u p at s e
        where
          go : (u : Vertex A) (p : NamedPort A) → At u p → (s : ℕ) → f_copy s 0 ≡ u →
              p ≡ slot g (suc s)
          go (old b) c at_old s e = absurd (cc)
          go (g_copy n z) c at_f s e = absurd (cc)
          go (f_copy n z) c at_g s e = let e' : n ≡ s = cc in ap (λ n. slot g (suc n)) e'

      not_beside_f : (u : Vertex A) (p : NamedPort A) → At u p → {n s : ℕ} → u ≡ g_copy n (suc s) →
          ⊥
      not_beside_f u p at_old e = absurd (cc)
      not_beside_f u p at_f e = absurd (cc)
      not_beside_f u p at_g e = absurd (cc)

      not_beside_g : (u : Vertex A) (p : NamedPort A) → At u p → {n s : ℕ} → u ≡ f_copy n (suc s) →
          ⊥
      not_beside_g u p at_old e = absurd (cc)
      not_beside_g u p at_f e = absurd (cc)
      not_beside_g u p at_g e = absurd (cc)

      port_is : (p q : NamedPort A) → old p ≡ old q → p ≡ q
      port_is p q e = cc

      -- before a link
      before : {x : Vertex A} (q : NamedPort A) → x ≡ old q → Trail u true x → Next q v → Next p v
      before q e (link_first d n) r = subst (λ q. Next q v) (sym (at_is q (sym e ∙ d))) r
      before q e (by_join (join_first d n) (f_meets b h)) r = absurd (n _ (sym d))
      before q e (by_join (join_first d n) (g_meets b h)) r = absurd (n _ (sym d))
      before q e (by_join (join_first d n) (f_copied b h)) r = absurd (cc)
      before q e (by_join (join_first d n) (g_copied b h)) r = absurd (cc)
      before q e (by_join (join_first d n) (f_beside b h h')) r = absurd (cc)
      before q e (by_join (join_first d n) (g_beside b h h')) r = absurd (cc)
      before q e (by_join (join_first d n) (copy_of_g {p = s} b h)) r =
          subst (λ q. Next q v) (sym (at_f_copy s d ∙ port_is (slot f (suc s)) q e)) r
      before q e (by_join (join_first d n) (copy_of_f {q = s} b h)) r =
          subst (λ q. Next q v) (sym (at_g_copy s d ∙ port_is (slot g (suc s)) q e)) r
      before q e (by_join (by_link {p = p0} t m) (f_meets {s = s} b h)) r =
          before p0 refl t
          (by_f b h m (subst (λ q. Next q v) (sym (port_is (slot g (suc s)) q e)) r))
      before q e (by_join (by_link {p = p0} t m) (g_meets {s = s} b h)) r =
          before p0 refl t
          (by_g b h m (subst (λ q. Next q v) (sym (port_is (slot f (suc s)) q e)) r))
      before q e (by_join (by_link {p = p0} t m) (f_copied b h)) r = absurd (cc)
      before q e (by_join (by_link {p = p0} t m) (g_copied b h)) r = absurd (cc)

      module _ (born : ℕ → A) (lasts : Lasts N f g k i l j a born v) (apart : u ≢ v) where
        no_slot : (x : A) (s : ℕ) → old (slot x s) ≡ v → (x ≢ f) × (x ≢ g)
        no_slot x s e = go v lasts e
          where
            go : (v : Vertex A) → Lasts N f g k i l j a born v → old (slot x s) ≡ v →
                (x ≢ f) × (x ≢ g)
            go (old (free n)) h e = absurd (cc)
            go (old (slot y s')) h e =
                let e' : x ≡ y = cc in (λ z. h.0 (sym e' ∙ z), λ z. h.1 (sym e' ∙ z))
            go (f_copy n s') h e = absurd (cc)
            go (g_copy n s') h e = absurd (cc)

        pub next : {b : Bool} {x : Vertex A} → x ≡ v → Trail u b x → Next p v
        next e (link_first d n) = absurd (apart (sym d ∙ e))
        next e (join_first d n) = absurd (apart (sym d ∙ e))
        next e (by_link {p = p0} t m) = before p0 refl t (subst (λ v. Next p0 v) e (direct m))
        next e (by_join t (f_meets {s = s} b h)) = absurd ((no_slot g (suc s) e).1 refl)
        next e (by_join t (g_meets {s = s} b h)) = absurd ((no_slot f (suc s) e).0 refl)
        next e (by_join t (copy_of_g {p = s} b h)) = absurd ((no_slot f (suc s) e).0 refl)
        next e (by_join t (copy_of_f {q = s} b h)) = absurd ((no_slot g (suc s) e).1 refl)
        next e (by_join (join_first d n) (f_copied b h)) = absurd (n _ (sym d))
        next e (by_join (join_first d n) (g_copied b h)) = absurd (n _ (sym d))
        next e (by_join (by_link {p = p0} t m) (f_copied b h)) =
            before p0 refl t (subst (λ v. Next p0 v) e (to_f b h m))
        next e (by_join (by_link {p = p0} t m) (g_copied b h)) =
            before p0 refl t (subst (λ v. Next p0 v) e (to_g b h m))
        next e (by_join (join_first d n) (f_beside b h h')) = absurd (not_beside_g u p at (sym d))
        next e (by_join (join_first d n) (g_beside b h h')) = absurd (not_beside_f u p at (sym d))

    -- beside the copies there is one join, and no link
    module _ (u v : Vertex A) (m : Mated u v) (no_old : (p : NamedPort A) → u ≡ old p → ⊥)
        (no_old' : (p : NamedPort A) → v ≡ old p → ⊥) where
      abbrev Only : Bool → Vertex A → Type 0
      Only true x = x ≡ v
      Only false x = x ≡ u

      pub only : {b : Bool} {x : Vertex A} → Trail u b x → Only b x
      only (link_first d n) = absurd (n v m)
      only (join_first d n) = d
      only (by_link {p = p} t h) = absurd (no_old' p (sym (only t)))
      only (by_join {v = y} {w = w} t h) =
          mate_one (subst (λ y. Mated y w) (only t) h) m
