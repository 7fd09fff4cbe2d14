-- Two pairs apart: both orders leave one net.
use Rattle.std.proofs.Common.{◌≡◌, ◌≢◌, ℕ, suc, ◌+◌, Bool, ◌⊎◌, ◌↔◌, inl, inr, refl, sym, ◌∙◌, subst, arith}
use Rattle.ol_law_edges.specs.Edges.{IsTest, on, here, Contracted}
use Rattle.ol_law_edges.proofs.Contraction.{is_or_is_not}
use Rattle.ol_law_edges.proofs.Composing.{contracted_map}
use Rattle.ol_net.specs.declared.parts.Kind.{Kind}
use Rattle.ol_net.specs.Parts.{arity}
use Rattle.ol_net.specs.Nets.{NamedPort, slot, NamedNet, HasNode, Linked, IsNet, SameNet, Faces}
use Rattle.ol_net.specs.Nets.{IsPrincipalOf, IsSlotOf}
use Rattle.ol_rules.specs.Rewriting.{Action, JoinOf, meet, at_f, at_g, between, NodeOf, left, of_f, of_g, Rewrites}
use Rattle.ol_rules.specs.Laws.{IsFresh}
use Rattle.ol_rules.specs.Contracting.{port_same}
use Rattle.ol_rules.proofs.Tests.{port_test}
use Rattle.ol_diamond.proofs.Rewirings.{Edge2, Clear, left_after}

-- the two places have no node in common
pub record Disjoint {A : Type 0} (f g f' g' : A) : Type 0 where
  pub ff : f ≢ f'
  pub fg : f ≢ g'
  pub gf : g ≢ f'
  pub gg : g ≢ g'

pub disjoint_sym : {A : Type 0} {f g f' g' : A} → Disjoint f g f' g' → Disjoint f' g' f g
disjoint_sym d = record {
  ff = λ e. d.ff (sym e);
  fg = λ e. d.gf (sym e);
  gf = λ e. d.fg (sym e);
  gg = λ e. d.gg (sym e);
}

module _ {A : Type 0} (same : A → A → Bool) (test : IsTest same) (N : NamedNet A) (is_net : IsNet N) where
  pub principal_slot : (f g : A) (p : NamedPort A) → IsPrincipalOf f g p → IsSlotOf f g p
  principal_slot f g p (inl e) = (0, inl e)
  principal_slot f g p (inr e) = (0, inr e)

  pub decide : (p q : NamedPort A) → (p ≡ q) ⊎ (p ≢ q)
  decide p q = is_or_is_not (port_same same) (port_test same test) q p

  pub flip : (p q : NamedPort A) → Linked N p q → Linked N q p
  flip p q (inl h) = inr h
  flip p q (inr h) = inl h

  pub faced : (f g : A) (k : Kind) (i : ℕ) (l : Kind) (j : ℕ) → Faces N f g k i l j →
      (p q : NamedPort A) → Linked N p q → IsPrincipalOf f g p → IsPrincipalOf f g q
  faced f g k i l j faces p q h (inl e) = inr
      (is_net.one_link (slot f 0) q (slot g 0) (subst (λ p. Linked N p q) e h) faces.linked)
  faced f g k i l j faces p q h (inr e) = inl
      (is_net.one_link (slot g 0) q (slot f 0) (subst (λ p. Linked N p q) e h)
      (flip (slot f 0) (slot g 0) faces.linked))

  pub far_slots : (f g f' g' : A) → Disjoint f g f' g' → (p : NamedPort A) → IsSlotOf f g p → IsSlotOf f' g' p → ⊥
  far_slots f g f' g' d p (s, inl e) (s', inl e') = d.ff (cc)
  far_slots f g f' g' d p (s, inl e) (s', inr e') = d.fg (cc)
  far_slots f g f' g' d p (s, inr e) (s', inl e') = d.gf (cc)
  far_slots f g f' g' d p (s, inr e) (s', inr e') = d.gg (cc)

  -- a slot of a new node is a slot of no node that was there
  born_slot : (born : ℕ → A) → IsFresh N born → (f g : A) (k l : Kind) (i j : ℕ) → HasNode N f k i →
      HasNode N g l j → (n s : ℕ) → IsSlotOf f g (slot (born n) s) → ⊥
  born_slot born fresh f g k l i j h h' n s (s', inl e) = fresh.unused f k i n h (cc)
  born_slot born fresh f g k l i j h h' n s (s', inr e) = fresh.unused g l j n h' (cc)

  aux_principal : (f g x : A) (s : ℕ) → IsPrincipalOf f g (slot x (suc s)) → ⊥
  aux_principal f g x s (inl e) = let z : suc s ≡ 0 = cc in absurd (omega arith)
  aux_principal f g x s (inr e) = let z : suc s ≡ 0 = cc in absurd (omega arith)

  pub own_slot_f : (f g : A) (s : ℕ) → IsSlotOf f g (slot f s)
  own_slot_f f g s = (s, inl refl)

  pub own_slot_g : (f g : A) (s : ℕ) → IsSlotOf f g (slot g s)
  own_slot_g f g s = (s, inr refl)

  module _ (f g : A) (k : Kind) (i : ℕ) (l : Kind) (j : ℕ) (a : Action) (born : ℕ → A)
      (faces : Faces N f g k i l j) (fresh : IsFresh N born)
      (f' g' : A) (k' : Kind) (i' : ℕ) (l' : Kind) (j' : ℕ) (faces' : Faces N f' g' k' i' l' j')
      (d : Disjoint f g f' g') where
    Ends : NamedPort A → Type 0
    Ends u = (IsPrincipalOf f g u → ⊥) × (IsSlotOf f' g' u → ⊥)

    of_f_slot : (s : ℕ) → Ends (slot f (suc s))
    unfolding Ends
    of_f_slot s = (aux_principal f g f s, λ h. far_slots f g f' g' d (slot f (suc s)) (own_slot_f f g (suc s)) h)

    of_g_slot : (s : ℕ) → Ends (slot g (suc s))
    unfolding Ends
    of_g_slot s = (aux_principal f g g s, λ h. far_slots f g f' g' d (slot g (suc s)) (own_slot_g f g (suc s)) h)

    of_born : (n s : ℕ) → Ends (slot (born n) s)
    unfolding Ends
    of_born n s = (
      λ h. born_slot born fresh f g k l i j faces.first faces.second n s (principal_slot f g (slot (born n) s) h),
      λ h. born_slot born fresh f' g' k' l' i' j' faces'.first faces'.second n s h,
    )

    ends_of : (u v : NamedPort A) → JoinOf born f g k l a u v → Ends u × Ends v
    ends_of u v (meet {s = s} e b) = (of_f_slot s, of_g_slot s)
    ends_of u v (at_f {p = p} n e b) = (of_born (arity l + p) 0, of_f_slot p)
    ends_of u v (at_g {q = q} n e b) = (of_born q 0, of_g_slot q)
    ends_of u v (between {p = p} {q = q} n e b b') = (of_born q (suc p), of_born (arity l + p) (suc q))

    pub clear_joins : Clear (JoinOf born f g k l a) (IsPrincipalOf f g) (IsSlotOf f' g')
    unfolding Ends
    clear_joins = record { first = λ u v h. (ends_of u v h).0; second = λ u v h. (ends_of u v h).1 }

    -- the other pair faces still
    pub faces_still : (M : NamedNet A) → Rewrites born N f g k i l a M → Faces M f' g' k' i' l' j'
    faces_still M r = record {
      first = (r.nodes f' k' i').1 (left faces'.first (λ e. d.ff (sym e)) (λ e. d.gf (sym e)));
      second = (r.nodes g' l' j').1 (left faces'.second (λ e. d.fg (sym e)) (λ e. d.gg (sym e)));
      linked = (r.links (slot f' 0) (slot g' 0)).1 (record {
        first = λ h. far_slots f g f' g' d (slot f' 0) h (own_slot_f f' g' 0);
        second = λ h. far_slots f g f' g' d (slot g' 0) h (own_slot_g f' g' 0);
        apart = λ e. is_net.apart (slot f' 0) (subst (λ q. Linked N (slot f' 0) q) (sym e) faces'.linked);
        joined = on here (inl (
          faces'.linked,
          (λ h. far_slots f g f' g' d (slot f' 0) (principal_slot f g (slot f' 0) h) (own_slot_f f' g' 0)),
          (λ h. far_slots f g f' g' d (slot g' 0) (principal_slot f g (slot g' 0) h) (own_slot_g f' g' 0)),
        ));
      });
    }

  module _ (f g : A) (k : Kind) (i : ℕ) (l : Kind) (j : ℕ) (a : Action) (born : ℕ → A)
      (faces : Faces N f g k i l j) (fresh : IsFresh N born)
      (f' g' : A) (k' : Kind) (i' : ℕ) (l' : Kind) (j' : ℕ) (a' : Action) (born' : ℕ → A)
      (faces' : Faces N f' g' k' i' l' j') (fresh' : IsFresh N born') (d : Disjoint f g f' g') where
    abbrev Both : NamedPort A → NamedPort A → Type 0
    Both = Contracted (Edge2 (Linked N) (IsPrincipalOf f g) (IsPrincipalOf f' g')
        (JoinOf born f g k l a) (JoinOf born' f' g' k' l' a')) (λ u. IsSlotOf f g u ⊎ IsSlotOf f' g' u)

    -- the links after both
    pub links_both : (M P : NamedNet A) → Rewrites born N f g k i l a M →
        Rewrites born' M f' g' k' i' l' a' P → (p q : NamedPort A) → Linked P p q ↔ Both p q
    links_both M P r r' p q =
        let s = left_after decide (Linked N) (Linked M) (IsPrincipalOf f g) (IsPrincipalOf f' g')
        (IsSlotOf f g) (IsSlotOf f' g') (JoinOf born f g k l a) (JoinOf born' f' g' k' l' a')
        r.links (principal_slot f' g')
        (clear_joins f g k i l j a born faces fresh f' g' k' i' l' j' faces' d)
        (clear_joins f' g' k' i' l' j' a' born' faces' fresh' f g k i l j faces (disjoint_sym d))
        (λ u v h. (faced f' g' k' i' l' j' faces' u v h, faced f' g' k' i' l' j' faces' v u (flip u v h)))
        p q in
        let t = r'.links p q in
        ((λ h. s.0 (t.0 h)), (λ h. t.1 (s.1 h)))

    -- the nodes after both, from those of the other order
    nodes_over : (M P M' P' : NamedNet A) → Rewrites born N f g k i l a M →
        Rewrites born' M f' g' k' i' l' a' P → Rewrites born' N f' g' k' i' l' a' M' → Rewrites born M' f g k i l a P' →
        (x : A) (m : Kind) (n : ℕ) → HasNode P x m n → HasNode P' x m n
    nodes_over M P M' P' r s r' s' x m n h = outer x m n ((s.nodes x m n).0 h)
      where
        inner : (x : A) (m : Kind) (n : ℕ) → NodeOf N born f g k i l a x m n → x ≢ f' → x ≢ g' →
            NodeOf M' born f g k i l a x m n
        inner x m n (left h y y') z z' = left ((r'.nodes x m n).1 (left h z z')) y y'
        inner x m n (of_f n' e b) z z' = of_f n' e b
        inner x m n (of_g n' e b) z z' = of_g n' e b

        new : (x : A) (m : Kind) (n : ℕ) → NodeOf N born' f' g' k' i' l' a' x m n → (q : ℕ) →
            x ≡ born' q → NodeOf M' born f g k i l a x m n
        new x m n h q e = left ((r'.nodes x m n).1 h)
            (λ z. fresh'.unused f k i q faces.first (sym z ∙ e)) (λ z. fresh'.unused g l j q faces.second (sym z ∙ e))

        outer : (x : A) (m : Kind) (n : ℕ) → NodeOf M born' f' g' k' i' l' a' x m n → HasNode P' x m n
        outer x m n (left h y y') = (s'.nodes x m n).1 (inner x m n ((r.nodes x m n).0 h) y y')
        outer x m n (of_f {q = q} n' e b) = (s'.nodes x m n).1 (new (born' q) k' i' (of_f n' e b) q refl)
        outer x m n (of_g {p = p} n' e b) = (s'.nodes x m n).1
            (new (born' (arity l' + p)) l' n' (of_g n' e b) (arity l' + p) refl)

  module _ (f g : A) (k : Kind) (i : ℕ) (l : Kind) (j : ℕ) (a : Action) (born : ℕ → A)
      (faces : Faces N f g k i l j) (fresh : IsFresh N born)
      (f' g' : A) (k' : Kind) (i' : ℕ) (l' : Kind) (j' : ℕ) (a' : Action) (born' : ℕ → A)
      (faces' : Faces N f' g' k' i' l' j') (fresh' : IsFresh N born') (d : Disjoint f g f' g') where
    swap : (p q : NamedPort A) → Both f g k i l j a born faces fresh f' g' k' i' l' j' a' born'
        faces' fresh' d p q → Both f' g' k' i' l' j' a' born' faces' fresh' f g k i l j a born faces
        fresh (disjoint_sym d) p q
    swap p q c = contracted_map edge (λ u h g. other g) p q c
      where
        other : {X Y : Type 0} → X ⊎ Y → Y ⊎ X
        other (inl h) = inr h
        other (inr h) = inl h

        edge : (u v : NamedPort A) → Edge2 (Linked N) (IsPrincipalOf f g) (IsPrincipalOf f' g')
            (JoinOf born f g k l a) (JoinOf born' f' g' k' l' a') u v →
            Edge2 (Linked N) (IsPrincipalOf f' g') (IsPrincipalOf f g) (JoinOf born' f' g' k' l' a')
            (JoinOf born f g k l a) u v
        edge u v (inl (inl t)) = inl (inl (t.0, t.2, t.1))
        edge u v (inl (inr h)) = inr h
        edge u v (inr h) = inl (inr h)

  -- both orders leave one net
  pub square : (f g : A) (k : Kind) (i : ℕ) (l : Kind) (j : ℕ) (a : Action) (born : ℕ → A) →
      Faces N f g k i l j → IsFresh N born →
      (f' g' : A) (k' : Kind) (i' : ℕ) (l' : Kind) (j' : ℕ) (a' : Action) (born' : ℕ → A) →
      Faces N f' g' k' i' l' j' → IsFresh N born' → Disjoint f g f' g' →
      (M P M' P' : NamedNet A) → Rewrites born N f g k i l a M →
      Rewrites born' M f' g' k' i' l' a' P → Rewrites born' N f' g' k' i' l' a' M' →
      Rewrites born M' f g k i l a P' → SameNet P P'
  square f g k i l j a born faces fresh f' g' k' i' l' j' a' born' faces' fresh' d M P M' P' r s r' s' = record {
    nodes = λ x m n. (
      nodes_over f g k i l j a born faces fresh f' g' k' i' l' j' a' born' faces' fresh' d M P M' P' r s r' s' x m n,
      nodes_over f' g' k' i' l' j' a' born' faces' fresh' f g k i l j a born faces fresh
          (disjoint_sym d) M' P' M P r' s' r s x m n,
    );
    free_ports = s.free_ports ∙ r.free_ports ∙ sym r'.free_ports ∙ sym s'.free_ports;
    links = λ p q.
        let u = links_both f g k i l j a born faces fresh f' g' k' i' l' j' a' born' faces' fresh' d M P r s p q in
        let v = links_both f' g' k' i' l' j' a' born' faces' fresh' f g k i l j a born faces fresh
        (disjoint_sym d) M' P' r' s' p q in (
          (λ h. v.1 (swap f g k i l j a born faces fresh f' g' k' i' l' j' a' born' faces' fresh' d p q (u.0 h))),
          (λ h. u.1 (swap f' g' k' i' l' j' a' born' faces' fresh' f g k i l j a born faces fresh
              (disjoint_sym d) p q (v.0 h))),
        );
  }
