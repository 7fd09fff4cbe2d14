-- A chain that has not met a pair stays as it is after the step of the pair.
use Rattle.std.proofs.Common.{◌≡◌, ℕ, suc, ◌*◌, ◌≤◌, inl, inr, sym, ap, ◌∙◌, subst, arith}
use Rattle.ol_law_edges.specs.Edges.{here, on}
use Rattle.ol_net.specs.declared.parts.Kind.{Kind}
use Rattle.ol_net.specs.declared.parts.Rule.{Rule}
use Rattle.ol_net.specs.Nets.{NamedNet, NamedPort, free, slot, HasNode, Linked, IsNet, IsPort, IsPrincipalOf, IsSlotOf}
use Rattle.ol_context.specs.Contexts.{Context}
use Rattle.ol_context.specs.Paths.{Crosses, inward, outward}
use Rattle.ol_context.specs.Short.{live}
use Rattle.ol_rules.proofs.FreshPairs.{linked_sym}
use Rattle.ol_rules.specs.Rewriting.{IsStep, left}
use Rattle.ol_demand.specs.Chains.{IsAtPair, IsAtNoPair, Chain, starts, crosses}

module _ {A : Type 0} (N M : NamedNet A) (born : ℕ → A) (f' g' : A) (r' : Rule) (is_net : IsNet N)
    (is_net' : IsNet M) (step : IsStep born N f' g' r' M) where
  pub at_f : (u : NamedPort A) → u ≡ slot f' 0 → IsAtPair N u f' g' r'
  at_f u e = record { active = step.active; principal = inl e }

  pub at_g : (u : NamedPort A) → u ≡ slot g' 0 → IsAtPair N u f' g' r'
  at_g u e = record { active = step.active; principal = inr e }

  pub not_slot : (x : A) (s : ℕ) → (x ≡ f' → ⊥) → (x ≡ g' → ⊥) → IsSlotOf f' g' (slot x s) → ⊥
  not_slot x s a b (t, inl e) = a (cc)
  not_slot x s a b (t, inr e) = b (cc)

  pub link_stays : (u v : NamedPort A) → Linked N u v → (IsSlotOf f' g' u → ⊥) →
      (IsSlotOf f' g' v → ⊥) → Linked M u v
  link_stays u v l a b = (step.rewrites.links u v).1 (record {
    first = a;
    second = b;
    apart = λ e. is_net.apart u (subst (λ v. Linked N u v) (sym e) l);
    joined = on here (inl (l, (λ h. a (slot_of u h)), (λ h. b (slot_of v h))));
  })
    where
      slot_of : (w : NamedPort A) → IsPrincipalOf f' g' w → IsSlotOf f' g' w
      slot_of w (inl e) = (0, inl e)
      slot_of w (inr e) = (0, inr e)

  -- a node that the chain crossed is none of the pair's
  pub other : {k : Kind} {i s t : ℕ} {d e : Context} (u : NamedPort A) (x : A) → IsAtNoPair N u →
      Linked N u (slot x s) → Crosses k i s d t e → (slot x t ≡ slot f' 0 → ⊥) →
      (slot x t ≡ slot g' 0 → ⊥) → (x ≡ f' → ⊥) × (x ≡ g' → ⊥)
  other u x a l (inward b z) nf ng = (
    (λ e. nf (ap (λ x. slot x 0) e)),
    (λ e. ng (ap (λ x. slot x 0) e)),
  )
  other u x a l (outward b z) nf ng = (
    (λ e. a f' g' r'
        (at_g u (is_net.one_link (slot f' 0) u (slot g' 0)
        (linked_sym N u (slot f' 0) (subst (λ x. Linked N u (slot x 0)) e l))
        step.active.faces.linked))),
    (λ e. a f' g' r'
        (at_f u (is_net.one_link (slot g' 0) u (slot f' 0)
        (linked_sym N u (slot g' 0) (subst (λ x. Linked N u (slot x 0)) e l))
        (linked_sym N (slot f' 0) (slot g' 0) step.active.faces.linked)))),
  )

  pub node_was : (y : A) (k l : Kind) (i j : ℕ) → HasNode M y k i → HasNode N y l j → (y ≡ f' → ⊥) →
      (y ≡ g' → ⊥) → HasNode N y k i
  node_was y k l i j h h' a b =
      let t = is_net'.one_node y l k j i ((step.rewrites.nodes y l j).1 (left h' a b)) h in
      subst (λ k. HasNode N y k i) t.0 (subst (λ i. HasNode N y l i) t.1 h')

  module _ (u : NamedPort A) (x : A) (k : Kind) (i s : ℕ) (alone : IsAtNoPair N u)
      (l : Linked N u (slot x s)) (hx : HasNode N x k i) (nf : x ≡ f' → ⊥)
      (ng : x ≡ g' → ⊥) (l' : Linked M u (slot x s)) where
    -- where u is slot 0 of y in the step's net, and y faces z
    faced : (y z : A) (a : Kind) (b : ℕ) (c : Kind) (d : ℕ) → u ≡ slot y 0 → HasNode M y a b →
        HasNode M z c d → Linked M (slot y 0) (slot z 0) →
        HasNode N y a b × HasNode N z c d × Linked N (slot y 0) (slot z 0)
    faced y z a b c d e hy hz link =
        let w : slot x s ≡ slot z 0 =
        is_net'.one_link u (slot x s) (slot z 0) l' (subst (λ u. Linked M u (slot z 0)) (sym e)
        link) in
        let ez : x ≡ z = cc in
        let port = subst (λ u. IsPort N u) e (is_net.of_ports u (slot x s) l).0 in (
          node_was y a port.0 b port.1 hy port.2 (λ q. alone f' g' r' (at_f u (e
              ∙ ap (λ y. slot y 0) q))) (λ q. alone f' g' r' (at_g u (e ∙ ap (λ y. slot y 0) q))),
          node_was z c k d i hz (subst (λ x. HasNode N x k i) ez hx) (λ q. nf (ez ∙ q)) (λ q. ng (ez
              ∙ q)),
          subst (λ v. Linked N (slot y 0) v) w (subst (λ u. Linked N u (slot x s)) e l),
        )

    pub alone_stays : IsAtNoPair M u
    alone_stays F G r a = go a.principal
      where
        go : IsPrincipalOf F G u → ⊥
        go (inl e) =
            let t = faced F G a.active.k a.active.i a.active.l a.active.j e a.active.faces.first
            a.active.faces.second a.active.faces.linked in
            alone F G r (record {
              active = record {
                k = a.active.k;
                i = a.active.i;
                l = a.active.l;
                j = a.active.j;
                faces = record {
                  first = t.0;
                  second = t.1;
                  linked = t.2;
                };
                fits = a.active.fits;
              };
              principal = inl e;
            })
        go (inr e) =
            let t = faced G F a.active.l a.active.j a.active.k a.active.i e a.active.faces.second
            a.active.faces.first (linked_sym M (slot F 0) (slot G 0) a.active.faces.linked) in
            alone F G r (record {
              active = record {
                k = a.active.k;
                i = a.active.i;
                l = a.active.l;
                j = a.active.j;
                faces = record {
                  first = t.1;
                  second = t.0;
                  linked = linked_sym N (slot G 0) (slot F 0) t.2;
                };
                fits = a.active.fits;
              };
              principal = inr e;
            })

  -- no crossing so far was of the pair's nodes
  pub chain_stays : {p : ℕ} {c : Context} {n : ℕ} {u : NamedPort A} {d : Context} →
      Chain N p c n u d → n ≤ 2 * live M → (u ≡ slot f' 0 → ⊥) → (u ≡ slot g' 0 → ⊥) →
      Chain M p c n u d × (IsSlotOf f' g' u → ⊥)
  chain_stays {p = p} starts m nf ng = (starts, free_out)
    where
      free_out : IsSlotOf f' g' (free p) → ⊥
      free_out (t, inl e) = absurd (cc)
      free_out (t, inr e) = absurd (cc)
  chain_stays (crosses {n = n} {u = u} {x = x} {k = k} {i = i} {s = s} {t = t} h a b l hx y) m nf
      ng =
      let r = chain_stays h (omega arith) (λ e. a f' g' r' (at_f u e)) (λ e. a f' g' r' (at_g u e)) in
      let o = other u x a l y nf ng in
      let l' = link_stays u (slot x s) l r.1 (not_slot x s o.0 o.1) in (
        crosses r.0 (alone_stays u x k i s a l hx o.0 o.1 l') (omega arith) l'
            ((step.rewrites.nodes x k i).1 (left hx o.0 o.1)) y,
        not_slot x t o.0 o.1,
      )

  -- a port that is linked to an auxiliary one is no principal port of the pair
  pub not_met : (u : NamedPort A) (x : A) (s : ℕ) → Linked N u (slot x (suc s)) →
      (u ≡ slot f' 0 → ⊥) × (u ≡ slot g' 0 → ⊥)
  not_met u x s l = (
    λ e. let z = is_net.one_link (slot f' 0) (slot x (suc s)) (slot g' 0)
        (subst (λ u. Linked N u (slot x (suc s))) e l) step.active.faces.linked in
        clash z,
    λ e. let z = is_net.one_link (slot g' 0) (slot x (suc s)) (slot f' 0)
        (subst (λ u. Linked N u (slot x (suc s))) e l)
        (linked_sym N (slot f' 0) (slot g' 0) step.active.faces.linked) in
        clash z,
  )
    where
      clash : {z : A} → slot x (suc s) ≡ slot z 0 → ⊥
      clash e = cc
