-- An unblocked net is unblocked however its lists are ordered, and under other names.
-- Used in TermRuns.
use Rattle.std.proofs.Common.{◌≡◌, ℕ, ◌<◌, List, [], ◌∷◌, length, inl, inr, refl, sym, ap, ◌∙◌, subst}
use Rattle.ol_net.specs.Nets.{NamedPort, free, slot, NamedNet, HasNode, Linked, IsPort, SameNet, port_under, net_under}
use Rattle.ol_net.specs.Pairs.{IsStuck, HasStuck, HasPair}
use Rattle.ol_net.specs.declared.parts.Kind.{Kind}
use Rattle.ol_rules.proofs.Renaming.{node_to, node_from, link_to, link_from}
use Rattle.ol_law_levels.specs.UnblockedLaws.{IsUnstuck}
use Rattle.ol_law_levels.specs.Unblocked.{Change, Reaches, begins, along, rises, falls, alike, IsUnblocked}

-- ---- lists in another order

module _ {A : Type 0} (M N : NamedNet A) (same : SameNet M N) where
  port_back : (p : NamedPort A) → IsPort N p → IsPort M p
  port_back (free n) h = subst (λ m. n < m) (sym same.free_ports) h
  port_back (slot x s) h = (h.0, h.1, (same.nodes x h.0 h.1).1 h.2, h.3)

  same_reaches : {p : NamedPort A} {w : List Change} → Reaches N p w → Reaches M p w
  same_reaches (begins {p = p} h) = begins (port_back p h)
  same_reaches (along {p = p} {q = q} r h) = along (same_reaches r) ((same.links p q).1 h)
  same_reaches (rises {x = x} k i r h b) = rises k i (same_reaches r) ((same.nodes x k i).1 h) b
  same_reaches (falls {x = x} k i d r h b t) = falls k i d (same_reaches r) ((same.nodes x k i).1 h) b t
  same_reaches (alike r h) = alike (same_reaches r) h

  pub same_unblocked : IsUnblocked M → IsUnblocked N
  same_unblocked u x k i w h o r = u x k i w ((same.nodes x k i).1 h) o (same_reaches r)

-- ---- under names that tell the nodes apart

module _ {A B : Type 0} (m : A → B) (back' : B → A) (is_back : (x : A) → back' (m x) ≡ x) (N : NamedNet A) where
  named_back : NamedPort B → NamedPort A
  named_back (free n) = free n
  named_back (slot y s) = slot (back' y) s

  named_is_back : (p : NamedPort A) → named_back (port_under m p) ≡ p
  unfolding named_back
  named_is_back (free n) = refl
  named_is_back (slot x s) = ap (λ x. slot x s) (is_back x)

  node_back : (y : B) (k : Kind) (i : ℕ) → HasNode (net_under m N) y k i → HasNode N (back' y) k i
  node_back y k i h =
      let t = node_from m N y k i h in
      subst (λ x. HasNode N x k i) (sym (ap back' t.2 ∙ is_back t.0)) t.1

  link_back : (P Q : NamedPort B) → Linked (net_under m N) P Q → Linked N (named_back P) (named_back Q)
  link_back P Q h =
      let t = link_from m N P Q h in
      subst (λ p. Linked N p (named_back Q)) (sym (ap named_back t.2 ∙ named_is_back t.0))
      (subst (λ q. Linked N t.0 q) (sym (ap named_back t.3 ∙ named_is_back t.1)) t.4)

  is_port_back : (P : NamedPort B) → IsPort (net_under m N) P → IsPort N (named_back P)
  unfolding named_back
  is_port_back (free n) h = h
  is_port_back (slot y s) h = (h.0, h.1, node_back y h.0 h.1 h.2, h.3)

  reaches_back : {P : NamedPort B} {w : List Change} → Reaches (net_under m N) P w → Reaches N (named_back P) w
  unfolding named_back
  reaches_back (begins {p = P} h) = begins (is_port_back P h)
  reaches_back (along {p = P} {q = Q} r h) = along (reaches_back r) (link_back P Q h)
  reaches_back (rises {x = x} k i r h b) = rises k i (reaches_back r) (node_back x k i h) b
  reaches_back (falls {x = x} k i d r h b t) = falls k i d (reaches_back r) (node_back x k i h) b t
  reaches_back (alike r h) = alike (reaches_back r) h

  pub named_unblocked : IsUnblocked N → IsUnblocked (net_under m N)
  unfolding named_back
  named_unblocked u y k i w h o r = u (back' y) k i w (node_back y k i h) o (reaches_back r)

-- ---- stuck pairs

module _ {A : Type 0} where
  pub none_counted : (N : NamedNet A) → IsUnstuck N → HasStuck N 0
  none_counted N u = record {
    pairs = [];
    count = refl;
    different = tt;
    all = λ f g. (
      λ h. elim h as (λ h. IsStuck N f g) [
        | inl x ↦ absurd x
        | inr x ↦ absurd x
      ],
      λ s. absurd (u f g s),
    );
  }

  pub count_is_none : (N : NamedNet A) → IsUnstuck N → (n : ℕ) → HasStuck N n → n ≡ 0
  count_is_none N u n h = go h.pairs refl
    where
      go : (ps : List (A × A)) → h.pairs ≡ ps → n ≡ 0
      go [] e = sym h.count ∙ ap (λ ps. length ps) e
      go (p ∷ ps) e =
          let here : HasPair h.pairs p.0 p.1 = subst (λ ps. HasPair ps p.0 p.1) (sym e) (inl (inl refl)) in
          absurd (u p.0 p.1 ((h.all p.0 p.1).0 here))

  pub same_unstuck : (M N : NamedNet A) → SameNet M N → IsUnstuck M → IsUnstuck N
  same_unstuck M N same u f g s = u f g (record {
    k = s.k;
    i = s.i;
    l = s.l;
    j = s.j;
    faces = record {
      first = (same.nodes f s.k s.i).1 s.faces.first;
      second = (same.nodes g s.l s.j).1 s.faces.second;
      linked = (same.links (slot f 0) (slot g 0)).1 s.faces.linked;
    };
    first = s.first;
    second = s.second;
  })

module _ {A B : Type 0} where
  pub under_unstuck : (m : A → B) (N : NamedNet A) → IsUnstuck (net_under m N) → IsUnstuck N
  under_unstuck m N u f g s = u (m f) (m g) (record {
    k = s.k;
    i = s.i;
    l = s.l;
    j = s.j;
    faces = record {
      first = node_to m N f s.k s.i s.faces.first;
      second = node_to m N g s.l s.j s.faces.second;
      linked = link_to m N (slot f 0) (slot g 0) s.faces.linked;
    };
    first = s.first;
    second = s.second;
  })
