-- Steps as a relation between nets, however their lists are ordered and whether or not a link stands in them twice.
use Rattle.std.proofs.Common.{◌≡◌, ℕ, Bool, true, false, cond, if◌then◌else◌, Some, inl, inr, refl, sym, ◌∙◌, subst}
use Rattle.ol_law_edges.proofs.Joining.{joined_map}
use Rattle.ol_law_edges.specs.Edges.{IsTest, Joined, here, on, Edge, Contracted}
use Rattle.ol_net.specs.Nets.{NamedPort, slot, NamedNet, Linked, IsNet, SameNet, Faces, IsPrincipalOf, IsSlotOf}
use Rattle.ol_net.specs.Parts.{arity}
use Rattle.ol_net.specs.Rules.{rule_of}
use Rattle.ol_net.specs.declared.parts.Kind.{Kind}
use Rattle.ol_net.specs.declared.parts.Rule.{Rule}
use Rattle.ol_rules.proofs.Built.{net_of}
use Rattle.ol_rules.proofs.Stepped.{stepped, met, crossed, met_ready, crossed_ready}
use Rattle.ol_rules.proofs.Recount.{recount, net_same}
use Rattle.ol_rules.proofs.Alike.{meeting_alike}
use Rattle.ol_rules.specs.Contracting.{rewrite, IsCounted, IsContracted, meeting_joins, crossing_joins, joins_by}
use Rattle.ol_rules.specs.Laws.{IsFresh}
use Rattle.ol_rules.specs.Rewriting.{Action, meeting, crossing, is_meeting, index_after, action_of}
use Rattle.ol_rules.specs.Rewriting.{JoinOf, NodeOf, left, of_f, of_g, Rewrites, IsStep}

pub same_refl : {A : Type 0} (N : NamedNet A) → SameNet N N
same_refl N = record { nodes = λ x k i. ((λ h. h), (λ h. h)); free_ports = refl; links = λ p q. ((λ h. h), (λ h. h)) }

pub same_sym : {A : Type 0} (M N : NamedNet A) → SameNet M N → SameNet N M
same_sym M N s = record {
  nodes = λ x k i. ((s.nodes x k i).1, (s.nodes x k i).0);
  free_ports = sym s.free_ports;
  links = λ p q. ((s.links p q).1, (s.links p q).0);
}

pub same_trans : {A : Type 0} (M N P : NamedNet A) → SameNet M N → SameNet N P → SameNet M P
same_trans M N P s t = record {
  nodes = λ x k i. ((λ h. (t.nodes x k i).0 ((s.nodes x k i).0 h)), (λ h. (s.nodes x k i).1 ((t.nodes x k i).1 h)));
  free_ports = s.free_ports ∙ t.free_ports;
  links = λ p q. ((λ h. (t.links p q).0 ((s.links p q).0 h)), (λ h. (s.links p q).1 ((t.links p q).1 h)));
}

pub faces_same : {A : Type 0} (M N : NamedNet A) (f g : A) (k l : Kind) (i j : ℕ) → SameNet M N →
    Faces M f g k i l j → Faces N f g k i l j
faces_same M N f g k l i j s h = record {
  first = (s.nodes f k i).0 h.first;
  second = (s.nodes g l j).0 h.second;
  linked = (s.links (slot f 0) (slot g 0)).0 h.linked;
}

pub fresh_same : {A : Type 0} (M N : NamedNet A) (born : ℕ → A) → SameNet M N → IsFresh M born → IsFresh N born
fresh_same M N born s h = record { apart = h.apart; unused = λ x m n p k. h.unused x m n p ((s.nodes x m n).1 k) }

module _ {A : Type 0} (born : ℕ → A) (f g : A) (k : Kind) (i : ℕ) (l : Kind) (a : Action) where
  node_same : (M N : NamedNet A) → SameNet M N → (x : A) (m : Kind) (n : ℕ) →
      NodeOf M born f g k i l a x m n → NodeOf N born f g k i l a x m n
  node_same M N s x m n (left h y z) = left ((s.nodes x m n).0 h) y z
  node_same M N s x m n (of_f j e h) = of_f j e h
  node_same M N s x m n (of_g j e h) = of_g j e h

  links_same : (M N : NamedNet A) → SameNet M N → (p q : NamedPort A) →
      Contracted (Edge (Linked M) (IsPrincipalOf f g) (JoinOf born f g k l a)) (IsSlotOf f g) p q →
      Contracted (Edge (Linked N) (IsPrincipalOf f g) (JoinOf born f g k l a)) (IsSlotOf f g) p q
  links_same M N s p q c = record {
    first = c.first;
    second = c.second;
    apart = c.apart;
    joined = joined_map edge c.joined;
  }
    where
      edge : (u v : NamedPort A) → Edge (Linked M) (IsPrincipalOf f g) (JoinOf born f g k l a) u v →
          Joined (Edge (Linked N) (IsPrincipalOf f g) (JoinOf born f g k l a)) u v
      edge u v (inl h) = on here (inl ((s.links u v).0 h.0, h.1, h.2))
      edge u v (inr h) = on here (inr h)

  -- a step of a net is a step of the same net
  pub rewrites_same : (M N P : NamedNet A) → SameNet M N → Rewrites born M f g k i l a P → Rewrites born N f g k i l a P
  rewrites_same M N P s r = record {
    free_ports = r.free_ports ∙ s.free_ports;
    nodes = λ x m n. (
      (λ h. node_same M N s x m n ((r.nodes x m n).0 h)),
      (λ h. (r.nodes x m n).1 (node_same N M (same_sym M N s) x m n h)),
    );
    links = λ p q. (
      (λ h. links_same M N s p q ((r.links p q).0 h)),
      (λ h. (r.links p q).1 (links_same N M (same_sym M N s) p q h)),
    );
  }

  -- what a step gives is one net
  pub one_result : (N P Q : NamedNet A) → Rewrites born N f g k i l a P → Rewrites born N f g k i l a Q → SameNet P Q
  one_result N P Q r t = record {
    nodes = λ x m n. ((λ h. (t.nodes x m n).1 ((r.nodes x m n).0 h)), (λ h. (r.nodes x m n).1 ((t.nodes x m n).0 h)));
    free_ports = r.free_ports ∙ sym t.free_ports;
    links = λ p q. ((λ h. (t.links p q).1 ((r.links p q).0 h)), (λ h. (r.links p q).1 ((t.links p q).0 h)));
  }

module _ {A : Type 0} (same : A → A → Bool) (t : IsTest same) (born : ℕ → A) (N : NamedNet A)
    (f g : A) (k : Kind) (i : ℕ) (l : Kind) (j : ℕ) (r : Rule)
    (is_net : IsNet N) (faces : Faces N f g k i l j) (fresh : IsFresh N born) (rule : rule_of k i l j ≡ Some r) where
  pub record Next (M : NamedNet A) : Type 0 where
    pub rewrites : Rewrites born N f g k i l (action_of r j) M
    pub net : IsNet M

  -- there is a net after each step
  pub next : (M : NamedNet A) × Next M
  next =
      let c = recount same t N is_net in
      let s = stepped same t born c.0 f g k i l j c.1 (faces_same N c.0 f g k l i j c.2 faces)
      (fresh_same N c.0 born c.2 fresh) r rule in (
        rewrite f g same born c.0 r k i l j,
        record {
          rewrites = rewrites_same born f g k i l (action_of r j) c.0 N
              (rewrite f g same born c.0 r k i l j) (same_sym N c.0 c.2) s.is_rewrite;
          net = net_of same t (rewrite f g same born c.0 r k i l j) s.is_counted;
        },
      )

  -- and what a step gives is left by taking out the slots one by one
  pub contraction : IsCounted same N → (M : NamedNet A) →
      Rewrites born N f g k i l (action_of r j) M → IsContracted same born N f g k l (joins_by f g r k l) M
  contraction counted M h = go (is_meeting r) (meeting_alike k i l j r rule) h
    where
      go : (b : Bool) → (b ≡ true → arity k ≡ arity l) →
          Rewrites born N f g k i l (if b then meeting else crossing (index_after r j)) M
          → IsContracted same born N f g k l (cond b (meeting_joins f g (arity k))
          (crossing_joins f g (arity k) (arity l))) M
      go true alike h =
          let s = met same t born N f g k i l j counted faces fresh (alike refl) in
          record {
            ready = met_ready same t born N f g k i l j counted faces fresh (alike refl);
            links = (one_result born f g k i l meeting N M _ h s.is_rewrite).links;
          }
      go false alike h =
          let s = crossed same t born N f g k i l j counted faces fresh (index_after r j) in
          record {
            ready = crossed_ready same t born N f g k i l j counted faces fresh
                (index_after r j);
            links = (one_result born f g k i l
                (crossing (index_after r j)) N M _ h s.is_rewrite).links;
          }

  -- and what a step gives is a net
  pub net_kept : (M : NamedNet A) → Rewrites born N f g k i l (action_of r j) M → IsNet M
  net_kept M h = let n = next in net_same n.0 M
      (one_result born f g k i l (action_of r j) N n.0 M n.1.rewrites h) n.1.net

-- two steps of one net by one pair are by one rule, and leave one net
pub one_step : {A : Type 0} (born : ℕ → A) (M N P Q : NamedNet A) (f g : A) (r s : Rule) → IsNet M →
    SameNet M N → IsStep born M f g r P → IsStep born N f g s Q → (r ≡ s) × SameNet P Q
one_step {A} born M N P Q f g r s is_net same first second =
    let a = first.active in
    let b = second.active in
    let ef = is_net.one_node f a.k b.k a.i b.i a.faces.first ((same.nodes f b.k b.i).1 b.faces.first) in
    let eg = is_net.one_node g a.l b.l a.j b.j a.faces.second ((same.nodes g b.l b.j).1 b.faces.second) in
    let fits : rule_of b.k b.i b.l b.j ≡ Some r =
    subst (λ k. rule_of k b.i b.l b.j ≡ Some r) ef.0
    (subst (λ i. rule_of a.k i b.l b.j ≡ Some r) ef.1
    (subst (λ l. rule_of a.k a.i l b.j ≡ Some r) eg.0 (subst (λ j. rule_of a.k a.i a.l j ≡ Some r) eg.1 a.fits))) in
    let all : Some r ≡ Some s = sym fits ∙ b.fits in
    let e : r ≡ s = cc in
    let rewrites : Rewrites born M f g b.k b.i b.l (action_of s b.j) P =
    subst (λ r. Rewrites born M f g b.k b.i b.l (action_of r b.j) P) e
    (subst (λ k. Rewrites born M f g k b.i b.l (action_of r b.j) P) ef.0
    (subst (λ i. Rewrites born M f g a.k i b.l (action_of r b.j) P) ef.1
    (subst (λ l. Rewrites born M f g a.k a.i l (action_of r b.j) P) eg.0
    (subst (λ j. Rewrites born M f g a.k a.i a.l (action_of r j) P) eg.1 first.rewrites)))) in (
      e,
      one_result born f g b.k b.i b.l (action_of s b.j) N P Q
          (rewrites_same born f g b.k b.i b.l (action_of s b.j) M N P same rewrites) second.rewrites,
    )
