-- Two active pairs of a net that share no node: each is there still when the other is gone.
use Rattle.std.proofs.Common.{◌≡◌, ◌≢◌, ℕ, ◌+◌, Bool, true, false, if◌then◌else◌, Some, length}
use Rattle.std.proofs.Common.{nat_eq, ◌↔◌, ◌⊎◌, inl, inr, refl, sym, ap, ◌∙◌, subst, arith}
use Rattle.ol_net.specs.declared.parts.Kind.{Kind}
use Rattle.ol_net.specs.declared.parts.Rule.{Rule}
use Rattle.ol_net.specs.Parts.{arity}
use Rattle.ol_net.specs.Rules.{rule_of}
use Rattle.ol_net.specs.declared.parts.NodeId.{NodeId}
use Rattle.ol_net.specs.declared.parts.Port.{Port}
use Rattle.ol_net.specs.declared.parts.Port.TheVariants.{Free, Of}
use Rattle.ol_net.specs.declared.parts.Facing.TheVariants.{Active}
use Rattle.ol_net.specs.Graph.{Graph, IsTabled, facing_at}
use Rattle.ol_net.specs.Nets.{NamedPort, free, slot, IsPort, NamedNet, HasNode, Linked, IsNet, Faces}
use Rattle.ol_net.specs.Numbered.{numbered_port, net_of}
use Rattle.ol_net.specs.Pairs.{IsActive, IsInActive}
use Rattle.ol_net.proofs.Numbered.{active_from, active_first, active_second}
use Rattle.ol_rules.specs.Rewriting.{is_meeting, action_of}
use Rattle.ol_rules.specs.Steps.{births, StepsAt}
use Rattle.ol_rules.proofs.BothWays.{both_ways}
use Rattle.ol_rules.proofs.FreshPairs.{linked_sym}
use Rattle.ol_rules.proofs.Relation.{net_kept}
use Rattle.ol_rules.proofs.Tests.{nat_test}
use Rattle.ol_rules.proofs.OnTheWay.{fresh_numbers}
use Rattle.ol_rules.proofs.OneRun.{ArePaired}
use Rattle.ol_diamond.specs.Squares.{AreTogether}
use Rattle.ol_diamond.proofs.Commute.{Disjoint, faces_still}

-- x is one of two nodes
abbrev pub IsOneOf : {A : Type 0} → A → A → A → Type 0
IsOneOf x f g = (x ≡ f) ⊎ (x ≡ g)

module _ {A : Type 0} (N : NamedNet A) (is_net : IsNet N) where
  abbrev Joins : A → A → Type 0
  Joins x y = Linked N (slot x 0) (slot y 0)

  turn : (x y : A) → Joins x y → Joins y x
  turn x y h = linked_sym N (slot x 0) (slot y 0) h

  at_first : (x x' y : A) → x ≡ x' → Joins x y → Joins x' y
  at_first x x' y e h = subst (λ z. Joins z y) e h

  at_second : (x y y' : A) → y ≡ y' → Joins x y → Joins x y'
  at_second x y y' e h = subst (λ z. Joins x z) e h

  pub one_partner : (x y z : A) → Joins x y → Joins x z → y ≡ z
  one_partner x y z h h' = let e : slot y 0 ≡ slot z 0 = is_net.one_link (slot x 0) (slot y 0) (slot z 0) h h' in cc

  -- x with its partner, and y with its own
  far : (x x' y y' : A) → Joins x x' → Joins y y' → x ≢ y → (Joins x y → ⊥) → Disjoint x x' y y'
  far x x' y y' h h' n m = record {
    ff = n;
    fg = λ e. m (at_first y' x y (sym e) (turn y y' h'));
    gf = λ e. m (at_second x x' y e h);
    gg = λ e. n (one_partner x' x y (turn x x' h) (at_first y' x' y (sym e) (turn y y' h')));
  }

  -- pairs of two nodes that are apart are apart
  pub pairs_apart : (x y f g f' g' : A) → IsOneOf x f g → IsOneOf y f' g' → Joins f g →
      Joins f' g' → x ≢ y → (Joins x y → ⊥) → Disjoint f g f' g'
  pairs_apart x y f g f' g' (inl a) (inl b) h h' n m =
      far f g f' g' h h' (λ e. n (a ∙ e ∙ sym b)) (λ j. m (at_first f x y (sym a) (at_second f f' y (sym b) j)))
  pairs_apart x y f g f' g' (inl a) (inr b) h h' n m =
      let d = far f g g' f' h (turn f' g' h') (λ e. n (a ∙ e ∙ sym b))
      (λ j. m (at_first f x y (sym a) (at_second f g' y (sym b) j))) in
      record { ff = d.fg; fg = d.ff; gf = d.gg; gg = d.gf }
  pairs_apart x y f g f' g' (inr a) (inl b) h h' n m =
      let d = far g f f' g' (turn f g h) h' (λ e. n (a ∙ e ∙ sym b))
      (λ j. m (at_first g x y (sym a) (at_second g f' y (sym b) j))) in
      record { ff = d.gf; fg = d.gg; gf = d.ff; gg = d.fg }
  pairs_apart x y f g f' g' (inr a) (inr b) h h' n m =
      let d = far g f g' f' (turn f g h) (turn f' g' h') (λ e. n (a ∙ e ∙ sym b))
      (λ j. m (at_first g x y (sym a) (at_second g g' y (sym b) j))) in
      record { ff = d.gg; fg = d.gf; gf = d.fg; gg = d.ff }

  -- two pairs with one node in common are one
  pub same_two : (x f g f' g' : A) → IsOneOf x f g → IsOneOf x f' g' → Joins f g → Joins f' g' → ArePaired f g f' g'
  same_two x f g f' g' (inl a) (inl b) h h' = let e = sym a ∙ b in
      inl (e, one_partner f g g' h (at_first f' f g' (sym e) h'))
  same_two x f g f' g' (inl a) (inr b) h h' = let e = sym a ∙ b in
      inr (e, one_partner f g f' h (at_first g' f f' (sym e) (turn f' g' h')))
  same_two x f g f' g' (inr a) (inl b) h h' = let e = sym a ∙ b in
      inr (one_partner g f g' (turn f g h) (at_first f' g g' (sym e) h'), e)
  same_two x f g f' g' (inr a) (inr b) h h' = let e = sym a ∙ b in
      inl (one_partner g f f' (turn f g h) (at_first g' g f' (sym e) (turn f' g' h')), e)

-- a rule for both orders makes no node
no_births : (k l : Kind) (i j : ℕ) (r : Rule) → rule_of k i l j ≡ Some r → rule_of l j k i ≡ Some r → births r k l ≡ 0
no_births k l i j r e e' = go (both_ways k l i j r r e e').plain
  where
    zero : (b : Bool) → arity k ≡ 0 → arity l ≡ 0 → (if b then 0 else arity l + arity k) ≡ 0
    zero true a b = refl
    zero false a b = omega arith

    go : ((is_meeting r ≡ true) × (arity k ≡ arity l)) ⊎ ((arity k ≡ 0) × (arity l ≡ 0)) → births r k l ≡ 0
    go (inl h) = ap (λ b. if b then 0 else arity l + arity k) h.0
    go (inr h) = zero (is_meeting r) h.0 h.1

births_turned : (r : Rule) (k l : Kind) → births r k l ≡ births r l k
births_turned r k l = go (is_meeting r)
  where
    go : (b : Bool) → (if b then 0 else arity l + arity k) ≡ (if b then 0 else arity k + arity l)
    go true = refl
    go false = omega arith

-- One active pair, seen twice: where the two nodes are written in different orders, it makes no node.
pub record IsSeenTwice {A : Type 0} {N M : NamedNet A} {f g f' g' : A} {r : Rule}
    (a : IsActive N f g r) (b : IsActive M f' g' r) : Type 0 where
  pub two : ArePaired f g f' g'
  pub names : (births r a.k a.l ≡ 0) ⊎ ((f ≡ f') × (g ≡ g'))
  pub count : births r a.k a.l ≡ births r b.k b.l

-- a pair that still faces is one that is active there
pub seen_twice : {A : Type 0} (N M : NamedNet A) → IsNet M → (x f g f' g' : A) (r : Rule) →
    (a : IsActive N f g r) (b : IsActive M f' g' r) → IsOneOf x f g → IsOneOf x f' g' →
    Faces M f g a.k a.i a.l a.j → IsSeenTwice a b
seen_twice {A} N M is_net x f g f' g' r a b o o' faces = go
    (same_two M is_net x f g f' g' o o' faces.linked b.faces.linked)
  where
    same_kind : (y z : A) (k l : Kind) (i j : ℕ) → y ≡ z → HasNode M y k i → HasNode M z l j → (k ≡ l) × (i ≡ j)
    same_kind y z k l i j e h h' = is_net.one_node y k l i j h (subst (λ w. HasNode M w l j) (sym e) h')

    go : ArePaired f g f' g' → IsSeenTwice a b
    go (inl (e, e')) =
        let p = same_kind f f' a.k b.k a.i b.i e faces.first b.faces.first in
        let q = same_kind g g' a.l b.l a.j b.j e' faces.second b.faces.second in
        record {
          two = inl (e, e');
          names = inr (e, e');
          count = ap (λ k. births r k a.l) p.0
              ∙ ap (λ l. births r b.k l) q.0;
        }
    go (inr (e, e')) =
        let p = same_kind f g' a.k b.l a.i b.j e faces.first b.faces.second in
        let q = same_kind g f' a.l b.k a.j b.i e' faces.second b.faces.first in
        let fits : rule_of a.l a.j a.k a.i ≡ Some r =
        ap (λ l. rule_of l a.j a.k a.i) q.0 ∙ ap (λ j. rule_of b.k j a.k a.i) q.1
        ∙ ap (λ k. rule_of b.k b.i k a.i) p.0 ∙ ap (λ i. rule_of b.k b.i b.l i) p.1 ∙ b.fits in
        record {
          two = inr (e, e');
          names = inl (no_births a.k a.l a.i a.j r a.fits fits);
          count = births_turned r a.k a.l ∙ ap (λ k. births r k a.k) q.0 ∙ ap (λ l. births r b.k l) p.0;
        }

-- the rule of a pair where either may act
across : {A : Type 0} (N : NamedNet A) → IsNet N → (x y z : A) (r s : Rule) → IsActive N x y r →
    IsActive N z x s → r ≡ s
across N n x y z r s a b =
    let e = one_partner N n x y z a.faces.linked (linked_sym N (slot z 0) (slot x 0) b.faces.linked) in
    let p = n.one_node x a.k b.l a.i b.j a.faces.first b.faces.second in
    let q = n.one_node y a.l b.k a.j b.i a.faces.second (subst (λ w. HasNode N w b.k b.i) (sym e) b.faces.first) in
    let fits : rule_of a.l a.j a.k a.i ≡ Some s =
    ap (λ l. rule_of l a.j a.k a.i) q.0 ∙ ap (λ j. rule_of b.k j a.k a.i) q.1
    ∙ ap (λ k. rule_of b.k b.i k a.i) p.0 ∙ ap (λ i. rule_of b.k b.i b.l i) p.1 ∙ b.fits in
    (both_ways a.k a.l a.i a.j r s a.fits fits).one_rule

-- a pair has one rule
pub one_rule : {A : Type 0} (N : NamedNet A) → IsNet N → (x : A) (r s : Rule) → IsInActive N x r →
    IsInActive N x s → r ≡ s
one_rule {A} N n x r s (y, inl a) (z, inl b) = go y z a b
  where
    go : (y z : A) → IsActive N x y r → IsActive N x z s → r ≡ s
    go y z a b =
        let e = one_partner N n x y z a.faces.linked b.faces.linked in
        let p = n.one_node x a.k b.k a.i b.i a.faces.first b.faces.first in
        let q = n.one_node y a.l b.l a.j b.j a.faces.second (subst (λ w. HasNode N w b.l b.j) (sym e) b.faces.second) in
        let fits : Some r ≡ Some s =
        sym a.fits ∙ ap (λ k. rule_of k a.i a.l a.j) p.0 ∙ ap (λ i. rule_of b.k i a.l a.j) p.1
        ∙ ap (λ l. rule_of b.k b.i l a.j) q.0 ∙ ap (λ j. rule_of b.k b.i b.l j) q.1 ∙ b.fits in
        cc
one_rule {A} N n x r s (y, inr a) (z, inr b) = go y z a b
  where
    go : (y z : A) → IsActive N y x r → IsActive N z x s → r ≡ s
    go y z a b =
        let e = one_partner N n x y z (linked_sym N (slot y 0) (slot x 0) a.faces.linked)
        (linked_sym N (slot z 0) (slot x 0) b.faces.linked) in
        let p = n.one_node x a.l b.l a.j b.j a.faces.second b.faces.second in
        let q = n.one_node y a.k b.k a.i b.i a.faces.first (subst (λ w. HasNode N w b.k b.i) (sym e) b.faces.first) in
        let fits : Some r ≡ Some s =
        sym a.fits ∙ ap (λ k. rule_of k a.i a.l a.j) q.0 ∙ ap (λ i. rule_of b.k i a.l a.j) q.1
        ∙ ap (λ l. rule_of b.k b.i l a.j) p.0 ∙ ap (λ j. rule_of b.k b.i b.l j) p.1 ∙ b.fits in
        cc
one_rule {A} N n x r s (y, inl a) (z, inr b) = across N n x y z r s a b
one_rule {A} N n x r s (y, inr a) (z, inl b) = sym (across N n x z y s r b a)

-- ---- a node by its tables

facing_active : (g : Graph) (n : NodeId) (r : Rule) → IsTabled g.free g.nodes g.partners →
    IsInActive (net_of g) n.0 r → facing_at g n ≡ Active r
facing_active g n r tables (y, inl a) = active_first g n (record { 0 = y }) r tables a
facing_active g n r tables (y, inr a) = active_second g (record { 0 = y }) n r tables a

pub not_idle : (g : Graph) (n : NodeId) → IsTabled g.free g.nodes g.partners →
    (r : Rule) × IsInActive (net_of g) n.0 r → ((r : Rule) → facing_at g n ≢ Active r) → ⊥
not_idle g n tables (r, a) never = never r (facing_active g n r tables a)

pub in_active : (g : Graph) (n : NodeId) (r : Rule) → IsTabled g.free g.nodes g.partners →
    facing_at g n ≡ Active r → IsInActive (net_of g) n.0 r
in_active g n r tables e = let a = active_from g n r tables e in (a.0, a.1)

module _ (net : Graph) (is_net : IsNet (net_of net)) (x y : ℕ) (differ : x ≢ y) where
  by_partner : (p : NamedPort ℕ) → Linked (net_of net) (slot x 0) p → (b : Bool) →
      (b ≡ true → p ≡ slot y 0) → (p ≡ slot y 0 → b ≡ true) → (b ≡ true) ↔ AreTogether net x y
  by_partner p h b there back = (λ e. inr (subst (λ p. Linked (net_of net) (slot x 0) p) (there e) h), from)
    where
      from : AreTogether net x y → b ≡ true
      from (inl e) = absurd (differ e)
      from (inr h') = back (is_net.one_link (slot x 0) p (slot y 0) h h')

  pub by_node : (q : Port) (n : NodeId) (s : ℕ) → q ≡ Of n s →
      Linked (net_of net) (slot x 0) (numbered_port q) → (b : Bool) →
      (b ≡ true → (n.0 ≡ y) × (s ≡ 0)) → ((n.0 ≡ y) → (s ≡ 0) → b ≡ true) → (b ≡ true) ↔ AreTogether net x y
  by_node q n s e h b there back = by_partner (slot n.0 s)
      (subst (λ q. Linked (net_of net) (slot x 0) (numbered_port q)) e h) b
      (λ t. let r = there t in ap (λ z. slot z s) r.0 ∙ ap (slot y) r.1)
      (λ t. let a : n.0 ≡ y = cc in let c : s ≡ 0 = cc in back a c)

  pub by_free : (q : Port) (k : ℕ) → q ≡ Free k → Linked (net_of net) (slot x 0) (numbered_port q) →
      (false ≡ true) ↔ AreTogether net x y
  by_free q k e h = by_partner (free k)
      (subst (λ q. Linked (net_of net) (slot x 0) (numbered_port q)) e h) false (λ t. absurd (cc)) (λ t. absurd (cc))

  pub by_none : (IsPort (net_of net) (slot x 0) → ⊥) → (false ≡ true) ↔ AreTogether net x y
  by_none n = ((λ t. absurd (cc)), from)
    where
      from : AreTogether net x y → false ≡ true
      from (inl e) = absurd (differ e)
      from (inr h) = absurd (n (is_net.of_ports (slot x 0) (slot y 0) h).0)

-- ---- a step of a graph

module _ (net middle : Graph) (x : ℕ) (r : Rule) (is_net : IsNet (net_of net)) (s : StepsAt net middle x r) where
  pub after_net : IsNet (net_of middle)
  after_net =
      let a = s.step.active in
      net_kept nat_eq nat_test (λ place. length net.nodes + place)
      (net_of net) s.f s.g a.k a.i a.l a.j r is_net a.faces (fresh_numbers net) a.fits
      (net_of middle) s.step.rewrites

  -- the pair of another node, apart from this one
  module _ (y f g : ℕ) (q : Rule) (a : IsActive (net_of net) f g q) (o : IsOneOf y f g)
      (two : AreTogether net x y → ⊥) where
    pub apart : Disjoint s.f s.g f g
    apart = pairs_apart (net_of net) is_net x y s.f s.g f g s.one_of o s.step.active.faces.linked
        a.faces.linked (λ e. two (inl e)) (λ h. two (inr h))

    pub faces_after : Faces (net_of middle) f g a.k a.i a.l a.j
    faces_after =
        let b = s.step.active in
        faces_still nat_eq nat_test (net_of net) is_net s.f s.g b.k b.i b.l b.j (action_of r b.j)
        (λ place. length net.nodes + place) b.faces
        (fresh_numbers net) f g a.k a.i a.l a.j a.faces apart (net_of middle) s.step.rewrites

    active_after : IsActive (net_of middle) f g q
    active_after = record { k = a.k; i = a.i; l = a.l; j = a.j; faces = faces_after; fits = a.fits }

  -- is active still
  pub still_active : (y : ℕ) (q : Rule) → (AreTogether net x y → ⊥) → IsInActive (net_of net) y q →
      IsInActive (net_of middle) y q
  still_active y q two (z, inl a) = (z, inl (active_after y y z q a (inl refl) two))
  still_active y q two (z, inr a) = (z, inr (active_after y z y q a (inr refl) two))

  pub active_after_step : (y : ℕ) → (AreTogether net x y → ⊥) →
      (q : Rule) × IsInActive (net_of net) y q → (q : Rule) × IsInActive (net_of middle) y q
  active_after_step y two (q, a) = (q, still_active y q two a)

  -- by the same rule
  pub same_rule : (y : ℕ) → (AreTogether net x y → ⊥) → (q : Rule) × IsInActive (net_of net) y q →
      (q' : Rule) → IsInActive (net_of middle) y q' → IsInActive (net_of net) y q'
  same_rule y two (q, a) q' b = subst (λ z. IsInActive (net_of net) y z)
      (one_rule (net_of middle) after_net y q q' (still_active y q two a) b) a
