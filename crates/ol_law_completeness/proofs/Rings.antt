-- A net that has a weight has no ring of principal ports.
-- For `light_has_no_ring`.
use Rattle.std.proofs.Common.{◌≡◌, ℕ, suc, List, refl, sym, ◌∙◌, subst, arith}
use Rattle.ol_law_completeness.specs.Rings.{Descends, first, next}
use Rattle.ol_law_levels.specs.Unblocked.{Change}
use Rattle.ol_net.specs.Nets.{NamedNet, NamedPort, free, slot, HasNode, Linked, IsNet}
use Rattle.ol_net.specs.declared.parts.Kind.{Kind}
use Rattle.ol_rules.proofs.FreshPairs.{linked_sym}
use Rattle.ol_law_completeness.specs.BoundedRuns.{LightHasNoRing}
use Rattle.ol_law_completeness.specs.Walks.{ComesDown, leaves, rises, comes}
use Rattle.ol_law_completeness.specs.Weights.{WeighsAtMost}

module _ {A : Type 0} (N : NamedNet A) (net : IsNet N) (p : NamedPort A) (ring : Descends N p p) where
  -- the port of the ring before this one
  record Previous (q : NamedPort A) : Type 0 where
    node : A
    by : ℕ
    kind_is : Kind
    index : ℕ
    is : q ≡ slot node (suc by)
    there : HasNode N node kind_is index
    port : NamedPort A
    descends : Descends N p port
    linked : Linked N port (slot node 0)

  previous : {q : NamedPort A} → Descends N p q → Previous q
  previous (first {x = x} {s = s} k i l h b) = record {
    node = x;
    by = s;
    kind_is = k;
    index = i;
    is = refl;
    there = h;
    port = p;
    descends = ring;
    linked = l;
  }
  previous (next {q = q} {x = x} {s = s} k i d l h b) = record {
    node = x;
    by = s;
    kind_is = k;
    index = i;
    is = refl;
    there = h;
    port = q;
    descends = d;
    linked = l;
  }

  -- a walk that rises into it goes round for ever
  goes_round : {x : A} {w : List Change} {n : ℕ} → ComesDown N (slot x 0) w n → (q : NamedPort A) → Descends N p q →
      Linked N q (slot x 0) → ⊥
  goes_round {x} (leaves f l) q d l' =
      let r = previous d in
      let e : q ≡ free f = net.one_link (slot x 0) q (free f) (linked_sym N q (slot x 0) l') l in
      let g : slot r.node (suc r.by) ≡ free f = sym r.is ∙ e in
      absurd (cc)
  goes_round {x} (rises {x = y} {s = s} k i l h b c) q d l' =
      let r = previous d in
      let e : q ≡ slot y (suc s) = net.one_link (slot x 0) q (slot y (suc s)) (linked_sym N q (slot x 0) l') l in
      let g : slot r.node (suc r.by) ≡ slot y (suc s) = sym r.is ∙ e in
      let same : r.node ≡ y = cc in
      goes_round c r.port r.descends (subst (λ y. Linked N r.port (slot y 0)) same r.linked)
  goes_round {x} (comes {x = y} k i l h c) q d l' =
      let r = previous d in
      let e : q ≡ slot y 0 = net.one_link (slot x 0) q (slot y 0) (linked_sym N q (slot x 0) l') l in
      let g : slot r.node (suc r.by) ≡ slot y 0 = sym r.is ∙ e in
      absurd (let z : suc r.by ≡ 0 = cc in omega (arith, z))

  pub none : (m : ℕ) → WeighsAtMost N m → ⊥
  none m w =
      let r = previous ring in
      let c = w.all r.node r.kind_is r.index r.there in
      goes_round c.2 r.port r.descends r.linked

pub light_has_no_ring : {A : Type 0} → LightHasNoRing A
light_has_no_ring N m net w p ring = none N net p ring m w
