-- Two nets over which a walk goes to its end, and whose nodes have all met, are one up to numbers.
use Rattle.std.proofs.Common.{◌≡◌, ℕ, suc, ◌+◌, ◌-◌, ◌*◌, ◌/◌, ◌%◌, ◌<◌, nat_lt, ◌==◌, true, false, ◌⊎◌, inl, inr, refl, sym}
use Rattle.std.proofs.Common.{ap, ◌∙◌, subst, List, [], ◌∷◌, length, Option, Some, arith}
use Rattle.std.specs.Prelude.{slice_index_or, if◌then◌else◌}
use Rattle.std.proofs.lemmas.Bool.{cases_Bool}
use Rattle.std.proofs.lemmas.Bool.Decides.{nat_tests}
use Rattle.ol_law_edges.specs.Edges.{IsIn}
use Rattle.ol_net.specs.declared.parts.NodeId.{NodeId}
use Rattle.ol_net.specs.declared.parts.Port.{Port}
use Rattle.ol_net.specs.declared.parts.Port.TheVariants.{Free, Of}
use Rattle.ol_net.specs.Graph.{Graph, IsTabled, kind_at, partner_of}
use Rattle.ol_net.specs.Nets.{NamedPort, free, slot, HasNode, Linked, port_under}
use Rattle.ol_net.specs.Numbered.{net_of, numbered_port}
use Rattle.ol_net.proofs.Places.{has_slot-lt}
use Rattle.ol_net.proofs.Numbered.{has_node, linked, linked_back, partner_of-parts, is_port}
use Rattle.ol_rules.proofs.Relation.{same_sym}
use Rattle.ol_diamond.proofs.Renaming.{IsRenamed, renamed_under}
use Rattle.ol_orders.specs.Same.{pair_at, port_on, AreOne}
use Rattle.ol_orders.specs.Meetings.{AllMeet}
use Rattle.ol_orders.specs.Walked.{AreSo, HasWalked}

-- whom a node has met
abbrev pub name_in : List (ℕ × ℕ) → ℕ → ℕ
name_in [] x = x
name_in (p ∷ met) x = if p.0 == x then p.1 else name_in met x

-- a node that has met one has met this one
pub name_is : (met : List (ℕ × ℕ)) (x y : ℕ) → ((z : ℕ) → IsIn (x, z) met → z ≡ y) → IsIn (x, y) met →
    name_in met x ≡ y
name_is [] x y one h = absurd h
name_is (p ∷ met) x y one h = elim (cases_Bool (p.0 == x)) [
  | inl t ↦
      let same : x ≡ p.0 = grind (arith, nat_tests) in
      rw t (one p.1 (inl (ap (λ (u : ℕ). (u, p.1)) same)))
  | inr f ↦ rw f (name_is met x y (λ z i. one z (inr i)) (later f h))
]
  where
    later : (p.0 == x) ≡ false → ((x, y) ≡ p) ⊎ IsIn (x, y) met → IsIn (x, y) met
    later f (inl e) = let same : x ≡ p.0 = ap (λ (q : ℕ × ℕ). q.0) e in absurd (let t : (p.0 == x) ≡ true = grind (arith, nat_tests) in cc)
    later f (inr i) = i

-- each pair has its place in the list
pub at_place : (met : List (ℕ × ℕ)) (e : ℕ × ℕ) → IsIn e met →
    (n : ℕ) × (n < length met) × (slice_index_or met n (0, 0) ≡ e)
at_place [] e h = absurd h
at_place (p ∷ met) e (inl q) = (0, omega arith, sym q)
at_place (p ∷ met) e (inr h) = let t = at_place met e h in (suc t.0, omega (arith, t.1), t.2)

-- the slots of a pair, and the free ports, are alike where the walk has ended
slot_so : (a b : Graph) (met : List (ℕ × ℕ)) → HasWalked a b (a.free + 3 * length met) met → (x y : NodeId) (s : ℕ) →
    IsIn (x.0, y.0) met → s < 3 → AreSo met (partner_of a (Of x s)) (partner_of b (Of y s))
slot_so a b met w x y s h l =
    let t = at_place met (x.0, y.0) h in
    let n = t.0 in
    let k = a.free + 3 * n + s in
    let within : k < a.free + 3 * length met = omega (arith, t.1, l) in
    let past : nat_lt k a.free ≡ false = grind (arith, nat_tests) in
    let q : (k - a.free) / 3 ≡ n = omega arith in
    let r : (k - a.free) % 3 ≡ s = omega arith in
    let pair : pair_at a.free met k ≡ (x.0, y.0) = ap (λ (n : ℕ). slice_index_or met n (0, 0)) q ∙ t.2 in
    let port : (z : NodeId) → port_on a.free z.0 k ≡ Of z s = λ z. rw past (ap (λ (s : ℕ). Of z s) r) in
    subst (λ (p : Port). AreSo met (partner_of a p) (partner_of b (Of y s))) (port x)
    (subst (λ (p : Port). AreSo met (partner_of a (port_on a.free x.0 k)) (partner_of b p)) (port y)
    (subst (λ (e : ℕ × ℕ). AreSo met (partner_of a (port_on a.free e.0 k)) (partner_of b (port_on a.free e.1 k))) pair
    (w.so k within)))

free_so : (a b : Graph) (met : List (ℕ × ℕ)) → HasWalked a b (a.free + 3 * length met) met → (k : ℕ) → k < a.free →
    AreSo met (partner_of a (Free k)) (partner_of b (Free k))
free_so a b met w k l =
    let t : nat_lt k a.free ≡ true = grind (arith, nat_tests) in
    let port : (z : ℕ) → port_on a.free z k ≡ Free k = λ z. rw t refl in
    subst (λ (p : Port). AreSo met (partner_of a p) (partner_of b (Free k))) (port (pair_at a.free met k).0)
    (subst (λ (p : Port). AreSo met (partner_of a (port_on a.free (pair_at a.free met k).0 k)) (partner_of b p))
    (port (pair_at a.free met k).1) (w.so k (omega (arith, l))))

-- what is alike to a port is that port under the names
so_some : (met : List (ℕ × ℕ)) (m : ℕ → ℕ) → ((x y : ℕ) → IsIn (x, y) met → m x ≡ y) → (p : Port) (o : Option Port) →
    AreSo met (Some p) o → (q : Port) × (o ≡ Some q) × (numbered_port q ≡ port_under m (numbered_port p))
so_some met m is (Free k) (Some (Free l)) h = (Free l, refl, ap free (sym h))
so_some met m is (Of x s) (Some (Of y t)) h = (
  Of y t,
  refl,
  ap (λ (z : ℕ). slot z t) (sym (is x.0 y.0 h.1)) ∙ ap (slot (m x.0)) (sym h.0),
)
so_some met m is _ _ h = absurd h

so_back : (met : List (ℕ × ℕ)) (m : ℕ → ℕ) → ((x y : ℕ) → IsIn (x, y) met → m x ≡ y) → (o : Option Port) (q : Port) →
    AreSo met o (Some q) → (p : Port) × (o ≡ Some p) × (numbered_port q ≡ port_under m (numbered_port p))
so_back met m is (Some (Free k)) (Free l) h = (Free k, refl, ap free (sym h))
so_back met m is (Some (Of x s)) (Of y t) h = (
  Of x s,
  refl,
  ap (λ (z : ℕ). slot z t) (sym (is x.0 y.0 h.1)) ∙ ap (slot (m x.0)) (sym h.0),
)
so_back met m is _ _ h = absurd h

module _ (a b : Graph) (ta : IsTabled a.free a.nodes a.partners) (tb : IsTabled b.free b.nodes b.partners)
    (met : List (ℕ × ℕ)) (frees : a.free ≡ b.free) (w : HasWalked a b (a.free + 3 * length met) met)
    (all : AllMeet a b met) where
  named : (x y : ℕ) → IsIn (x, y) met → name_in met x ≡ y
  named x y h = name_is met x y (λ z i. w.met_so.one x z y i h) h

  abbrev under : Port → NamedPort ℕ
  under p = port_under (name_in met) (numbered_port p)

  -- a link of the first net is one of the second
  over : (p q p' : Port) → under p ≡ numbered_port q → partner_of a p ≡ Some p' →
      AreSo met (partner_of a p) (partner_of b q) → Linked (net_of b) (under p) (under p')
  over p q p' e i so =
      let t = so_some met (name_in met) named p' (partner_of b q)
      (subst (λ (o : Option Port). AreSo met o (partner_of b q)) i so) in
      subst (λ (z : NamedPort ℕ). Linked (net_of b) z (under p')) (sym e)
      (subst (λ (z : NamedPort ℕ). Linked (net_of b) (numbered_port q) z) t.2 (linked b q t.0 tb t.1))

  link_over : (p p' : Port) → partner_of a p ≡ Some p' → Linked (net_of b) (under p) (under p')
  link_over (Free k) p' i =
      let has = (partner_of-parts a (Free k) p' i).0 in
      over (Free k) (Free k) p' refl i (free_so a b met w k (grind (arith, nat_tests)))
  link_over (Of x s) p' i =
      let has = (partner_of-parts a (Of x s) p' i).0 in
      let n = (is_port a (Of x s)).1 has in
      let y = all.first x.0 n.0 n.1 n.2 in
      over (Of x s) (Of (record { 0 = y.0 }) s) p' (ap (λ (z : ℕ). slot z s) (named x.0 y.0 y.1)) i
      (slot_so a b met w x (record { 0 = y.0 }) s y.1 (has_slot-lt (kind_at a.nodes x.0) s has))

  -- and a link of the second net is one of the first
  beneath : (p q q' : Port) → numbered_port q ≡ under p → partner_of b q ≡ Some q' →
      AreSo met (partner_of a p) (partner_of b q) →
      (p : NamedPort ℕ) × (p' : NamedPort ℕ) × Linked (net_of a) p p'
      × (numbered_port q ≡ port_under (name_in met) p) × (numbered_port q' ≡ port_under (name_in met) p')
  beneath p q q' e i so =
      let t = so_back met (name_in met) named (partner_of a p) q'
      (subst (λ (o : Option Port). AreSo met (partner_of a p) o) i so) in
      (numbered_port p, numbered_port t.0, linked a p t.0 ta t.1, e, t.2)

  link_beneath : (q q' : Port) → partner_of b q ≡ Some q' →
      (p : NamedPort ℕ) × (p' : NamedPort ℕ) × Linked (net_of a) p p'
      × (numbered_port q ≡ port_under (name_in met) p) × (numbered_port q' ≡ port_under (name_in met) p')
  link_beneath (Free k) q' i =
      let has = (partner_of-parts b (Free k) q' i).0 in
      let l : k < b.free = grind (arith, nat_tests) in
      beneath (Free k) (Free k) q' refl i (free_so a b met w k (omega (arith, frees, l)))
  link_beneath (Of y s) q' i =
      let has = (partner_of-parts b (Of y s) q' i).0 in
      let n = (is_port b (Of y s)).1 has in
      let x = all.second y.0 n.0 n.1 n.2 in
      beneath (Of (record { 0 = x.0 }) s) (Of y s) q' (ap (λ (z : ℕ). slot z s) (sym (named x.0 y.0 x.1))) i
      (slot_so a b met w (record { 0 = x.0 }) y s x.1 (has_slot-lt (kind_at b.nodes y.0) s has))

  renamed : IsRenamed (name_in met) (net_of a) (net_of b)
  renamed = record {
    free_ports = sym frees;
    nodes_to = λ x k i h.
        let y = all.first x k i h in
        subst (λ (z : ℕ). HasNode (net_of b) z k i) (sym (named x y.0 y.1))
        ((has_node b y.0 k i).1 (sym (w.met_so.kinds x y.0 y.1) ∙ (has_node a x k i).0 h));
    nodes_from = λ y k i h.
        let x = all.second y k i h in (
          x.0,
          (has_node a x.0 k i).1 (w.met_so.kinds x.0 y x.1 ∙ (has_node b y k i).0 h),
          sym (named x.0 y x.1),
        );
    links_to = λ p q h.
        let l = linked_back a p q ta h in
        subst (λ (z : NamedPort ℕ). Linked (net_of b) (port_under (name_in met) z) (port_under (name_in met) q)) (sym l.first)
        (subst (λ (z : NamedPort ℕ). Linked (net_of b) (under l.from) (port_under (name_in met) z)) (sym l.second)
        (link_over l.from l.to l.partner));
    links_from = λ p q h.
        let l = linked_back b p q tb h in
        let t = link_beneath l.from l.to l.partner in
        (t.0, t.1, t.2, l.first ∙ t.3, l.second ∙ t.4);
    apart = λ x y k l i j h h' e.
        let u = all.first x k i h in
        let v = all.first y l j h' in
        let same : u.0 ≡ v.0 = sym (named x u.0 u.1) ∙ e ∙ named y v.0 v.1 in
        w.met_so.back x y v.0 (subst (λ (z : ℕ). IsIn (x, z) met) same u.1) v.1;
  }

  pub are_one : AreOne a b
  are_one = (
    name_in met,
    record {
      apart = renamed.apart;
      same = same_sym (net_of b) _ (renamed_under (name_in met) (net_of a) (net_of b) renamed);
    },
  )
