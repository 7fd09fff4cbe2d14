-- A net has a lead or is complete, and so there is a one-thread run for each fuel.
use Rattle.std.proofs.Common.{◌≡◌, ◌≢◌, ℕ, zero, suc, ◌≤◌, Bool, true, false, List, [], ◌∷◌, length}
use Rattle.std.proofs.Common.{Option, Some, None, ◌⊎◌, inl, inr, refl, sym, ap, ◌∙◌, subst, arith}
use Rattle.std.proofs.lemmas.Bool.{false_from_ne_true}
use Rattle.std.proofs.lemmas.Bool.Decides.{nat_tests}
use Rattle.ol_law_edges.specs.Edges.{IsIn}
use Rattle.ol_net.specs.declared.parts.Kind.{Kind}
use Rattle.ol_net.specs.declared.parts.Rule.{Rule}
use Rattle.ol_net.specs.Rules.{rule_of}
use Rattle.ol_net.specs.Nets.{NamedPort, free, slot, NamedNet, HasNode, Linked, IsNet, Faces}
use Rattle.ol_net.specs.Pairs.{IsActive, IsComplete, HasActive}
use Rattle.ol_rules.specs.declared.journal.NodeName.{NodeName}
use Rattle.ol_rules.specs.declared.journal.NodeName.TheVariants.{Init, Born}
use Rattle.ol_rules.specs.declared.journal.Entry.{Entry}
use Rattle.ol_rules.specs.Names.{comes_before}
use Rattle.ol_rules.specs.Rewriting.{action_of}
use Rattle.ol_rules.specs.Laws.{AreNamedBefore}
use Rattle.ol_rules.specs.Runs.{IsEntryStep, IsLead, IsLeadRun, IsOneThread}
use Rattle.ol_rules.proofs.FreshPairs.{linked_sym}
use Rattle.ol_rules.proofs.NameOrder.{before_before, not_before_itself}
use Rattle.ol_rules.proofs.OneRun.{name_same, name_test, fresh_names, named_after}
use Rattle.ol_rules.proofs.Relation.{next}

-- ---- a pair at a node

-- the node stands in an active pair
abbrev Acts : {A : Type 0} → NamedNet A → A → Type 0
Acts {A} N x = (r : Rule) × (y : A) × (IsActive N x y r ⊎ IsActive N y x r)

module _ {A : Type 0} (N : NamedNet A) (is_net : IsNet N) where
  -- what stands at the other end of the principal port decides
  not_free : (x : A) (n : ℕ) → Linked N (slot x 0) (free n) → Acts N x → ⊥
  not_free x n h (r, y, inl a) = let e = is_net.one_link (slot x 0) (free n) (slot y 0) h a.faces.linked in absurd (cc)
  not_free x n h (r, y, inr a) = let e = is_net.one_link (slot x 0) (free n) (slot y 0) h
      (linked_sym N (slot y 0) (slot x 0) a.faces.linked) in absurd (cc)

  not_auxiliary : (x y : A) (s : ℕ) → Linked N (slot x 0) (slot y (suc s)) → Acts N x → ⊥
  not_auxiliary x y s h (r, z, inl a) = let e = is_net.one_link (slot x 0) (slot y (suc s))
      (slot z 0) h a.faces.linked in absurd (cc)
  not_auxiliary x y s h (r, z, inr a) = let e = is_net.one_link (slot x 0) (slot y (suc s))
      (slot z 0) h (linked_sym N (slot z 0) (slot x 0) a.faces.linked) in absurd (cc)

  -- the rule of two nodes, at the kinds that they have
  rule_at : (x y : A) (k : Kind) (i : ℕ) (l : Kind) (j : ℕ) (r : Rule) → Faces N x y k i l j →
      IsActive N x y r → rule_of k i l j ≡ Some r
  rule_at x y k i l j r h a =
      let p = is_net.one_node x a.k k a.i i a.faces.first h.first in
      let q = is_net.one_node y a.l l a.j j a.faces.second h.second in
      sym (ap (λ k. rule_of k a.i a.l a.j) p.0 ∙ ap (λ i. rule_of k i a.l a.j) p.1
      ∙ ap (λ l. rule_of k i l a.j) q.0 ∙ ap (λ j. rule_of k i l j) q.1) ∙ a.fits

  turned : (x y : A) (k : Kind) (i : ℕ) (l : Kind) (j : ℕ) → Faces N x y k i l j → Faces N y x l j k i
  turned x y k i l j h = record {
    first = h.second;
    second = h.first;
    linked = linked_sym N (slot x 0) (slot y 0) h.linked;
  }

  faced : (x y : A) (k : Kind) (i : ℕ) (l : Kind) (j : ℕ) → Faces N x y k i l j → Acts N x ⊎ (Acts N x → ⊥)
  faced x y k i l j h = go (rule_of k i l j) (rule_of l j k i) refl refl
    where
      one : (z : A) → Linked N (slot x 0) (slot z 0) → z ≡ y
      one z m = let e = is_net.one_link (slot x 0) (slot z 0) (slot y 0) m h.linked in cc

      go : (a b : Option Rule) → rule_of k i l j ≡ a → rule_of l j k i ≡ b → Acts N x ⊎ (Acts N x → ⊥)
      go (Some r) b e e' = inl (r, y, inl (record { k = k; i = i; l = l; j = j; faces = h; fits = e }))
      go None (Some r) e e' = inl (
        r,
        y,
        inr
            (record { k = l; i = j; l = k; j = i; faces = turned x y k i l j h; fits = e' }),
      )
      go None None e e' = inr clash
        where
          clash : Acts N x → ⊥
          clash (r, z, inl a) =
              let q = one z a.faces.linked in
              let f = rule_at x y k i l j r h (subst (λ z. IsActive N x z r) q a) in
              (let g = sym e ∙ f in absurd (cc))
          clash (r, z, inr a) =
              let q = one z (linked_sym N (slot z 0) (slot x 0) a.faces.linked) in
              let f = rule_at y x l j k i r (turned x y k i l j h) (subst (λ z. IsActive N z x r) q a) in
              (let g = sym e' ∙ f in absurd (cc))

  acts_or_not : (x : A) (k : Kind) (i : ℕ) → HasNode N x k i → Acts N x ⊎ (Acts N x → ⊥)
  acts_or_not x k i h = let l = is_net.some_link (slot x 0) (k, i, h, omega arith) in go l.0 l.1
    where
      go : (q : NamedPort A) → Linked N (slot x 0) q → Acts N x ⊎ (Acts N x → ⊥)
      go (free n) l = inr (not_free x n l)
      go (slot y (suc s)) l = inr (not_auxiliary x y s l)
      go (slot y zero) l =
          let ports = is_net.of_ports (slot x 0) (slot y 0) l in
          faced x y k i ports.1.0 ports.1.1 (record { first = h; second = ports.1.2; linked = l })

-- ---- the least of them

abbrev AreNodesOf : NamedNet NodeName → List (NodeName × Kind × ℕ) → Type 0
AreNodesOf N nodes = (x : NodeName) (k : Kind) (i : ℕ) → IsIn (x, k, i) nodes → HasNode N x k i

-- the least name of those in the list that stand in an active pair
record Least (N : NamedNet NodeName) (nodes : List (NodeName × Kind × ℕ)) : Type 0 where
  name : NodeName
  acts : Acts N name
  least : (x : NodeName) (k : Kind) (i : ℕ) → IsIn (x, k, i) nodes → Acts N x → comes_before x name ≡ false

abbrev NoneActs : NamedNet NodeName → List (NodeName × Kind × ℕ) → Type 0
NoneActs N nodes = (x : NodeName) (k : Kind) (i : ℕ) → IsIn (x, k, i) nodes → Acts N x → ⊥

module _ (N : NamedNet NodeName) (is_net : IsNet N) where
  least_of : (nodes : List (NodeName × Kind × ℕ)) → AreNodesOf N nodes → Least N nodes ⊎ NoneActs N nodes
  least_of [] of = inr (λ x k i h a. h)
  least_of (n ∷ nodes) of = go (acts_or_not N is_net n.0 n.1 n.2 (of n.0 n.1 n.2 (inl refl)))
      (least_of nodes (λ x k i h. of x k i (inr h)))
    where
      -- the head of the list doesn't stand in a pair
      passed : (Acts N n.0 → ⊥) → (P : Type 0) (x : NodeName) (k : Kind) (i : ℕ) →
          ◌≡◌ {A = NodeName × Kind × ℕ} (x, k, i) n → Acts N x → P
      passed lacks P x k i e a = absurd (lacks (subst (λ x. Acts N x) (ap (λ (d : NodeName × Kind × ℕ). d.0) e) a))

      itself : (x : NodeName) (k : Kind) (i : ℕ) → ◌≡◌ {A = NodeName × Kind × ℕ} (x, k, i) n →
          comes_before x n.0 ≡ false
      itself x k i e = subst (λ x. comes_before x n.0 ≡ false)
          (sym (ap (λ (d : NodeName × Kind × ℕ). d.0) e)) (not_before_itself n.0)

      compared : (a : Acts N n.0) (l : Least N nodes) (b : Bool) → comes_before n.0 l.name ≡ b → Least N (n ∷ nodes)
      compared a l true e = record { name = n.0; acts = a; least = least }
        where
          least : (x : NodeName) (k : Kind) (i : ℕ) → IsIn (x, k, i) (n ∷ nodes) → Acts N x → comes_before x n.0 ≡ false
          least x k i (inl h) c = itself x k i h
          least x k i (inr h) c = false_from_ne_true (comes_before x n.0)
              (λ t. let u = before_before x n.0 l.name t e in let v = l.least x k i h c in absurd (cc))
      compared a l false e = record { name = l.name; acts = l.acts; least = least }
        where
          least : (x : NodeName) (k : Kind) (i : ℕ) → IsIn (x, k, i) (n ∷ nodes) → Acts N x →
              comes_before x l.name ≡ false
          least x k i (inl h) c = subst (λ x. comes_before x l.name ≡ false)
              (sym (ap (λ (d : NodeName × Kind × ℕ). d.0) h)) e
          least x k i (inr h) c = l.least x k i h c

      go : Acts N n.0 ⊎ (Acts N n.0 → ⊥) → Least N nodes ⊎ NoneActs N nodes →
          Least N (n ∷ nodes) ⊎ NoneActs N (n ∷ nodes)
      go (inl a) (inl l) = inl (compared a l (comes_before n.0 l.name) refl)
      go (inl a) (inr none) = inl (record { name = n.0; acts = a; least = least })
        where
          least : (x : NodeName) (k : Kind) (i : ℕ) → IsIn (x, k, i) (n ∷ nodes) → Acts N x → comes_before x n.0 ≡ false
          least x k i (inl h) c = itself x k i h
          least x k i (inr h) c = absurd (none x k i h c)
      go (inr lacks) (inl l) = inl (record { name = l.name; acts = l.acts; least = least })
        where
          least : (x : NodeName) (k : Kind) (i : ℕ) → IsIn (x, k, i) (n ∷ nodes) → Acts N x →
              comes_before x l.name ≡ false
          least x k i (inl h) c = passed lacks (comes_before x l.name ≡ false) x k i h c
          least x k i (inr h) c = l.least x k i h c
      go (inr lacks) (inr none) = inr none_here
        where
          none_here : NoneActs N (n ∷ nodes)
          none_here x k i (inl h) c = passed lacks ⊥ x k i h c
          none_here x k i (inr h) c = none x k i h c

  -- ---- the lead

  either_first : (a b : NodeName) → a ≢ b → comes_before b a ≡ false → comes_before a b ≡ true
  either_first (Init m) (Init n) d h = let e : m ≢ n = λ q. d (ap (λ n. Init n) q) in grind (arith, nat_tests)
  either_first (Init m) (Born t p) d h = refl
  either_first (Born t p) (Init n) d h = absurd (cc)
  either_first (Born t p) (Born u q) d h = go (comes_before (Born t p) (Born u q)) refl
    where
      same : comes_before (Born t p) (Born u q) ≡ false →
          comes_before (Born u q) (Born t p) ≡ false → Born t p ≡ Born u q
      same g h = grind (arith, nat_tests)

      go : (b : Bool) → comes_before (Born t p) (Born u q) ≡ b → comes_before (Born t p) (Born u q) ≡ true
      go true e = e
      go false e = absurd (d (same e h))

  -- the active pair of the least name is the lead
  lead_at : (l : Least N N.nodes) → (e : Entry) × IsLead N e
  lead_at l = go l.acts
    where
      least : (f g : NodeName) (r : Rule) → IsActive N f g r →
          (comes_before f l.name ≡ false) × (comes_before g l.name ≡ false)
      least f g r a = (l.least f a.k a.i a.faces.first (r, g, inl a), l.least g a.l a.j a.faces.second (r, f, inr a))

      two : (y : NodeName) → Linked N (slot l.name 0) (slot y 0) → l.name ≢ y
      two y h e = is_net.apart (slot l.name 0) (subst (λ y. Linked N (slot l.name 0) (slot y 0)) (sym e) h)

      go : Acts N l.name → (e : Entry) × IsLead N e
      go (r, y, inl a) =
          let before = either_first l.name y (two y a.faces.linked) (least l.name y r a).1 in (
            record { rule = r; first = l.name; second = y },
            record {
              f = l.name;
              g = y;
              named = record {
                ordered = before;
                pair = inl (refl, refl);
              };
              active = a;
              least = least;
            },
          )
      go (r, y, inr a) =
          let before = either_first l.name y (two y
          (linked_sym N (slot y 0) (slot l.name 0) a.faces.linked)) (least y l.name r a).0 in (
            record { rule = r; first = l.name; second = y },
            record {
              f = y;
              g = l.name;
              named = record {
                ordered = before;
                pair = inr (refl, refl);
              };
              active = a;
              least = least;
            },
          )

  pub lead_or_complete : ((e : Entry) × IsLead N e) ⊎ IsComplete N
  lead_or_complete = go (least_of N.nodes (λ x k i h. h))
    where
      go : Least N N.nodes ⊎ NoneActs N N.nodes → ((e : Entry) × IsLead N e) ⊎ IsComplete N
      go (inl l) = inl (lead_at l)
      go (inr none) = inr (λ f g r a. none f a.k a.i a.faces.first (r, g, inl a))

-- ---- the run

record LeadsOn (N : NamedNet NodeName) (t fuel : ℕ) : Type 0 where
  journal : List Entry
  net : NamedNet NodeName
  leads : IsLeadRun N t journal net
  within : length journal ≤ fuel
  ended : IsComplete net ⊎ (length journal ≡ fuel)

leads_on : (fuel : ℕ) (N : NamedNet NodeName) (t : ℕ) → IsNet N → AreNamedBefore N t → LeadsOn N t fuel
leads_on zero N t is_net before = record {
  journal = [];
  net = N;
  leads = IsLeadRun.end;
  within = omega arith;
  ended = inr refl;
}
leads_on (suc fuel) N t is_net before = go (lead_or_complete N is_net) (λ K n b. leads_on fuel K (suc t) n b)
  where
    more : (m fuel : ℕ) → m ≤ fuel → suc m ≤ suc fuel
    more m fuel b = omega arith

    further : (e : Entry) → IsLead N e → (K : NamedNet NodeName) → IsEntryStep N t e K →
        LeadsOn K (suc t) fuel → LeadsOn N t (suc fuel)
    further e d K s r = record {
      journal = e ∷ r.journal;
      net = r.net;
      leads = IsLeadRun.then d s r.leads;
      within = more (length r.journal) fuel r.within;
      ended = elim r.ended [ inl c ↦ inl c | inr q ↦ inr (ap suc q) ];
    }

    go : ((e : Entry) × IsLead N e) ⊎ IsComplete N →
        ((K : NamedNet NodeName) → IsNet K → AreNamedBefore K (suc t) → LeadsOn K (suc t) fuel) → LeadsOn N t (suc fuel)
    go (inr c) rest = record { journal = []; net = N; leads = IsLeadRun.end; within = omega arith; ended = inl c }
    go (inl (e, d)) rest =
        let a = d.active in
        let k = next name_same name_test (λ place.
        Born t place) N d.f d.g a.k a.i a.l a.j e.rule is_net a.faces (fresh_names N t before) a.fits in
        let s : IsEntryStep N t e k.0 = record {
          f = d.f;
          g = d.g;
          named = d.named;
          step = record { active = a; rewrites = k.1.rewrites };
        } in
        further e d k.0 s (rest k.0 k.1.net (named_after N k.0 t d.f d.g a.k a.i a.l
        (action_of e.rule a.j) before k.1.rewrites))

pub one_thread_run : (N : NamedNet NodeName) (fuel : ℕ) → IsNet N → AreNamedBefore N 0 →
    (journal : List Entry) × (net : NamedNet NodeName) × IsOneThread N fuel journal net
one_thread_run N fuel is_net before =
    let r = leads_on fuel N 0 is_net before in
    (r.journal, r.net, record { leads = r.leads; within = r.within; ended = r.ended })

-- a net goes on or is complete
pub active_or_complete : (N : NamedNet NodeName) → IsNet N → HasActive N ⊎ IsComplete N
active_or_complete N is_net = elim (lead_or_complete N is_net) [
  | inl d ↦ inl
      (d.1.f, d.1.g, d.0.rule, d.1.active)
  | inr c ↦ inr c
]
