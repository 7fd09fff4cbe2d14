-- What a ticket writes: its links and its fields, in a meeting and in a crossing.
-- Used in Moved and Ticket.Fields.
use Rattle.std.proofs.Common.{◌≡◌, ◌≢◌, ℕ, ◌+◌, ◌-◌, ◌<◌, ◌≤◌, Bool, true, false, if◌then◌else◌, nat_lt, eq-eqb, ne_eqb}
use Rattle.std.proofs.Common.{◌⊎◌, inl, inr, List, [], ◌∷◌, refl, sym, ap, ◌∙◌, subst, arith}
use Rattle.std.proofs.lemmas.Bool.{cases_eq, cases_lt}
use Rattle.ol_law_edges.specs.Edges.{IsIn}
use Rattle.ol_net.specs.declared.parts.Kind.{Kind}
use Rattle.ol_net.specs.declared.parts.Rule.{Rule}
use Rattle.ol_net.specs.Parts.{arity}
use Rattle.ol_rules.specs.declared.journal.NodeName.TheVariants.{Born}
use Rattle.ol_rules.specs.Rewriting.{is_meeting, index_after}
use Rattle.ol_rules.specs.Listed.{each}
use Rattle.ol_law_edges.proofs.Lists.{in_left, in_right, in_cases, only, in_map, in_map_of, if_below, if_above}
use Rattle.ol_rules.proofs.Lists.{in_each, in_each_of}
use Rattle.ol_wire.specs.declared.layout.Parts.{Parts}
use Rattle.ol_wire.specs.declared.view.Link.{Link}
use Rattle.ol_wire.specs.References.{node_ref, wire_ref, slot_ref, kind_in, index_in}
use Rattle.ol_wire.specs.Layout.{place_of, born_wire}
use Rattle.ol_wire.specs.Events.{Event}
use Rattle.ol_wire.specs.Blocks.{copies_of_f, copies_of_g, born_field}
use Rattle.ol_wire.specs.LinkLists.{born_ref, joins_in, link_of, links_of}
use Rattle.ol_wire.specs.Edges.{edge_to, links_in}
use Rattle.ol_wire.proofs.InWords.References.{kind_of_ref, index_of_ref}
use Rattle.ol_wire.proofs.Ticket.Event.{born_edges, new_edges}
use Rattle.ol_rules.proofs.Born.{at_most_two}

-- an edge of a list, by its ends
abbrev pub Has : ℕ → ℕ → List (ℕ × ℕ) → Type 0
Has u v xs = IsIn {X = ℕ × ℕ} (u, v) xs

pub pair_of : (u v u' v' : ℕ) → ◌≡◌ {A = ℕ × ℕ} (u, v) (u', v') → (u ≡ u') × (v ≡ v')
pair_of u v u' v' e = (ap (λ (p : ℕ × ℕ). p.0) e, ap (λ (p : ℕ × ℕ). p.1) e)

pub has_edge_to : (end word : ℕ) → word ≢ 0 → Has end word (edge_to end word)
has_edge_to end word some = let e : edge_to end word ≡ (end, word) ∷ [] = ap
    (λ c. if c then [] else (end, word) ∷ []) (ne_eqb word 0 some) in subst (λ xs. Has end word xs) (sym e) (inl refl)

pub edge_to_has : (end word u v : ℕ) → Has u v (edge_to end word) → (u ≡ end) × (v ≡ word) × (word ≢ 0)
edge_to_has end word u v h = elim (cases_eq word 0) [
  | inl e ↦
      let q : edge_to end word ≡ [] = ap (λ c. if c then [] else (end, word) ∷ []) (eq-eqb word 0 e) in
      absurd (subst (λ xs. Has u v xs) q h)
  | inr d ↦
      let q : edge_to end word ≡ (end, word) ∷ [] = ap (λ c. if c then [] else (end, word) ∷ []) (ne_eqb word 0 d) in
      let s = pair_of u v end word (only {X = ℕ × ℕ} (u, v) (end, word) (subst (λ xs. Has u v xs) q h)) in
      (s.0, s.1, d)
]

-- the field of slot s + 1 of place i, where m copies of f and n of g are born
abbrev pub field_value : ℕ → ℕ → ℕ → ℕ → ℕ → ℕ → ℕ
field_value m n i s at_f at_g = if nat_lt i m then (if nat_lt s n then at_f else 0) else if nat_lt i
    (m + n) then (if nat_lt s m then at_g else 0) else 0

pub field_told : (m n i s at_f at_g : ℕ) → field_value m n i s at_f at_g ≢ 0 →
    ((i < m) × (s < n) × (field_value m n i s at_f at_g ≡ at_f))
    ⊎ ((m ≤ i) × (i < m + n) × (s < m) × (field_value m n i s at_f at_g ≡ at_g))
field_told m n i s at_f at_g some = elim (cases_lt i m) [
  | inl low ↦
      let e : field_value m n i s at_f at_g ≡ (if nat_lt s n then at_f else 0) = if_below i m _ _ low in
      elim (cases_lt s n) [
        | inl lt ↦ inl (low, lt, e ∙ if_below s n _ _ lt)
        | inr ge ↦ absurd (some (e ∙ if_above s n _ _ ge))
      ]
  | inr high ↦
      let e : field_value m n i s at_f at_g ≡
      (if nat_lt i (m + n) then (if nat_lt s m then at_g else 0) else 0) = if_above i m _ _ high in
      elim (cases_lt i (m + n)) [
        | inl lt ↦
            let f = e ∙ if_below i (m + n) _ _ lt in
            elim (cases_lt s m) [
              | inl small ↦ inr (high, lt, small, f ∙ if_below s m _ _ small)
              | inr big ↦ absurd (some (f ∙ if_above s m _ _ big))
            ]
        | inr ge ↦ absurd (some (e ∙ if_above i (m + n) _ _ ge))
      ]
]

pub none_of : (m : Bool) (n i : ℕ) → i < (if m then 0 else n) → m ≡ false
none_of true n i h = absurd (omega (arith, h))
none_of false n i h = refl

module _ (z : Parts) (r : Rule) (k l : Kind) (i j t p q : ℕ) (small : i < 16777216)
    (small' : j < 16777216) (a b : ℕ → ℕ) where
  abbrev pub f : ℕ
  f = node_ref k i p

  abbrev pub g : ℕ
  g = node_ref l j q

  abbrev pub event : Event
  event = record { rule = r; f = node_ref k i p; g = node_ref l j q }

  abbrev links : List (ℕ × ℕ)
  links = links_in (links_of z event t a b)

  has_link : (n : ℕ) → n < joins_in event → Has (link_of z event t a b n).one (link_of z event t a b n).two links
  has_link n lt =
      let at = link_of z event t a b n in
      in_map (λ (l : Link). (l.one, l.two)) at (links_of z event t a b)
      (in_each at (joins_in event) (λ n. link_of z event t a b n ∷ []) n lt (inl refl))

  link_has : (u v : ℕ) → Has u v links →
      (n : ℕ) × (n < joins_in event) × (u ≡ (link_of z event t a b n).one) × (v ≡ (link_of z event t a b n).two)
  link_has u v h =
      let s = in_map_of (λ (l : Link). (l.one, l.two)) (u, v) (links_of z event t a b) h in
      let w = in_each_of s.0 (joins_in event) (λ n. link_of z event t a b n ∷ []) s.1 in
      let e = only s.0 (link_of z event t a b w.0) w.2 in
      let d = pair_of u v s.0.one s.0.two s.2 in
      (w.0, w.1, d.0 ∙ ap (λ (l : Link). l.one) e, d.1 ∙ ap (λ (l : Link). l.two) e)

  born_has : (u v : ℕ) → Has u v (born_edges z event t) →
      (n : ℕ) × (s : ℕ) × (n < 4) × (s < 2) × (u ≡ slot_ref (place_of z (Born t n) + s))
      × (v ≡ born_field z event t n s) × (born_field z event t n s ≢ 0)
  born_has u v h =
      let n = in_each_of {X = ℕ × ℕ} (u, v) 4
      (λ n. each 2 (λ s. edge_to (slot_ref (place_of z (Born t n) + s)) (born_field z event t n s))) h in
      let s = in_each_of {X = ℕ × ℕ} (u, v) 2
      (λ s. edge_to (slot_ref (place_of z (Born t n.0) + s)) (born_field z event t n.0 s)) n.2 in
      let e = edge_to_has (slot_ref (place_of z (Born t n.0) + s.0)) (born_field z event t n.0 s.0) u v s.2 in
      (n.0, s.0, n.1, s.1, e.0, e.1, e.2)

  has_born : (n s : ℕ) → n < 4 → s < 2 → born_field z event t n s ≢ 0 →
      Has (slot_ref (place_of z (Born t n) + s)) (born_field z event t n s) (born_edges z event t)
  has_born n s lt lt' some =
      let u = slot_ref (place_of z (Born t n) + s) in
      let v = born_field z event t n s in
      in_each {X = ℕ × ℕ} (u, v) 4 (λ n. each 2
      (λ s. edge_to (slot_ref (place_of z (Born t n) + s)) (born_field z event t n s))) n lt
      (in_each {X = ℕ × ℕ} (u, v) 2 (λ s. edge_to (slot_ref (place_of z (Born t n) + s))
      (born_field z event t n s)) s lt' (has_edge_to u v some))

  -- in a meeting slot n of f is joined to slot n of g
  module _ (m : is_meeting r ≡ true) where
    joins_met : joins_in event ≡ arity k
    joins_met = ap (λ m. if m then arity (kind_in f) else copies_of_f event + copies_of_g event) m
        ∙ ap arity (kind_of_ref k i p)

    one_met : (n : ℕ) → (link_of z event t a b n).one ≡ a n
    one_met n = ap (λ m. if m then a n else born_ref z event t n) m

    two_met : (n : ℕ) → (link_of z event t a b n).two ≡ b n
    two_met n = ap (λ m. if m then b n else if nat_lt n (copies_of_f event) then b n else a (n - copies_of_f event)) m

    pub has_met : (n : ℕ) → n < arity k → Has (a n) (b n) (new_edges z event t a b)
    has_met n lt =
        in_left {X = ℕ × ℕ} (a n, b n) links (born_edges z event t)
        (subst (λ u. Has u (b n) links) (one_met n)
        (subst (λ v. Has (link_of z event t a b n).one v links) (two_met n)
        (has_link n (omega (arith, lt, joins_met)))))

  -- in a crossing each copy is joined to a slot, and each copy of f to each of g
  module _ (m : is_meeting r ≡ false) where
    copies_f : copies_of_f event ≡ arity l
    copies_f = ap (λ m. if m then 0 else arity (kind_in g)) m ∙ ap arity (kind_of_ref l j q)

    copies_g : copies_of_g event ≡ arity k
    copies_g = ap (λ m. if m then 0 else arity (kind_in f)) m ∙ ap arity (kind_of_ref k i p)

    joins_crossed : joins_in event ≡ arity l + arity k
    joins_crossed = ap (λ m. if m then arity
        (kind_in f) else copies_of_f event + copies_of_g event) m ∙ omega (arith, copies_f, copies_g)

    ref_f : (n : ℕ) → n < arity l → born_ref z event t n ≡ node_ref k i (place_of z (Born t n))
    ref_f n lt =
        if_below n (copies_of_f event) _ _ (omega (arith, lt, copies_f))
        ∙ ap (λ k. node_ref k (index_in f) (place_of z (Born t n))) (kind_of_ref k i p)
        ∙ ap (λ i. node_ref k i (place_of z (Born t n))) (index_of_ref k i p small)

    ref_g : (n : ℕ) → born_ref z event t (arity l + n) ≡ node_ref l (index_after r j)
        (place_of z (Born t (arity l + n)))
    ref_g n =
        if_above (arity l + n) (copies_of_f event) _ _ (omega (arith, copies_f))
        ∙ ap (λ l'. node_ref l' (index_after r (index_in g))
        (place_of z (Born t (arity l + n)))) (kind_of_ref l j q)
        ∙ ap (λ j'. node_ref l (index_after r j') (place_of z (Born t (arity l + n)))) (index_of_ref l j q small')

    one_crossed : (n : ℕ) → (link_of z event t a b n).one ≡ born_ref z event t n
    one_crossed n = ap (λ m. if m then a n else born_ref z event t n) m

    two_crossed : (n : ℕ) → (link_of z event t a b n).two ≡
        (if nat_lt n (copies_of_f event) then b n else a (n - copies_of_f event))
    two_crossed n = ap (λ m. if m then b n else if nat_lt n (copies_of_f event) then b n else a
        (n - copies_of_f event)) m

    two_f : (n : ℕ) → n < arity l → (link_of z event t a b n).two ≡ b n
    two_f n lt = two_crossed n ∙ if_below n (copies_of_f event) _ _ (omega (arith, lt, copies_f))

    two_g : (n : ℕ) → (link_of z event t a b (arity l + n)).two ≡ a n
    two_g n =
        let d : arity l + n - copies_of_f event ≡ n = omega (arith, copies_f) in
        two_crossed (arity l + n) ∙ if_above (arity l + n) (copies_of_f event) _ _ (omega (arith, copies_f)) ∙ ap a d

    has_both : (n u v : ℕ) → n < arity l + arity k → (link_of z event t a b n).one ≡ u →
        (link_of z event t a b n).two ≡ v → Has u v (new_edges z event t a b)
    has_both n u v lt e e' =
        in_left {X = ℕ × ℕ} (u, v) links (born_edges z event t)
        (subst (λ u. Has u v links) e (subst (λ v. Has (link_of z event t a b n).one v links) e'
        (has_link n (omega (arith, lt, joins_crossed)))))

    pub has_f : (n : ℕ) → n < arity l → Has (node_ref k i (place_of z (Born t n))) (b n) (new_edges z event t a b)
    has_f n lt = has_both n (node_ref k i (place_of z (Born t n))) (b n) (omega (arith, lt))
        (one_crossed n ∙ ref_f n lt) (two_f n lt)

    pub has_g : (n : ℕ) → n < arity k → Has
        (node_ref l (index_after r j) (place_of z (Born t (arity l + n)))) (a n) (new_edges z event t a b)
    has_g n lt = has_both (arity l + n) (node_ref l (index_after r j)
        (place_of z (Born t (arity l + n)))) (a n) (omega (arith, lt)) (one_crossed (arity l + n) ∙ ref_g n) (two_g n)

    field_f : (n s : ℕ) → n < arity l → s < arity k → born_field z event t n s ≡ wire_ref (born_wire z t n s)
    field_f n s lt lt' = if_below n (copies_of_f event) _ _ (omega (arith, lt, copies_f))
        ∙ if_below s (copies_of_g event) _ _ (omega (arith, lt', copies_g))

    field_g : (n s : ℕ) → n < arity l → s < arity k →
        born_field z event t (arity l + s) n ≡ wire_ref (born_wire z t n s)
    field_g n s lt lt' =
        let d : arity l + s - copies_of_f event ≡ s = omega (arith, copies_f) in
        if_above (arity l + s) (copies_of_f event) _ _ (omega (arith, copies_f))
        ∙ if_below (arity l + s) (copies_of_f event + copies_of_g event) _ _
        (omega (arith, lt', copies_f, copies_g))
        ∙ if_below n (copies_of_f event) _ _ (omega (arith, lt, copies_f)) ∙ ap (λ s. wire_ref (born_wire z t n s)) d

    has_field : (n s u v : ℕ) → n < 4 → s < 2 → slot_ref (place_of z (Born t n) + s) ≡ u →
        born_field z event t n s ≡ wire_ref v → Has u (wire_ref v) (new_edges z event t a b)
    has_field n s u v lt lt' e e' =
        in_right {X = ℕ × ℕ} (u, wire_ref v) links (born_edges z event t)
        (subst (λ u. Has u (wire_ref v) (born_edges z event t)) e
        (subst (λ v. Has (slot_ref (place_of z (Born t n) + s)) v (born_edges z event t)) e'
        (has_born n s lt lt' (λ none. omega (arith, none, e')))))

    pub has_field_f : (n s : ℕ) → n < arity l → s < arity k →
        Has (slot_ref (place_of z (Born t n) + s)) (wire_ref (born_wire z t n s)) (new_edges z event t a b)
    has_field_f n s lt lt' = has_field n s (slot_ref (place_of z (Born t n) + s))
        (born_wire z t n s) (omega (arith, lt, at_most_two l))
        (omega (arith, lt', at_most_two k)) refl (field_f n s lt lt')

    pub has_field_g : (n s : ℕ) → n < arity l → s < arity k →
        Has (slot_ref (place_of z (Born t (arity l + s)) + n)) (wire_ref (born_wire z t n s)) (new_edges z event t a b)
    has_field_g n s lt lt' =
        has_field (arity l + s) n (slot_ref (place_of z (Born t (arity l + s)) + n))
        (born_wire z t n s) (omega (arith, lt', at_most_two l, at_most_two k))
        (omega (arith, lt, at_most_two l)) refl (field_g n s lt lt')

  -- and there are no others
  pub data NewEdge : ℕ → ℕ → Type 0 where
    link_met : (n : ℕ) → is_meeting r ≡ true → n < arity k → NewEdge (a n) (b n)
    link_f : (n : ℕ) → is_meeting r ≡ false → n < arity l → NewEdge (node_ref k i (place_of z (Born t n))) (b n)
    link_g : (n : ℕ) → is_meeting r ≡ false → n < arity k →
        NewEdge (node_ref l (index_after r j) (place_of z (Born t (arity l + n)))) (a n)
    copy_f : (n s : ℕ) → is_meeting r ≡ false → n < arity l → s < arity k →
        NewEdge (slot_ref (place_of z (Born t n) + s)) (wire_ref (born_wire z t n s))
    copy_g : (n s : ℕ) → is_meeting r ≡ false → n < arity l → s < arity k →
        NewEdge (slot_ref (place_of z (Born t (arity l + s)) + n)) (wire_ref (born_wire z t n s))

  by_ends : (u v u' v' : ℕ) → u ≡ u' → v ≡ v' → NewEdge u' v' → NewEdge u v
  by_ends u v u' v' e e' h = subst (λ u. NewEdge u v) (sym e) (subst (λ v. NewEdge u' v) (sym e') h)

  of_link : (m : Bool) → is_meeting r ≡ m → (n u v : ℕ) → n < joins_in event →
      u ≡ (link_of z event t a b n).one → v ≡ (link_of z event t a b n).two → NewEdge u v
  of_link true m n u v lt e e' = by_ends u v (a n) (b n) (e ∙ one_met m n) (e' ∙ two_met m n)
      (link_met n m (omega (arith, lt, joins_met m)))
  of_link false m n u v lt e e' = elim (cases_lt n (arity l)) [
    | inl low ↦ by_ends u v (node_ref k i (place_of z (Born t n))) (b n)
        (e ∙ one_crossed m n ∙ ref_f m n low) (e' ∙ two_f m n low) (link_f n m low)
    | inr high ↦
        let o : ℕ = n - arity l in
        let d : n ≡ arity l + o = omega (arith, high) in
        by_ends u v (node_ref l (index_after r j) (place_of z (Born t (arity l + o)))) (a o)
        (e ∙ one_crossed m n ∙ ap (born_ref z event t) d ∙ ref_g m o)
        (e' ∙ ap (λ n. (link_of z event t a b n).two) d ∙ two_g m o)
        (link_g o m (omega (arith, lt, joins_crossed m, high)))
  ]

  of_born : (n s u v : ℕ) → n < 4 → s < 2 → u ≡ slot_ref (place_of z (Born t n) + s) →
      v ≡ born_field z event t n s → born_field z event t n s ≢ 0 → NewEdge u v
  of_born n s u v lt lt' e e' some = go
      (field_told (copies_of_f event) (copies_of_g event) n s (wire_ref (born_wire z t n s))
      (wire_ref (born_wire z t s (n - copies_of_f event))) some)
    where
      go : ((n < copies_of_f event) × (s < copies_of_g event)
          × (born_field z event t n s ≡ wire_ref (born_wire z t n s)))
          ⊎ ((copies_of_f event ≤ n) × (n < copies_of_f event + copies_of_g event)
          × (s < copies_of_f event) × (born_field z event t n s ≡ wire_ref
          (born_wire z t s (n - copies_of_f event)))) → NewEdge u v
      go (inl w) =
          let m = none_of (is_meeting r) (arity (kind_in g)) n w.0 in
          by_ends u v (slot_ref (place_of z (Born t n) + s)) (wire_ref (born_wire z t n s)) e
          (e' ∙ w.2) (copy_f n s m (omega (arith, w.0, copies_f m)) (omega (arith, w.1, copies_g m)))
      go (inr w) =
          let m = none_of (is_meeting r) (arity (kind_in g)) s w.2 in
          let o : ℕ = n - arity l in
          let d : n ≡ arity l + o = omega (arith, w.0, copies_f m) in
          let d' : n - copies_of_f event ≡ o = omega (arith, copies_f m) in
          by_ends u v (slot_ref (place_of z (Born t (arity l + o)) + s))
          (wire_ref (born_wire z t s o)) (e ∙ ap (λ n. slot_ref (place_of z (Born t n) + s)) d)
          (e' ∙ w.3 ∙ ap (λ o. wire_ref (born_wire z t s o)) d')
          (copy_g s o m (omega (arith, w.2, copies_f m)) (omega (arith, w.0, w.1, copies_f m, copies_g m)))

  pub new_has : (u v : ℕ) → Has u v (new_edges z event t a b) → NewEdge u v
  new_has u v h = elim (in_cases {X = ℕ × ℕ} (u, v) links (born_edges z event t) h) [
    | inl w ↦ let s = link_has u v w in of_link (is_meeting r) refl s.0 u v s.1 s.2 s.3
    | inr w ↦ let s = born_has u v w in of_born s.0 s.1 u v s.2 s.3 s.4 s.5 s.6
  ]
