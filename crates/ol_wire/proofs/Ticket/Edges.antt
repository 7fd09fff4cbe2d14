-- The edges of the words after a ticket are those of its block and those of the net without the pair.
-- Used in Fields and Keeps.
use Rattle.std.proofs.Common.{◌≡◌, ◌≢◌, ℕ, zero, suc, ◌+◌, ◌-◌, ◌*◌, ◌/◌, ◌%◌, ◌==◌, ◌<◌, ◌≤◌, Bool, true, false}
use Rattle.std.proofs.Common.{nat_lt, if◌then◌else◌, get_or-set_other, List, [], ◌∷◌, ◌++◌, slice_index, slice_set, ◌⊎◌}
use Rattle.std.proofs.Common.{inl, inr, ◌↔◌, refl, sym, ap, ◌∙◌, arith}
use Rattle.std.proofs.lemmas.Bool.{cases_eq, cases_lt, cases_Bool, false≢true}
use Rattle.ol_net.specs.declared.parts.Kind.{Kind}
use Rattle.ol_net.specs.declared.parts.Rule.{Rule}
use Rattle.ol_net.specs.Parts.{arity}
use Rattle.ol_net.specs.Nets.{NamedNet, HasNode}
use Rattle.ol_rules.specs.declared.journal.NodeName.{NodeName}
use Rattle.ol_rules.specs.declared.journal.NodeName.TheVariants.{Init, Born}
use Rattle.ol_rules.specs.Rewriting.{meeting, crossing, is_meeting, index_after, action_of, NodeOf}
use Rattle.ol_rules.specs.Rewriting.{left as was_there, of_f, of_g}
use Rattle.ol_rules.specs.Listed.{each}
use Rattle.ol_wire.specs.declared.layout.Parts.{Parts}
use Rattle.ol_wire.specs.References.{kind_in, node_ref, wire_ref, slot_ref}
use Rattle.ol_wire.specs.Layout.{ticket, live_word, port, field, wire, between, left, right, entry}
use Rattle.ol_wire.specs.Layout.{part_of_word, block, table_size, place_of, born_wire, IsPlaced}
use Rattle.ol_wire.specs.Weights.{pairs}
use Rattle.ol_wire.specs.Events.{Event}
use Rattle.ol_wire.specs.Blocks.{copies_of_f, copies_of_g, born_field, block_words}
use Rattle.ol_wire.specs.Edges.{is_live, edge_to, edges_in}
use Rattle.ol_wire.proofs.InWords.References.{kind_of_ref}
use Rattle.ol_wire.proofs.InWords.Places.{part_field, part_entry, At, at_ticket, at_live, at_port, at_field, at_wire}
use Rattle.ol_wire.proofs.InWords.Places.{at_between, at_left, at_right, at_entry, at_past, where_is}
use Rattle.ol_wire.proofs.InWords.Alike.{Alike, pairs_append}
use Rattle.ol_wire.proofs.Ticket.Event.{born_edges}
use Rattle.ol_wire.proofs.InWords.EdgeList.{word_edge, live_there, live_found, live_same}
use Rattle.ol_wire.proofs.InWords.PlaceSums.{sum_to, sum_agree, sum_within, pairs_each}
use Rattle.ol_wire.proofs.Ticket.NetBut.{net_but, first_gone, second_gone, others_stay}
use Rattle.ol_wire.proofs.InWords.Edges.{edges_weigh, edge_as, emptied}
use Rattle.ol_law_edges.proofs.Lists.{if_above}

-- the event of a pair
abbrev pub pair_event : Parts → Rule → NodeName → NodeName → Kind → Kind → ℕ → ℕ → Event
pair_event z r x y k l i j = record { rule = r; f = node_ref k i (place_of z x); g = node_ref l j (place_of z y) }

pub event_is : (z : Parts) (e : Event) (x y : NodeName) (k l : Kind) (i j : ℕ) →
    e.f ≡ node_ref k i (place_of z x) → e.g ≡ node_ref l j (place_of z y) → e ≡ pair_event z e.rule x y k l i j
event_is z e x y k l i j f g = λ n. record { rule = e.rule; f = f n; g = g n }

-- M is N after ticket t, which rewrote x and y. In `less` the pair is gone and no word of the block
-- is written; in `full` the block's first ten
-- words stand, and word 0 may have changed.
pub record BlockStands (z : Parts) (N M : NamedNet NodeName) (less full : List ℕ)
    (reached reached' : ℕ → Bool) (x y : NodeName) (k l : Kind) (i j t : ℕ) (r : Rule) : Type 0 where
  pub drawn : t < z.fuel
  pub nodes : (u : NodeName) (m : Kind) (n : ℕ) →
      HasNode M u m n ↔ NodeOf N (λ place. Born t place) x y k i l (action_of r j) u m n
  pub fresh : (v : ℕ) → block z t ≤ v → slice_index less v ≡ 0
  pub filled : (n : ℕ) → n < 10 → slice_index full (block z t + n) ≡ slice_index
      (block_words z (pair_event z r x y k l i j) t) n
  pub others : (v : ℕ) → 0 < v → (v < block z t) ⊎ (block z t + 10 ≤ v) → slice_index full v ≡ slice_index less v
  pub still : (v : ℕ) → reached v ≡ true → reached' v ≡ true
  pub only : (v : ℕ) → reached' v ≡ true →
      (reached v ≡ true) ⊎ ((q : ℕ) × (p : ℕ) × (q < copies_of_f (pair_event z r x y k l i j))
      × (p < copies_of_g (pair_event z r x y k l i j)) × (v ≡ born_wire z t q p))

-- words that are empty from b on stay so where one is set to 0
pub emptied_fresh : (ws : List ℕ) (w b : ℕ) → ((v : ℕ) → b ≤ v → slice_index ws v ≡ 0) → (v : ℕ) →
    b ≤ v → slice_index (slice_set ws w 0) v ≡ 0
emptied_fresh ws w b h v le = elim (cases_eq v w) [
  | inl e ↦ ap (slice_index (slice_set ws w 0)) e ∙ emptied ws w
  | inr d ↦ get_or-set_other ws w v 0 0 d ∙ h v le
]

one_answer : {A : Type 0} (b : Bool) (x : A) → (if b then x else x) ≡ x
one_answer true x = refl
one_answer false x = refl

-- the fields in a block
pub block_field : (z : Parts) (e : Event) (t m s : ℕ) → m < 4 → s < 2 →
    slice_index (block_words z e t) (2 + 2 * m + s) ≡ born_field z e t m s
block_field z e t zero zero a b = refl
block_field z e t zero (suc zero) a b = refl
block_field z e t (suc zero) zero a b = refl
block_field z e t (suc zero) (suc zero) a b = refl
block_field z e t (suc (suc zero)) zero a b = refl
block_field z e t (suc (suc zero)) (suc zero) a b = refl
block_field z e t (suc (suc (suc zero))) zero a b = refl
block_field z e t (suc (suc (suc zero))) (suc zero) a b = refl
block_field z e t (suc (suc (suc (suc m)))) s a b = absurd (omega arith)
block_field z e t m (suc (suc s)) a b = absurd (omega arith)

-- places where no node is born have no field
pub no_field : (z : Parts) (e : Event) (t m s : ℕ) → copies_of_f e + copies_of_g e ≤ m → born_field z e t m s ≡ 0
no_field z e t m s le =
    if_above m (copies_of_f e) (if nat_lt s (copies_of_g e) then wire_ref
    (born_wire z t m s) else 0) (if nat_lt m (copies_of_f e + copies_of_g e) then
    (if nat_lt s (copies_of_f e) then wire_ref (born_wire z t s (m - copies_of_f e)) else 0) else 0) (omega arith)
    ∙ if_above m (copies_of_f e + copies_of_g e)
    (if nat_lt s (copies_of_f e) then wire_ref (born_wire z t s (m - copies_of_f e)) else 0) 0 le

module _ (z : Parts) (N M : NamedNet NodeName) (less full : List ℕ) (reached reached' : ℕ → Bool)
    (x y : NodeName) (k l : Kind) (i j t : ℕ) (r : Rule)
    (c : BlockStands z N M less full reached reached' x y k l i j t r) where
  abbrev e : Event
  e = pair_event z r x y k l i j

  abbrev others_net : NamedNet NodeName
  others_net = net_but x y N

  -- the born nodes are there
  pub born_live : (m : ℕ) → m < copies_of_f e + copies_of_g e → is_live M (Born t m) ≡ true
  born_live m lt = go (cases_Bool (is_meeting r))
    where
      go : (is_meeting r ≡ true) ⊎ (is_meeting r ≡ false) → is_live M (Born t m) ≡ true
      go (inl q) =
          let f : copies_of_f e ≡ 0 = ap (λ b. if b then 0 else arity (kind_in e.g)) q in
          let g : copies_of_g e ≡ 0 = ap (λ b. if b then 0 else arity (kind_in e.f)) q in
          absurd (omega (arith, f, g))
      go (inr q) =
          let f : copies_of_f e ≡ arity l = ap (λ b. if b then 0 else arity (kind_in e.g)) q
          ∙ ap arity (kind_of_ref l j (place_of z y)) in
          let g : copies_of_g e ≡ arity k = ap (λ b. if b then 0 else arity (kind_in e.f)) q
          ∙ ap arity (kind_of_ref k i (place_of z x)) in
          let act : action_of r j ≡ crossing (index_after r j) = ap
          (λ b. if b then meeting else crossing (index_after r j)) q in
          elim (cases_lt m (arity l)) [
            | inl a ↦ live_there M (Born t m) k i ((c.nodes (Born t m) k i).1 (of_f (index_after r j) act a))
            | inr a ↦
                let p : m - arity l < arity k = omega (arith, f, g) in
                let d : arity l + (m - arity l) ≡ m = omega arith in
                ap (λ m. is_live M (Born t m)) (sym d)
                ∙ live_there M (Born t (arity l + (m - arity l))) l (index_after r j)
                ((c.nodes (Born t (arity l + (m - arity l))) l (index_after r j)).1 (of_g (index_after r j) act p))
          ]

  -- the others are those that were there
  stays : (u : NodeName) (m : Kind) (n : ℕ) → place_of z u < block z t →
      NodeOf N (λ place. Born t place) x y k i l (action_of r j) u m n → is_live others_net u ≡ true
  stays u m n lt (was_there h d g) = others_stay x y N u d g ∙ live_there N u m n h
  stays u m n lt (of_f j' q b) = absurd (omega arith)
  stays u m n lt (of_g j' q b) = absurd (omega arith)

  back_there : (u : NodeName) → is_live others_net u ≡ true → is_live M u ≡ true
  back_there u live =
      let d : u ≢ x = λ q. false≢true (sym (first_gone x y N) ∙ ap (is_live others_net) (sym q) ∙ live) in
      let g : u ≢ y = λ q. false≢true (sym (second_gone x y N) ∙ ap (is_live others_net) (sym q) ∙ live) in
      let s = live_found N u (sym (others_stay x y N u d g) ∙ live) in
      live_there M u s.0 s.1 ((c.nodes u s.0 s.1).1 (was_there s.2 d g))

  pub old_live : (u : NodeName) → place_of z u < block z t → is_live M u ≡ is_live others_net u
  old_live u lt = live_same M others_net u (λ m n h. stays u m n lt ((c.nodes u m n).0 h))
      (λ m n h. back_there u (live_there others_net u m n h))

  -- a word that doesn't stand among the block's first ten
  abbrev Outside : ℕ → Type 0
  Outside v = (v < block z t) ⊎ (block z t + 10 ≤ v)

  outside : (v : ℕ) → (part_of_word z v ≡ entry → ⊥) →
      ((u : NodeName) (s : ℕ) → part_of_word z v ≡ field u s → ⊥) → Outside v
  outside v not_entry not_field = elim (cases_lt v (block z t)) [
    | inl a ↦ inl a
    | inr a ↦ elim (cases_lt v (block z t + 10)) [
      | inr b ↦ inr b
      | inl b ↦ elim (cases_lt v (block z t + 2)) [
        | inl d ↦
            let q : v ≡ block z t + (v - block z t) = omega arith in
            absurd (not_entry (ap (part_of_word z) q ∙ part_entry z t (v - block z t) c.drawn (omega arith)))
        | inr d ↦
            let n = v - (block z t + 2) in
            let q : v ≡ place_of z (Born t (n / 2)) + n % 2 = omega arith in
            absurd (not_field (Born t (n / 2)) (n % 2)
            (ap (part_of_word z) q ∙ part_field z (Born t (n / 2)) (n % 2) (c.drawn, omega arith) (omega arith)))
      ]
    ]
  ]

  empty_behind : (v : ℕ) → block z t + 10 ≤ v → (slice_index full v ≡ 0) × (slice_index less v ≡ 0)
  empty_behind v le = let q : slice_index less v ≡ 0 = c.fresh v (omega arith) in
      (c.others v (omega arith) (inr le) ∙ q, q)

  reached_same : (v : ℕ) → v < block z t → reached' v ≡ reached v
  reached_same v lt = go (cases_Bool (reached v)) (cases_Bool (reached' v))
    where
      go : (reached v ≡ true) ⊎ (reached v ≡ false) → (reached' v ≡ true) ⊎ (reached' v ≡ false) →
          reached' v ≡ reached v
      go (inl a) d = c.still v a ∙ sym a
      go (inr a) (inr d) = d ∙ sym a
      go (inr a) (inl d) = elim (c.only v d) [
        | inl b ↦ d ∙ sym b
        | inr b ↦ absurd (omega (arith, b.4))
      ]

  -- a wire's edge is the same
  wire_same : (v : ℕ) → 0 < v → Outside v →
      (if reached' v then edge_to (wire_ref v) (slice_index full v) else []) ≡
      (if reached v then edge_to (wire_ref v) (slice_index less v) else [])
  wire_same v some (inl lt) =
      ap (λ b. if b then edge_to (wire_ref v) (slice_index full v) else []) (reached_same v lt)
      ∙ ap (λ word. if reached v then edge_to (wire_ref v) word else []) (c.others v some (inl lt))
  wire_same v some (inr ge) =
      let q = empty_behind v ge in
      ap (λ word. if reached' v then edge_to (wire_ref v) word else []) q.0
      ∙ one_answer (reached' v) [] ∙ sym (one_answer (reached v) [])
      ∙ ap (λ word. if reached v then edge_to (wire_ref v) word else []) (sym q.1)

  -- the words but the fields of the block have the same edges
  same_edge : (v : ℕ) → v < table_size z → (v < block z t + 2) ⊎ (block z t + 10 ≤ v) → At z v →
      word_edge z M reached' full v ≡ word_edge z others_net reached less v
  same_edge v lt out (at_ticket g) = let q : part_of_word z v ≡ ticket = ap (part_of_word z) g in
      edge_as z M reached' full v ticket q ∙ sym (edge_as z others_net reached less v ticket q)
  same_edge v lt out (at_live g) = let q : part_of_word z v ≡ live_word = ap (part_of_word z) g in
      edge_as z M reached' full v live_word q ∙ sym (edge_as z others_net reached less v live_word q)
  same_edge v lt out (at_port m b g q) = edge_as z M reached' full v (port m) q
      ∙ ap (edge_to (wire_ref v)) (c.others v (omega arith) (inl (omega arith)))
      ∙ sym (edge_as z others_net reached less v (port m) q)
  same_edge v lt out (at_field u s p b g q) = edge_as z M reached' full v (field u s) q
      ∙ go (cases_lt v (block z t)) ∙ sym (edge_as z others_net reached less v (field u s) q)
    where
      before : (u : NodeName) → v < block z t → v ≡ place_of z u + s → place_of z u < block z t
      before u a g = omega arith

      behind : (u : NodeName) → IsPlaced z z.fuel u → block z t ≤ v → v ≡ place_of z u + s →
          (v < block z t + 2) ⊎ (block z t + 10 ≤ v) → block z t + 10 ≤ v
      behind (Init m) h a g out = absurd (omega (arith, h))
      behind (Born t' m) h a g (inr d) = d
      behind (Born t' m) h a g (inl d) = absurd (omega (arith, h.1))

      go : (v < block z t) ⊎ (block z t ≤ v) →
          (if is_live M u then edge_to (slot_ref v) (slice_index full v) else []) ≡
          (if is_live others_net u then edge_to (slot_ref v) (slice_index less v) else [])
      go (inl a) =
          ap (λ b. if b then edge_to (slot_ref v) (slice_index full v) else [])
          (old_live u (before u a g)) ∙ ap (λ word.
          if is_live others_net u then edge_to (slot_ref v) word else []) (c.others v (positive u p g) (inl a))
        where
          positive : (u : NodeName) → IsPlaced z z.fuel u → v ≡ place_of z u + s → 0 < v
          positive (Init m) h g = omega arith
          positive (Born t' m) h g = omega arith
      go (inr a) =
          let d = empty_behind v (behind u p a g out) in
          ap (λ word. if is_live M u then edge_to (slot_ref v) word else []) d.0
          ∙ one_answer (is_live M u) [] ∙ sym (one_answer (is_live others_net u) [])
          ∙ ap (λ word. if is_live others_net u then edge_to (slot_ref v) word else []) (sym d.1)
  same_edge v lt out (at_wire m b g q) = edge_as z M reached' full v (wire m) q
      ∙ wire_same v (omega arith) (inl (omega arith)) ∙ sym (edge_as z others_net reached less v (wire m) q)
  same_edge v lt out (at_between u m p a b d g q) = edge_as z M reached' full v (between u m p) q
      ∙ wire_same v (omega arith) (outside v (λ h. not_entry (sym q ∙ h))
      (λ n s h. not_field n s (sym q ∙ h))) ∙ sym (edge_as z others_net reached less v (between u m p) q)
    where
      not_entry : between u m p ≡ entry → ⊥
      not_entry h = absurd (cc)

      not_field : (n : NodeName) (s : ℕ) → between u m p ≡ field n s → ⊥
      not_field n s h = absurd (cc)
  same_edge v lt out (at_left q q' b) =
      edge_as z M reached' full v left q ∙ ap
      (λ word. if word == 0 then [] else (word, slice_index full (suc v)) ∷ []) (c.others v (positive v q) here)
      ∙ ap (λ next. if slice_index less v == 0 then [] else (slice_index less v, next) ∷ [])
      (c.others (suc v) (omega arith) there) ∙ sym (edge_as z others_net reached less v left q)
    where
      here : Outside v
      here = outside v (λ h. let f : left ≡ entry = sym q ∙ h in absurd (cc))
          (λ n s h. let f : left ≡ field n s = sym q ∙ h in absurd (cc))

      there : Outside (suc v)
      there = outside (suc v) (λ h. let f : right ≡ entry = sym q' ∙ h in absurd (cc))
          (λ n s h. let f : right ≡ field n s = sym q' ∙ h in absurd (cc))

      positive : (v : ℕ) → part_of_word z v ≡ left → 0 < v
      positive zero q = let f : ticket ≡ left = q in absurd (cc)
      positive (suc v) q = omega arith
  same_edge v lt out (at_right q) = edge_as z M reached' full v right q
      ∙ sym (edge_as z others_net reached less v right q)
  same_edge v lt out (at_entry u m a b g q) = edge_as z M reached' full v entry q
      ∙ sym (edge_as z others_net reached less v entry q)
  same_edge v lt out (at_past ge) = absurd (omega arith)

  -- the fields of the block
  field_filled : (m s : ℕ) → m < 4 → s < 2 →
      word_edge z M reached' full (place_of z (Born t m) + s) ≡ edge_to
      (slot_ref (place_of z (Born t m) + s)) (born_field z e t m s)
  field_filled m s hm hs = edge_as z M reached' full v (field (Born t m) s)
      (part_field z (Born t m) s (c.drawn, hm) hs)
      ∙ ap (λ word. if is_live M (Born t m) then edge_to (slot_ref v) word else []) word ∙ go
    where
      v : ℕ
      v = place_of z (Born t m) + s

      word : slice_index full (place_of z (Born t m) + s) ≡ born_field z e t m s
      word = let q : place_of z (Born t m) + s ≡ block z t + (2 + 2 * m + s) = omega arith in
          ap (slice_index full) q ∙ c.filled (2 + 2 * m + s) (omega arith) ∙ block_field z e t m s hm hs

      go : (if is_live M (Born t m) then edge_to (slot_ref (place_of z (Born t m) + s))
          (born_field z e t m s) else []) ≡ edge_to (slot_ref (place_of z (Born t m) + s)) (born_field z e t m s)
      go = elim (cases_lt m (copies_of_f e + copies_of_g e)) [
        | inl a ↦ ap (λ b. if b then edge_to (slot_ref (place_of z (Born t m) + s))
            (born_field z e t m s) else []) (born_live m a)
        | inr a ↦
            let q : born_field z e t m s ≡ 0 = no_field z e t m s a in
            ap (λ word. if is_live M (Born t m) then edge_to
            (slot_ref (place_of z (Born t m) + s)) word else []) q
            ∙ one_answer (is_live M (Born t m)) [] ∙ ap (edge_to (slot_ref (place_of z (Born t m) + s))) (sym q)
      ]

  field_empty : (m s : ℕ) → m < 4 → s < 2 → word_edge z others_net reached less (place_of z (Born t m) + s) ≡ []
  field_empty m s hm hs =
      let v : ℕ = place_of z (Born t m) + s in
      edge_as z others_net reached less v (field (Born t m) s) (part_field z (Born t m) s (c.drawn, hm) hs)
      ∙ ap (λ word. if is_live others_net (Born t m) then edge_to (slot_ref v) word else [])
      (c.fresh v (omega arith)) ∙ one_answer (is_live others_net (Born t m)) []

  -- the weight of a field of the block
  abbrev field_weight : (ℕ → ℕ → ℕ) → ℕ → ℕ → ℕ
  field_weight h m s = pairs h (edge_to (slot_ref (place_of z (Born t m) + s)) (born_field z e t m s))

  born_weigh : (h : ℕ → ℕ → ℕ) → pairs h (born_edges z e t) ≡ sum_to (λ m. sum_to (field_weight h m) 2) 4
  born_weigh h =
      pairs_each h 4 (λ m. each 2 (λ s. edge_to (slot_ref (place_of z (Born t m) + s)) (born_field z e t m s)))
      ∙ sum_agree (λ m. pairs h (each 2 (λ s.
      edge_to (slot_ref (place_of z (Born t m) + s)) (born_field z e t m s))))
      (λ m. sum_to (field_weight h m) 2) 4
      (λ m lt. pairs_each h 2 (λ s. edge_to (slot_ref (place_of z (Born t m) + s)) (born_field z e t m s)))

  pub after : Alike (edges_in z M reached' full (table_size z))
      (born_edges z (pair_event z r x y k l i j) t ++ edges_in z (net_but x y N) reached less (table_size z))
  after h even =
      let F : ℕ → ℕ = λ v. pairs h (word_edge z M reached' full v) in
      let G : ℕ → ℕ = λ v. pairs h (word_edge z others_net reached less v) in
      let at : ℕ = block z t + 2 in
      let s : sum_to F (table_size z) + sum_to (λ n. G (at + n)) 8 ≡ sum_to G
      (table_size z) + sum_to (λ n. F (at + n)) 8
      = sum_within F G at 8 (table_size z) (omega (arith, c.drawn))
      (λ v lt. ap (pairs h) (same_edge v (omega (arith, c.drawn)) (inl lt) (where_is z v)))
      (λ v ge lt. ap (pairs h) (same_edge v lt (inr (omega arith)) (where_is z v))) in
      let place : (n : ℕ) → n < 8 → at + n ≡ place_of z (Born t (n / 2)) + n % 2 = λ n lt. omega arith in
      let whole : pairs h (edges_in z M reached' full (table_size z)) ≡ sum_to F
      (table_size z) = edges_weigh h z M reached' full (table_size z) in
      let part : pairs h (edges_in z others_net reached less (table_size z)) ≡ sum_to G
      (table_size z) = edges_weigh h z others_net reached less (table_size z) in
      let both : pairs h (born_edges z e t ++ edges_in z others_net reached less
      (table_size z)) ≡ pairs h (born_edges z e t) + pairs h
      (edges_in z others_net reached less (table_size z)) = pairs_append h (born_edges z e t)
      (edges_in z others_net reached less (table_size z)) in
      let none : sum_to (λ n. G (at + n)) 8 ≡ 0
      = sum_agree (λ n. G (at + n)) (λ n. 0) 8
      (λ n lt. ap G (place n lt) ∙ ap (pairs h) (field_empty (n / 2) (n % 2) (omega arith) (omega arith))) in
      let some : sum_to (λ n. F (at + n)) 8 ≡ sum_to (λ n. field_weight h (n / 2) (n % 2)) 8
      = sum_agree (λ n. F (at + n)) (λ n. field_weight h (n / 2) (n % 2)) 8
      (λ n lt. ap F (place n lt) ∙ ap (pairs h) (field_filled (n / 2) (n % 2) (omega arith) (omega arith))) in
      let rows : sum_to (λ n. field_weight h (n / 2) (n % 2)) 8 ≡ sum_to
      (λ m. sum_to (field_weight h m) 2) 4 = omega arith in
      omega (arith, s, whole, part, both, none, some, rows, born_weigh h)
