-- The edges of a table after a replacement
use Rattle.std.proofs.Common.{◌≡◌, ◌≢◌, ℕ, ◌+◌, ◌-◌, ◌*◌, ◌/◌, ◌%◌, ◌<◌, ◌≤◌, ◌==◌, nat_le, true, false, List, length}
use Rattle.std.proofs.Common.{Option, refl, sym, ap, ◌∙◌, inl, inr, ◌⊎◌, ◌↔◌, arith}
use Rattle.std.proofs.lemmas.Bool.{cases_eq, cases_lt, cases_Bool}
use Rattle.std.proofs.lemmas.Bool.Decides.{nat_tests}
use Rattle.ol_law_edges.specs.Edges.{Contracted, Edge}
use Rattle.ol_law_edges.proofs.Composing.{HasEdge, contracted_map}
use Rattle.ol_net.specs.declared.parts.Kind.{Kind}
use Rattle.ol_net.specs.declared.parts.JoinEnd.{JoinEnd}
use Rattle.ol_net.specs.Pairing.{other}
use Rattle.ol_net.specs.Graph.{kind_at, has_slot, has_port, port_at}
use Rattle.ol_net.specs.Rewired.{joined, join_places, grown, rewired, Given}
use Rattle.ol_net.proofs.Places.{kind_at-within}
use Rattle.ol_net.proofs.Joining.{JoinStep, JoinStep-joined, other-grown}
use Rattle.ol_net.proofs.Fitting.{bit, vertices, count, IsSlot}
use Rattle.ol_net.proofs.Replacing.{all_joins, count-low, count-at, slot_of, has_port-slot}
use Rattle.ol_net.proofs.Replacing.{live-within, joined_once, joins-fit, ready, Ready}
use Rattle.ol_net.proofs.JoinEdges.{PairOf, JoinAt, GoneOf, With, count_in, several_joins}

-- the join of two partners takes their edge out
module _ (R T S : ℕ → ℕ) (a b : ℕ) (j : JoinStep T S a b) (same : (k : ℕ) → T k ≡ R k) (ab : R a ≡ b) where
  abbrev IsEither : ℕ → Type 0
  IsEither w = (w ≡ a) ⊎ (w ≡ b)

  pub both_alone : (w : ℕ) → IsEither w → S w ≡ w
  both_alone w (inl e) = let s = j.step w in let q = same a in grind (arith, nat_tests)
  both_alone w (inr e) = let s = j.step w in let q = same a in grind (arith, nat_tests)

  pub same_elsewhere : (w : ℕ) → w ≢ a → w ≢ b → S w ≡ R w
  same_elsewhere w na nb = let s = j.step w in let q = same a in let r = same w in grind (arith, nat_tests)

  back_to : (w v : ℕ) → R w ≡ v → R v ≡ w
  back_to w v e = sym (same v) ∙ ap T (sym e ∙ sym (same w)) ∙ j.paired w

  pub facing_out : (u v : ℕ) → PairOf S u v → PairOf R u v × (IsEither u → ⊥) × (IsEither v → ⊥)
  facing_out u v p =
      let out : IsEither u → ⊥ = λ h. p.1 (sym (both_alone u h) ∙ p.0) in
      let uv : R u ≡ v = sym (same_elsewhere u (λ e. out (inl e)) (λ e. out (inr e))) ∙ p.0 in
      let vu : R v ≡ u = back_to u v uv in (
        (uv, p.1),
        out,
        λ h. elim h [
          | inl e ↦ out (inr (sym vu ∙ ap R e ∙ ab))
          | inr e ↦ out (inl (sym vu ∙ ap R e ∙ back_to a b ab))
        ],
      )

  pub facing_in : (u v : ℕ) → PairOf R u v × (IsEither u → ⊥) × (IsEither v → ⊥) → PairOf S u v
  facing_in u v h = (same_elsewhere u (λ e. h.1 (inl e)) (λ e. h.1 (inr e)) ∙ h.0.0, h.0.1)

module _ (free : ℕ) (nodes : List (Option (Kind × ℕ))) (xs : List ℕ) (first second : ℕ)
    (born : List (Kind × ℕ)) (joins : List (JoinEnd × JoinEnd)) (g : Given free nodes xs first second born joins) where
  abbrev next : ℕ
  next = length nodes

  abbrev a : ℕ
  a = free + 3 * first

  abbrev b : ℕ
  b = free + 3 * second

  abbrev pub added : List (ℕ × ℕ)
  added = join_places free first second (length nodes) joins

  abbrev ys : List ℕ
  ys = grown xs (3 * length born)

  abbrev zs : List ℕ
  zs = joined (grown xs (3 * length born)) (free + 3 * first) (free + 3 * second)

  -- the places of the two principal ports, and of all slots of the two nodes
  abbrev pub IsPrincipalPlace : ℕ → Type 0
  IsPrincipalPlace w = (w ≡ free + 3 * first) ⊎ (w ≡ free + 3 * second)

  abbrev pub IsSlotPlace : ℕ → Type 0
  IsSlotPlace w = (s : ℕ) × (s < 3) × ((w ≡ free + 3 * first + s) ⊎ (w ≡ free + 3 * second + s))

  abbrev pub Edges : ℕ → ℕ → Type 0
  Edges = Edge (PairOf (other xs)) IsPrincipalPlace (JoinAt (join_places free first second (length nodes) joins))

  prepared : Ready (grown xs (3 * length born)) (free + 3 * first) (free + 3 * second)
      (join_places free first second (length nodes) joins)
  prepared = ready free nodes xs first second born joins g ys refl next refl

  facing_step : JoinStep (other ys) (other zs) a b
  facing_step = JoinStep-joined ys a b prepared.paired prepared.first_in prepared.second_in
      (joins-fit free nodes xs first second born joins g).1.0

  old_same : (k : ℕ) → other ys k ≡ other xs k
  old_same k = other-grown xs (3 * length born) k

  once : (k : ℕ) → bit (a == k) + (bit (b == k) + count k (vertices added)) ≤ 1
  once k = (joined_once free nodes xs first second k born joins g).once

  -- an end of a join is no principal port
  not_principal : (w : ℕ) → 1 ≤ count w (vertices added) → IsPrincipalPlace w → ⊥
  not_principal w c (inl e) = let o = once w in grind (arith, nat_tests)
  not_principal w c (inr e) = let o = once w in grind (arith, nat_tests)

  after_facing : (w : ℕ) → (IsPrincipalPlace w → ⊥) → other zs w ≡ other xs w
  after_facing w n = same_elsewhere (other xs) (other ys)
      (other zs) a b facing_step old_same g.facing.joined w (λ e. n (inl e)) (λ e. n (inr e))

  is_port : (w : ℕ) → other xs w ≢ w → has_port free nodes (port_at free w) ≡ true
  is_port w n = let p = g.net.ports w in grind (arith, nat_tests)

  has_partner : (w : ℕ) → has_port free nodes (port_at free w) ≡ true → other xs w ≢ w
  has_partner w h e = let p = g.net.ports w in grind (arith, nat_tests)

  slot_of_first_or_second : (w n s : ℕ) → IsSlot free n s w → 1 ≤ count w (vertices added) →
      has_slot (kind_at nodes n) s ≡ true → IsSlotPlace w
  slot_of_first_or_second w n s at c h =
      let old : n < next = kind_at-within nodes n s h in
      let all = count-at free nodes xs first second next n s w born joins g at in
      let z : nat_le next n ≡ false = grind (arith, nat_tests) in
      elim (cases_eq n first) [
        | inl e ↦ (s, at.small, inl (omega (arith, at.at, e)))
        | inr nf ↦ elim (cases_eq n second) [
          | inl e ↦ (s, at.small, inr (omega (arith, at.at, e)))
          | inr ns ↦
              let u : (n == first) ≡ false = grind (arith, nat_tests) in
              let v : (n == second) ≡ false = grind (arith, nat_tests) in
              let none : count w (vertices (all_joins free first second
              (join_places free first second next joins))) ≡ 0 = rw (u, v, z) at all in
              absurd (omega (arith, none, c))
        ]
      ]

  -- an end of a join that had a partner is a slot of the two nodes
  gone_is_slot : (w : ℕ) → GoneOf (other zs) added w → IsSlotPlace w
  gone_is_slot w (c, n) =
      let port = is_port w (λ e. n (after_facing w (not_principal w c) ∙ e)) in
      elim (cases_lt w free) [
        | inl lt ↦ let z = count-low free nodes xs first second next w born joins g lt in absurd (omega (arith, z, c))
        | inr le ↦
            let at = slot_of free w le in
            slot_of_first_or_second w ((w - free) / 3) ((w - free) % 3) at c
            (sym (has_port-slot free nodes ((w - free) / 3) ((w - free) % 3) w at) ∙ port)
      ]

  two_live : (m : ℕ) → (m ≡ first) ⊎ (m ≡ second) → m < next
  two_live m (inl e) = let l = live-within nodes first g.facing.first_live in omega arith
  two_live m (inr e) = let l = live-within nodes second g.facing.second_live in omega arith

  -- a slot of the two nodes stands in a join or is principal
  slot_joined : (w m s : ℕ) → (m ≡ first) ⊎ (m ≡ second) → IsSlot free m s w →
      count w (vertices (all_joins free first second
      (join_places free first second (length nodes) joins))) ≡ bit (has_slot (kind_at nodes m) s)
  slot_joined w m s (inl e) at =
      let all = count-at free nodes xs first second next m s w born joins g at in
      let lt = two_live m (inl e) in
      let two = g.facing.two in
      let u : (m == first) ≡ true = grind (arith, nat_tests) in
      let v : (m == second) ≡ false = grind (arith, nat_tests) in
      let z : nat_le next m ≡ false = grind (arith, nat_tests) in
      rw (u, v, z) at all ∙ (rw e (omega arith))
  slot_joined w m s (inr e) at =
      let all = count-at free nodes xs first second next m s w born joins g at in
      let lt = two_live m (inr e) in
      let two = g.facing.two in
      let u : (m == first) ≡ false = grind (arith, nat_tests) in
      let v : (m == second) ≡ true = grind (arith, nat_tests) in
      let z : nat_le next m ≡ false = grind (arith, nat_tests) in
      rw (u, v, z) at all ∙ (rw e (omega arith))

  -- an edge of what is contracted: its end is an end of a join, or a port that is not principal
  edge_end : (w : ℕ) → HasEdge Edges w → (1 ≤ count w (vertices added)) ⊎ ((other xs w ≢ w) × (IsPrincipalPlace w → ⊥))
  edge_end w e = go e.1
    where
      go : Edges w e.0 ⊎ Edges e.0 w → (1 ≤ count w (vertices added)) ⊎ ((other xs w ≢ w) × (IsPrincipalPlace w → ⊥))
      go (inl (inl h)) = inr (λ q. h.0.1 (sym q ∙ h.0.0), h.1)
      go (inl (inr h)) = inl (count_in added w e.0 h).0
      go (inr (inl h)) = inr (λ q. h.0.1 (sym (g.net.paired e.0) ∙ ap (other xs) h.0.0 ∙ q), h.2)
      go (inr (inr h)) = inl (count_in added e.0 w h).1

  slot_gone : (w m s : ℕ) → (m ≡ first) ⊎ (m ≡ second) → IsSlot free m s w →
      (1 ≤ count w (vertices added)) ⊎ ((other xs w ≢ w) × (IsPrincipalPlace w → ⊥)) → GoneOf (other zs) added w
  slot_gone w m s which at (inl c) =
      let all = slot_joined w m s which at in
      let has : has_slot (kind_at nodes m) s ≡ true = elim
      (cases_Bool (has_slot (kind_at nodes m) s)) [
        | inl t ↦ t
        | inr t ↦ absurd
            (let z = ap bit t in omega (arith, all, z, c))
      ] in
      let partner = has_partner w (has_port-slot free nodes m s w at ∙ has) in
      (c, λ e. partner (sym (after_facing w (not_principal w c)) ∙ e))
  slot_gone w m s which at (inr h) =
      let all = slot_joined w m s which at in
      let has = ap bit (sym (has_port-slot free nodes m s w at) ∙ is_port w h.0) in
      let na : w ≢ a = λ e. h.1 (inl e) in
      let nb : w ≢ b = λ e. h.1 (inr e) in
      (grind (arith, nat_tests), λ e. h.0 (sym (after_facing w h.1) ∙ e))

  -- a slot of the two nodes that is at an edge is an end of a join that had a partner
  slot_is_gone : (w : ℕ) → HasEdge Edges w → IsSlotPlace w → GoneOf (other zs) added w
  slot_is_gone w e (s, lt, which) = elim which [
    | inl q ↦ slot_gone w first s (inl refl) (record { at = q; small = lt }) (edge_end w e)
    | inr q ↦ slot_gone w second s (inr refl) (record { at = q; small = lt }) (edge_end w e)
  ]

  edges_to : (u v : ℕ) → With (other zs) added u v → Edges u v
  edges_to u v (inl p) = inl (facing_out (other xs) (other ys)
      (other zs) a b facing_step old_same g.facing.joined u v p)
  edges_to u v (inr h) = inr h

  edges_from : (u v : ℕ) → Edges u v → With (other zs) added u v
  edges_from u v (inl p) = inl (facing_in (other xs) (other ys)
      (other zs) a b facing_step old_same g.facing.joined u v p)
  edges_from u v (inr h) = inr h

  -- the new edges are what the old become without those at the principal ports, with the joins, where the slots go
  pub rewired_edges : (u v : ℕ) → PairOf
      (other (rewired free (length nodes) xs first second born joins)) u v ↔ Contracted Edges IsSlotPlace u v
  rewired_edges u v =
      let all = several_joins zs added prepared.paired_after prepared.within prepared.two
      (λ k. let c = once k in omega (arith, c)) u v in (
        λ p. contracted_map edges_to (λ w e s. slot_is_gone w (edge_map e) s) u v (all.0 p),
        λ c. all.1 (contracted_map edges_from (λ w e h. gone_is_slot w h) u v c),
      )
    where
      edge_map : {w : ℕ} → HasEdge (With (other zs) added) w → HasEdge Edges w
      edge_map {w} e = (e.0, go e.1)
        where
          go : With (other zs) added w e.0 ⊎ With (other zs) added e.0 w → Edges w e.0 ⊎ Edges e.0 w
          go (inl k) = inl (edges_to w e.0 k)
          go (inr k) = inr (edges_to e.0 w k)
