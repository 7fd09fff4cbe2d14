-- Where no link is pending and no cell holds an active pair, the net has none: no pair is hidden behind wires.
-- Used in Closing.NothingLeft, Closing.Stands and Credit.Quiet.
use Rattle.std.proofs.Common.{◌≡◌, ◌≢◌, ℕ, suc, ◌<◌, ◌≤◌, nat_eq, List, [], ◌∷◌, get_or, Some, None}
use Rattle.std.proofs.Common.{◌⊎◌, inl, inr, refl, sym, ap, ◌∙◌, subst, arith}
use Rattle.std.proofs.lemmas.Bool.{cases_eq}
use Rattle.ol_law_edges.specs.Edges.{IsIn, EdgeOf, Joined, here, on, back, ends, Contracted}
use Rattle.ol_net.specs.declared.parts.Kind.{Kind}
use Rattle.ol_net.specs.declared.parts.Rule.{Rule}
use Rattle.ol_net.specs.Nets.{NamedPort, slot, HasNode}
use Rattle.ol_net.specs.Rules.{rule_of}
use Rattle.ol_net.specs.Pairs.{IsActive, IsComplete}
use Rattle.ol_rules.specs.declared.journal.NodeName.{NodeName}
use Rattle.ol_wire.specs.declared.layout.Parts.{Parts}
use Rattle.ol_wire.specs.declared.plan.Plan.{Plan}
use Rattle.ol_wire.specs.declared.view.View.{View}
use Rattle.ol_wire.specs.References.{node_ref, wire_ref, kind_in, index_in, IsNodeRef}
use Rattle.ol_wire.specs.Layout.{left, part_of_word, place_of, table_size}
use Rattle.ol_wire.specs.Events.{rule_between}
use Rattle.ol_wire.specs.Edges.{edges_in, edges_of, pending_in, links_in, is_reached}
use Rattle.ol_wire.specs.Stands.{IsEnd, principal, IsWireEnd}
use Rattle.ol_wire.specs.Rule.{Table, IsView, Kept}
use Rattle.ol_wire.proofs.InWords.References.{node_sort, wire_sort, slot_sort, wire_same, kind_of_ref, index_of_ref}
use Rattle.ol_wire.proofs.InWords.EdgeList.{edge_found, pending_found}
use Rattle.ol_wire.proofs.InWords.Claimed.{node_of, ends_first, ends_second, ends_twice, same_bit}
use Rattle.ol_wire.proofs.InWords.Claimed.{EdgeAt, at_wire, at_field, at_cell, edge_at}
use Rattle.ol_law_edges.proofs.Lists.{in_cases}

-- an end that has edges to two others stands at two edges
two_edges : (v u w : ℕ) (es : List (ℕ × ℕ)) → u ≢ w → IsIn (v, u) es → IsIn (v, w) es → 2 ≤ ends nat_eq v es
two_edges v u w [] d a b = elim a [ ]
two_edges v u w (e ∷ es) d (inl q) (inl r) = absurd (d (ap (λ (x : ℕ × ℕ). x.1) q ∙ sym (ap (λ (x : ℕ × ℕ). x.1) r)))
two_edges v u w (e ∷ es) d (inl q) (inr b) = omega
    (arith, same_bit v e.0 (ap (λ (x : ℕ × ℕ). x.0) q), ends_first v w es b)
two_edges v u w (e ∷ es) d (inr a) (inl r) = omega
    (arith, same_bit v e.0 (ap (λ (x : ℕ × ℕ). x.0) r), ends_first v u es a)
two_edges v u w (e ∷ es) d (inr a) (inr b) = omega (arith, two_edges v u w es d a b)

in_and_out : (v u w : ℕ) (es : List (ℕ × ℕ)) → u ≢ v → IsIn (u, v) es → IsIn (v, w) es → 2 ≤ ends nat_eq v es
in_and_out v u w [] d a b = elim a [ ]
in_and_out v u w (e ∷ es) d (inl q) (inl r) = absurd (d (ap (λ (x : ℕ × ℕ). x.0) q ∙ sym (ap (λ (x : ℕ × ℕ). x.0) r)))
in_and_out v u w (e ∷ es) d (inl q) (inr b) = omega
    (arith, same_bit v e.1 (ap (λ (x : ℕ × ℕ). x.1) q), ends_first v w es b)
in_and_out v u w (e ∷ es) d (inr a) (inl r) = omega
    (arith, same_bit v e.0 (ap (λ (x : ℕ × ℕ). x.0) r), ends_second v u es a)
in_and_out v u w (e ∷ es) d (inr a) (inr b) = omega (arith, in_and_out v u w es d a b)

two_ins : (v u w : ℕ) (es : List (ℕ × ℕ)) → u ≢ w → IsIn (u, v) es → IsIn (w, v) es → 2 ≤ ends nat_eq v es
two_ins v u w [] d a b = elim a [ ]
two_ins v u w (e ∷ es) d (inl q) (inl r) = absurd (d (ap (λ (x : ℕ × ℕ). x.0) q ∙ sym (ap (λ (x : ℕ × ℕ). x.0) r)))
two_ins v u w (e ∷ es) d (inl q) (inr b) = omega
    (arith, same_bit v e.1 (ap (λ (x : ℕ × ℕ). x.1) q), ends_second v w es b)
two_ins v u w (e ∷ es) d (inr a) (inl r) = omega
    (arith, same_bit v e.1 (ap (λ (x : ℕ × ℕ). x.1) r), ends_second v u es a)
two_ins v u w (e ∷ es) d (inr a) (inr b) = omega (arith, two_ins v u w es d a b)

-- two ends with one edge each that have it with one another are joined to nothing else
pair_alone : (es : List (ℕ × ℕ)) (a b v : ℕ) → IsIn (a, b) es → ends nat_eq a es ≤ 1 →
    ends nat_eq b es ≤ 1 → Joined (EdgeOf es) a v → (v ≡ a) ⊎ (v ≡ b)
pair_alone es a b v i la lb here = inl refl
pair_alone es a b v i la lb (on {v = w} j e) = go (pair_alone es a b w i la lb j)
  where
    apart : a ≢ b
    apart q = omega (arith, la, ends_twice a b es q i)

    go : (w ≡ a) ⊎ (w ≡ b) → (v ≡ a) ⊎ (v ≡ b)
    go (inl q) = elim (cases_eq v b) [
      | inl r ↦ inr r
      | inr d ↦ absurd (omega (arith, la, two_edges a v b es d (subst (λ w. IsIn {X = ℕ × ℕ} (w, v) es) q e) i))
    ]
    go (inr q) = absurd (omega (arith, lb, in_and_out b a v es apart i (subst (λ w. IsIn {X = ℕ × ℕ} (w, v) es) q e)))
pair_alone es a b v i la lb (back {v = w} j e) = go (pair_alone es a b w i la lb j)
  where
    go : (w ≡ a) ⊎ (w ≡ b) → (v ≡ a) ⊎ (v ≡ b)
    go (inl q) = elim (cases_eq v a) [
      | inl r ↦ inl r
      | inr d ↦ absurd (omega (arith, la, in_and_out a v b es d (subst (λ w. IsIn {X = ℕ × ℕ} (v, w) es) q e) i))
    ]
    go (inr q) = elim (cases_eq v a) [
      | inl r ↦ inl r
      | inr d ↦ absurd (omega (arith, lb, two_ins b v a es d (subst (λ w. IsIn {X = ℕ × ℕ} (v, w) es) q e) i))
    ]

-- the two references have no rule, whichever acts
abbrev pub IsStuckPair : ℕ → ℕ → Type 0
IsStuckPair f g = (rule_between f g ≡ None) × (rule_between g f ≡ None)

module _ (p : Plan) (s : Table) (k : Kept p s) (linked : (v : View) → IsView s v → v.pending ≡ [])
    (still : (w : ℕ) → part_of_word p.parts w ≡ left → get_or k.full w 0 ≢ 0 →
    IsStuckPair (get_or k.full w 0) (get_or k.full (suc w) 0)) where
  abbrev z : Parts
  z = p.parts

  abbrev all : List (ℕ × ℕ)
  all = edges_of z k.net k.log k.full s.views

  -- each edge is that of a word
  word_of : (a b : ℕ) → IsIn (a, b) all →
      (w : ℕ) × EdgeAt (part_of_word z w) w (get_or k.full w 0) (get_or k.full (suc w) 0) a b
  word_of a b i = of (in_cases (a, b) (edges_in z k.net (is_reached z k.log s.views) k.full
      (table_size z)) (pending_in s.views) i)
    where
      of : IsIn (a, b) (edges_in z k.net (is_reached z k.log s.views) k.full (table_size z))
          ⊎ IsIn (a, b) (pending_in s.views) →
          (w : ℕ) × EdgeAt (part_of_word z w) w (get_or k.full w 0) (get_or k.full (suc w) 0) a b
      of (inl h) = let t = edge_found z k.net (is_reached z k.log s.views) k.full (table_size z)
          (a, b) h in (t.0, edge_at k.net _ (part_of_word z t.0) t.0 _ _ a b t.2)
      of (inr h) = let t = pending_found s.views (a, b) h in
          let q : IsIn {X = ℕ × ℕ} (a, b) [] = subst (λ ls. IsIn {X = ℕ × ℕ} (a, b) (links_in ls))
          (linked t.1 (t.0, t.2)) t.3 in elim q [ ]

  -- an edge from a node is that of a cell
  of_cell : (a b : ℕ) → IsNodeRef a → IsIn (a, b) all →
      (w : ℕ) × (part_of_word z w ≡ left) × (a ≡ get_or k.full w 0) × (b ≡ get_or k.full (suc w) 0)
      × (get_or k.full w 0 ≢ 0)
  of_cell a b sort i = go (word_of a b i)
    where
      go : (w : ℕ) × EdgeAt (part_of_word z w) w (get_or k.full w 0) (get_or k.full (suc w) 0) a b →
          (w : ℕ) × (part_of_word z w ≡ left) × (a ≡ get_or k.full w 0)
          × (b ≡ get_or k.full (suc w) 0) × (get_or k.full w 0 ≢ 0)
      go (w, at_wire d f ea eb m) = absurd (omega (arith, ea, sort, wire_sort w))
      go (w, at_field x c q ea eb m) = absurd (omega (arith, ea, sort, slot_sort w))
      go (w, at_cell q ea eb m) = (w, q, ea, eb, m)

  -- so the two are nodes that have no rule
  no_rule : (a b : ℕ) → IsNodeRef a → IsIn (a, b) all → IsNodeRef b × IsStuckPair a b
  no_rule a b sort i =
      let t = of_cell a b sort i in
      let h = still t.0 t.1 t.4 in
      let e : rule_between a b ≡ None = ap (λ a. rule_between a b) t.2
      ∙ ap (rule_between (get_or k.full t.0 0)) t.3 ∙ h.0 in
      let f : rule_between b a ≡ None = ap (λ b. rule_between b a) t.3
      ∙ ap (rule_between (get_or k.full (suc t.0) 0)) t.2 ∙ h.1 in
      (subst IsNodeRef (sym t.3) (k.words.cells t.0 t.1 t.4).1, (e, f))

  -- an end has one edge that is its own
  own_one : (v u w : ℕ) → IsIn (v, u) all → IsIn (v, w) all → u ≡ w
  own_one v u w a b = elim (cases_eq u w) [
    | inl e ↦ e
    | inr d ↦ absurd (of (k.stands.others v (omega (arith, two_edges v u w all d a b))) d)
  ]
    where
      value : (n d : ℕ) → IsIn (v, d) all → v ≡ wire_ref n → d ≡ get_or k.full n 0
      value n d i e = go (word_of v d i)
        where
          go : (w : ℕ) × EdgeAt (part_of_word z w) w (get_or k.full w 0)
              (get_or k.full (suc w) 0) v d → d ≡ get_or k.full n 0
          go (w, at_wire q q2 ea eb m) = let f : w ≡ n = wire_same w n (sym ea ∙ e) in
              eb ∙ ap (λ w. get_or k.full w 0) f
          go (w, at_field x c q ea eb m) = absurd (omega (arith, e, ea, wire_sort n, slot_sort w))
          go (w, at_cell q ea eb m) = absurd (omega (arith, e, sym ea, wire_sort n, (k.words.cells w q m).0))

      of : ((q : NamedPort NodeName) × IsEnd z k.net q v) ⊎ IsWireEnd (is_reached z k.log s.views) v → u ≢ w → ⊥
      of (inl t) d = omega (arith, k.stands.ports t.0 v t.1, two_edges v u w all d a b)
      of (inr t) d = d (value t.0 u a t.2 ∙ sym (value t.0 w b t.2))

  -- each end on the way back from x0 has as its own the edge that leads there
  data Back (x0 : ℕ) : ℕ → Type 0 where
    start : Back x0 x0
    more : (v u : ℕ) → IsIn (v, u) all → Back x0 u → Back x0 v

  joined_back : (x0 v : ℕ) → ((u : ℕ) → IsIn (x0, u) all → ⊥) → Joined (EdgeOf all) x0 v → Back x0 v
  joined_back x0 v none here = start
  joined_back x0 v none (on {v = u} {w = w} j e) = go u v e (joined_back x0 u none j)
    where
      go : (u w : ℕ) → IsIn (u, w) all → Back x0 u → Back x0 w
      go u w e start = absurd (none w e)
      go u w e (more v t f b) = subst (λ w. Back x0 w) (own_one v t w f e) b
  joined_back x0 v none (back {v = u} {w = w} j e) = more v u e (joined_back x0 u none j)

  module _ (f g : NodeName) (r : Rule) (a : IsActive k.net f g r) where
    abbrev x0 : ℕ
    x0 = node_ref a.k a.i (place_of z f)

    abbrev y0 : ℕ
    y0 = node_ref a.l a.j (place_of z g)

    x_end : IsEnd z k.net (slot f 0) x0
    x_end = principal a.k a.i a.faces.first

    y_end : IsEnd z k.net (slot g 0) y0
    y_end = principal a.l a.j a.faces.second

    way : Contracted (EdgeOf all) (IsWireEnd (is_reached z k.log s.views)) x0 y0
    way = (k.stands.links (slot f 0) (slot g 0) x0 y0 x_end y_end).0 a.faces.linked

    small : (x : NodeName) (m : Kind) (i : ℕ) → HasNode k.net x m i → i < 16777216
    small x m i h = omega (arith, k.journal.indexes x m i h, k.tickets.few, k.plan.small.fuel)

    has_rule : rule_between x0 y0 ≡ Some r
    has_rule =
        let a1 = kind_of_ref a.k a.i (place_of z f) in
        let a2 = index_of_ref a.k a.i (place_of z f) (small f a.k a.i a.faces.first) in
        let b1 = kind_of_ref a.l a.j (place_of z g) in
        let b2 = index_of_ref a.l a.j (place_of z g) (small g a.l a.j a.faces.second) in
        ap (λ t. rule_of t (index_in x0) (kind_in y0) (index_in y0)) a1
        ∙ ap (λ t. rule_of a.k t (kind_in y0) (index_in y0)) a2
        ∙ ap (λ t. rule_of a.k a.i t (index_in y0)) b1 ∙ ap (rule_of a.k a.i a.l) b2 ∙ a.fits

    x_sort : IsNodeRef x0
    x_sort = node_sort a.k a.i (place_of z f)

    y_sort : IsNodeRef y0
    y_sort = node_sort a.l a.j (place_of z g)

    ruled : (a b : ℕ) → a ≡ x0 → b ≡ y0 → rule_between a b ≡ None → ⊥
    ruled a b e f h = let q : Some r ≡ None = sym has_rule ∙ sym (ap (λ a. rule_between a y0) e)
        ∙ sym (ap (rule_between a) f) ∙ h in absurd (cc)

    x_one : ends nat_eq x0 all ≡ 1
    x_one = k.stands.ports (slot f 0) x0 x_end

    y_one : ends nat_eq y0 all ≡ 1
    y_one = k.stands.ports (slot g 0) y0 y_end

    port_one : (u : ℕ) → IsNodeRef u → 1 ≤ ends nat_eq u all → ends nat_eq u all ≡ 1
    port_one u sort h = let t = node_of p s k u sort h in
        k.stands.ports (slot t.x 0) u (subst (λ r. IsEnd z k.net (slot t.x 0) r) (sym t.is) (principal t.k t.i t.has))

    -- x0 has no edge of its own, for it would be that of a cell with the pair
    not_own : (u : ℕ) → IsIn (x0, u) all → ⊥
    not_own u i =
        let t = no_rule x0 u x_sort i in
        go t.1.0 (pair_alone all x0 u y0 i (omega (arith, x_one))
        (omega (arith, port_one u t.0 (ends_second u x0 all i))) way.joined)
      where
        go : rule_between x0 u ≡ None → (y0 ≡ x0) ⊎ (y0 ≡ u) → ⊥
        go h (inl e) = way.apart (sym e)
        go h (inr e) = ruled x0 u refl (sym e) h

    overlooked : ⊥
    overlooked = go y0 refl (joined_back x0 y0 not_own way.joined)
      where
        go : (v : ℕ) → v ≡ y0 → Back x0 v → ⊥
        go v e start = way.apart e
        go v e (more w u i b) =
            let j : IsIn {X = ℕ × ℕ} (y0, u) all = subst (λ v. IsIn {X = ℕ × ℕ} (v, u) all) e i in
            let t = no_rule y0 u y_sort j in
            last u t.0 j t.1 b
          where
            last : (u : ℕ) → IsNodeRef u → IsIn {X = ℕ × ℕ} (y0, u) all → IsStuckPair y0 u → Back x0 u → ⊥
            last u sort j h start = ruled x0 y0 refl refl h.1
            last u sort j h (more w t i' b') = elim (cases_eq y0 u) [
              | inl q ↦ omega (arith, y_one, ends_twice y0 u all q j)
              | inr d ↦ omega (arith, port_one u sort (ends_first u t all i'), in_and_out u y0 t all d j i')
            ]

  -- no pair of the net is active
  pub complete : IsComplete k.net
  complete f g r a = overlooked f g r a
