-- The steps of the code, over all nets that the words stand for.
use Rattle.std.proofs.Common.{◌≡◌, ◌≢◌, ℕ, suc, ◌+◌, ◌-◌, ◌*◌, ◌/◌, ◌%◌, ◌<◌, ◌≤◌, Bool, false, nat_lt, if◌then◌else◌}
use Rattle.std.proofs.Common.{List, length, slice_index, slice_set, ◌⊎◌, inl, inr, refl, sym, ap, ◌∙◌, subst, arith}
use Rattle.std.proofs.lemmas.Bool.{cases_lt}
use Rattle.std.proofs.lemmas.Bool.Decides.{nat_tests}
use Rattle.ol_net.specs.declared.parts.Kind.{Kind}
use Rattle.ol_net.specs.Nets.{slot, NamedNet, Linked}
use Rattle.ol_net.specs.Pairing.{other}
use Rattle.ol_net.specs.Linking.{linked}
use Rattle.ol_net.proofs.Tables.{length-linked}
use Rattle.ol_rules.specs.declared.journal.NodeName.{NodeName}
use Rattle.ol_wire.specs.declared.layout.Parts.{Parts}
use Rattle.ol_wire.specs.References.{kind_in, index_in, place_in}
use Rattle.ol_wire.specs.Layout.{block, place_of, table_size, start_cell, born_cell, left_word, cells_of, IsPlaced}
use Rattle.ol_wire.specs.Stands.{IsEnd}
use Rattle.ol_wire.specs.Closed.{ClosedTable, events_in, IsAfter, cells_filled}
use Rattle.ol_wire.specs.Standing.{is_reached_in, WordsStandFor}
use Rattle.ol_wire.proofs.InWords.Places.{part_cell, place_before}
use Rattle.ol_wire.proofs.InWords.Claimed.{wider}
use Rattle.ol_reduce.specs.Left.{ranks_in, IsLeft, AreLeft}
use Rattle.ol_reduce.specs.Found.{port_of, IsKnown, IsPartial, IsPartly, AreCelledTo, AreListedTo}
use Rattle.ol_reduce.specs.Found.{IsNodeIn, IsSiteIn, KeepsKnown}
use Rattle.ol_reduce.proofs.Sites.{one_site}
use Rattle.ol_reduce.proofs.Linking.{still_linked, now_linked, node_told, one_port, linked_partial}
use Rattle.ol_reduce.proofs.Linking.{ends_apart, set_partial, set_known, set_keeps, set_site}
use Rattle.ol_reduce.proofs.Meeting.{left_node, right_node, cell_linked}
use Rattle.ol_reduce.proofs.Bounded.{events_few}
use Rattle.ol_reduce.proofs.Filled.{filled_listed}

abbrev pub Told : ClosedTable → Type 0
Told w = (net : NamedNet NodeName) × IsAfter w net × WordsStandFor w net (is_reached_in w)

pub small_of : (w : ClosedTable) → Told w → table_size w.plan.parts ≤ 400000000
small_of w t = omega (arith, t.2.small.free, t.2.small.nodes, t.2.small.wires, t.2.small.cells, t.2.small.fuel)

-- a cell that isn't in use is behind the words in use
pub left_behind : (z : Parts) (n c : ℕ) → z.cells + 4 * n ≤ c → block z n ≤ left_word z c
left_behind z n c le =
    let high : nat_lt c z.cells ≡ false = grind (arith, nat_tests) in
    let e : left_word z c ≡ born_cell z ((c - z.cells) / 4) ((c - z.cells) % 4) = ap
    (λ b. if b then start_cell z c else born_cell z ((c - z.cells) / 4) ((c - z.cells) % 4)) high in
    omega (arith, e, le)

module _ (w : ClosedTable) (places numbers : List ℕ)
    (left_are : AreLeft w (ranks_in w) places numbers) (told : Told w) where
  abbrev z : Parts
  z = w.plan.parts

  -- ---- a reference to a node

  pub node_place : (r place : ℕ) → IsNodeIn w r → place ≡ place_in r →
      (x : NodeName) × IsPlaced z (events_in z w.words) x × IsLeft w x × (place ≡ place_of z x)
  node_place r place node e =
      let x = node told.0 (is_reached_in w) told.2 in
      let t = node_told w places numbers left_are told.0 (is_reached_in w) told.2 x.0 r x.1 in
      (x.0, told.2.names x.0 (kind_in r) (index_in r) t.0, (told.2.live x.0).0 (kind_in r, index_in r, t.0), e ∙ t.1)

  pub node_small : (r : ℕ) → IsNodeIn w r → place_in r < 4294967296
  node_small r node =
      let t = node_place r (place_in r) node refl in
      let p = place_before z t.0 z.fuel (wider z t.0 (events_in z w.words) z.fuel (events_few z w.words) t.1) in
      omega (arith, t.3, p.1, small_of w told)

  pub table_long : (kinds : List (Kind × ℕ)) (partners : List ℕ) →
      IsPartly w places kinds partners → (length kinds ≡ length places)
      × (length partners ≡ z.free + 3 * length places) × (length partners < 400000000)
  table_long kinds partners h =
      let k = h told.0 (is_reached_in w) told.2 in (
        k.kinds_long,
        k.partners_long,
        omega (
          arith,
          k.partners_long,
          left_are.few,
          told.2.small.free,
          told.2.small.nodes,
          told.2.small.fuel,
          events_few z w.words,
        ),
      )

  module _ (kinds : List (Kind × ℕ)) (partners : List ℕ) (before : IsPartly w places kinds partners)
      (r : ℕ) (node : IsNodeIn w r) (n : ℕ) (lt : n < length places) (at : slice_index places n ≡ place_in r)
      (kinds' : List (Kind × ℕ)) (partners' : List ℕ)
      (k : kinds' ≡ slice_set kinds n (kind_in r, index_in r)) (p : partners' ≡ partners) where
    pub arrived_after : IsPartly w places kinds' partners'
    arrived_after N reached s =
        let x = node N reached s in
        subst (λ ks. IsPartial w N places ks partners') (sym k)
        (subst (λ ps. IsPartial w N places (slice_set kinds n (kind_in r, index_in r)) ps) (sym p)
        (set_partial w places numbers left_are N reached s kinds partners (before N reached s) r n x.0 x.1 lt at))

    pub arrived_site : (a : ℕ) → a ≡ z.free + 3 * n + 0 → IsSiteIn w places kinds' r a
    arrived_site a e N reached s =
        let x = node N reached s in
        subst (λ a. IsEnd z N (port_of z places a) r × IsKnown w N places kinds' a) (sym e) (
          set_site w places numbers left_are N reached s kinds partners (before N reached s) r n x.0 x.1 lt at,
          subst (λ ks. IsKnown w N places ks (z.free + 3 * n + 0)) (sym k)
              (set_known w places numbers left_are N reached s kinds partners (before N reached s) r n x.0 x.1 lt at),
        )

    pub arrived_keeps : KeepsKnown w places kinds kinds'
    arrived_keeps N reached s a h =
        let x = node N reached s in
        subst (λ ks. IsKnown w N places ks a) (sym k)
        (set_keeps w places numbers left_are N reached s kinds partners (before N reached s) r n x.0 x.1 lt at a h)

  -- ---- a cell

  module _ (cell at : ℕ) (low : cell < cells_of z) (is : at ≡ left_word z cell) where
    pub cell_left : (value : ℕ) → value ≡ slice_index w.words at → value ≢ 0 → IsNodeIn w value
    cell_left value e f N reached s =
        let q : slice_index w.words (left_word z cell) ≡ value = ap (slice_index w.words) (sym is) ∙ sym e in
        let t = left_node w places numbers left_are N reached s (left_word z cell)
        (part_cell z cell low).0 (λ g. f (sym q ∙ g)) in
        (t.0, subst (λ v. IsEnd z N (slot t.0 0) v) q t.1)

    pub cell_right : (value right : ℕ) → value ≡ slice_index w.words at → value ≢ 0 →
        right ≡ slice_index w.words (at + 1) → IsNodeIn w right
    cell_right value right e f g N reached s =
        let q : slice_index w.words (left_word z cell) ≡ value = ap (slice_index w.words) (sym is) ∙ sym e in
        let r : slice_index w.words (suc (left_word z cell)) ≡ right = ap (slice_index w.words)
        (let h : suc (left_word z cell) ≡ at + 1 = omega (arith, is) in h) ∙ sym g in
        let t = right_node w places numbers left_are N reached s (left_word z cell)
        (part_cell z cell low).0 (λ g. f (sym q ∙ g)) in
        (t.0, subst (λ v. IsEnd z N (slot t.0 0) v) r t.1)

    next : (k c : ℕ) → c < k + 1 → (c < k) ⊎ (c ≡ k)
    next k c lt = elim (cases_lt c k) [ inl h ↦ inl h | inr h ↦ inr (omega (arith, lt, h)) ]

    pub cell_empty : (cells : List ℕ) (k : ℕ) → cell ≡ slice_index cells k →
        (partners : List ℕ) (value : ℕ) → value ≡ slice_index w.words at → value ≡ 0 →
        AreListedTo w places partners cells k → AreListedTo w places partners cells (k + 1)
    cell_empty cells k here partners value e f before N reached s c r a lt lta filled q h = go (next k c lt)
      where
        go : (c < k) ⊎ (c ≡ k) → other partners a ≢ a
        go (inl b) = before N reached s c r a b lta filled q h
        go (inr b) = absurd (filled (ap (λ c. slice_index w.words (left_word z c))
            (ap (slice_index cells) b ∙ sym here) ∙ ap (slice_index w.words) (sym is) ∙ sym e ∙ f))

    module _ (cells : List ℕ) (k : ℕ) (here : cell ≡ slice_index cells k) (value right : ℕ)
        (e : value ≡ slice_index w.words at) (f : value ≢ 0) (g : right ≡ slice_index w.words (at + 1))
        (kinds1 kinds2 kinds3 : List (Kind × ℕ)) (partners partners1 partners2 partners3 : List ℕ) (one two : ℕ)
        (before : AreListedTo w places partners cells k) (p1 : partners1 ≡ partners)
        (lt1 : one < length partners) (s1 : IsSiteIn w places kinds1 value one)
        (p2 : partners2 ≡ partners1) (lt2 : two < length partners1)
        (after2 : IsPartly w places kinds2 partners2) (s2 : IsSiteIn w places kinds2 right two)
        (keeps : KeepsKnown w places kinds1 kinds2)
        (k3 : kinds3 ≡ kinds2) (p3 : partners3 ≡ linked partners2 one two) where
      lt1' : one < length partners2
      lt1' = omega (arith, lt1, ap (λ (l : List ℕ). length l) p1, ap (λ (l : List ℕ). length l) p2)

      lt2' : two < length partners2
      lt2' = omega (arith, lt2, ap (λ (l : List ℕ). length l) p2)

      q0 : slice_index w.words (left_word z cell) ≡ value
      q0 = ap (slice_index w.words) (sym is) ∙ sym e

      q1 : slice_index w.words (suc (left_word z cell)) ≡ right
      q1 = ap (slice_index w.words) (let h : suc (left_word z cell) ≡ at + 1 = omega (arith, is) in h) ∙ sym g

      link : (N : NamedNet NodeName) (reached : ℕ → Bool) (s : WordsStandFor w N reached) →
          Linked N (port_of z places one) (port_of z places two)
      link N reached s =
          cell_linked w places numbers left_are N reached s (left_word z cell)
          (part_cell z cell low).0 (λ h. f (sym q0 ∙ h)) (port_of z places one) (port_of z places two)
          (subst (λ v. IsEnd z N (port_of z places one) v) (sym q0) (s1 N reached s).0)
          (subst (λ v. IsEnd z N (port_of z places two) v) (sym q1) (s2 N reached s).0)

      pub cell_partly : IsPartly w places kinds3 partners3
      cell_partly N reached s =
          subst (λ ks. IsPartial w N places ks partners3) (sym k3)
          (subst (λ ps. IsPartial w N places kinds2 ps) (sym p3)
          (linked_partial w places numbers left_are N reached s kinds2 partners2
          (after2 N reached s) one two lt1' lt2' (link N reached s)
          (keeps N reached s one (s1 N reached s).1) (s2 N reached s).1))

      pub cell_listed : AreListedTo w places partners3 cells (k + 1)
      cell_listed N reached s c r a lt lta filled q h = subst (λ ps. other ps a ≢ a) (sym p3) (go (next k c lt) q)
        where
          d : one ≢ two
          d = ends_apart w places numbers left_are N reached s kinds2 partners2
              (after2 N reached s) one two lt1' lt2' (link N reached s)

          long : length partners2 ≡ z.free + 3 * length places
          long = (after2 N reached s).partners_long

          lta2 : a < length partners2
          lta2 = omega (arith, lta, ap (λ (l : List ℕ). length l) p3, length-linked partners2 one two)

          site_is : (b v : ℕ) → b < length partners2 → IsEnd z N (port_of z places b) v → r ≡ v → a ≡ b
          site_is b v ltb hb rv = one_site w places numbers left_are a b (omega (arith, lta2, long))
              (omega (arith, ltb, long)) (one_port w places numbers left_are N reached s
              (port_of z places a) (port_of z places b) v (subst (λ v. IsEnd z N (port_of z places a) v) rv h) hb)

          go : (c < k) ⊎ (c ≡ k) → (r ≡ slice_index w.words (left_word z (slice_index cells c)))
              ⊎ (r ≡ slice_index w.words (suc (left_word z (slice_index cells c)))) →
              other (linked partners2 one two) a ≢ a
          go (inl b) q = still_linked partners2 one two lt1' lt2' d a
              (subst (λ ps. other ps a ≢ a) (sym (p2 ∙ p1))
              (before N reached s c r a b (omega (
                arith,
                lta2,
                ap (λ (l : List ℕ). length l) p1,
                ap (λ (l : List ℕ). length l) p2,
              )) filled q h))
          go (inr b) (inl q) = subst (λ a. other (linked partners2 one two) a ≢ a)
              (sym (site_is one value lt1' (s1 N reached s).0
              (q ∙ ap (λ c. slice_index w.words (left_word z c))
              (ap (slice_index cells) b ∙ sym here) ∙ q0))) (now_linked partners2 one two lt1' lt2' d).0
          go (inr b) (inr q) = subst (λ a. other (linked partners2 one two) a ≢ a)
              (sym (site_is two right lt2' (s2 N reached s).0
              (q ∙ ap (λ c. slice_index w.words (suc (left_word z c)))
              (ap (slice_index cells) b ∙ sym here) ∙ q1))) (now_linked partners2 one two lt1' lt2' d).1

  -- ---- a cell that isn't among those that aren't empty is empty

  pub all_celled : (partners cells : List ℕ) (k : ℕ) → cells ≡ cells_filled w → length cells ≤ k →
      ((n : ℕ) → block z (events_in z w.words) ≤ n → slice_index w.words n ≡ 0) →
      AreListedTo w places partners cells k → AreCelledTo w places partners (cells_of z)
  all_celled partners cells k is all empty before N reached s c r a lt lta filled q h = elim
      (cases_lt c (z.cells + 4 * events_in z w.words)) [
        | inl b ↦
            let t = filled_listed w (z.cells + 4 * events_in z w.words) c b filled in
            let e : slice_index cells t.0 ≡ c = ap (λ l. slice_index l t.0) is ∙ t.2 in
            before N reached s t.0 r a (omega (arith, t.1, all, ap (λ (l : List ℕ). length l) is)) lta
            (subst (λ c. slice_index w.words (left_word z c) ≢ 0) (sym e) filled)
            (subst (λ c. (r ≡ slice_index w.words (left_word z c))
            ⊎ (r ≡ slice_index w.words (suc (left_word z c)))) (sym e) q) h
        | inr ge ↦ absurd (filled (empty (left_word z c) (left_behind z (events_in z w.words) c ge)))
      ]
