-- Once all cells and all chains are walked, each port has its partner, and the table is the net
-- that the words stand for.
use Rattle.std.proofs.Common.{◌≡◌, ◌≢◌, ℕ, zero, suc, ◌+◌, ◌*◌, ◌%◌, ◌==◌, ◌<◌, ◌≤◌, Bool, true, false, not, nat_lt}
use Rattle.std.proofs.Common.{eq-eqb, ne_eqb, lt-ltb, ltb-true, if◌then◌else◌, List, [], ◌∷◌, length, slice_index}
use Rattle.std.proofs.Common.{Option, Some, None, ◌⊎◌, inl, inr, refl, sym, ap, ◌∙◌, subst, arith}
use Rattle.std.proofs.lemmas.Bool.{cases_eq, cases_lt, cases_Bool, false≢true}
use Rattle.ol_net.specs.declared.parts.Kind.{Kind}
use Rattle.ol_net.specs.Parts.{arity, slots_of, is_eraser}
use Rattle.ol_net.specs.Nets.{NamedPort, free, slot, NamedNet, HasNode, Linked, IsPort}
use Rattle.ol_net.specs.Graph.{IsTabled, kind_at, has_slot, has_port, port_at}
use Rattle.ol_net.specs.Build.{NoneOf, BadIndexAt, is_bad_index}
use Rattle.ol_net.specs.Numbered.{all_live}
use Rattle.ol_net.specs.Pairing.{other}
use Rattle.ol_net.proofs.Places.{port_at-within}
use Rattle.ol_net.proofs.Linking.{length-all_live}
use Rattle.ol_rules.specs.declared.journal.NodeName.{NodeName}
use Rattle.ol_wire.specs.declared.layout.Parts.{Parts}
use Rattle.ol_wire.specs.References.{node_ref, wire_ref, slot_ref, IsNodeRef, IsRef}
use Rattle.ol_wire.specs.Layout.{port_word, left_word, cells_of, place_of}
use Rattle.ol_wire.proofs.Closing.Cells.{cell_word}
use Rattle.ol_wire.proofs.InWords.Claimed.{ends_found}
use Rattle.ol_wire.specs.Stands.{IsEnd}
use Rattle.ol_wire.specs.Closed.{ClosedTable}
use Rattle.ol_wire.specs.Standing.{WordsStandFor}
use Rattle.ol_wire.proofs.InWords.References.{node_sort, wire_sort, slot_sort}
use Rattle.ol_reduce.specs.Left.{ranks_in, AreLeft}
use Rattle.ol_reduce.specs.Following.{OwnsWord, LeadsTo}
use Rattle.ol_reduce.specs.Drafts.{frozen_top, IsFullDraft}
use Rattle.ol_reduce.specs.Found.{name_of, port_of, kind_of, IsPartial, WaitsAt, AreMet, AreCelled, wire_word}
use Rattle.ol_reduce.proofs.Forward.{IsSink, linked_goes, linked_meets, one_sink, owner_of, port_no_wire, owner_no_node}
use Rattle.ol_reduce.proofs.Forward.{EdgeIs, owned, celled, edge_is, es}
use Rattle.ol_reduce.proofs.Bounded.{owner_behind, events_few}
use Rattle.ol_reduce.proofs.WordOf.{word_of_port}
use Rattle.ol_reduce.proofs.Wires.{wire_same}
use Rattle.ol_reduce.proofs.Sites.{one_site, site, IsSite, of_free, of_slot, port_low, port_high}
use Rattle.ol_reduce.proofs.Sites.{port_free, port_slot, numbered, site_of_port, end_of_port}
use Rattle.ol_reduce.proofs.Linking.{within_table, view, EndView, at_port, at_node, at_slot, one_end}

pub kind_there : (kinds : List (Kind × ℕ)) (n : ℕ) → n < length kinds →
    kind_at (all_live kinds) n ≡ Some (kind_of kinds n)
kind_there [] n lt = absurd (omega arith)
kind_there (k ∷ kinds) zero lt = refl
kind_there (k ∷ kinds) (suc n) lt = kind_there kinds n (omega arith)

pub kind_past : (kinds : List (Kind × ℕ)) (n : ℕ) (k : Kind × ℕ) →
    kind_at (all_live kinds) n ≡ Some k → n < length kinds
kind_past [] n k h = absurd (let bad : None ≡ Some k = h in cc)
kind_past (o ∷ kinds) zero k h = omega arith
kind_past (o ∷ kinds) (suc n) k h = omega (arith, kind_past kinds n k h)

module _ (w : ClosedTable) (places numbers : List ℕ)
    (left_are : AreLeft w (ranks_in w) places numbers) (N : NamedNet NodeName) (reached : ℕ → Bool)
    (s : WordsStandFor w N reached)
    (kinds : List (Kind × ℕ)) (partners met : List ℕ) (whole : IsPartial w N places kinds partners)
    (are : AreMet w N reached places partners met (length partners))
    (cells_are : AreCelled w N places partners (cells_of w.plan.parts)) where
  abbrev z : Parts
  z = w.plan.parts

  abbrev port : ℕ → NamedPort NodeName
  port a = port_of z places a

  abbrev name : ℕ → NodeName
  name n = name_of z places n

  -- a port of an end whose word is there
  module _ (a b d e : ℕ) (lta : a < length partners) (ltb : b < length partners)
      (l : Linked N (port a) (port b)) (hd : IsEnd z N (port a) d) (he : IsEnd z N (port b) e) where
    -- the partner has a partner
    back : other partners b ≢ b → other partners a ≢ a
    back n q =
        let m = whole.linked b n in
        let low : other partners b < length partners = within_table partners (other partners b)
        (λ r. n (sym r ∙ whole.paired b)) in
        let same : other partners b ≡ a = one_site w places numbers left_are (other partners b) a
        (omega (arith, low, whole.partners_long)) (omega (arith, lta, whole.partners_long))
        (s.is_net.one_link (port b) (port (other partners b)) (port a) m (turned l)) in
        n (same ∙ (sym q ∙ ap (other partners) (sym same) ∙ whole.paired b))
      where
        turned : Linked N (port a) (port b) → Linked N (port b) (port a)
        turned (inl h) = inr h
        turned (inr h) = inl h

    apart : a ≢ b
    apart q = s.is_net.apart (port a) (subst (λ b. Linked N (port a) (port b)) (sym q) l)

    -- a chain that leads to a wire that is empty ends there
    empty_sink : (u : ℕ) → slice_index w.words u ≡ 0 → IsSink w N reached s (wire_ref u)
    empty_sink u empty = record {
      owns_none = λ n o. by n o o.end;
      no_cell = λ n p f. (
        (λ q. omega (arith, (s.cells n p f).0, q, wire_sort u)),
        (λ q. omega (arith, (s.cells n p f).1, q, wire_sort u)),
      );
    }
      where
        by : (n : ℕ) → OwnsWord w N reached n (wire_ref u) → (wire_ref u ≡ wire_ref n) ⊎ (wire_ref u ≡ slot_ref n) → ⊥
        by n o (inl q) = let f : n ≡ u = omega (arith, q) in o.filled (ap (slice_index w.words) f ∙ empty)
        by n o (inr q) = omega (arith, q)

    -- one that owns a word
    owner_done : (n : ℕ) → OwnsWord w N reached n d → other partners a ≢ a
    owner_done n o = go (are.settled a d n lta hd o)
      where
        go : (other partners a ≢ a) ⊎ WaitsAt w N reached met a d → other partners a ≢ a
        go (inl h) = h
        go (inr t) =
            let k = empty_sink (wire_word z t.0) t.2 in
            let g = linked_meets w N reached s (port a) (port b) d e
            (wire_ref (wire_word z t.0)) hd he l k (wire_word z t.0, t.1, refl) t.3 in
            let m = owner_of w N reached s e (wire_ref (wire_word z t.0)) g in
            partner t.0 k g t.4 (are.settled b e m.0 ltb he m.1)
          where
            partner : (u : ℕ) → IsSink w N reached s (wire_ref (wire_word z u)) →
                LeadsTo w N reached e (wire_ref (wire_word z u)) → slice_index met u ≡ a + 1 →
                (other partners b ≢ b) ⊎ WaitsAt w N reached met b e → other partners a ≢ a
            partner u k g q (inl h) = back h
            partner u k g q (inr r) =
                let same : wire_ref (wire_word z u) ≡ wire_ref
                (wire_word z r.0) = one_sink w N reached s e (wire_ref (wire_word z u))
                (wire_ref (wire_word z r.0)) k (empty_sink (wire_word z r.0) r.2) g r.3 in
                let f : u ≡ r.0 = wire_same z u r.0 (omega (arith, same)) in
                absurd (apart (omega (arith, q, r.4, ap (slice_index met) f)))

    -- one that owns none
    sink_done : IsSink w N reached s d → other partners a ≢ a
    sink_done k =
        let g = linked_goes w N reached s (port a) (port b) d e hd he l k in
        let m = owner_of w N reached s e d g in
        go g (are.settled b e m.0 ltb he m.1)
      where
        go : LeadsTo w N reached e d → (other partners b ≢ b) ⊎ WaitsAt w N reached met b e → other partners a ≢ a
        go g (inl h) = back h
        go g (inr t) =
            let same : d ≡ wire_ref (wire_word z t.0) = one_sink w N reached s e d
            (wire_ref (wire_word z t.0)) k (empty_sink (wire_word z t.0) t.2) g t.3 in
            absurd (port_no_wire w N reached s (port a) d hd (wire_word z t.0, t.1, same))

    -- a slot that isn't slot 0 owns its field
    slot_owned : (v : ℕ) → d ≡ slot_ref v → (n : ℕ) × OwnsWord w N reached n d
    slot_owned v q =
        let t = ends_found d (es w N reached s) (omega (arith, s.stands.ports (port a) d hd)) in
        go t.0 t.1 (edge_is w N reached s t.0 t.1 t.2) t.3
      where
        no_ref : (r : ℕ) → IsRef r → r ≡ d → ⊥
        no_ref r (inl h) f = omega (arith, h, f, q, slot_sort v)
        no_ref r (inr h) f = omega (arith, h, f, q, slot_sort v)

        go : (x y : ℕ) → EdgeIs w N reached s x y → (x ≡ d) ⊎ (y ≡ d) → (n : ℕ) × OwnsWord w N reached n d
        go x y (owned n o f) (inl g) = (n, subst (λ x. OwnsWord w N reached n x) g o)
        go x y (owned n o f) (inr g) = absurd
            (no_ref (slice_index w.words n) (s.refs n (owner_behind w N reached s n x o) o.filled).0 (sym f ∙ g))
        go x y (celled n p f x' y') (inl g) = absurd
            (no_ref (slice_index w.words n) (inl (s.cells n p f).0) (sym x' ∙ g))
        go x y (celled n p f x' y') (inr g) = absurd
            (no_ref (slice_index w.words (suc n)) (inl (s.cells n p f).1) (sym y' ∙ g))

    -- each has a partner
    pub done : other partners a ≢ a
    done alone = go (view w places numbers left_are N reached s (port a) d hd)
      where
        node_sink : IsNodeRef d → IsSink w N reached s d
        node_sink sort = record {
          owns_none = λ n o. owner_no_node w N reached s n d o sort;
          no_cell = λ n p f. (
              let c = cell_word z n p in
              let filled : slice_index w.words (left_word z c.0) ≢ 0 = (λ q.
              f (ap (slice_index w.words) (sym c.2) ∙ q)) in (
                (λ q. cells_are c.0 d a c.1 lta filled (inl (sym q ∙ ap (slice_index w.words) (sym c.2))) hd alone),
                (λ q. cells_are c.0 d a c.1 lta filled
                    (inr (sym q ∙ ap (λ n. slice_index w.words (suc n)) (sym c.2))) hd alone),
              )
              );
        }

        port_owned : (k : ℕ) → k < z.free → port a ≡ free k →
            slice_index w.words (port_word k) ≢ 0 → (n : ℕ) × OwnsWord w N reached n d
        port_owned k lt p f =
            let t = (word_of_port w places numbers left_are N reached s k lt).owned f in
            let same : t.0 ≡ d = one_end w places numbers left_are N reached s (port a) t.0 d
            (subst (λ p. IsEnd z N p t.0) (port_free w places numbers left_are k lt ∙ sym p) t.1) hd in
            (t.2.n, subst (λ e. OwnsWord w N reached t.2.n e) same t.2.owns)

        go : EndView w places numbers left_are N reached s (port a) d → ⊥
        go (at_port k lt p q) = elim (cases_eq (slice_index w.words (port_word k)) 0) [
          | inl empty ↦ sink_done (subst (λ d. IsSink w N reached s d) (sym q) (empty_sink (port_word k) empty)) alone
          | inr f ↦ let o = port_owned k (omega (arith, lt, s.ports)) p f in owner_done o.0 o.1 alone
        ]
        go (at_slot x k i c g lt p q) = let o = slot_owned (place_of z x + c) q in owner_done o.0 o.1 alone
        go (at_node x k i g p q) = sink_done
            (node_sink (let t : node_ref k i (place_of z x) % 4 ≡ 1 = node_sort k i
            (place_of z x) in subst IsNodeRef (sym q) t)) alone

  pub complete : (a : ℕ) → a < length partners → IsPort N (port a) → other partners a ≢ a
  complete a lt is_port =
      let l = s.is_net.some_link (port a) is_port in
      let q = (s.is_net.of_ports (port a) l.0 l.1).1 in
      let b = site_of_port w places numbers left_are N reached s l.0 q in
      let d = end_of_port w places numbers left_are N reached s (port a) is_port in
      let e = end_of_port w places numbers left_are N reached s l.0 q in
      done a b.0 d.0 e.0 lt (omega (arith, b.1, whole.partners_long))
      (subst (λ q. Linked N (port a) q) (sym b.2) l.1) d.1 (subst (λ q. IsEnd z N q e.0) (sym b.2) e.1)

  -- so the kind of each node is known
  pub all_known : (n : ℕ) → n < length places → HasNode N (name n) (kind_of kinds n).0 (kind_of kinds n).1
  all_known n lt =
      let a : ℕ = z.free + 3 * n + 0 in
      let is = port_slot w places numbers left_are (z.free + 3 * n + 0) n 0 (omega arith) refl in
      let h = (s.live (name n)).1 (numbered w places numbers left_are n lt).is_left in
      let there : IsPort N (slot (name n) 0) = (h.0, h.1, h.2, omega arith) in
      whole.known (z.free + 3 * n + 0) (complete (z.free + 3 * n + 0)
      (omega (arith, lt, whole.partners_long)) (subst (λ p. IsPort N p) (sym is) there)) n lt (omega arith)

  abbrev live : List (Option (Kind × ℕ))
  live = all_live kinds

  slot_test : (k : Kind) (c : ℕ) → c ≤ arity k → nat_lt c (slots_of k) ≡ true
  slot_test k c le = lt-ltb c (slots_of k) (omega (arith, le))

  -- the ports of the table are those of the net
  port_there : (a : ℕ) → a < length partners → IsPort N (port a) → has_port z.free live (port_at z.free a) ≡ true
  port_there a lt h = go (site w places numbers left_are a (omega (arith, lt, whole.partners_long)))
    where
      node : (n c : ℕ) → n < length places → IsPort N (slot (name_of z places n) c) →
          has_slot (kind_at (all_live kinds) n) c ≡ true
      node n c ltn (k, i, g, le) =
          let t = s.is_net.one_node (name_of z places n) k (kind_of kinds n).0 i
          (kind_of kinds n).1 g (all_known n ltn) in
          ap (λ o. has_slot o c) (kind_there kinds n (omega (arith, ltn, whole.kinds_long)))
          ∙ slot_test (kind_of kinds n).0 c (omega (arith, le, ap arity t.0))

      go : IsSite w places numbers left_are a → has_port z.free (all_live kinds) (port_at z.free a) ≡ true
      go (of_free b q) = ap (has_port z.free (all_live kinds)) (port_low z.free a b) ∙ lt-ltb a z.free b
      go (of_slot n c ltn ltc e q) = ap (has_port z.free (all_live kinds))
          (port_high z.free a n c ltc e) ∙ node n c ltn (subst (λ p. IsPort N p) q h)

  port_back : (a : ℕ) → a < length partners → has_port z.free live (port_at z.free a) ≡ true → IsPort N (port a)
  port_back a lt h = go (site w places numbers left_are a (omega (arith, lt, whole.partners_long)))
    where
      node : (n c : ℕ) → n < length places → has_slot (kind_at (all_live kinds) n) c ≡ true →
          IsPort N (slot (name_of z places n) c)
      node n c ltn t =
          let q = sym (ap (λ o. has_slot o c) (kind_there kinds n (omega (arith, ltn, whole.kinds_long)))) ∙ t in (
            (kind_of kinds n).0,
            (kind_of kinds n).1,
            all_known n ltn,
            omega (arith, ltb-true c (slots_of (kind_of kinds n).0) q),
          )

      go : IsSite w places numbers left_are a → IsPort N (port_of z places a)
      go (of_free b q) = subst (λ p. IsPort N p) (sym q) (omega (arith, b, s.ports))
      go (of_slot n c ltn ltc e q) = subst (λ p. IsPort N p) (sym q)
          (node n c ltn (sym (ap (has_port z.free (all_live kinds)) (port_high z.free a n c ltc e)) ∙ h))

  pub tabled : IsTabled z.free live partners
  tabled = record {
    size = omega (arith, whole.partners_long, whole.kinds_long, length-all_live kinds);
    paired = whole.paired;
    ports = λ a. elim (cases_eq (other partners a) a) [
      | inl e ↦ eq-eqb (other partners a) a e
          ∙ no_port a e (cases_Bool (has_port z.free (all_live kinds) (port_at z.free a)))
      | inr d ↦
          let lt = within_table partners a d in
          ne_eqb (other partners a) a d ∙ ap not
          (sym (port_there a lt (s.is_net.of_ports (port a) (port (other partners a)) (whole.linked a d)).0))
    ];
  }
    where
      no_port : (a : ℕ) → other partners a ≡ a →
          (has_port z.free (all_live kinds) (port_at z.free a) ≡ true)
          ⊎ (has_port z.free (all_live kinds) (port_at z.free a) ≡ false) →
          true ≡ not (has_port z.free (all_live kinds) (port_at z.free a))
      no_port a e (inl h) =
          let lt : a < length partners = omega (
            arith,
            port_at-within z.free (all_live kinds) a h,
            length-all_live kinds,
            whole.partners_long,
            whole.kinds_long,
          ) in
          absurd (complete a lt (port_back a lt h) e)
      no_port a e (inr h) = ap not (sym h)

  -- no index is too great
  pub indexes : NoneOf (BadIndexAt frozen_top kinds)
  indexes n bad = elim (cases_lt n (length kinds)) [
    | inl lt ↦ known_index (kind_of kinds n).0 (kind_of kinds n).1
        (all_known n (omega (arith, lt, whole.kinds_long))) bad
    | inr ge ↦ past_index kinds n ge bad
  ]
    where
      known_index : (k : Kind) (i : ℕ) → HasNode N (name_of z places n) k i → is_bad_index frozen_top (k, i) ≡ true → ⊥
      known_index k i h t = go (is_eraser k) refl t
        where
          small : i ≤ 100000000
          small = omega (arith, s.indexes (name_of z places n) k i h, events_few z w.words, s.small.fuel)

          go : (b : Bool) → is_eraser k ≡ b → (if b then not (i == 0) else nat_lt frozen_top i) ≡ true → ⊥
          go true e t = let q : (i == 0) ≡ true = eq-eqb i 0
              (s.erasers (name_of z places n) k i h e) in false≢true (sym (ap not q) ∙ t)
          go false e t = omega (arith, small, ltb-true frozen_top i t)

      past_index : (kinds : List (Kind × ℕ)) (n : ℕ) → length kinds ≤ n →
          is_bad_index frozen_top (kind_of kinds n) ≡ true → ⊥
      past_index [] n le t = false≢true t
      past_index (k ∷ kinds) zero le t = omega (arith, le)
      past_index (k ∷ kinds) (suc n) le t = past_index kinds n (omega arith) t

  pub is_complete : IsFullDraft z.free kinds partners
  is_complete = record { tabled = tabled; indexes = indexes }
