-- What each port that owns a word does: it finds a partner, or it waits where its chain ends.
use Rattle.std.proofs.Common.{◌≡◌, ◌≢◌, ℕ, suc, ◌+◌, ◌-◌, ◌*◌, ◌%◌, ◌<◌, ◌≤◌, Bool, true, ne_eqb, if◌then◌else◌, List}
use Rattle.std.proofs.Common.{[], ◌∷◌, length, get_or-set_same, get_or-set_other, slice_index, slice_set, ◌⊎◌, inl, inr}
use Rattle.std.proofs.Common.{refl, sym, ap, ◌∙◌, subst, arith}
use Rattle.std.proofs.lemmas.Bool.{cases_eq, cases_lt}
use Rattle.ol_law_edges.specs.Edges.{IsIn, here, on}
use Rattle.ol_net.specs.declared.parts.Kind.{Kind}
use Rattle.ol_net.specs.Nets.{NamedPort, free, slot, NamedNet, Linked}
use Rattle.ol_net.specs.Pairing.{other}
use Rattle.ol_net.specs.Linking.{linked}
use Rattle.ol_rules.specs.declared.journal.NodeName.{NodeName}
use Rattle.ol_wire.specs.declared.layout.Parts.{Parts}
use Rattle.ol_wire.specs.References.{node_ref, wire_ref, IsNodeRef}
use Rattle.ol_wire.specs.Layout.{WordPart, left, part_of_word, place_of, table_size}
use Rattle.ol_wire.specs.Edges.{edge_in}
use Rattle.ol_wire.specs.Stands.{IsEnd}
use Rattle.ol_wire.specs.Closed.{ClosedTable}
use Rattle.ol_wire.specs.Standing.{WordsStandFor}
use Rattle.ol_wire.proofs.InWords.References.{node_sort}
use Rattle.ol_wire.proofs.InWords.Claimed.{ends_first, ends_second, ends_twice}
use Rattle.ol_wire.proofs.InWords.Places.{is_left}
use Rattle.ol_wire.proofs.InWords.EdgeList.{edge_there}
use Rattle.ol_reduce.specs.Left.{ranks_in, AreLeft}
use Rattle.ol_reduce.specs.Following.{OwnsWord, LeadsTo}
use Rattle.ol_reduce.specs.Found.{name_of, port_of, IsKnown, IsPartial, WaitsAt, AreMet, IsWordOf, wire_word}
use Rattle.ol_reduce.proofs.Forward.{meet_linked, owner_no_node, owner_of, port_no_wire, es}
use Rattle.ol_reduce.proofs.Sites.{one_site, port_slot}
use Rattle.ol_reduce.proofs.Linking.{still_linked, now_linked, view, EndView, at_port, at_node}
use Rattle.ol_reduce.proofs.Linking.{at_slot, one_end, one_port, node_at, ends_apart}

module _ (w : ClosedTable) (places numbers : List ℕ)
    (left_are : AreLeft w (ranks_in w) places numbers) (N : NamedNet NodeName) (reached : ℕ → Bool)
    (s : WordsStandFor w N reached) where
  abbrev z : Parts
  z = w.plan.parts

  abbrev port : ℕ → NamedPort NodeName
  port a = port_of z places a

  abbrev word : ℕ → ℕ
  word n = slice_index w.words n

  -- ---- cells

  cell_row : (at : WordPart) (n next value : ℕ) (r : Bool) → at ≡ left → value ≢ 0 →
      IsIn {X = ℕ × ℕ} (value, next) (edge_in N r at n value next)
  cell_row at n next value r e f =
      subst (λ p. IsIn {X = ℕ × ℕ} (value, next) (edge_in N r p n value next)) (sym e)
      (subst (λ b. IsIn {X = ℕ × ℕ} (value, next) (if b then [] else (value, next) ∷ []))
      (sym (ne_eqb value 0 f)) (inl refl))

  module _ (n : ℕ) (is_cell : part_of_word z n ≡ left) (filled : word n ≢ 0) where
    cell_edge : IsIn {X = ℕ × ℕ} (word n, word (suc n)) (es w N reached s)
    cell_edge = edge_there z N reached w.words (table_size z) n (word n, word (suc n))
        (omega (arith, (is_left z n is_cell).1))
        (cell_row (part_of_word z n) n (word (suc n)) (word n) (reached n) is_cell filled)

    pub left_node : (x : NodeName) × IsEnd z N (slot x 0) (word n)
    left_node = node_at w places numbers left_are N reached s (word n)
        (omega (arith, ends_first (word n) (word (suc n)) (es w N reached s) cell_edge)) (s.cells n is_cell filled).0

    pub right_node : (x : NodeName) × IsEnd z N (slot x 0) (word (suc n))
    right_node = node_at w places numbers left_are N reached s (word (suc n))
        (omega (arith, ends_second (word (suc n)) (word n) (es w N reached s) cell_edge)) (s.cells n is_cell filled).1

    pub cell_linked : (p q : NamedPort NodeName) → IsEnd z N p (word n) → IsEnd z N q (word (suc n)) → Linked N p q
    cell_linked p q hp hq = (s.stands.links p q (word n) (word (suc n)) hp hq).1 (record {
      first = port_no_wire w N reached s p (word n) hp;
      second = port_no_wire w N reached s q (word (suc n)) hq;
      apart = λ e. omega (
        arith,
        s.stands.ports p (word n) hp,
        ends_twice (word n) (word (suc n)) (es w N reached s) e cell_edge,
      );
      joined = on here cell_edge;
    })

  -- ---- chains

  -- a port that owns a word is no slot 0
  pub owner_no_slot : (a e m n : ℕ) → IsEnd z N (port a) e → OwnsWord w N reached m e → a ≡ z.free + 3 * n → ⊥
  owner_no_slot a e m n h o q = go (view w places numbers left_are N reached s (port a) e h)
    where
      is : port a ≡ slot (name_of z places n) 0
      is = port_slot w places numbers left_are a n 0 (omega arith) (omega (arith, q))

      go : EndView w places numbers left_are N reached s (port a) e → ⊥
      go (at_port k lt p r) = let bad : free k ≡ slot (name_of z places n) 0 = sym p ∙ is in cc
      go (at_node x k i g p r) = owner_no_node w N reached s m e o
          (let t : node_ref k i (place_of z x) % 4 ≡ 1 = node_sort k i (place_of z x) in subst IsNodeRef (sym r) t)
      go (at_slot x k i c g lt p r) = let bad : slot x (suc c) ≡ slot (name_of z places n) 0 = sym p
          ∙ is in let f : suc c ≡ 0 = cc in omega (arith, f)

  module _ (kinds : List (Kind × ℕ)) (partners met : List ℕ) (a n : ℕ) (low : a < length partners)
      (before : IsPartial w N places kinds partners)
      (are : AreMet w N reached places partners met a) (is_word : IsWordOf w N reached places a n) where
    abbrev Settled : List ℕ → List ℕ → ℕ → ℕ → Type 0
    Settled ps ms b e = (other ps b ≢ b) ⊎ WaitsAt w N reached ms b e

    next : (b : ℕ) → b < a + 1 → (b < a) ⊎ (b ≡ a)
    next b lt = elim (cases_lt b a) [ inl h ↦ inl h | inr h ↦ inr (omega (arith, lt, h)) ]

    -- it has no word
    pub skip_met : word n ≡ 0 → AreMet w N reached places partners met (a + 1)
    skip_met empty = record {
      came = λ u f. let t = are.came u f in (t.0, t.1, t.2, omega (arith, t.3), t.4, t.5);
      settled = λ b e m lt h o. settle b e m h o (next b lt);
    }
      where
        settle : (b e m : ℕ) → IsEnd z N (port b) e → OwnsWord w N reached m e → (b < a) ⊎ (b ≡ a) →
            Settled partners met b e
        settle b e m h o (inl lt) = are.settled b e m lt h o
        settle b e m h o (inr q) = absurd (o.filled
            (ap word (is_word.only e m (subst (λ b. IsEnd z N (port b) e) q h) o) ∙ empty))

    -- it finds its partner
    pub link_met : (b : ℕ) → b < length partners → Linked N (port a) (port b) →
        AreMet w N reached places (linked partners a b) met (a + 1)
    link_met b ltb l = record {
      came = λ u f. let t = are.came u f in (t.0, t.1, t.2, omega (arith, t.3), t.4, t.5);
      settled = λ c e m lt h o. settle c e m h o (next c lt);
    }
      where
        d : a ≢ b
        d = ends_apart w places numbers left_are N reached s kinds partners before a b low ltb l

        kept : (c e : ℕ) → Settled partners met c e → Settled (linked partners a b) met c e
        kept c e (inl n) = inl (still_linked partners a b low ltb d c n)
        kept c e (inr t) = inr t

        settle : (c e m : ℕ) → IsEnd z N (port c) e → OwnsWord w N reached m e → (c < a) ⊎ (c ≡ a) →
            Settled (linked partners a b) met c e
        settle c e m h o (inl lt) = kept c e (are.settled c e m lt h o)
        settle c e m h o (inr q) = inl (subst (λ c. other (linked partners a b) c ≢ c) (sym q)
            (now_linked partners a b low ltb d).0)

    -- it waits
    pub wait_met : (e u : ℕ) → IsEnd z N (port a) e → reached (wire_word z u) ≡ true →
        word (wire_word z u) ≡ 0 → LeadsTo w N reached e (wire_ref (wire_word z u)) →
        slice_index met u ≡ 0 → u < length met → AreMet w N reached places partners (slice_set met u (a + 1)) (a + 1)
    wait_met e u h is empty leads free_wire ltu = record {
      came = λ v f. comes v f (cases_eq v u);
      settled = λ c d m lt g o. settle c d m g o (next c lt);
    }
      where
        here_is : slice_index (slice_set met u (a + 1)) u ≡ a + 1
        here_is = get_or-set_same met u (a + 1) 0 ltu

        else_is : (v : ℕ) → v ≢ u → slice_index (slice_set met u (a + 1)) v ≡ slice_index met v
        else_is v n = get_or-set_other met u v (a + 1) 0 n

        comes : (v : ℕ) → slice_index (slice_set met u (a + 1)) v ≢ 0 → (v ≡ u) ⊎ (v ≢ u)
            → (b : ℕ) × (d : ℕ) × (slice_index (slice_set met u (a + 1)) v ≡ b + 1) × (b < a + 1)
            × IsEnd z N (port b) d × LeadsTo w N reached d (wire_ref (wire_word z v))
        comes v f (inl q) = (
          a,
          e,
          ap (slice_index (slice_set met u (a + 1))) q ∙ here_is,
          omega arith,
          h,
          subst (λ v. LeadsTo w N reached e (wire_ref (wire_word z v))) (sym q) leads,
        )
        comes v f (inr n) = let t = are.came v (λ q. f (else_is v n ∙ q)) in
            (t.0, t.1, else_is v n ∙ t.2, omega (arith, t.3), t.4, t.5)

        kept : (c d : ℕ) → Settled partners met c d → Settled partners (slice_set met u (a + 1)) c d
        kept c d (inl n) = inl n
        kept c d (inr t) = inr (
          t.0,
          t.1,
          t.2,
          t.3,
          else_is t.0 (λ q. omega (arith, t.4, ap (slice_index met) q, free_wire)) ∙ t.4,
        )

        settle : (c d m : ℕ) → IsEnd z N (port c) d → OwnsWord w N reached m d → (c < a) ⊎ (c ≡ a) →
            Settled partners (slice_set met u (a + 1)) c d
        settle c d m g o (inl lt) = kept c d (are.settled c d m lt g o)
        settle c d m g o (inr q) =
            let same : e ≡ d = one_end w places numbers left_are N reached s (port a) e d h
            (subst (λ c. IsEnd z N (port c) d) q g) in
            inr (
              u,
              is,
              empty,
              subst (λ e. LeadsTo w N reached e
                  (wire_ref (wire_word z u))) same leads,
              here_is ∙ ap (λ c. c + 1) (sym q),
            )

    -- another one waits for it
    pub waiting : (u before' : ℕ) → slice_index met u ≡ before' → before' ≢ 0 → (e : ℕ) →
        IsEnd z N (port a) e → LeadsTo w N reached e (wire_ref (wire_word z u)) →
        (before' - 1 < length partners) × Linked N (port a) (port (before' - 1))
        × IsKnown w N places kinds (before' - 1)
    waiting u v is some e h leads =
        let t = are.came u (λ q. some (sym is ∙ q)) in
        let q : v - 1 ≡ t.0 = omega (arith, is, t.2) in
        let ltb : t.0 < length partners = omega (arith, t.3, low) in
        let apart : e ≢ t.1 = (λ same. omega (
          arith,
          t.3,
          one_site w places numbers left_are a t.0
              (omega (arith, low, before.partners_long)) (omega (arith, ltb, before.partners_long))
              (one_port w places numbers left_are N reached s (port a) (port t.0) e h
              (subst (λ e. IsEnd z N (port t.0) e) (sym same) t.4)),
        )) in (
          omega (arith, q, ltb),
          subst (λ b. Linked N (port a) (port b)) (sym q)
              (meet_linked w N reached s (port a) (port t.0) e t.1 (wire_ref (wire_word z u)) h t.4 apart leads t.5),
          (λ m ltm f. let o = owner_of w N reached s t.1 (wire_ref (wire_word z u)) t.5 in
              absurd (owner_no_slot t.0 t.1 o.0 m t.4 o.1 (sym q ∙ f))),
        )

  -- ---- more sites without a word between

  pub wider_met : (partners met : List ℕ) (a b : ℕ) → a ≤ b →
      AreMet w N reached places partners met a →
      ((c e m : ℕ) → a ≤ c → c < b → IsEnd z N (port c) e → OwnsWord w N reached m e → ⊥) →
      AreMet w N reached places partners met b
  wider_met partners met a b le are none = record {
    came = λ u f. let t = are.came u f in (t.0, t.1, t.2, omega (arith, t.3, le), t.4, t.5);
    settled = λ c e m lt h o. elim (cases_lt c a) [
      | inl k ↦ are.settled c e m k h o
      | inr k ↦ absurd
          (none c e m k lt h o)
    ];
  }

  pub none_met : (partners met : List ℕ) → ((u : ℕ) → slice_index met u ≡ 0) → AreMet w N reached places partners met 0
  none_met partners met empty = record {
    came = λ u f. absurd (f (empty u));
    settled = λ c e m lt h o. absurd (omega arith);
  }
