-- The word of each port: of a free port by its number, of an auxiliary slot by the place of its node.
use Rattle.std.proofs.Common.{◌≡◌, ◌≢◌, ℕ, suc, ◌+◌, ◌*◌, ◌<◌, Bool, true, ne_eqb, if◌then◌else◌, List, [], ◌∷◌, length}
use Rattle.std.proofs.Common.{slice_index, ◌⊎◌, inl, inr, refl, sym, ap, ◌∙◌, subst, arith}
use Rattle.ol_law_edges.specs.Edges.{IsIn}
use Rattle.ol_net.specs.Nets.{NamedPort, free, slot, NamedNet}
use Rattle.ol_rules.specs.declared.journal.NodeName.{NodeName}
use Rattle.ol_rules.proofs.Born.{at_most_two}
use Rattle.ol_wire.specs.declared.layout.Parts.{Parts}
use Rattle.ol_wire.specs.References.{wire_ref, slot_ref}
use Rattle.ol_wire.specs.Layout.{WordPart, field, part_of_word, place_of, port_word, table_size, IsPlaced}
use Rattle.ol_wire.specs.Layout as layout
use Rattle.ol_wire.specs.Edges.{edge_to, edge_in, is_live}
use Rattle.ol_wire.specs.Stands.{IsEnd, of_port, IsWireEnd}
use Rattle.ol_wire.specs.Closed.{ClosedTable, events_in}
use Rattle.ol_wire.specs.Standing.{WordsStandFor, IsWirePart}
use Rattle.ol_wire.proofs.InWords.References.{node_sort, slot_sort}
use Rattle.ol_wire.proofs.InWords.Places.{part_port, part_field, place_before, place_same}
use Rattle.ol_wire.proofs.InWords.Claimed.{wider}
use Rattle.ol_wire.proofs.InWords.EdgeList.{live_there}
use Rattle.ol_reduce.specs.Left.{ranks_in, AreLeft}
use Rattle.ol_reduce.specs.Following.{OwnsWord}
use Rattle.ol_reduce.specs.Found.{name_of, port_of, IsWordOf}
use Rattle.ol_reduce.proofs.Forward.{own_edge, first_counts, ends_split, es}
use Rattle.ol_reduce.proofs.Sites.{port_free, port_slot, numbered, IsNumbered}
use Rattle.ol_reduce.proofs.Linking.{view, EndView, at_port, at_node, at_slot}
use Rattle.ol_reduce.proofs.Bounded.{events_few}

port_row : (net : NamedNet NodeName) (r : Bool) (at : WordPart) (k n word next : ℕ) →
    at ≡ layout.port k → word ≢ 0 → IsIn {X = ℕ × ℕ} (wire_ref n, word) (edge_in net r at n word next)
port_row net r at k n word next e f =
    subst (λ p. IsIn {X = ℕ × ℕ} (wire_ref n, word) (edge_in net r p n word next)) (sym e)
    (subst (λ b. IsIn {X = ℕ × ℕ} (wire_ref n, word)
    (if b then [] else (wire_ref n, word) ∷ [])) (sym (ne_eqb word 0 f)) (inl refl))

field_row : (net : NamedNet NodeName) (r : Bool) (at : WordPart) (x : NodeName)
    (c n word next : ℕ) → at ≡ field x c → is_live net x ≡ true → word ≢ 0 →
    IsIn {X = ℕ × ℕ} (slot_ref n, word) (edge_in net r at n word next)
field_row net r at x c n word next e live f =
    subst (λ p. IsIn {X = ℕ × ℕ} (slot_ref n, word) (edge_in net r p n word next)) (sym e)
    (subst (λ b. IsIn {X = ℕ × ℕ} (slot_ref n, word) (if b then edge_to (slot_ref n) word else [])) (sym live)
    (subst (λ b. IsIn {X = ℕ × ℕ} (slot_ref n, word) (if b then [] else (slot_ref n, word) ∷ []))
    (sym (ne_eqb word 0 f)) (inl refl)))

module _ (w : ClosedTable) (places numbers : List ℕ)
    (left_are : AreLeft w (ranks_in w) places numbers) (N : NamedNet NodeName) (reached : ℕ → Bool)
    (s : WordsStandFor w N reached) where
  abbrev z : Parts
  z = w.plan.parts

  abbrev port : ℕ → NamedPort NodeName
  port a = port_of z places a

  abbrev word : ℕ → ℕ
  word n = slice_index w.words n

  pub word_of_port : (k : ℕ) → k < z.free → IsWordOf w N reached places k (2 + k)
  word_of_port k lt = record {
    only = λ e m h o. only e m (view w places numbers left_are N reached s (port k) e h) o;
    owned = λ f. (
      wire_ref (port_word k),
      subst (λ p. IsEnd z N p (wire_ref (port_word k))) (sym is) (of_port (omega (arith, lt, s.ports))),
      record {
        n = port_word k;
        owns = record {
          within = omega arith;
          filled = f;
          end = inl refl;
          edge = port_row N (reached (port_word k)) (part_of_word z (port_word k)) k (port_word k)
              (word (port_word k)) (word (suc (port_word k))) (part_port z k lt) f;
        };
        no_wire = λ h. subst IsWirePart (part_port z k lt) h;
        holds = refl;
      },
    );
  }
    where
      is : port k ≡ free k
      is = port_free w places numbers left_are k lt

      only : (e m : ℕ) → EndView w places numbers left_are N reached s (port k) e →
          OwnsWord w N reached m e → m ≡ port_word k
      only e m (at_port n l p r) o = let f : n ≡ k = (let q : free n ≡ free k = sym p ∙ is in cc) in by o.end
        where
          by : (e ≡ wire_ref m) ⊎ (e ≡ slot_ref m) → m ≡ port_word k
          by (inl q) = omega (arith, q, r, (let f : n ≡ k = (let q : free n ≡ free k = sym p ∙ is in cc) in f))
          by (inr q) = absurd (omega (arith, q, r))
      only e m (at_node x l i g p r) o = absurd (let bad : slot x 0 ≡ free k = sym p ∙ is in cc)
      only e m (at_slot x l i c g lt' p r) o = absurd (let bad : slot x (suc c) ≡ free k = sym p ∙ is in cc)

  module _ (j c : ℕ) (lt : j < length places) (small : c < 2) where
    abbrev x : NodeName
    x = name_of z places j

    abbrev n : ℕ
    n = slice_index places j + c

    abbrev a : ℕ
    a = z.free + 3 * j + (c + 1)

    at : IsNumbered w places numbers left_are j
    at = numbered w places numbers left_are j lt

    n_is : n ≡ place_of z x + c
    n_is = omega (arith, at.place)

    is : port_of z places (z.free + 3 * j + (c + 1)) ≡ slot (name_of z places j) (suc c)
    is = port_slot w places numbers left_are a j (c + 1) (omega (arith, small)) refl
        ∙ ap (λ c. slot x c) (let q : c + 1 ≡ suc c = omega arith in q)

    only_field : (e m : ℕ) → EndView w places numbers left_are N reached s
        (port_of z places (z.free + 3 * j + (c + 1))) e → OwnsWord w N reached m e → m ≡ slice_index places j + c
    only_field e m (at_port k l p r) o = absurd (let bad : free k ≡ slot x (suc c) = sym p ∙ is in cc)
    only_field e m (at_node y l i g p r) o = absurd
        (let bad : slot y 0 ≡ slot x (suc c) = sym p ∙ is in let f : 0 ≡ suc c = cc in omega (arith, f))
    only_field e m (at_slot y l i d g lt' p r) o = by o.end
      where
        names : y ≡ name_of z places j
        names = let same : slot y (suc d) ≡ slot x (suc c) = sym p ∙ is in cc

        slots : d ≡ c
        slots = let same : slot y (suc d) ≡ slot x (suc c) = sym p ∙ is in
            let f : suc d ≡ suc c = cc in omega (arith, f)

        by : (e ≡ wire_ref m) ⊎ (e ≡ slot_ref m) → m ≡ slice_index places j + c
        by (inl q) = absurd (omega (arith, q, r))
        by (inr q) = omega (arith, q, r, slots, ap (place_of z) names, n_is)

    placed_fuel : IsPlaced z z.fuel (name_of z places j)
    placed_fuel = wider z x (events_in z w.words) z.fuel (events_few z w.words) at.placed

    part_is : part_of_word z (slice_index places j + c) ≡ field (name_of z places j) c
    part_is = ap (part_of_word z) n_is ∙ part_field z x c placed_fuel small

    pub field_within : slice_index places j + c < table_size z
    field_within = omega (arith, n_is, small, (place_before z x z.fuel placed_fuel).1)

    owns_field : word (slice_index places j + c) ≢ 0 →
        OwnsWord w N reached (slice_index places j + c) (slot_ref (slice_index places j + c))
    owns_field f =
        let h = (s.live x).1 at.is_left in
        record {
          within = field_within;
          filled = f;
          end = inr refl;
          edge = field_row N (reached n) (part_of_word z n) x c n (word n) (word (suc n)) part_is
              (live_there N x h.0 h.1 h.2) f;
        }

    is_end : word (slice_index places j + c) ≢ 0 →
        IsEnd z N (slot (name_of z places j) (suc c)) (slot_ref (slice_index places j + c))
    is_end f = go (s.stands.others (slot_ref n)
        (omega (
          arith,
          ends_split (slot_ref n) (es w N reached s),
          first_counts (slot_ref n) (word n) (es w N reached s) (own_edge w N reached s n (slot_ref n) (owns_field f)),
        )))
      where
        of : (p : NamedPort NodeName) → IsEnd z N p (slot_ref (slice_index places j + c)) →
            EndView w places numbers left_are N reached s p (slot_ref (slice_index places j + c)) →
            IsEnd z N (slot (name_of z places j) (suc c)) (slot_ref (slice_index places j + c))
        of p h (at_port k l q r) = absurd (omega (arith, r))
        of p h (at_node y l i g q r) = absurd (omega (arith, r, slot_sort n, node_sort l i (place_of z y)))
        of p h (at_slot y l i d g lt' q r) =
            let t = place_same z y x d c (events_in z w.words) (s.names y l i g) at.placed
            (omega (arith, lt', at_most_two l)) small (omega (arith, r, n_is)) in
            subst (λ p. IsEnd z N p (slot_ref (slice_index places j + c)))
            (q ∙ ap (λ y. slot y (suc d)) t.0 ∙ ap (λ d. slot x (suc d)) t.1) h

        go : ((p : NamedPort NodeName) × IsEnd z N p (slot_ref (slice_index places j + c)))
            ⊎ IsWireEnd reached (slot_ref (slice_index places j + c)) →
            IsEnd z N (slot (name_of z places j) (suc c)) (slot_ref (slice_index places j + c))
        go (inl t) = of t.0 t.1 (view w places numbers left_are N reached s t.0 (slot_ref n) t.1)
        go (inr t) = absurd (omega (arith, t.2))

    pub word_of_slot : IsWordOf w N reached places (z.free + 3 * j + (c + 1)) (slice_index places j + c)
    word_of_slot = record {
      only = λ e m h o. only_field e m (view w places numbers left_are N reached s (port a) e h) o;
      owned = λ f. (
        slot_ref n,
        subst (λ p. IsEnd z N p (slot_ref n)) (sym is) (is_end f),
        record { n = n; owns = owns_field f; no_wire = λ h. subst IsWirePart part_is h; holds = refl },
      );
    }
