-- A chain that is followed from a port's word passes no wire twice, so it ends within as many steps as there are words.
use Rattle.std.proofs.Common.{◌≡◌, ◌≢◌, ℕ, zero, suc, ◌+◌, ◌-◌, ◌==◌, ◌<◌, ◌≤◌, Bool, true, false}
use Rattle.std.proofs.Common.{if◌then◌else◌, nat_eq, nat_lt, eq-eqb, ne_eqb, List, [], ◌∷◌}
use Rattle.std.proofs.Common.{slice_index, ◌⊎◌, inl, inr, refl, sym, ap, ◌∙◌, subst, arith}
use Rattle.std.proofs.lemmas.Bool.{cases_eq, cases_lt}
use Rattle.std.proofs.lemmas.Bool.Decides.{nat_tests}
use Rattle.ol_law_edges.specs.Edges.{IsIn, ends}
use Rattle.ol_net.specs.Nets.{NamedPort, NamedNet}
use Rattle.ol_rules.specs.declared.journal.NodeName.{NodeName}
use Rattle.ol_wire.specs.declared.layout.Parts.{Parts}
use Rattle.ol_wire.specs.References.{wire_ref, place_in, IsWireRef, IsRef, IsWholeRef}
use Rattle.ol_wire.specs.Layout.{WordPart, ticket, live_word, port, field, wire, between, left, right, entry, past}
use Rattle.ol_wire.specs.Layout.{part_of_word, place_of, table_size, block, port_word}
use Rattle.ol_wire.specs.Edges.{edge_in, edges_in}
use Rattle.ol_wire.specs.Stands.{IsEnd, of_port, principal, auxiliary, IsWireEnd}
use Rattle.ol_wire.specs.Closed.{ClosedTable, events_in}
use Rattle.ol_wire.specs.Standing.{WordsStandFor, IsWirePart}
use Rattle.ol_wire.proofs.InWords.References.{node_sort, slot_sort}
use Rattle.ol_wire.proofs.InWords.Places.{part_port}
use Rattle.ol_wire.proofs.InWords.Claimed.{EdgeAt, at_wire, at_field, at_cell, edge_at}
use Rattle.ol_reduce.specs.Following.{OwnsWord, LeadsTo, last, more, IsStart, value_after, IsPassed}
use Rattle.ol_reduce.proofs.Forward.{seconds, ends_split, first_counts, second_counts}
use Rattle.ol_reduce.proofs.Forward.{seconds_append, own_edge, goes_on, es, row}

-- ---- so many different numbers below m are at most m

other_than : (a b m : ℕ) → a < suc m → a ≢ m → (if a == m then b else a) ≡ a
other_than a b m lt d = ap (λ t. if t then b else a) (ne_eqb a m d)

moved : (a b m : ℕ) → a ≡ m → (if a == m then b else a) ≡ b
moved a b m e = ap (λ t. if t then b else a) (eq-eqb a m e)

pub pigeon : (m n : ℕ) (f : ℕ → ℕ) → ((k : ℕ) → k < n → f k < m) → ((i j : ℕ) → i < j → j < n → f i ≢ f j) → n ≤ m
pigeon m zero f low apart = omega arith
pigeon zero (suc n) f low apart = absurd (let h = low 0 (omega arith) in omega arith)
pigeon (suc m) (suc n) f low apart = let ih = pigeon m n g g_low g_apart in omega arith
  where
    g : ℕ → ℕ
    g k = if f k == m then f n else f k

    g_low : (k : ℕ) → k < n → (if f k == m then f n else f k) < m
    g_low k lt = elim (cases_eq (f k) m) [
      | inl e ↦ omega (arith, moved (f k) (f n) m e, apart k n lt (omega arith), low n (omega arith), e)
      | inr d ↦ omega (arith, other_than (f k) (f n) m (low k (omega arith)) d, low k (omega arith), d)
    ]

    g_apart : (i j : ℕ) → i < j → j < n → (if f i == m then f n else f i) ≢ (if f j == m then f n else f j)
    g_apart i j lt ltn e = elim (cases_eq (f i) m) [
      | inl a ↦ elim (cases_eq (f j) m) [
        | inl b ↦ apart i j lt (omega arith) (a ∙ sym b)
        | inr b ↦ apart j n ltn (omega arith)
            (sym (other_than (f j) (f n) m (low j (omega arith)) b) ∙ sym e ∙ moved (f i) (f n) m a)
      ]
      | inr a ↦ elim (cases_eq (f j) m) [
        | inl b ↦ apart i n (omega arith) (omega arith)
            (sym (other_than (f i) (f n) m (low i (omega arith)) a) ∙ e ∙ moved (f j) (f n) m b)
        | inr b ↦ apart i j lt (omega arith)
            (sym (other_than (f i) (f n) m (low i (omega arith)) a) ∙ e
            ∙ other_than (f j) (f n) m (low j (omega arith)) b)
      ]
    ]

-- ---- a wire's own edge

wire_row : (net : NamedNet NodeName) (at : WordPart) (n word next : ℕ) → IsWirePart at → word ≢ 0 →
    IsIn {X = ℕ × ℕ} (wire_ref n, word) (edge_in net true at n word next)
wire_row net (wire j) n word next h f = subst
    (λ b. IsIn {X = ℕ × ℕ} (wire_ref n, word) (if b then [] else (wire_ref n, word) ∷ []))
    (sym (ne_eqb word 0 f)) (inl refl)
wire_row net (between t q p) n word next h f = subst
    (λ b. IsIn {X = ℕ × ℕ} (wire_ref n, word) (if b then [] else (wire_ref n, word) ∷ []))
    (sym (ne_eqb word 0 f)) (inl refl)
wire_row net ticket n word next h f = elim h [ ]
wire_row net live_word n word next h f = elim h [ ]
wire_row net (port k) n word next h f = elim h [ ]
wire_row net (field x s) n word next h f = elim h [ ]
wire_row net left n word next h f = elim h [ ]
wire_row net right n word next h f = elim h [ ]
wire_row net entry n word next h f = elim h [ ]
wire_row net past n word next h f = elim h [ ]

pub events_few : (z : Parts) (words : List ℕ) → events_in z words ≤ z.fuel
events_few z words = elim (cases_lt (slice_index words 0) z.fuel) [
  | inl lt ↦ let e : nat_lt (slice_index words 0) z.fuel ≡ true = grind (arith, nat_tests) in
      let q : events_in z words ≡ slice_index words 0 = ap
      (λ b. if b then slice_index words 0 else z.fuel) e in omega (arith, q, lt)
  | inr ge ↦ let e : nat_lt (slice_index words 0) z.fuel ≡ false = grind (arith, nat_tests) in
      let q : events_in z words ≡ z.fuel = ap (λ b. if b then slice_index words 0 else z.fuel) e in omega (arith, q)
]

module _ (w : ClosedTable) (N : NamedNet NodeName) (reached : ℕ → Bool) (s : WordsStandFor w N reached) where
  abbrev z : Parts
  z = w.plan.parts

  abbrev word : ℕ → ℕ
  word n = slice_index w.words n

  abbrev Owns : ℕ → ℕ → Type 0
  Owns n e = OwnsWord w N reached n e

  abbrev Goes : ℕ → ℕ → Type 0
  Goes e t = LeadsTo w N reached e t

  -- how often v is what a word holds, in two rows
  one_row : (v n k : ℕ) → n < k → seconds v (row w N reached s n) ≤ seconds v (edges_in z N reached w.words k)
  one_row v n zero lt = absurd (omega arith)
  one_row v n (suc k) lt = elim (cases_eq n k) [
    | inl e ↦ omega (
      arith,
      seconds_append v (edges_in z N reached w.words k) (row w N reached s k),
      ap (λ n. seconds v (row w N reached s n)) e,
    )
    | inr d ↦ omega (
      arith,
      seconds_append v (edges_in z N reached w.words k) (row w N reached s k),
      one_row v n k (omega (arith, d, lt)),
    )
  ]

  two_rows : (v n m k : ℕ) → n < m → m < k →
      seconds v (row w N reached s n) + seconds v (row w N reached s m) ≤ seconds v (edges_in z N reached w.words k)
  two_rows v n m zero lt ltk = absurd (omega arith)
  two_rows v n m (suc k) lt ltk = elim (cases_eq m k) [
    | inl e ↦ omega (
      arith,
      seconds_append v (edges_in z N reached w.words k) (row w N reached s k),
      ap (λ n. seconds v (row w N reached s n)) e,
      one_row v n k (omega (arith, e, lt)),
    )
    | inr d ↦ omega (
      arith,
      seconds_append v (edges_in z N reached w.words k) (row w N reached s k),
      two_rows v n m k lt (omega (arith, d, ltk)),
    )
  ]

  row_second : (n e v : ℕ) → Owns n e → word n ≡ v → 1 ≤ seconds v (row w N reached s n)
  row_second n e v o q = second_counts v e (row w N reached s n)
      (subst (λ v. IsIn {X = ℕ × ℕ} (e, v) (row w N reached s n)) q o.edge)

  -- two different words hold v
  held_twice : (n m e f v : ℕ) → Owns n e → Owns m f → word n ≡ v → word m ≡ v → n ≢ m →
      2 ≤ seconds v (es w N reached s)
  held_twice n m e f v o p a b d = elim (cases_lt n m) [
    | inl lt ↦ omega (arith, two_rows v n m (table_size z) lt p.within, row_second n e v o a, row_second m f v p b)
    | inr ge ↦ omega (
      arith,
      two_rows v m n (table_size z) (omega (arith, ge, d)) o.within,
      row_second n e v o a,
      row_second m f v p b,
    )
  ]

  -- ---- what a chain leads to

  -- it stands behind the ticket word and the live word
  pub owner_behind : (n e : ℕ) → Owns n e → 1 < n
  owner_behind n e o = elim (cases_eq n 0) [
    | inl q ↦ absurd (no_ticket at (ap (part_of_word z) q))
    | inr d ↦ elim (cases_eq n 1) [
      | inl q ↦ absurd (no_live at (ap (part_of_word z) q))
      | inr f ↦ omega (arith, d, f)
    ]
  ]
    where
      at : EdgeAt (part_of_word z n) n (word n) (word (suc n)) e (word n)
      at = edge_at N (reached n) (part_of_word z n) n (word n) (word (suc n)) e (word n) o.edge

      no_ticket : EdgeAt (part_of_word z n) n (word n) (word (suc n)) e (word n) → part_of_word z n ≡ ticket → ⊥
      no_ticket (at_wire p l a b f) t = p t
      no_ticket (at_field x c p a b f) t = let bad : field x c ≡ ticket = sym p ∙ t in cc
      no_ticket (at_cell p a b f) t = let bad : left ≡ ticket = sym p ∙ t in cc

      no_live : EdgeAt (part_of_word z n) n (word n) (word (suc n)) e (word n) → part_of_word z n ≡ live_word → ⊥
      no_live (at_wire p l a b f) t = l t
      no_live (at_field x c p a b f) t = let bad : field x c ≡ live_word = sym p ∙ t in cc
      no_live (at_cell p a b f) t = let bad : left ≡ live_word = sym p ∙ t in cc

  pub last_word : (e t : ℕ) → Goes e t → (n : ℕ) × (f : ℕ) × Owns n f × (word n ≡ t)
  last_word e t (last n o q) = (n, e, o, q)
  last_word e t (more n o g) = last_word (word n) t g

  -- it is a whole reference to something that was made
  pub led_ref : (e t : ℕ) → Goes e t → IsRef t × IsWholeRef t × (place_in t < table_size z)
  led_ref e t g =
      let l = last_word e t g in
      let r = s.refs l.0 (owner_behind l.0 l.1 l.2) l.2.filled in
      let q = subst (λ t. IsRef t × IsWholeRef t × (place_in t < block z (events_in z w.words))) l.3 r in
      (q.0, q.1, omega (arith, q.2, events_few z w.words))

  -- which has its place among the words in use
  pub led_used : (e t : ℕ) → Goes e t → place_in t < block z (events_in z w.words)
  led_used e t g =
      let l = last_word e t g in
      let r = s.refs l.0 (owner_behind l.0 l.1 l.2) l.2.filled in
      (subst (λ t. IsRef t × IsWholeRef t × (place_in t < block z (events_in z w.words))) l.3 r).2

  pub led_ends : (e t : ℕ) → Goes e t → 0 < ends nat_eq t (es w N reached s)
  led_ends e t g =
      let l = last_word e t g in
      let i = subst (λ t. IsIn {X = ℕ × ℕ} (l.1, t) (es w N reached s)) l.3 (own_edge w N reached s l.0 l.1 l.2) in
      omega (arith, ends_split t (es w N reached s), second_counts t l.1 (es w N reached s) i)

  -- a free port or a reached wire
  pub data Names (v : ℕ) : Type 0 where
    a_port : (k : ℕ) → k < z.free → v ≡ wire_ref (port_word k) → place_in v ≡ port_word k → Names v
    a_wire : v ≡ wire_ref (place_in v) → reached (place_in v) ≡ true → Names v

  pub led_wire : (e v : ℕ) → Goes e v → IsWireRef v → Names v
  led_wire e v g sort = go (s.stands.others v (led_ends e v g))
    where
      at_end : (p : NamedPort NodeName) (u : ℕ) → IsEnd z N p u → u ≡ v → Names v
      at_end p u (of_port {n = n} lt) q = a_port n (omega (arith, lt, s.ports)) (sym q)
          (let r : place_in (wire_ref (port_word n)) ≡ port_word n = omega arith in ap place_in (sym q) ∙ r)
      at_end p u (principal {x = x} k i h) q = absurd (omega (arith, q, sort, node_sort k i (place_of z x)))
      at_end p u (auxiliary {x = x} {s = c} k i h lt) q = absurd (omega (arith, q, sort, slot_sort (place_of z x + c)))

      go : ((p : NamedPort NodeName) × IsEnd z N p v) ⊎ IsWireEnd reached v → Names v
      go (inl t) = at_end t.0 v t.1 refl
      go (inr t) =
          let q : t.0 ≡ place_in v = (let r : place_in (wire_ref t.0) ≡ t.0 = omega arith in
          sym r ∙ ap place_in (sym t.2)) in
          a_wire (t.2 ∙ ap wire_ref q) (subst (λ u. reached u ≡ true) q t.1)

  -- the words up to the last free port are no wires
  pub no_wire_below : (u : ℕ) → u ≤ z.free + 1 → IsWirePart (part_of_word z u) → ⊥
  no_wire_below u le h = elim (cases_eq u 0) [
    | inl q ↦ subst (λ u. IsWirePart (part_of_word z u)) q h
    | inr d ↦ elim (cases_eq u 1) [
      | inl q ↦ subst (λ u. IsWirePart (part_of_word z u)) q h
      | inr f ↦ let e : u ≡ port_word (u - 2) = omega (arith, d, f) in
          subst IsWirePart (part_port z (u - 2) (omega (arith, le, d, f)))
          (subst (λ u. IsWirePart (part_of_word z u)) e h)
    ]
  ]

  pub passed_wire : (e v : ℕ) → Goes e v → IsPassed w v → (v ≡ wire_ref (place_in v)) × (reached (place_in v) ≡ true)
  passed_wire e v g h = go (led_wire e v g h.0)
    where
      go : Names v → (v ≡ wire_ref (place_in v)) × (reached (place_in v) ≡ true)
      go (a_port k lt q r) = absurd (omega (arith, h.1, lt, r))
      go (a_wire q r) = (q, r)

  pub passed_owns : (e v : ℕ) → Goes e v → IsPassed w v → Owns (place_in v) v
  passed_owns e v g h =
      let t = passed_wire e v g h in
      let i = wire_row N (part_of_word z (place_in v)) (place_in v) (word (place_in v))
      (word (suc (place_in v))) (s.wires (place_in v) t.1) h.2 in
      record {
        within = (led_ref e v g).2;
        filled = h.2;
        end = inl t.0;
        edge = subst (λ b. IsIn {X = ℕ × ℕ} (v, word (place_in v))
            (edge_in N b (part_of_word z (place_in v)) (place_in v) (word (place_in v))
            (word (suc (place_in v))))) (sym t.1)
            (subst (λ u. IsIn {X = ℕ × ℕ} (u, word (place_in v))
            (edge_in N true (part_of_word z (place_in v)) (place_in v) (word (place_in v))
            (word (suc (place_in v))))) (sym t.0) i);
      }

  module _ (e first : ℕ) (start : IsStart w N reached e first) where
    abbrev value : ℕ → ℕ
    value k = value_after w.words first k

    pub along : (k : ℕ) → ((j : ℕ) → j < k → IsPassed w (value j)) → Goes e (value k)
    along zero h = last start.n start.owns start.holds
    along (suc k) h =
        let g = along k (λ j lt. h j (omega arith)) in
        goes_on w N reached s e (value k) (value (suc k)) g (place_in (value k))
        (passed_owns e (value k) g (h k (omega arith))) refl

    module _ (k : ℕ) (passed : (j : ℕ) → j < k → IsPassed w (value j)) where
      goes : (j : ℕ) → j < k → Goes e (value j)
      goes j lt = along j (λ i below. passed i (omega arith))

      place : ℕ → ℕ
      place j = place_in (value j)

      -- the word that holds the value
      source : ℕ → ℕ
      source zero = start.n
      source (suc j) = place_in (value j)

      held : (j : ℕ) → j < k → (f : ℕ) × Owns (source j) f × (word (source j) ≡ value j)
      unfolding source
      held zero lt = (e, start.owns, start.holds)
      held (suc j) lt = (value j, passed_owns e (value j) (goes j (omega arith)) (passed j (omega arith)), refl)

      -- two that are the same are held by one word
      one_source : (i j : ℕ) → i < k → j < k → place_in (value i) ≡ place_in (value j) → source i ≡ source j
      one_source i j lti ltj q = elim (cases_eq (source i) (source j)) [
        | inl same ↦ same
        | inr d ↦
            let a = passed_wire e (value i) (goes i lti) (passed i lti) in
            let b = passed_wire e (value j) (goes j ltj) (passed j ltj) in
            let same : value j ≡ value i = b.0 ∙ ap wire_ref (sym q) ∙ sym a.0 in
            let two = held_twice (source i) (source j) (held i lti).0 (held j ltj).0 (value i)
            (held i lti).1 (held j ltj).1 (held i lti).2 ((held j ltj).2 ∙ same) d in
            let own = first_counts (value i) (word (place_in (value i))) (es w N reached s)
            (own_edge w N reached s (place_in (value i)) (value i)
            (passed_owns e (value i) (goes i lti) (passed i lti))) in
            absurd (omega (
              arith,
              two,
              own,
              ends_split (value i) (es w N reached s),
              s.stands.wires (value i) (place_in (value i), a.1, a.0),
            ))
      ]

      apart : (i j : ℕ) → i < j → j < k → place_in (value i) ≢ place_in (value j)
      unfolding source
      apart i zero lt ltk q = absurd (omega arith)
      apart zero (suc j) lt ltk q =
          let t = passed_wire e (value j) (goes j (omega arith)) (passed j (omega arith)) in
          start.no_wire (subst (λ n. IsWirePart (part_of_word z n))
          (sym (one_source 0 (suc j) (omega arith) ltk q)) (s.wires (place_in (value j)) t.1))
      apart (suc i) (suc j) lt ltk q = apart i j (omega arith) (omega arith)
          (one_source (suc i) (suc j) (omega arith) ltk q)

      pub few : k < table_size z
      few =
          let h = pigeon (table_size z - 1) k (λ j. place_in (value j) - 1) low differ in omega (arith, h)
        where
          low : (j : ℕ) → j < k → place_in (value j) - 1 < table_size z - 1
          low j lt = omega (arith, (passed j lt).1, (led_ref e (value j) (goes j lt)).2)

          differ : (i j : ℕ) → i < j → j < k → place_in (value i) - 1 ≢ place_in (value j) - 1
          differ i j lt ltk q = apart i j lt ltk (omega (arith, q, (passed i (omega arith)).1, (passed j ltk).1))
