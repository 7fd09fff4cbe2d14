-- The words after a ticket below the fuel.
-- Used in Cells, Fields, Keeps and Seats.
use Rattle.std.proofs.Common.{◌≡◌, ◌≢◌, ℕ, zero, suc, ◌+◌, ◌-◌, ◌%◌, ◌/◌, ◌<◌, ◌≤◌, ◌⊎◌, inl, inr, Some, List, [], ◌∷◌}
use Rattle.std.proofs.Common.{◌++◌, length, get_or, set, slice_get, slice_index, slice_set, sym, refl, ap, ◌∙◌, subst}
use Rattle.std.proofs.Common.{arith, length-set, get_or-set_other, get_or-set_same}
use Rattle.std.proofs.lemmas.Bool.{cases_eq, cases_lt}
use Rattle.std.proofs.lemmas.Option.{slice_get_within}
use mathlib.Core.Option.{some}
use lib.ListN.{get_elem?}
use Rattle.ol_law_edges.specs.Edges.{IsIn}
use Rattle.ol_net.specs.Parts.{arity}
use Rattle.ol_rules.specs.declared.journal.NodeName.{NodeName}
use Rattle.ol_rules.specs.declared.journal.NodeName.TheVariants.{Init, Born}
use Rattle.ol_wire.specs.declared.layout.Parts.{Parts}
use Rattle.ol_wire.specs.declared.plan.Plan.{Plan}
use Rattle.ol_wire.specs.declared.view.View.{View}
use Rattle.ol_wire.specs.References.{kind_in, place_in, IsNodeRef}
use Rattle.ol_wire.specs.Layout.{ticket, live_word, field, left, right, entry, part_of_word, block}
use Rattle.ol_wire.specs.Layout.{table_size, place_of, start_cell, start_node}
use Rattle.ol_wire.specs.Weights.{total, pairs, weigh, Empties}
use Rattle.ol_wire.specs.Events.{Event}
use Rattle.ol_wire.specs.Blocks.{block_words}
use Rattle.ol_wire.specs.LinkLists.{to_write, links_of}
use Rattle.ol_wire.specs.Plays.{event_in}
use Rattle.ol_wire.specs.StepPlays.{rest, known_at, IsLookedUp, ticketed}
use Rattle.ol_wire.specs.Starts.{facing_pairs}
use Rattle.ol_wire.specs.Laid.{field_of, node_word}
use Rattle.ol_wire.specs.Rule.{Table, IsView, IsLasting, IsMadeRef, Kept, WordsKeep, Drawn}
use Rattle.ol_wire.proofs.InWords.Held.{Holds, held_full, held_within, word_full, owner}
use Rattle.ol_wire.proofs.InWords.Places.{part_entry, part_field, part_start_cell, is_left}
use Rattle.ol_wire.proofs.Ticket.Journal.{got_one_more, length_one_more}
use Rattle.ol_wire.proofs.Ticket.Lists.{total_set, by_place, weigh_set, put_words, put_length}
use Rattle.ol_wire.proofs.Ticket.Lists.{put_else, put_there, put_weigh}
use Rattle.ol_wire.proofs.Ticket.Refs.{event_of_pair, made_on, maybe_at, block_refs}

-- the table after ticket t of seat id, whose view is v
abbrev pub table_after : Table → ℕ → View → Table
table_after s id v = record {
  words = slice_set s.words 0 (slice_index s.words 0 + 1);
  homes = s.homes;
  views = slice_set s.views id (ticketed v (slice_index s.words 0));
}

-- the words as they would be, after ticket t for the event e and the cell with left word w
abbrev pub full_after : Parts → Event → ℕ → ℕ → List ℕ → List ℕ
full_after z e t w full = put_words (block z t) (block_words z e t) (slice_set (slice_set full 0 (t + 1)) w 0)

-- what full_after has at each word
module _ (z : Parts) (e : Event) (t w : ℕ) (full : List ℕ) where
  set_wide : length (set (set full 0 (t + 1)) w 0) ≡ length full
  set_wide = length-set (set full 0 (t + 1)) w 0 ∙ length-set full 0 (t + 1)

  pub after_wide : length (full_after z e t w full) ≡ length full
  after_wide = put_length (block z t) (block_words z e t) (set (set full 0 (t + 1)) w 0) ∙ set_wide

  pub full_there : (j : ℕ) → j < 10 → t < z.fuel → length full ≡ table_size z →
      slice_index (full_after z e t w full) (block z t + j) ≡ slice_index (block_words z e t) j
  full_there j lt low wide = put_there (block z t) (block_words z e t)
      (set (set full 0 (t + 1)) w 0) j lt (omega (arith, set_wide, wide))

  -- outside of the first ten words of the block
  pub full_out : (u : ℕ) → (u < block z t) ⊎ (block z t + 10 ≤ u) → u ≢ 0 →
      slice_index (full_after z e t w full) u ≡ slice_index (slice_set full w 0) u
  full_out u o some_u = put_else (block z t) (block_words z e t) (set (set full 0 (t + 1)) w 0) u o
      ∙ elim (cases_eq u w) [
        | inl q ↦ elim (cases_lt w (length full)) [
          | inl lt ↦ ap (λ u. get_or (set (set full 0 (t + 1)) w 0) u 0) q
              ∙ get_or-set_same (set full 0 (t + 1)) w 0 0
              (omega (arith, lt, length-set full 0 (t + 1)))
              ∙ sym (ap (λ u. get_or (set full w 0) u 0) q ∙ get_or-set_same full w 0 0 lt)
          | inr ge ↦ past u (set (set full 0 (t + 1)) w 0) (omega (arith, set_wide, q, ge))
              ∙ sym (past u (set full w 0) (omega (arith, length-set full w 0, q, ge)))
        ]
        | inr d ↦ get_or-set_other (set full 0 (t + 1)) w u 0 0 d
            ∙ get_or-set_other full 0 u (t + 1) 0 some_u ∙ sym (get_or-set_other full w u 0 0 d)
      ]
    where
      past : (u : ℕ) (l : List ℕ) → length l ≤ u → get_or l u 0 ≡ 0
      past u [] le = refl
      past zero (x ∷ l) le = absurd (omega arith)
      past (suc u) (x ∷ l) le = past u l (omega arith)

  pub full_else : (u : ℕ) → (u < block z t) ⊎ (block z t + 10 ≤ u) → u ≢ 0 → u ≢ w →
      slice_index (full_after z e t w full) u ≡ slice_index full u
  full_else u o some_u d = full_out u o some_u ∙ get_or-set_other full w u 0 0 d

  pub full_taken : w < block z t → w ≢ 0 → w < length full → slice_index (full_after z e t w full) w ≡ 0
  full_taken lt some_w wide = full_out w (inl lt) some_w ∙ get_or-set_same full w 0 0 wide

  pub full_ticket : w ≢ 0 → 0 < length full → slice_index (full_after z e t w full) 0 ≡ t + 1
  full_ticket some_w wide = put_else (block z t) (block_words z e t)
      (set (set full 0 (t + 1)) w 0) 0 (inl (omega arith))
      ∙ get_or-set_other (set full 0 (t + 1)) w 0 0 0 (λ e. some_w (sym e)) ∙ get_or-set_same full 0 (t + 1) 0 wide

-- What all views hold with the words: the seat's pair is gone, and its block is due.
written_after : (h : ℕ → ℕ → ℕ) → Empties h →
    (words full : List ℕ) (views : List View) (id : ℕ) (v v' : View) (n b t w x : ℕ) (xs : List ℕ)
    → get_elem? views id ≡ some v → length words ≡ n → length full ≡ n → b + length xs ≤ n
    → get_or words 0 0 ≡ t → get_or full 0 0 ≡ t → get_or full w 0 ≡ x → 0 < w → w < b
    → ((j : ℕ) → b ≤ j → get_or full j 0 ≡ 0)
    → v.due ≡ [] → v.taken ≡ (w, x) ∷ [] → v'.due ≡ to_write b xs → v'.taken ≡ []
    → weigh h words n + total (λ (u : View). pairs h u.due + pairs h u.taken) views ≡ weigh h full n
    → weigh h (set words 0 (t + 1)) n + total (λ (u : View). pairs h u.due + pairs h u.taken)
    (set views id v') ≡ weigh h (put_words b xs (set (set full 0 (t + 1)) w 0)) n
written_after h z words full views id v v' n b t w x xs here wide full_wide in_n words_first
    full_first at_w some_w low nothing no_due has_taken due taken before =
    let l1 : length (set full 0 (t + 1)) ≡ length full = length-set full 0 (t + 1) in
    let l2 : length (set (set full 0 (t + 1)) w 0) ≡ length full = length-set (set full 0 (t + 1)) w 0 ∙ l1 in
    let at_w' : get_or (set full 0 (t + 1)) w 0 ≡ x = get_or-set_other full 0 w (t + 1) 0 (λ e. omega arith) ∙ at_w in
    let empty : (j : ℕ) → b ≤ j → get_or (set (set full 0 (t + 1)) w 0) j 0 ≡ 0 = λ j le.
    get_or-set_other (set full 0 (t + 1)) w j 0 0 (λ e. omega arith)
    ∙ get_or-set_other full 0 j (t + 1) 0 (λ e. omega arith) ∙ nothing j le in
    omega (
      arith,
      before,
      weigh_set h words n 0 (t + 1) (omega arith) (omega (arith, wide)),
      ap (h 0) words_first,
      total_set (λ (u : View). pairs h u.due + pairs h u.taken) views id v v' here,
      ap (pairs h) no_due,
      ap (pairs h) has_taken,
      ap (pairs h) due,
      ap (pairs h) taken,
      put_weigh h z b xs (set (set full 0 (t + 1)) w 0) n empty in_n (omega (arith, l2, full_wide)),
      weigh_set h (set full 0 (t + 1)) n w 0 (omega arith) (omega (arith, l1, full_wide)),
      ap (h w) at_w',
      z w,
      weigh_set h full n 0 (t + 1) (omega arith) (omega (arith, full_wide)),
      ap (h 0) full_first,
    )

past_end : (l : List ℕ) (u : ℕ) → length l ≤ u → get_or l u 0 ≡ 0
past_end [] u le = refl
past_end (x ∷ l) zero le = absurd (omega arith)
past_end (x ∷ l) (suc u) le = past_end l u (omega arith)

-- What a seat that has looked up its pair knows of the words, and what becomes of them with its ticket.
module _ (p : Plan) (s : Table) (k : Kept p s) (id : ℕ) (v : View)
    (here : get_elem? s.views id ≡ some v) (w : ℕ) (ready : IsLookedUp v w)
    (low : slice_index s.words 0 < p.parts.fuel) where
  abbrev z : Parts
  z = p.parts

  -- the ticket that it draws
  abbrev t : ℕ
  t = slice_index s.words 0

  abbrev e : Event
  e = event_in v

  -- what it knows of the fields of f and of g
  abbrev pub a : ℕ → ℕ
  a n = known_at v.known (place_in (event_in v).f + n)

  abbrev pub b : ℕ → ℕ
  b n = known_at v.known (place_in (event_in v).g + n)

  abbrev pub full' : List ℕ
  full' = full_after p.parts (event_in v) (slice_index s.words 0) w k.full

  pub drawn_is : length k.log ≡ t
  drawn_is = k.tickets.below low

  seen : IsView s v
  seen = (id, here)

  pub parts_are : v.parts ≡ z
  parts_are = (k.seats.plans v seen ready.held).0

  claimed : IsIn (w, v.last.0) v.taken
  claimed = subst (λ l. IsIn (w, v.last.0) l) (sym ready.taken) (inl refl)

  pub is_left_word : part_of_word z w ≡ left
  is_left_word = (k.seats.taken v w v.last.0 seen claimed).0

  pub left_some : v.last.0 ≢ 0
  left_some = (k.seats.taken v w v.last.0 seen claimed).1

  pub left_full : slice_index k.full w ≡ v.last.0
  left_full = held_full p s k v w v.last.0 seen (inr claimed)

  pub not_ticket : w ≢ 0
  not_ticket q = let bad : ticket ≡ left = ap (part_of_word z) (sym q) ∙ is_left_word in cc

  pub not_live : w ≢ 1
  not_live q = let bad : live_word ≡ left = ap (part_of_word z) (sym q) ∙ is_left_word in cc

  -- the pair's cell came before the ticket
  pub cell_below : w < block z t
  cell_below = elim (cases_lt w (block z t)) [
    | inl lt ↦ lt
    | inr ge ↦ absurd (left_some (sym left_full ∙ k.words.fresh w (omega (arith, ge, drawn_is))))
  ]

  -- what a view knows stays
  pub known_full : (u : View) (n y : ℕ) → IsView s u → IsIn (n, y) u.known →
      (slice_index k.full n ≡ y) × (y ≢ 0) × (n ≢ 0)
  known_full u n y is i =
      let f = k.words.known u n y is i in
      let some_y : slice_index s.words n ≢ 0 = λ q. f.1 (sym f.0 ∙ q) in (
        (elim (cases_lt n (table_size p.parts)) [
          | inl lt ↦ word_full p s k n lt some_y ∙ f.0
          | inr ge ↦ absurd (some_y (past_end s.words n (omega (arith, ge, k.words.wide))))
        ]),
        f.1,
        (λ q. subst (λ n. IsLasting (part_of_word z n)) q f.2),
      )

  pub right_full : slice_index k.full (suc w) ≡ v.last.1
  right_full = (known_full v (suc w) v.last.1 seen ready.right).0

  pub right_some : v.last.1 ≢ 0
  right_some = (known_full v (suc w) v.last.1 seen ready.right).1

  sides : IsNodeRef v.last.0 × IsNodeRef v.last.1
  sides =
      let h = k.words.cells w is_left_word (λ q. left_some (sym left_full ∙ q)) in
      (subst IsNodeRef left_full h.0, subst IsNodeRef right_full h.1)

  pub nodes_are : IsNodeRef e.f × IsNodeRef e.g
  nodes_are = event_of_pair IsNodeRef v.last.0 v.last.1 sides.0 sides.1

  lasting_past : (n : ℕ) → IsLasting (part_of_word z n) → 1 < n
  lasting_past zero l = absurd l
  lasting_past (suc zero) l = absurd l
  lasting_past (suc (suc n)) l = omega arith

  field_known : (n y : ℕ) → IsIn (n, y) v.known → (slice_index k.full n ≡ y) × (y ≢ 0) × IsMadeRef z k.log y
  field_known n y i =
      let f = known_full v n y seen i in
      let g = lasting_past n (k.words.known v n y seen i).2 in
      (f.0, f.1, subst (IsMadeRef z k.log) f.0 (k.words.refs n g (λ q. f.1 (sym f.0 ∙ q))))

  -- the fields of f and of g
  pub f_field : (n : ℕ) → n < arity (kind_in e.f) →
      (slice_index k.full (place_in e.f + n) ≡ a n) × (a n ≢ 0) × IsMadeRef z k.log (a n)
  f_field n lt = field_known (place_in e.f + n) (a n) (ready.f_fields n lt)

  pub g_field : (n : ℕ) → n < arity (kind_in e.g) →
      (slice_index k.full (place_in e.g + n) ≡ b n) × (b n ≢ 0) × IsMadeRef z k.log (b n)
  g_field n lt = field_known (place_in e.g + n) (b n) (ready.g_fields n lt)

  pub due_is : (ticketed v t).due ≡ to_write (block z t) (block_words z e t)
  due_is = ap (λ x. to_write (block x t) (block_words x e t)) parts_are

  pub pending_is : (ticketed v t).pending ≡ links_of z e t a b
  pending_is = ap (λ x. links_of x e t a b) parts_are

  pub taken_is : (ticketed v t).taken ≡ []
  taken_is = ap rest ready.taken

  abbrev s' : Table
  s' = table_after s id v

  -- what holds of the view after the ticket and of each other holds of each
  pub viewed : (P : View → Type 0) → P (ticketed v t) → ((u : View) → IsView s u → P u) → (u : View) → IsView s' u → P u
  viewed P new old u is = by_place P s.views id (ticketed v t) new (λ j y d q. old y (j, q)) is.0 u is.1

  -- a word of a cell isn't among the first ten of a block
  outside : (u : ℕ) → (part_of_word z u ≡ left) ⊎ (part_of_word z u ≡ right) → (u < block z t) ⊎ (block z t + 10 ≤ u)
  outside u h = elim (cases_lt u (block z t)) [
    | inl lt ↦ inl lt
    | inr ge ↦ elim (cases_lt u (block z t + 10)) [
      | inr far ↦ inr far
      | inl near ↦ elim (cases_lt (u - block z t) 2) [
        | inl small ↦
            let q : u ≡ block z t + (u - block z t) = omega arith in
            absurd (no_entry (ap (part_of_word z) q ∙ part_entry z t (u - block z t) low small) h)
        | inr big ↦
            let m = u - block z t - 2 in
            let q : u ≡ place_of z (Born t (m / 2)) + m % 2 = omega arith in
            absurd (no_field (Born t (m / 2)) (m % 2)
            (ap (part_of_word z) q ∙ part_field z (Born t (m / 2)) (m % 2) (low, omega arith) (omega arith)) h)
      ]
    ]
  ]
    where
      no_entry : part_of_word z u ≡ entry → (part_of_word z u ≡ left) ⊎ (part_of_word z u ≡ right) → ⊥
      no_entry q (inl r) = let bad : entry ≡ left = sym q ∙ r in cc
      no_entry q (inr r) = let bad : entry ≡ right = sym q ∙ r in cc

      no_field : (x : NodeName) (n : ℕ) → part_of_word z u ≡ field x n →
          (part_of_word z u ≡ left) ⊎ (part_of_word z u ≡ right) → ⊥
      no_field x n q (inl r) = let bad : field x n ≡ left = sym q ∙ r in cc
      no_field x n q (inr r) = let bad : field x n ≡ right = sym q ∙ r in cc

  cell_some : (u : ℕ) → (part_of_word z u ≡ left) ⊎ (part_of_word z u ≡ right) → u ≢ 0
  cell_some u (inl r) q = let bad : ticket ≡ left = ap (part_of_word z) (sym q) ∙ r in cc
  cell_some u (inr r) q = let bad : ticket ≡ right = ap (part_of_word z) (sym q) ∙ r in cc

  pub cell_gone : slice_index full' w ≡ 0
  cell_gone = full_taken z e t w k.full cell_below not_ticket
      (omega (arith, held_within p s k v w v.last.0 seen (inr claimed), k.words.full_wide))

  pub left_word_still : (u : ℕ) → part_of_word z u ≡ left → u ≢ w → slice_index full' u ≡ slice_index k.full u
  left_word_still u r d = full_else z e t w k.full u (outside u (inl r)) (cell_some u (inl r)) d

  pub right_word_still : (u : ℕ) → part_of_word z u ≡ right → slice_index full' u ≡ slice_index k.full u
  right_word_still u r = full_else z e t w k.full u (outside u (inr r)) (cell_some u (inr r))
      (λ q. let bad : left ≡ right = sym is_left_word ∙ ap (part_of_word z) (sym q) ∙ r in cc)

  wide' : length full' ≡ table_size z
  wide' = after_wide z e t w k.full ∙ k.words.full_wide

  in_all : block z t + 10 ≤ table_size z
  in_all = omega (arith, low)

  log_longer : length (k.log ++ e ∷ []) ≡ t + 1
  log_longer = omega (arith, length_one_more k.log e, drawn_is)

  pub ticket_word : slice_index s'.words 0 ≡ t + 1
  ticket_word = get_or-set_same s.words 0 (t + 1) 0 (omega (arith, k.words.wide))

  pub tickets_after : Drawn z.fuel (slice_index s'.words 0) (length (k.log ++ e ∷ []))
  tickets_after = record {
    few = omega (arith, log_longer, low);
    below = λ q. omega (arith, log_longer, ticket_word);
    above = λ q. omega (arith, log_longer, ticket_word, low, q);
  }

  -- no view holds the ticket word
  ticket_full : slice_index k.full 0 ≡ t
  ticket_full = elim (cases_eq (slice_index k.full 0) 0) [
    | inl q ↦ elim (cases_eq t 0) [
      | inl r ↦ q ∙ sym r
      | inr d ↦ word_full p s k 0 (omega arith) d
    ]
    | inr d ↦ of_owner (owner p s k 0 (omega arith) d)
  ]
    where
      of_owner : (slice_index s.words 0 ≡ slice_index k.full 0)
          ⊎ ((u : View) × IsView s u × Holds u 0 (slice_index k.full 0)) → slice_index k.full 0 ≡ t
      of_owner (inl q) = sym q
      of_owner (inr (u, is, inl i)) = absurd ((k.seats.due u 0 (slice_index k.full 0) is i).1)
      of_owner (inr (u, is, inr i)) = let bad : ticket ≡ left = (k.seats.taken u 0
          (slice_index k.full 0) is i).0 in absurd (cc)

  written : (h : ℕ → ℕ → ℕ) → Empties h →
      weigh h s'.words (table_size z) + total
      (λ (u : View). pairs h u.due + pairs h u.taken) s'.views ≡ weigh h full' (table_size z)
  written h q = written_after h q s.words k.full s.views id v (ticketed v t) (table_size z)
      (block z t) t w v.last.0 (block_words z e t) here k.words.wide k.words.full_wide in_all refl
      ticket_full left_full (omega (arith, not_ticket)) cell_below
      (λ j le. k.words.fresh j (omega (
        arith,
        le,
        drawn_is,
      ))) ready.nothing_due ready.taken due_is taken_is (k.words.written h q)

  -- each word, by where it is
  by_word : (P : ℕ → ℕ → Type 0) → ((j : ℕ) → j < 10 →
      P (block z t + j) (slice_index (block_words z e t) j)) → P w 0 →
      ((u : ℕ) → u ≢ 0 → u ≢ w → P u (slice_index k.full u)) → (u : ℕ) → u ≢ 0 → P u (slice_index full' u)
  by_word P new gone old u some_u = elim (cases_lt u (block z t)) [
    | inl lt ↦ elim (cases_eq u w) [
      | inl q ↦ subst (λ u. P u (slice_index full' u)) (sym q) (subst (P w) (sym cell_gone) gone)
      | inr d ↦ subst (P u) (sym (full_else z e t w k.full u (inl lt) some_u d)) (old u some_u d)
    ]
    | inr ge ↦ elim (cases_lt u (block z t + 10)) [
      | inr far ↦
          let d : u ≢ w = λ q. omega (arith, q, cell_below) in
          subst (P u) (sym (full_else z e t w k.full u (inr far) some_u d)) (old u some_u d)
      | inl near ↦
          let j = u - block z t in
          let q : block z t + j ≡ u = omega arith in
          subst (λ u. P u (slice_index full' u)) q
          (subst (P (block z t + j)) (sym (full_there z e t w k.full j
          (omega arith) low k.words.full_wide)) (new j (omega arith)))
    ]
  ]

  -- the two nodes of the pair have been made
  nodes_made : IsMadeRef z k.log e.f × IsMadeRef z k.log e.g
  nodes_made = event_of_pair (IsMadeRef z k.log) v.last.0 v.last.1
      (subst (IsMadeRef z k.log) left_full
      (k.words.refs w (omega (arith, not_ticket, not_live)) (λ q. left_some (sym left_full ∙ q))))
      (subst (IsMadeRef z k.log) right_full
      (k.words.refs (suc w) (omega (arith, not_ticket)) (λ q. right_some (sym right_full ∙ q))))

  pub made_longer : (r : ℕ) → IsMadeRef z k.log r → IsMadeRef z (k.log ++ e ∷ []) r
  made_longer r h = made_on z k.log e r h

  refs : (u : ℕ) → 1 < u → slice_index full' u ≢ 0 → IsMadeRef z (k.log ++ e ∷ []) (slice_index full' u)
  refs u some_u =
      let n = block z (length (k.log ++ e ∷ [])) in
      let new = block_refs z e t n (omega (arith, log_longer)) (made_longer e.f nodes_made.0)
      (made_longer e.g nodes_made.1) in
      by_word (λ u y. 1 < u → y ≢ 0 → IsMadeRef z (k.log ++ e ∷ []) y)
      (λ j lt past. maybe_at n (block_words z e t) new j) (λ past d. absurd (d refl))
      (λ u d d' past y. made_longer (slice_index k.full u) (k.words.refs u past y)) u
      (λ q. omega (arith, q, some_u)) some_u

  cells : (u : ℕ) → part_of_word z u ≡ left → slice_index full' u ≢ 0 →
      IsNodeRef (slice_index full' u) × IsNodeRef (slice_index full' (suc u))
  cells u r n =
      let d : u ≢ w = λ q. n (ap (slice_index full') q ∙ cell_gone) in
      let x = left_word_still u r d in
      let y = right_word_still (suc u) (is_left z u r).0 in
      let h = k.words.cells u r (λ q. n (x ∙ q)) in
      (subst IsNodeRef (sym x) h.0, subst IsNodeRef (sym y) h.1)

  fields : (n c : ℕ) → n < z.nodes → c < 2 → slice_index full' (start_node z n + c) ≡ field_of p.start.value z n c
  fields n c lt small = full_else z e t w k.full (start_node z n + c)
      (inl (omega (arith, lt, small))) (λ q. omega (arith, q))
      (λ q. let bad : field (Init n) c ≡ left = sym (part_field z (Init n) c lt small)
      ∙ ap (part_of_word z) q ∙ is_left_word in cc) ∙ k.words.fields n c lt small

  starts : (c : ℕ) (n : ℕ × ℕ) → slice_get (facing_pairs p.start.value) c ≡ Some n
      → ((slice_index full' (start_cell z c) ≡ 0)
      ⊎ (slice_index full' (start_cell z c) ≡ node_word p.start.value z n.0))
      × (slice_index full' (suc (start_cell z c)) ≡ node_word p.start.value z n.1)
  starts c n at =
      let r = part_start_cell z c (omega (
        arith,
        slice_get_within (facing_pairs p.start.value) c n at,
        k.plan.parts.cells,
      )) in
      let h = k.words.starts c n at in
      (first r.0 h.0 (cases_eq (start_cell z c) w), right_word_still (suc (start_cell z c)) r.1 ∙ h.1)
    where
      node : ℕ
      node = node_word p.start.value z n.0

      first : part_of_word z (start_cell z c) ≡ left →
          (slice_index k.full (start_cell z c) ≡ 0) ⊎ (slice_index k.full (start_cell z c) ≡ node) →
          (start_cell z c ≡ w) ⊎ (start_cell z c ≢ w)
          → (slice_index full' (start_cell z c) ≡ 0) ⊎ (slice_index full' (start_cell z c) ≡ node)
      first r h (inl q) = inl (ap (slice_index full') q ∙ cell_gone)
      first r (inl h) (inr d) = inl (left_word_still (start_cell z c) r d ∙ h)
      first r (inr h) (inr d) = inr (left_word_still (start_cell z c) r d ∙ h)

  fresh : (u : ℕ) → block z (length (k.log ++ e ∷ [])) ≤ u → slice_index full' u ≡ 0
  fresh u le = full_else z e t w k.full u (inr (omega (arith, le, log_longer)))
      (λ q. omega (arith, le, q)) (λ q. omega (arith, le, q, cell_below, log_longer))
      ∙ k.words.fresh u (omega (arith, le, log_longer, drawn_is))

  -- the first ten words of a block aren't those of a cell
  no_cell : (n j : ℕ) → n < z.fuel → j < 10 → part_of_word z (block z n + j) ≢ left
  no_cell n j lt small r = elim (cases_lt j 2) [
    | inl first ↦ let bad : entry ≡ left = sym (part_entry z n j lt first) ∙ r in cc
    | inr later ↦
        let i = (j - 2) / 2 in
        let c = (j - 2) % 2 in
        let q : block z n + j ≡ place_of z (Born n i) + c = omega arith in
        let bad : field (Born n i) c ≡ left = sym
        (ap (part_of_word z) q ∙ part_field z (Born n i) c (lt, omega arith) (omega arith)) ∙ r in
        cc
  ]

  block_still : (n j : ℕ) → n < t → j < 10 → slice_index full' (block z n + j) ≡ slice_index k.full (block z n + j)
  block_still n j lt small = full_else z e t w k.full (block z n + j)
      (inl (omega (arith, lt, small))) (λ q. omega (arith, q))
      (λ q. no_cell n j (omega (arith, lt, low)) small (ap (part_of_word z) q ∙ is_left_word))

  entries : (n j : ℕ) (x : Event) → slice_get (k.log ++ e ∷ []) n ≡ Some x → j < 10 →
      slice_index full' (block z n + j) ≡ slice_index (block_words z x n) j
  entries n j x q small = go (got_one_more k.log e x n q)
    where
      go : (slice_get k.log n ≡ Some x) ⊎ ((n ≡ length k.log) × (x ≡ e)) →
          slice_index full' (block z n + j) ≡ slice_index (block_words z x n) j
      go (inl old) = block_still n j (omega (arith, slice_get_within k.log n x old, drawn_is)) small
          ∙ k.words.entries n j x old small
      go (inr new) =
          let is_t : n ≡ t = new.0 ∙ drawn_is in
          ap (λ n. slice_index full' (block z n + j)) is_t
          ∙ full_there z e t w k.full j small low k.words.full_wide
          ∙ ap (λ t. slice_index (block_words z e t) j) (sym is_t)
          ∙ ap (λ (x : Event). slice_index (block_words z x n) j) (sym new.1)

  abbrev Knows : View → Type 0
  Knows u = (n y : ℕ) → IsIn (n, y) u.known → (slice_index s'.words n ≡ y) × (y ≢ 0) × IsLasting (part_of_word z n)

  known_old : (u : View) → IsView s u → Knows u
  known_old u is n y i =
      let f = k.words.known u n y is i in
      let g = (known_full u n y is i).2 in
      (get_or-set_other s.words 0 n (t + 1) 0 g ∙ f.0, f.1, f.2)

  pub words_after : WordsKeep p s' (k.log ++ e ∷ []) full'
  words_after = record {
    wide = length-set s.words 0 (t + 1) ∙ k.words.wide;
    full_wide = wide';
    written = written;
    refs = refs;
    cells = cells;
    fields = fields;
    starts = starts;
    fresh = fresh;
    entries = entries;
    known = λ u n y is. viewed Knows (λ n y i. absurd i) known_old u is n y;
  }
