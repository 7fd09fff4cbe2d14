-- A step that makes a link keeps the rule: one word of a wire, of a free port or of a cell is
-- written, one view has other links to make, and the
-- journal and the net stay.
-- Used in Exchange and Publish.
use Rattle.std.proofs.Common.{◌≡◌, ◌≢◌, ℕ, suc, ◌+◌, ◌-◌, ◌/◌, ◌%◌, ◌<◌, ◌≤◌, ◌⊎◌, true, Some, List}
use Rattle.std.proofs.Common.{[], length, get_or, set, sym, refl, ap, ◌∙◌, subst, inl, inr, arith}
use Rattle.std.proofs.Common.{length-set, get_or-set_other, get_or-set_same}
use Rattle.std.proofs.lemmas.Bool.{cases_eq, cases_lt}
use mathlib.Core.Option.{some}
use lib.ListN.{get_elem?}
use Rattle.core.specs.Prelude.{slice_get}
use Rattle.ol_law_edges.specs.Edges.{IsIn, bit}
use Rattle.ol_rules.specs.declared.journal.NodeName.TheVariants.{Init, Born}
use Rattle.ol_net.specs.Pairs.{HasActive}
use Rattle.ol_wire.specs.declared.layout.Parts.{Parts}
use Rattle.ol_wire.specs.declared.plan.Plan.{Plan}
use Rattle.ol_wire.specs.declared.view.Link.{Link}
use Rattle.ol_wire.specs.declared.view.View.{View}
use Rattle.ol_wire.specs.References.{IsNodeRef}
use Rattle.ol_wire.specs.Starts.{facing_pairs}
use Rattle.ol_wire.specs.Laid.{node_word, field_of}
use Rattle.ol_wire.specs.Layout.{field, left, part_of_word, place_of, start_node, start_cell}
use Rattle.ol_wire.specs.Layout.{left_word, block, table_size}
use Rattle.ol_wire.specs.Weights.{total, pairs, weigh, Empties}
use Rattle.ol_wire.specs.Events.{IsStuckPair}
use Rattle.ol_wire.specs.Blocks.{block_words}
use Rattle.ol_wire.specs.Edges.{is_reached, is_made, deaths, times_in, edges_of}
use Rattle.ol_wire.specs.Stands.{StandsForNet}
use Rattle.ol_wire.specs.Views.{past_fuel, IsSpentView}
use Rattle.ol_wire.specs.Plays.{cell_at}
use Rattle.ol_wire.specs.Rule.{KnowsPlan, Table, Kept, Drawn, WordsKeep, CellsKeep, SeatsKeep, IsView, IsLasting, IsOwn}
use Rattle.ol_wire.specs.Rule.{IsMadeRef, IsRightOf, IsInOwnBlock, links_at, filled, IsLinkedField}
use Rattle.ol_wire.proofs.InWords.Places.{part_field, part_entry}
use Rattle.ol_wire.proofs.Steps.Keep.{after}
use Rattle.ol_wire.proofs.Steps.Lists.{total_set, weigh_set}
use Rattle.ol_wire.proofs.LinkSteps.Lists.{each_else}
use Rattle.std.proofs.lemmas.Option.{slice_get_within}
use Rattle.ol_wire.proofs.InWords.Held.{two_at}

-- what such a step changes of a view
abbrev pub linking : View → List ℕ → List Link → List (ℕ × ℕ) → List ℕ → View
linking v published pending known dead = record v {
  published = published;
  pending = pending;
  known = known;
  dead = dead;
}

-- The word i is written, with x; then what the view has published, has to link, knows and has made dead is this.
pub record LinkStep (p : Plan) (s : Table) (k : Kept p s) (id : ℕ) (v : View) (i x : ℕ)
    (published : List ℕ) (pending : List Link) (known : List (ℕ × ℕ)) (dead : List ℕ) : Type 0 where
  -- the word is no view's and no word of the start or of an entry, and what is written is a reference
  pub some_word : 1 < i
  pub below : i < block p.parts (length k.log)
  pub not_own : IsOwn (part_of_word p.parts i) → ⊥
  pub not_start : (c : ℕ) → c < p.parts.cells → (start_cell p.parts c ≢ i) × (suc (start_cell p.parts c) ≢ i)
  pub same_word : get_or k.full i 0 ≡ get_or s.words i 0
  pub made_ref : IsMadeRef p.parts k.log x
  pub unused : (t w : ℕ) → slice_get k.from t ≡ Some w → (w ≢ i) × (suc w ≢ i)
  pub lasts : IsLasting (part_of_word p.parts i) → get_or s.words i 0 ≢ 0 → x ≡ get_or s.words i 0
  pub cells : (w : ℕ) → part_of_word p.parts w ≡ left → get_or (set k.full i x) w 0 ≢ 0 →
      IsNodeRef (get_or (set k.full i x) w 0) × IsNodeRef (get_or (set k.full i x) (suc w) 0)
  -- the view
  pub nothing_due : v.due ≡ []
  pub knows : (u y : ℕ) → IsIn (u, y) known →
      IsIn (u, y) v.known ⊎ ((get_or (set s.words i x) u 0 ≡ y) × (y ≢ 0) × IsLasting (part_of_word p.parts u))
  pub same_cells : (l : Link) → IsIn l pending → (m : Link) × IsIn m v.pending × (m.cell ≡ l.cell)
  pub unpublished : (l : Link) → IsIn l pending →
      (get_or (set k.full i x) l.cell 0 ≡ 0) × IsRightOf v l (get_or (set k.full i x) (suc l.cell) 0)
  pub link_refs : (l : Link) → IsIn l pending → IsMadeRef p.parts k.log l.one × IsMadeRef p.parts k.log l.two
  pub fewer : (w : ℕ) → links_at w pending ≤ links_at w v.pending
  pub published_once : (w : ℕ) → part_of_word p.parts w ≡ left →
      times_in (cell_at p.parts w) published + filled (get_or k.full w 0) ≡ times_in
      (cell_at p.parts w) v.published + filled (get_or (set k.full i x) w 0)
  -- no other link and no cell that was swept has the word
  pub others : (j : ℕ) (u : View) (l : Link) → j ≢ id → get_elem? s.views j ≡ some u →
      IsIn l u.pending → (l.cell ≢ i) × (suc l.cell ≢ i)
  pub swept : (c : ℕ) → c < v.swept → (left_word p.parts c ≢ i) × (suc (left_word p.parts c) ≢ i)
  pub dead_once : (w : ℕ) → deaths w (set s.views id (linking v published pending known dead)) ≤ bit
      (is_made p.parts k.log w)
  pub net : StandsForNet p.parts k.net
      (is_reached p.parts k.log (set s.views id (linking v published pending known dead)))
      (edges_of p.parts k.net k.log (set k.full i x) (set s.views id (linking v published pending known dead)))

-- words that a step on no own word passes by
module _ (z : Parts) (i : ℕ) (not_own : IsOwn (part_of_word z i) → ⊥) where
  own_other : (w : ℕ) → IsOwn (part_of_word z w) → w ≢ i
  own_other w o e = not_own (subst (λ u. IsOwn (part_of_word z u)) e o)

  start_field_other : (n c : ℕ) → n < z.nodes → c < 2 → start_node z n + c ≢ i
  start_field_other n c lt two = own_other (start_node z n + c) (subst IsOwn (sym (part_field z (Init n) c lt two)) tt)

  block_word_other : (t j : ℕ) → t < z.fuel → j < 10 → block z t + j ≢ i
  block_word_other t j lt ten = elim (cases_lt j 2) [
    | inl a ↦ own_other (block z t + j) (subst IsOwn (sym (part_entry z t j lt a)) tt)
    | inr a ↦
        let at : block z t + j ≡ place_of z (Born t ((j - 2) / 2)) + (j - 2) % 2 = omega arith in
        own_other (block z t + j) (subst IsOwn
        (sym (ap (part_of_word z) at ∙ part_field z (Born t ((j - 2) / 2)) ((j - 2) % 2)
        (lt, omega arith) (omega arith))) tt)
  ]

module _ (p : Plan) (s : Table) (k : Kept p s) (id : ℕ) (v : View) (i x : ℕ) (published : List ℕ)
    (pending : List Link) (known : List (ℕ × ℕ)) (dead : List ℕ)
    (here : get_elem? s.views id ≡ some v) (held : 0 < v.holds)
    (c : LinkStep p s k id v i x published pending known dead) where
  abbrev z : Parts
  z = p.parts

  abbrev w : View
  w = linking v published pending known dead

  abbrev full : List ℕ
  full = set k.full i x

  abbrev there : Table
  there = after s i x id w

  seen : IsView s v
  seen = (id, here)

  within : i < table_size z
  within = omega (arith, c.below, k.tickets.few)

  viewed : (P : View → Type 0) → P w →
      ((j : ℕ) (u : View) → j ≢ id → get_elem? s.views j ≡ some u → P u) → (u : View) → IsView there u → P u
  viewed P new old u is = each_else P s.views id w new old is.0 u is.1

  total_same : (g : View → ℕ) → g w ≡ g v → total g (set s.views id w) ≡ total g s.views
  total_same g e = omega (arith, e, total_set g s.views id v w here)

  -- a word of `full`
  at_i : get_or full i 0 ≡ x
  at_i = get_or-set_same k.full i x 0 (omega (arith, within, k.words.full_wide))

  stays : (P : ℕ → Type 0) (u : ℕ) → u ≢ i → P (get_or k.full u 0) → P (get_or full u 0)
  stays P u d = subst P (sym (get_or-set_other k.full i u x 0 d))

  two_stay : (P : ℕ → ℕ → Type 0) (u : ℕ) → u ≢ i → suc u ≢ i →
      P (get_or k.full u 0) (get_or k.full (suc u) 0) → P (get_or full u 0) (get_or full (suc u) 0)
  two_stay P u d e h = stays (λ y. P y (get_or full (suc u) 0)) u d (stays (P (get_or k.full u 0)) (suc u) e h)

  ticket_same : get_or (set s.words i x) 0 0 ≡ get_or s.words 0 0
  ticket_same = get_or-set_other s.words i 0 x 0 (λ e. omega (arith, c.some_word))

  refs : (u : ℕ) → 1 < u → get_or full u 0 ≢ 0 → IsMadeRef z k.log (get_or full u 0)
  refs u lt some_y = elim (cases_eq u i) [
    | inl e ↦ subst (λ a. IsMadeRef z k.log (get_or full a 0)) (sym e) (subst (IsMadeRef z k.log) (sym at_i) c.made_ref)
    | inr d ↦ stays (IsMadeRef z k.log) u d (k.words.refs u lt (λ q. some_y (get_or-set_other k.full i u x 0 d ∙ q)))
  ]

  abbrev Known : View → Type 0
  Known u = (a y : ℕ) → IsIn (a, y) u.known →
      (get_or (set s.words i x) a 0 ≡ y) × (y ≢ 0) × IsLasting (part_of_word z a)

  lasting : (a : ℕ) → IsLasting (part_of_word z a) → get_or s.words a 0 ≢ 0 →
      get_or (set s.words i x) a 0 ≡ get_or s.words a 0
  lasting a l ne = elim (cases_eq a i) [
    | inl e ↦
        let l' : IsLasting (part_of_word z i) = subst (λ b. IsLasting (part_of_word z b)) e l in
        let ne' : get_or s.words i 0 ≢ 0 = subst (λ b. get_or s.words b 0 ≢ 0) e ne in
        ap (λ b. get_or (set s.words i x) b 0) e
        ∙ get_or-set_same s.words i x 0 (omega (arith, within, k.words.wide)) ∙ c.lasts l' ne'
        ∙ ap (λ b. get_or s.words b 0) (sym e)
    | inr d ↦ get_or-set_other s.words i a x 0 d
  ]

  known_old : (u : View) → IsView s u → Known u
  known_old u is a y m = let h = k.words.known u a y is m in (lasting a h.2 (λ e. h.1 (sym h.0 ∙ e)) ∙ h.0, h.1, h.2)

  known_new : Known w
  known_new a y m = of (c.knows a y m)
    where
      of : IsIn {X = ℕ × ℕ} (a, y) v.known
          ⊎ ((get_or (set s.words i x) a 0 ≡ y) × (y ≢ 0) × IsLasting (part_of_word z a)) →
          (get_or (set s.words i x) a 0 ≡ y) × (y ≢ 0) × IsLasting (part_of_word z a)
      of (inl h) = known_old v seen a y h
      of (inr h) = h

  written : (h : ℕ → ℕ → ℕ) → Empties h →
      weigh h (set s.words i x) (table_size z) + total
      (λ (u : View). pairs h u.due + pairs h u.taken) (set s.views id w) ≡ weigh h full (table_size z)
  written h e =
      omega (
        arith,
        weigh_set h s.words (table_size z) i x within (omega (arith, k.words.wide)),
        weigh_set h k.full (table_size z) i x within (omega (arith, k.words.full_wide)),
        ap (h i) c.same_word,
        k.words.written h e,
        total_same (λ (u : View). pairs h u.due + pairs h u.taken) refl,
      )

  starts : (a : ℕ) (n : ℕ × ℕ) → slice_get (facing_pairs p.start.value) a ≡ Some n →
      ((get_or full (start_cell z a) 0 ≡ 0)
      ⊎ (get_or full (start_cell z a) 0 ≡ node_word p.start.value z n.0))
      × (get_or full (suc (start_cell z a)) 0 ≡ node_word p.start.value z n.1)
  starts a n at =
      let lt : a < z.cells = omega (arith, slice_get_within (facing_pairs p.start.value) a n at, k.plan.parts.cells) in
      let d = c.not_start a lt in
      two_stay (λ y y'. ((y ≡ 0) ⊎ (y ≡ node_word p.start.value z n.0))
      × (y' ≡ node_word p.start.value z n.1)) (start_cell z a) d.0 d.1 (k.words.starts a n at)

  words_keep : WordsKeep p there k.log full
  words_keep = record {
    wide = length-set s.words i x ∙ k.words.wide;
    full_wide = length-set k.full i x ∙ k.words.full_wide;
    written = written;
    refs = refs;
    cells = c.cells;
    fields = λ n a lt two. stays (λ y. y ≡ field_of p.start.value z n a) (start_node z n + a)
        (start_field_other z i c.not_own n a lt two) (k.words.fields n a lt two);
    starts = starts;
    fresh = λ u le. stays (λ y. y ≡ 0) u (λ e. omega (arith, c.below, le, e)) (k.words.fresh u le);
    entries = λ t j e at ten. let lt = slice_get_within k.log t e at in
        stays (λ y. y ≡ get_or (block_words z e t) j 0) (block z t + j)
        (block_word_other z i c.not_own t j (omega (arith, lt, k.tickets.few)) ten) (k.words.entries t j e at ten);
    known = λ u a y is. viewed Known known_new (λ j u' d e. known_old u' (j, e)) u is a y;
  }

  abbrev Open : View → Type 0
  Open u = (l : Link) → IsIn l u.pending →
      (part_of_word z l.cell ≡ left) × (get_or full l.cell 0 ≡ 0)
      × IsRightOf u l (get_or full (suc l.cell) 0) × ((t a : ℕ) → slice_get k.from t ≡ Some a → a ≢ l.cell)

  open_old : (j : ℕ) (u : View) → j ≢ id → get_elem? s.views j ≡ some u → Open u
  open_old j u d e l m =
      let h = k.cells.unpublished u l (j, e) m in
      let o = c.others j u l d e m in
      (h.0, stays (λ y. y ≡ 0) l.cell o.0 h.1, stays (IsRightOf u l) (suc l.cell) o.1 h.2, h.3)

  open_new : Open w
  open_new l m =
      let t = c.same_cells l m in
      let h = k.cells.unpublished v t.0 seen t.1 in
      let n = c.unpublished l m in
      (ap (part_of_word z) (sym t.2) ∙ h.0, n.0, n.1, (λ u a at e. h.3 u a at (e ∙ sym t.2)))

  abbrev Swept : View → Type 0
  Swept u = (a : ℕ) → a < u.swept → (u.holds ≡ p.seats)
      × ((get_or full (left_word z a) 0 ≡ 0)
      ⊎ IsStuckPair (get_or full (left_word z a) 0) (get_or full (suc (left_word z a)) 0))
      × ((l : Link) → IsIn l u.pending → l.cell ≢ left_word z a)

  swept_old : (j : ℕ) (u : View) → j ≢ id → get_elem? s.views j ≡ some u → Swept u
  swept_old j u d e a lt = absurd (omega (
    arith,
    (k.cells.swept u a (j, e) lt).0,
    held,
    two_at (λ (u' : View). u'.holds) s.views id j v u (λ q. d (sym q)) here e,
    k.seats.all,
  ))

  swept_new : Swept w
  swept_new a lt =
      let h = k.cells.swept v a seen lt in
      let d = c.swept a lt in (
        h.0,
        two_stay (λ y y'. (y ≡ 0) ⊎ IsStuckPair y y') (left_word z a) d.0 d.1 h.1,
        (λ l m e. let t = c.same_cells l m in h.2 t.0 t.1 (t.2 ∙ e)),
      )

  cells_keep : CellsKeep p there k.log k.from full
  cells_keep = record {
    tickets = k.cells.tickets;
    used = λ t a at. let h = k.cells.used t a at in
        let d = c.unused t a at in
        (h.0, h.1, stays (λ y. y ≡ 0) a d.0 h.2, (λ e is. stays (λ y. (y ≡ e.f) ⊎ (y ≡ e.g)) (suc a) d.1 (h.3 e is)));
    unpublished = λ u l is. viewed Open open_new open_old u is l;
    one_link = λ a. omega (
      arith,
      k.cells.one_link a,
      c.fewer a,
      total_set (λ (u : View). links_at a u.pending) s.views id v w here,
    );
    link_refs = λ u l is. viewed (λ u'. (l' : Link) → IsIn l' u'.pending →
        IsMadeRef z k.log l'.one × IsMadeRef z k.log l'.two) c.link_refs
        (λ j u' d e l' m. k.cells.link_refs u' l' (j, e) m) u is l;
    swept = λ u a is. viewed Swept swept_new swept_old u is a;
    published = λ a is le. omega (
      arith,
      k.cells.published a is le,
      c.published_once a is,
      total_set (λ (u : View). times_in (cell_at z a) u.published) s.views id v w here,
    );
  }

  none_due : (a y : ℕ) → IsIn {X = ℕ × ℕ} (a, y) v.due → ⊥
  none_due a y m = subst (λ (l : List (ℕ × ℕ)). IsIn {X = ℕ × ℕ} (a, y) l) c.nothing_due m

  abbrev InOwn : View → Type 0
  InOwn u = (l : Link) → IsIn l u.pending → IsInOwnBlock z u l.cell

  in_own : InOwn w
  in_own l m = let t = c.same_cells l m in subst (λ a. IsInOwnBlock z v a) t.2 (k.seats.links v t.0 seen t.1)

  seats_keep : SeatsKeep p there k.log k.net
  seats_keep = record {
    all = total_same (λ (u : View). u.holds) refl ∙ k.seats.all;
    calm = omega (arith, k.seats.calm, ticket_same, total_same past_fuel refl);
    over = viewed (λ u. u.over ≡ true → (z.fuel ≤ get_or (set s.words i x) 0 0) × HasActive k.net)
        (over v seen) (λ j u d e. over u (j, e));
    plans = viewed (λ u. 0 < u.holds → KnowsPlan p u) (k.seats.plans v seen) (λ j u d e. k.seats.plans u (j, e));
    spent = viewed (λ u. u.holds ≡ 0 → IsSpentView u) (λ q. absurd (omega (arith, held, q)))
        (λ j u d e. k.seats.spent u (j, e));
    taken = λ u a y is. viewed (λ u'. IsIn (a, y) u'.taken → (part_of_word z a ≡ left) × (y ≢ 0))
        (k.seats.taken v a y seen) (λ j u' d e. k.seats.taken u' a y (j, e)) u is;
    due = λ u a y is. viewed (λ u'. IsIn (a, y) u'.due →
        (y ≢ 0) × IsOwn (part_of_word z a) × IsInOwnBlock z u' a) (λ m. absurd (none_due a y m))
        (λ j u' d e. k.seats.due u' a y (j, e)) u is;
    links = λ u l is. viewed InOwn in_own (λ j u' d e l' m. k.seats.links u' l' (j, e) m) u is l;
    due_fields = λ u a y n b is. viewed (λ u'. IsIn (a, y) u'.due → part_of_word z a ≡ field n b →
        IsLinkedField z k.net u'.pending n b) (λ m e. absurd (none_due a y m))
        (λ j u' d e. k.seats.due_fields u' a y n b (j, e)) u is;
    made = λ h. total_same (λ (u : View). pairs h u.made) refl ∙ k.seats.made h;
    dead = c.dead_once;
  }
    where
      over : (u : View) → IsView s u → u.over ≡ true → (z.fuel ≤ get_or (set s.words i x) 0 0) × HasActive k.net
      over u is o = let h = k.seats.over u is o in (omega (arith, h.0, ticket_same), h.1)

  pub link_keeps : Kept p there
  link_keeps = record {
    log = k.log;
    net = k.net;
    full = full;
    from = k.from;
    plan = k.plan;
    tickets = subst (λ n. Drawn z.fuel n (length k.log)) (sym ticket_same) k.tickets;
    journal = k.journal;
    words = words_keep;
    cells = cells_keep;
    seats = seats_keep;
    stands = c.net;
  }
