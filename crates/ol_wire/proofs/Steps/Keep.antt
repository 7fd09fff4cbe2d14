-- A step that changes one word and one view, and neither the journal nor the net, keeps the rule.
-- Used in Credit, LinkSteps and Steps.
use Rattle.std.proofs.Common.{◌≡◌, ◌≢◌, ℕ, zero, suc, ◌+◌, ◌-◌, ◌/◌, ◌%◌, ◌<◌, ◌≤◌, ◌⊎◌, Bool, true, false, ◌&&◌}
use Rattle.std.proofs.Common.{nat_eq, nat_lt, if◌then◌else◌, Some, List, [], ◌∷◌, ◌++◌, length, get_or, set, sym, refl}
use Rattle.std.proofs.Common.{ap, ◌∙◌, subst, inl, inr, arith, length-set}
use mathlib.Core.Option.{some}
use lib.ListN.{get_elem?}
use Rattle.ol_law_edges.specs.Edges.{IsIn}
use Rattle.core.specs.Prelude.{slice_get}
use Rattle.ol_rules.specs.declared.journal.NodeName.{NodeName}
use Rattle.ol_net.specs.Pairs.{HasActive}
use Rattle.ol_rules.specs.declared.journal.Entry.{Entry}
use Rattle.ol_wire.specs.declared.layout.Parts.{Parts}
use Rattle.ol_wire.specs.declared.view.Link.{Link}
use Rattle.ol_wire.specs.References.{IsNodeRef}
use Rattle.ol_wire.specs.Laid.{node_word}
use Rattle.ol_wire.specs.Events.{IsStuckPair}
use Rattle.ol_wire.specs.declared.plan.Plan.{Plan}
use Rattle.ol_wire.specs.declared.view.View.{View}
use Rattle.ol_wire.specs.Weights.{total, pairs, weigh, Empties}
use Rattle.ol_wire.specs.Layout.{field, left, part_of_word, start_node, block, table_size}
use Rattle.ol_wire.specs.Layout.{start_cell, left_word, born_cell}
use Rattle.ol_wire.specs.Edges.{is_reached, is_made, times_in, edges_of, edges_in, pending_in}
use Rattle.ol_wire.specs.Stands.{StandsForNet}
use Rattle.ol_wire.specs.Views.{past_fuel, IsSpentView}
use Rattle.ol_wire.specs.Plays.{cell_at}
use Rattle.ol_wire.specs.Rule.{KnowsPlan, Table, Kept, WordsKeep, CellsKeep, SeatsKeep, Drawn, IsView, IsLasting, IsOwn}
use Rattle.ol_wire.specs.Rule.{IsRightOf, IsMadeRef, IsInOwnBlock, links_at, filled, IsLinkedField}
use Rattle.ol_wire.proofs.Steps.Lists.{total_set, each_set, edges_same, pending_set}

-- one word and one view are set
abbrev pub after : Table → ℕ → ℕ → ℕ → View → Table
after s i x id w = record { words = set s.words i x; homes = s.homes; views = set s.views id w }

-- what is asked of a cell that a view has swept
abbrev pub IsSwept : Plan → List ℕ → View → ℕ → Type 0
IsSwept p full v c = (v.holds ≡ p.seats)
    × ((get_or full (left_word p.parts c) 0 ≡ 0)
    ⊎ IsStuckPair (get_or full (left_word p.parts c) 0) (get_or full (suc (left_word p.parts c)) 0))
    × ((l : Link) → IsIn l v.pending → l.cell ≢ left_word p.parts c)

pub left_word_past : (z : Parts) (c : ℕ) → 1 < left_word z c
left_word_past z c = elim (nat_lt c z.cells) as
    (λ b. 1 < (if b then start_cell z c else born_cell z ((c - z.cells) / 4)
    ((c - z.cells) % 4))) [ true ↦ omega arith | false ↦ omega arith ]

-- a list without members is empty
empty_list : {A : Type 0} (xs : List A) → ((x : A) → IsIn x xs → ⊥) → xs ≡ []
empty_list [] none_in = refl
empty_list (x ∷ xs) none_in = absurd (none_in x (inl refl))

-- what a view and a step's other parts share
pub record Change (p : Plan) (s : Table) (k : Kept p s) (v w : View) (i x : ℕ) (full : List ℕ) : Type 0 where
  pub holds : w.holds ≡ v.holds
  pub parts : (w.parts ≡ v.parts) × (w.seats ≡ v.seats) × (w.start ≡ v.start)
  pub made : w.made ≡ v.made
  pub published : w.published ≡ v.published
  pub pending : w.pending ≡ v.pending
  pub dead : w.dead ≡ v.dead
  -- the words as they would be, but for the ticket word and the live word
  pub wide : length full ≡ length k.full
  pub same : (u : ℕ) → 1 < u → get_or full u 0 ≡ get_or k.full u 0
  pub written : (h : ℕ → ℕ → ℕ) → Empties h →
      weigh h (set s.words i x) (table_size p.parts) +
      (pairs h w.due + pairs h w.taken) + weigh h k.full (table_size p.parts) ≡ weigh h s.words
      (table_size p.parts) + (pairs h v.due + pairs h v.taken) + weigh h full (table_size p.parts)
  -- the ticket word
  pub tickets : Drawn p.parts.fuel (get_or (set s.words i x) 0 0) (length k.log)
  pub up : get_or s.words 0 0 ≤ get_or (set s.words i x) 0 0
  pub calm : get_or (set s.words i x) 0 0 + past_fuel v ≤ get_or s.words 0 0 + past_fuel w
  pub over : w.over ≡ true → (v.over ≡ true) ⊎ ((p.parts.fuel ≤ get_or (set s.words i x) 0 0) × HasActive k.net)
  -- words that last, and what the view knows
  pub lasts : (u : ℕ) → IsLasting (part_of_word p.parts u) → get_or s.words u 0 ≢ 0 →
      get_or (set s.words i x) u 0 ≡ get_or s.words u 0
  pub known : (u y : ℕ) → IsIn (u, y) w.known →
      IsIn (u, y) v.known ⊎ ((get_or (set s.words i x) u 0 ≡ y) × (y ≢ 0) × IsLasting (part_of_word p.parts u))
  pub taken : (u y : ℕ) → IsIn (u, y) w.taken → IsIn (u, y) v.taken ⊎ ((part_of_word p.parts u ≡ left) × (y ≢ 0))
  pub due : (u y : ℕ) → IsIn (u, y) w.due → IsIn (u, y) v.due
  pub swept : (c : ℕ) → c < w.swept → (c < v.swept) ⊎ IsSwept p k.full v c

module _ (p : Plan) (s : Table) (k : Kept p s) (id : ℕ) (v w : View) (i x : ℕ) (full : List ℕ)
    (here : get_elem? s.views id ≡ some v) (held : 0 < v.holds) (c : Change p s k v w i x full) where
  abbrev there : Table
  there = after s i x id w

  seen : IsView s v
  seen = (id, here)

  -- what holds of the new view and of each old one
  viewed : (P : View → Type 0) → P w → ((u : View) → IsView s u → P u) → (u : View) → IsView there u → P u
  viewed P new old u is = each_set P s.views id w new (λ j y e. old y (j, e)) is.0 u is.1

  not_ticket : (u : ℕ) → part_of_word p.parts u ≡ left → 1 < u
  not_ticket zero e = absurd (cc)
  not_ticket (suc zero) e = absurd (cc)
  not_ticket (suc (suc u)) e = omega arith

  total_same : (g : View → ℕ) → g w ≡ g v → total g (set s.views id w) ≡ total g s.views
  total_same g e = omega (arith, e, total_set g s.views id v w here)

  moved : (P : ℕ → Type 0) (u : ℕ) → 1 < u → P (get_or k.full u 0) → P (get_or full u 0)
  moved P u lt = subst P (sym (c.same u lt))

  some_before : (u : ℕ) → 1 < u → get_or full u 0 ≢ 0 → get_or k.full u 0 ≢ 0
  some_before u lt ne e = ne (c.same u lt ∙ e)

  two_moved : (P : ℕ → ℕ → Type 0) (u : ℕ) → 1 < u →
      P (get_or k.full u 0) (get_or k.full (suc u) 0) → P (get_or full u 0) (get_or full (suc u) 0)
  two_moved P u lt h = subst (λ (y : ℕ). P y (get_or full (suc u) 0)) (sym (c.same u lt))
      (subst (P (get_or k.full u 0)) (sym (c.same (suc u) (omega (arith, lt)))) h)

  none_due : v.due ≡ [] → w.due ≡ []
  none_due e = empty_list w.due (λ d m. elim (subst (λ (ds : List (ℕ × ℕ)). IsIn d ds) e (c.due d.0 d.1 m)) [ ])

  right_new : (l : Link) (word : ℕ) → IsRightOf v l word → IsRightOf w l word
  right_new l word (inl e) = inl e
  right_new l word (inr h) = inr (h.0, h.1, h.2, none_due h.3)

  abbrev Unpublished : View → Type 0
  Unpublished u = (l : Link) → IsIn l u.pending →
      (part_of_word p.parts l.cell ≡ left) × (get_or full l.cell 0 ≡ 0)
      × IsRightOf u l (get_or full (suc l.cell) 0) × ((t a : ℕ) → slice_get k.from t ≡ Some a → a ≢ l.cell)

  unpublished_old : (u : View) → IsView s u → Unpublished u
  unpublished_old u is l m = let h = k.cells.unpublished u l is m in (
    h.0,
    c.same l.cell (not_ticket l.cell h.0) ∙ h.1,
    subst (IsRightOf u l) (sym (c.same (suc l.cell) (omega (arith, not_ticket l.cell h.0)))) h.2,
    h.3,
  )

  unpublished_new : Unpublished w
  unpublished_new l m = let h = unpublished_old v seen l
      (subst (λ (ls : List Link). IsIn l ls) c.pending m) in
      (h.0, h.1, right_new l (get_or full (suc l.cell) 0) h.2, h.3)

  swept_old : (u : View) → IsView s u → (n : ℕ) → n < u.swept → IsSwept p full u n
  swept_old u is n lt = let h = k.cells.swept u n is lt in
      (h.0, two_moved (λ y y'. (y ≡ 0) ⊎ IsStuckPair y y') (left_word p.parts n) (left_word_past p.parts n) h.1, h.2)

  swept_new : (n : ℕ) → n < w.swept → IsSwept p full w n
  swept_new n lt = pick (c.swept n lt)
    where
      as_new : IsSwept p full v n → IsSwept p full w n
      as_new h = (c.holds ∙ h.0, h.1, (λ l m. h.2 l (subst (λ (ls : List Link). IsIn l ls) c.pending m)))

      pick : (n < v.swept) ⊎ IsSwept p k.full v n → IsSwept p full w n
      pick (inl lt') = as_new (swept_old v seen n lt')
      pick (inr h) = as_new (
        h.0,
        two_moved (λ y y'. (y ≡ 0) ⊎ IsStuckPair y y')
            (left_word p.parts n) (left_word_past p.parts n) h.1,
        h.2,
      )

  with_pending : (P : List Link → Type 0) → P v.pending → P w.pending
  with_pending P = subst P (sym c.pending)

  abbrev Known : View → Type 0
  Known u = (a y : ℕ) → IsIn (a, y) u.known →
      (get_or (set s.words i x) a 0 ≡ y) × (y ≢ 0) × IsLasting (part_of_word p.parts a)

  known_old : (u : View) → IsView s u → Known u
  known_old u is a y m = let h = k.words.known u a y is m in (c.lasts a h.2 (λ e. h.1 (sym h.0 ∙ e)) ∙ h.0, h.1, h.2)

  known_new : Known w
  known_new a y m = pick (c.known a y m)
    where
      pick : IsIn {X = ℕ × ℕ} (a, y) v.known
          ⊎ ((get_or (set s.words i x) a 0 ≡ y) × (y ≢ 0) × IsLasting (part_of_word p.parts a)) →
          (get_or (set s.words i x) a 0 ≡ y) × (y ≢ 0) × IsLasting (part_of_word p.parts a)
      pick (inl m) = known_old v seen a y m
      pick (inr h) = h

  words_keep : WordsKeep p there k.log full
  words_keep = record {
    wide = length-set s.words i x ∙ k.words.wide;
    full_wide = c.wide ∙ k.words.full_wide;
    written = λ h z. omega (
      arith,
      c.written h z,
      k.words.written h z,
      total_set (λ (u : View). pairs h u.due + pairs h u.taken) s.views id v w here,
    );
    refs = λ u lt ne. moved (IsMadeRef p.parts k.log) u lt (k.words.refs u lt (some_before u lt ne));
    cells = λ u l ne. two_moved (λ y y'. IsNodeRef y × IsNodeRef y') u (not_ticket u l)
        (k.words.cells u l (some_before u (not_ticket u l) ne));
    fields = λ n a lt few. c.same (start_node p.parts n + a) (omega arith) ∙ k.words.fields n a lt few;
    starts = λ n m at. two_moved (λ y y'. ((y ≡ 0) ⊎ (y ≡ node_word p.start.value p.parts m.0))
        × (y' ≡ node_word p.start.value p.parts m.1)) (start_cell p.parts n) (omega arith) (k.words.starts n m at);
    fresh = λ u le. c.same u (omega arith) ∙ k.words.fresh u le;
    entries = λ t j e at few. c.same (block p.parts t + j) (omega arith) ∙ k.words.entries t j e at few;
    known = λ u a y is. viewed Known known_new known_old u is a y;
  }

  cells_keep : CellsKeep p there k.log k.from full
  cells_keep = record {
    tickets = k.cells.tickets;
    used = λ t a at. let h = k.cells.used t a at in (
      h.0,
      h.1,
      c.same a (not_ticket a h.0) ∙ h.2,
      (λ e is. moved (λ y. (y ≡ e.f) ⊎ (y ≡ e.g)) (suc a) (omega (arith, not_ticket a h.0)) (h.3 e is)),
    );
    unpublished = λ u l is. viewed Unpublished unpublished_new unpublished_old u is l;
    one_link = λ a. let e = total_same (λ (u : View). links_at a u.pending)
        (ap (links_at a) c.pending) in omega (arith, e, k.cells.one_link a);
    link_refs = λ u l is. viewed (λ u'. (l' : Link) → IsIn l' u'.pending →
        IsMadeRef p.parts k.log l'.one × IsMadeRef p.parts k.log l'.two)
        (with_pending (λ (ls : List Link). (l' : Link) → IsIn l' ls →
        IsMadeRef p.parts k.log l'.one × IsMadeRef p.parts k.log l'.two)
        (λ l' m. k.cells.link_refs v l' seen m)) (λ u' is' l' m. k.cells.link_refs u' l' is' m) u is l;
    swept = λ u n is. viewed (λ u'. (n' : ℕ) → n' < u'.swept → IsSwept p full u' n') swept_new swept_old u is n;
    published = λ a is le.
        let e = total_same (λ (u : View). times_in (cell_at p.parts a) u.published)
        (ap (times_in (cell_at p.parts a)) c.published) in
        omega (arith, e, k.cells.published a is le, ap filled (c.same a (not_ticket a is)));
  }

  abbrev Due : View → Type 0
  Due u = (a y : ℕ) → IsIn (a, y) u.due → (y ≢ 0) × IsOwn (part_of_word p.parts a) × IsInOwnBlock p.parts u a

  abbrev Links : View → Type 0
  Links u = (l : Link) → IsIn l u.pending → IsInOwnBlock p.parts u l.cell

  abbrev Fields : View → Type 0
  Fields u = (a y : ℕ) (n : NodeName) (b : ℕ) → IsIn (a, y) u.due →
      part_of_word p.parts a ≡ field n b → IsLinkedField p.parts k.net u.pending n b

  fields_new : Fields w
  fields_new a y n b m is = with_pending (λ (ls : List Link). IsLinkedField p.parts k.net ls n b)
      (k.seats.due_fields v a y n b seen (c.due a y m) is)

  seats_keep : SeatsKeep p there k.log k.net
  seats_keep = record {
    all = total_same (λ (u : View). u.holds) c.holds ∙ k.seats.all;
    calm = omega (arith, k.seats.calm, c.calm, total_set past_fuel s.views id v w here);
    over = viewed (λ u. u.over ≡ true → (p.parts.fuel ≤ get_or (set s.words i x) 0 0)
        × HasActive k.net) over_new over_old;
    plans = viewed (λ u. 0 < u.holds → KnowsPlan p u)
        (λ _. let h = k.seats.plans v seen held in (c.parts.0 ∙ h.0, c.parts.1 ∙ h.1, c.parts.2 ∙ h.2)) k.seats.plans;
    spent = viewed (λ u. u.holds ≡ 0 → IsSpentView u) (λ q. absurd (omega (arith, held, c.holds, q))) k.seats.spent;
    taken = λ u a y is. viewed (λ u'. (a' y' : ℕ) → IsIn (a', y') u'.taken →
        (part_of_word p.parts a' ≡ left) × (y' ≢ 0)) taken_new (λ u' is' a' y'. k.seats.taken u' a' y' is') u is a y;
    due = λ u a y is. viewed Due (λ a' y' m.
        due_new a' y' (k.seats.due v a' y' seen (c.due a' y' m))) (λ u' is' a' y'. k.seats.due u' a' y' is') u is a y;
    links = λ u l is. viewed Links (λ l' m.
        own_new l'.cell (k.seats.links v l' seen
        (subst (λ (ls : List Link). IsIn l' ls) c.pending m))) (λ u' is' l'. k.seats.links u' l' is') u is l;
    due_fields = λ u a y n b is. viewed Fields fields_new
        (λ u' is' a' y' n' b'. k.seats.due_fields u' a' y' n' b' is') u is a y n b;
    made = λ h. total_same (λ (u : View). pairs h u.made) (ap (pairs h) c.made) ∙ k.seats.made h;
    dead = λ a. let e = total_same (λ (u : View). times_in a u.dead) (ap (times_in a) c.dead) in
        omega (arith, e, k.seats.dead a);
  }
    where
      own_new : (a : ℕ) → IsInOwnBlock p.parts v a → IsInOwnBlock p.parts w a
      own_new a h = (
        h.0,
        h.1,
        subst (λ (ms : List (ℕ × Entry)). IsIn {X = ℕ × Entry} (h.0, h.1) ms)
            (sym c.made) h.2,
        h.3,
      )

      due_new : (a y : ℕ) → (y ≢ 0) × IsOwn (part_of_word p.parts a) × IsInOwnBlock p.parts v a →
          (y ≢ 0) × IsOwn (part_of_word p.parts a) × IsInOwnBlock p.parts w a
      due_new a y h = (h.0, h.1, own_new a h.2)

      over_old : (u : View) → IsView s u → u.over ≡ true →
          (p.parts.fuel ≤ get_or (set s.words i x) 0 0) × HasActive k.net
      over_old u is o = let h = k.seats.over u is o in (omega (arith, h.0, c.up), h.1)

      over_new : w.over ≡ true → (p.parts.fuel ≤ get_or (set s.words i x) 0 0) × HasActive k.net
      over_new o = pick (c.over o)
        where
          pick : (v.over ≡ true) ⊎ ((p.parts.fuel ≤ get_or (set s.words i x) 0 0)
              × HasActive k.net) → (p.parts.fuel ≤ get_or (set s.words i x) 0 0) × HasActive k.net
          pick (inl e) = over_old v seen e
          pick (inr h) = h

      taken_new : (a y : ℕ) → IsIn (a, y) w.taken → (part_of_word p.parts a ≡ left) × (y ≢ 0)
      taken_new a y m = pick (c.taken a y m)
        where
          pick : IsIn {X = ℕ × ℕ} (a, y) v.taken ⊎ ((part_of_word p.parts a ≡ left) × (y ≢ 0)) →
              (part_of_word p.parts a ≡ left) × (y ≢ 0)
          pick (inl m) = k.seats.taken v a y seen m
          pick (inr h) = h

  reached_same : (u : ℕ) → is_reached p.parts k.log (set s.views id w) u ≡ is_reached p.parts k.log s.views u
  reached_same u = ap (λ (n : ℕ). is_made p.parts k.log u && nat_eq n 0)
      (total_same (λ (u' : View). times_in u u'.dead) (ap (times_in u) c.dead))

  edges_kept : edges_of p.parts k.net k.log full (set s.views id w) ≡ edges_of p.parts k.net k.log k.full s.views
  edges_kept = ap (λ es. es ++ pending_in (set s.views id w))
      (edges_same p.parts k.net (is_reached p.parts k.log (set s.views id w))
      (is_reached p.parts k.log s.views) full k.full reached_same c.same (table_size p.parts))
      ∙ ap (λ es. edges_in p.parts k.net (is_reached p.parts k.log s.views) k.full
      (table_size p.parts) ++ es) (pending_set s.views id v w here c.pending)

  stands_kept : StandsForNet p.parts k.net (is_reached p.parts k.log (set s.views id w))
      (edges_of p.parts k.net k.log full (set s.views id w))
  stands_kept =
      let reached : is_reached p.parts k.log
      (set s.views id w) ≡ is_reached p.parts k.log s.views = λ n u. reached_same u n in
      subst (λ (r : ℕ → Bool). StandsForNet p.parts k.net r
      (edges_of p.parts k.net k.log full (set s.views id w))) (sym reached)
      (subst (StandsForNet p.parts k.net (is_reached p.parts k.log s.views)) (sym edges_kept) k.stands)

  pub step_keeps : Kept p there
  step_keeps = record {
    log = k.log;
    net = k.net;
    full = full;
    from = k.from;
    plan = k.plan;
    tickets = c.tickets;
    journal = k.journal;
    words = words_keep;
    cells = cells_keep;
    seats = seats_keep;
    stands = stands_kept;
  }
