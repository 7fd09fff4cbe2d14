-- Cutting a seat off keeps the rule.
-- Used in `cut`.
use Rattle.std.proofs.Common.{◌≡◌, ◌≢◌, ℕ, suc, ◌+◌, ◌-◌, ◌<◌, ◌≤◌, Bool, true, false, ◌&&◌, nat_eq, if◌then◌else◌}
use Rattle.std.proofs.Common.{Some, List, [], ◌∷◌, ◌++◌, get_or, set, sym, refl, ap, ◌∙◌, subst, arith}
use mathlib.Core.Bool.{false≢true}
use mathlib.Core.Option.{some}
use lib.ListN.{get_elem?}
use Rattle.atomic_table.specs.Table.{Splits}
use Rattle.ol_law_edges.specs.Edges.{IsIn}
use Rattle.ol_net.specs.Pairs.{HasActive}
use Rattle.ol_wire.specs.declared.plan.Plan.{Plan}
use Rattle.ol_wire.specs.declared.view.Link.{Link}
use Rattle.ol_wire.specs.declared.view.View.{View}
use Rattle.ol_wire.specs.Weights.{total, pairs}
use Rattle.ol_wire.specs.Layout.{field, left, part_of_word, table_size}
use Rattle.ol_wire.specs.Edges.{is_reached, is_made, times_in, edges_of, edges_in, pending_in}
use Rattle.ol_wire.specs.Stands.{StandsForNet}
use Rattle.ol_wire.specs.Views.{past_fuel, IsSpentView}
use Rattle.ol_wire.specs.Plays.{cell_at}
use Rattle.ol_wire.specs.StepPlays.{fewer, one_seat}
use Rattle.ol_wire.specs.Rule.{KnowsPlan, Table, Kept, WordsKeep, CellsKeep, SeatsKeep, IsView, IsLasting, IsOwn}
use Rattle.ol_wire.specs.Rule.{IsRightOf, IsMadeRef, IsInOwnBlock, links_at, IsLinkedField}
use Rattle.ol_wire.proofs.Steps.Keep.{IsSwept}
use Rattle.ol_wire.specs.Idle.{IsIdle}
use Rattle.ol_wire.specs.Credit.{IsRuled}
use Rattle.ol_wire.proofs.Credit.Seats.{cut_pays}
use Rattle.ol_wire.proofs.Steps.Remembering.{cut_recalls}
use Rattle.core.specs.Prelude.{slice_get}
use Rattle.ol_wire.proofs.Steps.Lists.{total_cut, each_cut, edges_same, pending_set, pending_more}

module _ (p : Plan) (id : ℕ) (v : View) (two : 1 < v.holds) (under : v.over ≡ false)
    (unswept : v.swept ≡ 0) (s : Table) (k : Kept p s) (here : get_elem? s.views id ≡ some v) where
  abbrev views : List View
  views = set s.views id (fewer v) ++ one_seat v ∷ []

  abbrev cut : Table
  cut = record { words = s.words; homes = s.homes; views = views }

  seen : IsView s v
  seen = (id, here)

  viewed : (P : View → Type 0) → P (fewer v) → P (one_seat v) → ((u : View) → IsView s u → P u) →
      (u : View) → IsView cut u → P u
  viewed P a b old u is = each_cut P s.views id (fewer v) (one_seat v) a b (λ j y e. old y (j, e)) is.0 u is.1

  total_same : (g : View → ℕ) → g (fewer v) + g (one_seat v) ≡ g v → total g views ≡ total g s.views
  total_same g e = total_cut g s.views id v (fewer v) (one_seat v) here e

  not_past : past_fuel v ≡ 0
  not_past = ap (λ b. if b then v.holds else 0) under

  not_past_fewer : past_fuel (fewer v) ≡ 0
  not_past_fewer = ap (λ b. if b then v.holds - 1 else 0) under

  words_keep : WordsKeep p cut k.log k.full
  words_keep = record {
    wide = k.words.wide;
    full_wide = k.words.full_wide;
    written = λ h z. let e = total_same (λ (u : View). pairs h u.due + pairs h u.taken)
        (omega arith) in omega (arith, e, k.words.written h z);
    refs = k.words.refs;
    cells = k.words.cells;
    fields = k.words.fields;
    starts = k.words.starts;
    fresh = k.words.fresh;
    entries = k.words.entries;
    known = λ u a y is m. viewed (λ u'. IsIn (a, y) u'.known →
        (get_or s.words a 0 ≡ y) × (y ≢ 0) × IsLasting (part_of_word p.parts a))
        (λ m'. k.words.known v a y seen m') (λ m'. elim m' [ ]) (λ u' is' m'. k.words.known u' a y is' m') u is m;
  }

  abbrev Unpublished : Link → View → Type 0
  Unpublished l u = IsIn l u.pending →
      (part_of_word p.parts l.cell ≡ left) × (get_or k.full l.cell 0 ≡ 0)
      × IsRightOf u l (get_or k.full (suc l.cell) 0) × ((t w : ℕ) → slice_get k.from t ≡ Some w → w ≢ l.cell)

  cells_keep : CellsKeep p cut k.log k.from k.full
  cells_keep = record {
    tickets = k.cells.tickets;
    used = k.cells.used;
    unpublished = λ u l is. viewed (Unpublished l) (λ m. k.cells.unpublished v l seen m)
        (λ m. elim m [ ]) (λ u' is' m. k.cells.unpublished u' l is' m) u is;
    one_link = λ a. let e = total_same (λ (u : View). links_at a u.pending) (omega arith) in
        omega (arith, e, k.cells.one_link a);
    link_refs = λ u l is m. viewed (λ u'. IsIn l u'.pending →
        IsMadeRef p.parts k.log l.one × IsMadeRef p.parts k.log l.two)
        (λ m'. k.cells.link_refs v l seen m') (λ m'. elim m' [ ]) (λ u' is' m'. k.cells.link_refs u' l is' m') u is m;
    swept = λ u n is. viewed (λ u'. n < u'.swept → IsSwept p k.full u' n)
        (λ lt. absurd (omega (arith, lt, unswept))) (λ lt. absurd (omega (arith, lt)))
        (λ u' is' lt. k.cells.swept u' n is' lt) u is;
    published = λ a is le. let e = total_same
        (λ (u : View). times_in (cell_at p.parts a) u.published) (omega arith) in
        omega (arith, e, k.cells.published a is le);
  }

  seats_keep : SeatsKeep p cut k.log k.net
  seats_keep = record {
    all = total_same (λ (u : View). u.holds) (omega arith) ∙ k.seats.all;
    calm = let e = total_same past_fuel (omega (arith, not_past, not_past_fewer)) in omega (arith, e, k.seats.calm);
    over = viewed (λ u. u.over ≡ true → (p.parts.fuel ≤ get_or s.words 0 0) × HasActive k.net)
        (k.seats.over v seen) (λ o. absurd (false≢true o)) k.seats.over;
    plans = viewed (λ u. 0 < u.holds → KnowsPlan p u) (λ _. k.seats.plans v seen (omega arith))
        (λ _. k.seats.plans v seen (omega arith)) k.seats.plans;
    spent = viewed (λ u. u.holds ≡ 0 → IsSpentView u) (λ q. absurd (omega (arith, two, q)))
        (λ q. absurd (omega (arith, q))) k.seats.spent;
    taken = λ u a y is m. viewed (λ u'. IsIn (a, y) u'.taken →
        (part_of_word p.parts a ≡ left) × (y ≢ 0)) (λ m'. k.seats.taken v a y seen m')
        (λ m'. elim m' [ ]) (λ u' is' m'. k.seats.taken u' a y is' m') u is m;
    due = λ u a y is m. viewed (λ u'. IsIn (a, y) u'.due →
        (y ≢ 0) × IsOwn (part_of_word p.parts a) × IsInOwnBlock p.parts u' a)
        (λ m'. k.seats.due v a y seen m') (λ m'. elim m' [ ]) (λ u' is' m'. k.seats.due u' a y is' m') u is m;
    links = λ u l is m. viewed (λ u'. IsIn l u'.pending → IsInOwnBlock p.parts u' l.cell)
        (λ m'. k.seats.links v l seen m') (λ m'. elim m' [ ]) (λ u' is' m'. k.seats.links u' l is' m') u is m;
    due_fields = λ u a y n b is. viewed (λ u'. IsIn (a, y) u'.due →
        part_of_word p.parts a ≡ field n b → IsLinkedField p.parts k.net u'.pending n b)
        (k.seats.due_fields v a y n b seen) (λ m e. elim m [ ]) (λ u' is'. k.seats.due_fields u' a y n b is') u is;
    made = λ h. total_same (λ (u : View). pairs h u.made) (omega arith) ∙ k.seats.made h;
    dead = λ a. let e = total_same (λ (u : View). times_in a u.dead) (omega arith) in omega (arith, e, k.seats.dead a);
  }

  reached_same : (u : ℕ) → is_reached p.parts k.log views u ≡ is_reached p.parts k.log s.views u
  reached_same u = ap (λ (n : ℕ). is_made p.parts k.log u && nat_eq n 0)
      (total_same (λ (u' : View). times_in u u'.dead) (omega arith))

  edges_kept : edges_of p.parts k.net k.log k.full views ≡ edges_of p.parts k.net k.log k.full s.views
  edges_kept = ap (λ es. es ++ pending_in views)
      (edges_same p.parts k.net (is_reached p.parts k.log views)
      (is_reached p.parts k.log s.views) k.full k.full reached_same (λ u lt. refl) (table_size p.parts))
      ∙ ap (λ es. edges_in p.parts k.net (is_reached p.parts k.log s.views) k.full
      (table_size p.parts) ++ es) (pending_more (set s.views id (fewer v)) (one_seat v) refl
      ∙ pending_set s.views id v (fewer v) here refl)

  stands_kept : StandsForNet p.parts k.net (is_reached p.parts k.log views) (edges_of p.parts k.net k.log k.full views)
  stands_kept =
      let reached : is_reached p.parts k.log views ≡ is_reached p.parts k.log s.views = λ n u. reached_same u n in
      subst (λ (r : ℕ → Bool). StandsForNet p.parts k.net r (edges_of p.parts k.net k.log k.full views)) (sym reached)
      (subst (StandsForNet p.parts k.net (is_reached p.parts k.log s.views)) (sym edges_kept) k.stands)

  cut_keeps : Kept p cut
  cut_keeps = record {
    log = k.log;
    net = k.net;
    full = k.full;
    from = k.from;
    plan = k.plan;
    tickets = k.tickets;
    journal = k.journal;
    words = words_keep;
    cells = cells_keep;
    seats = seats_keep;
    stands = stands_kept;
  }

pub cut_allowed : (p : Plan) (id : ℕ) (v : View) → 1 < v.holds → v.over ≡ false → v.swept ≡ 0 →
    IsIdle v → Splits {S = Unit {0}} (IsRuled p) id v (fewer v) (one_seat v)
cut_allowed p id v two under unswept idle s
    (k, c, r) here = (
      cut_keeps p id v two under unswept s k here,
      cut_pays p id v two idle s c here,
      cut_recalls p id v s r here,
    )
