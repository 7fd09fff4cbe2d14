-- Two seats that hold nothing are joined: what one has done goes to the other, and the rule is kept.
-- Used in LinkSteps.Allowed and `merge`.
use Rattle.std.proofs.Common.{◌≡◌, ◌≢◌, ℕ, suc, ◌+◌, ◌<◌, ◌≤◌, ◌⊎◌, Bool, true, false, ◌&&◌, ◌||◌, if◌then◌else◌}
use Rattle.std.proofs.Common.{nat_eq, Some, List, [], ◌++◌, get_or, set, sym, refl, ap, ◌∙◌, subst, arith}
use mathlib.Core.Bool.{false≢true}
use mathlib.Core.Option.{some}
use lib.ListN.{get_elem?}
use Rattle.core.specs.Prelude.{slice_get}
use Rattle.atomic_table.specs.Table.{Joins}
use Rattle.atomic_table.proofs.Lists.{set_else}
use Rattle.ol_law_edges.specs.Edges.{IsIn}
use Rattle.ol_rules.specs.declared.journal.Entry.{Entry}
use Rattle.ol_net.specs.Pairs.{HasActive}
use Rattle.ol_wire.specs.declared.plan.Plan.{Plan}
use Rattle.ol_wire.specs.declared.view.Link.{Link}
use Rattle.ol_wire.specs.declared.view.View.{View}
use Rattle.ol_wire.specs.Weights.{total, pairs}
use Rattle.ol_wire.specs.Layout.{field, left, part_of_word, table_size, left_word}
use Rattle.ol_wire.specs.Edges.{is_reached, is_made, deaths, times_in, edges_of, edges_in, pending_in}
use Rattle.ol_wire.specs.Events.{IsStuckPair}
use Rattle.ol_wire.specs.Stands.{StandsForNet}
use Rattle.ol_wire.specs.Views.{past_fuel, IsSpentView}
use Rattle.ol_wire.specs.Idle.{IsIdle}
use Rattle.ol_wire.specs.Plays.{joined, cell_at}
use Rattle.ol_wire.specs.LinkPlays.{times_drawn}
use Rattle.ol_wire.specs.LinkSteps.{spent_view}
use Rattle.ol_wire.specs.Rule.{KnowsPlan, Table, Kept, WordsKeep, CellsKeep, SeatsKeep, IsView, IsLasting, IsOwn}
use Rattle.ol_wire.specs.Rule.{IsMadeRef, IsRightOf, IsInOwnBlock, links_at, IsLinkedField, entries_of}
use Rattle.ol_wire.proofs.InWords.Alike.{total_append}
use Rattle.ol_wire.proofs.Steps.Lists.{total_set, each_set, pending_set, one_below}
use Rattle.ol_wire.specs.Credit.{IsRuled}
use Rattle.ol_wire.proofs.Credit.Seats.{join_pays, or_true}
use Rattle.ol_wire.proofs.Steps.Remembering.{join_recalls}
use Rattle.ol_wire.proofs.LinkSteps.Lists.{at_number, number_once}

or_past : (a b : Bool) (m n : ℕ) → (if a then m else 0) + (if b then n else 0) ≤ (if a || b then m + n else 0)
or_past true true m n = omega arith
or_past true false m n = omega arith
or_past false true m n = omega arith
or_past false false m n = omega arith

no_more : {A : Type 0} (x : A) (xs : List A) → xs ≡ [] → IsIn x xs → ⊥
no_more {A} x xs e i = subst (λ (ys : List A). IsIn x ys) e i

module _ (p : Plan) (id : ℕ) (v : View) (other : ℕ) (w : View) (idle : IsIdle v) (idle' : IsIdle w) (held : 0 < v.holds)
    (s : Table) (k : Kept p s) (here : get_elem? s.views id ≡ some v)
    (there : get_elem? (set s.views id (joined v w)) other ≡ some w) (was : get_elem? s.views other ≡ some w) where
  abbrev both : View
  both = joined v w

  abbrev views : List View
  views = set (set s.views id both) other spent_view

  abbrev glued : Table
  glued = record { words = s.words; homes = s.homes; views = views }

  viewed : (P : View → Type 0) → P both → P spent_view → ((u : View) → IsView s u → P u) →
      (u : View) → IsView glued u → P u
  viewed P a b old u is = each_set P (set s.views id both) other spent_view b
      (each_set P s.views id both a (λ j x e. old x (j, e))) is.0 u is.1

  total_glued : (g : View → ℕ) → total g views + (g v + g w) ≡ total g s.views + (g both + g spent_view)
  total_glued g = omega (
    arith,
    total_set g s.views id v both here,
    total_set g (set s.views id both) other w spent_view there,
  )

  total_same : (g : View → ℕ) → g both + g spent_view ≡ g v + g w → total g views ≡ total g s.views
  total_same g e = omega (arith, e, total_glued g)

  none_held : (h : ℕ → ℕ → ℕ) → pairs h w.due + pairs h w.taken ≡ 0
  none_held h = omega (arith, ap (pairs h) idle'.0, ap (pairs h) idle'.1)

  words_keep : WordsKeep p glued k.log k.full
  words_keep = record {
    wide = k.words.wide;
    full_wide = k.words.full_wide;
    written = λ h z. let e = total_same (λ (u : View). pairs h u.due + pairs h u.taken)
        (omega (arith, none_held h)) in omega (arith, e, k.words.written h z);
    refs = k.words.refs;
    cells = k.words.cells;
    fields = k.words.fields;
    starts = k.words.starts;
    fresh = k.words.fresh;
    entries = k.words.entries;
    known = λ u a y is m. viewed (λ u'. IsIn (a, y) u'.known →
        (get_or s.words a 0 ≡ y) × (y ≢ 0) × IsLasting (part_of_word p.parts a))
        (k.words.known v a y (id, here)) (λ m'. elim m' [ ]) (λ u' is'. k.words.known u' a y is') u is m;
  }

  abbrev Open : View → Link → Type 0
  Open u l = (part_of_word p.parts l.cell ≡ left) × (get_or k.full l.cell 0 ≡ 0)
      × IsRightOf u l (get_or k.full (suc l.cell) 0) × ((t a : ℕ) → slice_get k.from t ≡ Some a → a ≢ l.cell)

  abbrev Swept : View → ℕ → Type 0
  Swept u c = (u.holds ≡ p.seats) × ((get_or k.full (left_word p.parts c) 0 ≡ 0)
      ⊎ IsStuckPair (get_or k.full (left_word p.parts c) 0)
      (get_or k.full (suc (left_word p.parts c)) 0)) × ((l : Link) → IsIn l u.pending → l.cell ≢ left_word p.parts c)

  cells_keep : CellsKeep p glued k.log k.from k.full
  cells_keep = record {
    tickets = k.cells.tickets;
    used = k.cells.used;
    unpublished = λ u l is. viewed (λ u'. IsIn l u'.pending → Open u' l)
        (λ m. absurd (no_more l v.pending idle.2 m)) (λ m. elim m [ ]) (λ u' is'. k.cells.unpublished u' l is') u is;
    one_link = λ a. let e = total_same (λ (u : View). links_at a u.pending)
        (omega (arith, ap (links_at a) idle'.2)) in omega (arith, e, k.cells.one_link a);
    link_refs = λ u l is. viewed (λ u'. IsIn l u'.pending →
        IsMadeRef p.parts k.log l.one × IsMadeRef p.parts k.log l.two)
        (λ m. absurd (no_more l v.pending idle.2 m)) (λ m. elim m [ ]) (λ u' is'. k.cells.link_refs u' l is') u is;
    swept = λ u c is. viewed (λ u'. c < u'.swept → Swept u' c) (λ lt. absurd (omega (arith, lt)))
        (λ lt. absurd (omega (arith, lt))) (λ u' is'. k.cells.swept u' c is') u is;
    published = λ a is le.
        let e = total_same (λ (u : View). times_in (cell_at p.parts a) u.published)
        (omega (
          arith,
          total_append (λ y. if nat_eq y
              (cell_at p.parts a) then 1 else 0) v.published w.published,
        )) in
        omega (arith, e, k.cells.published a is le);
  }

  seats_keep : SeatsKeep p glued k.log k.net
  seats_keep = record {
    all = total_same (λ (u : View). u.holds) (omega arith) ∙ k.seats.all;
    calm = omega (arith, k.seats.calm, or_past v.over w.over v.holds w.holds, total_glued past_fuel);
    over = viewed (λ u. u.over ≡ true → (p.parts.fuel ≤ get_or s.words 0 0) × HasActive k.net)
        (or_true v.over w.over _ (k.seats.over v (id, here)) (k.seats.over w (other, was)))
        (λ o. absurd (false≢true o)) k.seats.over;
    plans = viewed (λ u. 0 < u.holds → KnowsPlan p u) (λ _. k.seats.plans v (id, here) held)
        (λ lt. absurd (omega (arith, lt))) k.seats.plans;
    spent = viewed (λ u. u.holds ≡ 0 → IsSpentView u) (λ q. absurd (omega (arith, held, q))) (λ q. refl) k.seats.spent;
    taken = λ u a y is. viewed (λ u'. IsIn (a, y) u'.taken →
        (part_of_word p.parts a ≡ left) × (y ≢ 0))
        (λ m. absurd (no_more {A = ℕ × ℕ} (a, y) v.taken idle.0 m)) (λ m. elim m [ ])
        (λ u' is'. k.seats.taken u' a y is') u is;
    due = λ u a y is. viewed (λ u'. IsIn (a, y) u'.due →
        (y ≢ 0) × IsOwn (part_of_word p.parts a) × IsInOwnBlock p.parts u' a)
        (λ m. absurd (no_more {A = ℕ × ℕ} (a, y) v.due idle.1 m)) (λ m. elim m [ ])
        (λ u' is'. k.seats.due u' a y is') u is;
    links = λ u l is. viewed (λ u'. IsIn l u'.pending → IsInOwnBlock p.parts u' l.cell)
        (λ m. absurd (no_more l v.pending idle.2 m)) (λ m. elim m [ ]) (λ u' is'. k.seats.links u' l is') u is;
    due_fields = λ u a y n b is. viewed (λ u'. IsIn (a, y) u'.due →
        part_of_word p.parts a ≡ field n b → IsLinkedField p.parts k.net u'.pending n b)
        (λ m e. absurd (no_more {A = ℕ × ℕ} (a, y) v.due idle.1 m)) (λ m e. elim m [ ])
        (λ u' is'. k.seats.due_fields u' a y n b is') u is;
    made = λ h. total_same (λ (u : View). pairs h u.made)
        (omega (arith, total_append (λ (e : ℕ × Entry). h e.0 e.1) v.made w.made)) ∙ k.seats.made h;
    dead = λ a. omega (arith, same_deaths a, k.seats.dead a);
  }
    where
      same_deaths : (a : ℕ) → deaths a views ≡ deaths a s.views
      same_deaths a = total_same (λ (u : View). times_in a u.dead)
          (omega (arith, total_append (λ y. if nat_eq y a then 1 else 0) v.dead w.dead))

  same_reached : is_reached p.parts k.log views ≡ is_reached p.parts k.log s.views
  same_reached =
      let e : (a : ℕ) → deaths a views ≡ deaths a s.views = λ a.
      total_same (λ (u : View). times_in a u.dead)
      (omega (arith, total_append (λ y. if nat_eq y a then 1 else 0) v.dead w.dead)) in
      λ n a. (ap (λ d. is_made p.parts k.log a && nat_eq d 0) (e a)) n

  same_pending : pending_in views ≡ pending_in s.views
  same_pending = pending_set (set s.views id both) other w spent_view there (sym idle'.2)
      ∙ pending_set s.views id v both here refl

  stands : StandsForNet p.parts k.net (is_reached p.parts k.log views) (edges_of p.parts k.net k.log k.full views)
  stands =
      subst (λ (r : ℕ → Bool). StandsForNet p.parts k.net r
      (edges_in p.parts k.net r k.full (table_size p.parts) ++ pending_in views)) (sym same_reached)
      (subst (λ es. StandsForNet p.parts k.net (is_reached p.parts k.log s.views)
      (edges_in p.parts k.net (is_reached p.parts k.log s.views) k.full
      (table_size p.parts) ++ es)) (sym same_pending) k.stands)

  join_keeps : Kept p glued
  join_keeps = record {
    log = k.log;
    net = k.net;
    full = k.full;
    from = k.from;
    plan = k.plan;
    tickets = k.tickets;
    journal = k.journal;
    words = words_keep;
    cells = cells_keep;
    seats = seats_keep;
    stands = stands;
  }

pub join_allowed : (p : Plan) (id : ℕ) (v : View) (other : ℕ) (w : View) → IsIdle v → IsIdle w →
    0 < v.holds → Joins {S = Unit {0}} (IsRuled p) id v other w (joined v w) spent_view
join_allowed p id v other w idle idle' held s (k, c, r) here apart there =
    let was = sym (set_else s.views id other (joined v w) apart) ∙ there in (
      join_keeps p id v other w idle idle' held s k here there was,
      join_pays p id v other w idle idle' s c here there was,
      join_recalls p id v other w idle idle' s r here there was,
    )

-- a view stands for no more seats than there are
pub holds_within : (p : Plan) (s : Table) (k : Kept p s) (id : ℕ) (v : View) →
    get_elem? s.views id ≡ some v → v.holds ≤ p.seats
holds_within p s k id v here = omega (arith, k.seats.all, one_below (λ (u : View). u.holds) s.views id v here)

-- and has no ticket twice
pub drawn_once : (p : Plan) (s : Table) (k : Kept p s) (id : ℕ) (v : View) →
    get_elem? s.views id ≡ some v → (t : ℕ) → times_drawn t v.made ≤ 1
drawn_once p s k id v here t = omega (
  arith,
  k.seats.made (at_number t),
  one_below
      (λ (u : View). pairs (at_number t) u.made) s.views id v here,
  number_once t 0 (entries_of p.parts k.log),
)
