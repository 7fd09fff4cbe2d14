-- An exchange at the word of a wire or of a free port keeps the rule: where the word was empty the
-- link is made, and else one wire is taken out.
-- Used in Allowed, Cells and Publish.
use Rattle.std.proofs.Common.{◌≡◌, ◌≢◌, ℕ, suc, ◌+◌, ◌-◌, ◌/◌, ◌%◌, ◌<◌, ◌≤◌, ◌⊎◌, Bool, true, false, ◌&&◌}
use Rattle.std.proofs.Common.{if◌then◌else◌, nat_eq, nat_lt, eqb-true, ne_eqb, List, [], ◌∷◌, ◌++◌, get_or, set, sym}
use Rattle.std.proofs.Common.{refl, ap, ◌∙◌, subst, inl, inr, arith, get_or-set_same, get_or-set_other}
use Rattle.std.proofs.lemmas.Bool.{cases_eq, cases_lt, and_parts}
use Rattle.std.proofs.lemmas.Bool.Decides.{nat_tests}
use mathlib.Core.Bool.{false≢true}
use mathlib.Core.Option.{some}
use lib.ListN.{get_elem?}
use Rattle.ol_law_edges.specs.Edges.{IsIn, ends, bit}
use Rattle.ol_net.specs.Nets.{NamedPort}
use Rattle.ol_rules.specs.declared.journal.NodeName.{NodeName}
use Rattle.ol_wire.specs.declared.layout.Parts.{Parts}
use Rattle.ol_wire.specs.declared.plan.Plan.{Plan}
use Rattle.ol_wire.specs.declared.view.Link.{Link}
use Rattle.ol_wire.specs.declared.view.View.{View}
use Rattle.ol_wire.specs.References.{wire_ref, IsNodeRef, IsRef}
use Rattle.ol_wire.specs.Layout.{left, right, part_of_word, start_cell, born_cell, block}
use Rattle.ol_wire.specs.Layout.{table_size, left_word, cells_of}
use Rattle.ol_wire.specs.Weights.{pairs}
use Rattle.ol_wire.specs.EvenWeights.{Even}
use Rattle.ol_wire.specs.Edges.{is_reached, is_made, deaths, times_in, edge_to, edges_of, edges_in}
use Rattle.ol_wire.specs.Edges.{pending_in, links_in}
use Rattle.ol_wire.specs.Stands.{StandsForNet, IsEnd}
use Rattle.ol_wire.specs.StepPlays.{rest, relinked, linked, moved}
use Rattle.ol_wire.specs.LinkSteps.{IsBetween, spread}
use Rattle.ol_wire.specs.Rule.{Table, Kept, IsView, IsMadeRef, IsRightOf, links_at, filled}
use Rattle.ol_wire.proofs.InWords.References.{wire_sort}
use Rattle.ol_wire.proofs.InWords.Places.{is_left, part_cell}
use Rattle.ol_wire.proofs.InWords.Alike.{Alike, pairs_append}
use Rattle.ol_wire.proofs.InWords.Claimed.{ends_first, ends_second}
use Rattle.ol_wire.proofs.InWords.EdgeList.{word_edge, edge_there, pending_there, pending_weigh}
use Rattle.ol_wire.proofs.InWords.Edges.{edge_some, edge_none}
use Rattle.ol_wire.proofs.InWords.Exchange.{exchange_stands}
use Rattle.ol_wire.proofs.Steps.Keep.{after}
use Rattle.ol_wire.proofs.Steps.Lists.{total_set, one_below}
use Rattle.ol_wire.proofs.LinkSteps.Keep.{LinkStep, linking, link_keeps}
use Rattle.ol_wire.proofs.LinkSteps.Edges.{stands_alike, edges_set}
use Rattle.ol_wire.proofs.LinkSteps.Spread.{one_if, one_same, one_other, times_more, spread_more, spread_few}
use Rattle.ol_wire.proofs.LinkSteps.Sites.{IsLinked, linked_not_own, linked_not_lasting, IsSite, port_or_reached, site}
use Rattle.ol_wire.proofs.LinkSteps.Sites.{dead_edge, word_written, link_ends}
use Rattle.ol_rules.proofs.EndCounts.{ends_append}

-- the cells from the last on aren't words of the table
pub left_past_all : (z : Parts) (c : ℕ) → cells_of z ≤ c → table_size z ≤ left_word z c
left_past_all z c le =
    let e : nat_lt c z.cells ≡ false = grind (arith, nat_tests) in
    let q : left_word z c ≡ born_cell z ((c - z.cells) / 4) ((c - z.cells) % 4) = ap
    (λ b. if b then start_cell z c else born_cell z ((c - z.cells) / 4) ((c - z.cells) % 4)) e in
    omega (arith, q)

made_some : (r : ℕ) → IsRef r → r ≢ 0
made_some r (inl sort) e = omega (arith, sort, e)
made_some r (inr sort) e = omega (arith, sort, e)

pub rest_fewer : (a : ℕ) (ls : List Link) → links_at a (rest ls) ≤ links_at a ls
rest_fewer a [] = omega arith
rest_fewer a (l ∷ ls) = omega arith

relinked_same : (a b c : ℕ) (ls : List Link) → links_at a (relinked ls b c) ≡ links_at a ls
relinked_same a b c [] = refl
relinked_same a b c (l ∷ ls) = refl

module _ (p : Plan) (s : Table) (k : Kept p s) (id : ℕ) (v : View)
    (here : get_elem? s.views id ≡ some v) (held : 0 < v.holds)
    (l : Link) (ls : List Link) (u b : ℕ) (due : v.due ≡ []) (pending : v.pending ≡ l ∷ ls)
    (turn : IsBetween l (wire_ref u) b) where
  abbrev z : Parts
  z = p.parts

  abbrev reached : ℕ → Bool
  reached = is_reached z k.log s.views

  abbrev old_edges : List (ℕ × ℕ)
  old_edges = edges_of z k.net k.log k.full s.views

  abbrev full : List ℕ
  full = set k.full u b

  seen : IsView s v
  seen = (id, here)

  first_in : IsIn l v.pending
  first_in = subst (λ (ms : List Link). IsIn l ms) (sym pending) (inl refl)

  behind_in : (m : Link) → IsIn m ls → IsIn m v.pending
  behind_in m i = subst (λ (ms : List Link). IsIn m ms) (sym pending) (inr i)

  made_one : IsMadeRef z k.log l.one × IsMadeRef z k.log l.two
  made_one = k.cells.link_refs v l seen first_in

  both_ends : (1 ≤ ends nat_eq l.one old_edges) × (1 ≤ ends nat_eq l.two old_edges)
  both_ends = link_ends p s k v l ls seen pending

  pub other_made : IsMadeRef z k.log b
  other_made = of turn
    where
      of : IsBetween l (wire_ref u) b → IsMadeRef z k.log b
      of (inl t) = subst (IsMadeRef z k.log) t.1 made_one.1
      of (inr t) = subst (IsMadeRef z k.log) t.0 made_one.0

  pub other_end : 1 ≤ ends nat_eq b old_edges
  other_end = of turn
    where
      of : IsBetween l (wire_ref u) b → 1 ≤ ends nat_eq b old_edges
      of (inl t) = subst (λ r. 1 ≤ ends nat_eq r old_edges) t.1 both_ends.1
      of (inr t) = subst (λ r. 1 ≤ ends nat_eq r old_edges) t.0 both_ends.0

  wire_end : 1 ≤ ends nat_eq (wire_ref u) old_edges
  wire_end = of turn
    where
      of : IsBetween l (wire_ref u) b → 1 ≤ ends nat_eq (wire_ref u) old_edges
      of (inl t) = subst (λ r. 1 ≤ ends nat_eq r old_edges) t.0 both_ends.0
      of (inr t) = subst (λ r. 1 ≤ ends nat_eq r old_edges) t.1 both_ends.1

  at : IsSite z k.net k.log reached u
  at = site p s k u wire_end

  pub is_linked : IsLinked (part_of_word z u)
  is_linked = at.part

  pub within : u < table_size z
  within = omega (arith, at.below, k.tickets.few)

  some_b : b ≢ 0
  some_b = made_some b other_made.0

  not_left : (w : ℕ) → part_of_word z w ≡ left → w ≢ u
  not_left w e q = subst IsLinked (ap (part_of_word z) (sym q) ∙ e) at.part

  not_right : (w : ℕ) → part_of_word z w ≡ right → w ≢ u
  not_right w e q = subst IsLinked (ap (part_of_word z) (sym q) ∙ e) at.part

  not_cell : (w : ℕ) → part_of_word z w ≡ left → (w ≢ u) × (suc w ≢ u)
  not_cell w e = (not_left w e, not_right (suc w) (is_left z w e).0)

  pub same_word : get_or k.full u 0 ≡ get_or s.words u 0
  same_word = word_written p s k u within (linked_not_own (part_of_word z u) at.part) (λ e. not_left u e refl)

  -- the right word of the cell of the link is empty
  right_empty : get_or k.full (suc l.cell) 0 ≡ 0
  right_empty = of (k.cells.unpublished v l seen first_in).2 turn
    where
      of : IsRightOf v l (get_or k.full (suc l.cell) 0) → IsBetween l (wire_ref u) b → get_or k.full (suc l.cell) 0 ≡ 0
      of (inl e) t = e
      of (inr h) (inl t) = absurd (omega (arith, h.0, t.0, wire_sort u))
      of (inr h) (inr t) = absurd (omega (arith, h.1, t.1, wire_sort u))

  -- the parts of such a step that are the same whatever was found
  module _ (more : List Link) (dead : List ℕ)
      (each : (m : Link) → IsIn m more → IsIn m ls
      ⊎ ((m.cell ≡ l.cell) × IsMadeRef z k.log m.one × IsMadeRef z k.log m.two)) where
    abbrev next : View
    next = linking v v.published more v.known dead

    site_step : ((a : ℕ) → links_at a more ≤ links_at a v.pending) →
        ((a : ℕ) → deaths a (set s.views id next) ≤ bit (is_made z k.log a))
        → StandsForNet z k.net (is_reached z k.log (set s.views id next))
        (edges_of z k.net k.log full (set s.views id next)) → LinkStep p s k id v u b v.published more v.known dead
    site_step fewer once net = record {
      some_word = at.some_word;
      below = at.below;
      not_own = linked_not_own (part_of_word z u) at.part;
      not_start = λ c lt. not_start c lt at.before_cells;
      same_word = same_word;
      made_ref = other_made;
      unused = λ t w e. not_cell w (k.cells.used t w e).0;
      lasts = λ o ne. absurd (linked_not_lasting (part_of_word z u) at.part o);
      cells = λ w is ne. let d = not_cell w is in
          let e = get_or-set_other k.full u w b 0 d.0 in
          let f = get_or-set_other k.full u (suc w) b 0 d.1 in
          let h = k.words.cells w is (λ q. ne (e ∙ q)) in
          (subst IsNodeRef (sym e) h.0, subst IsNodeRef (sym f) h.1);
      nothing_due = due;
      knows = λ a y m. inl m;
      same_cells = λ m i. cell_of m (each m i);
      unpublished = λ m i. open_still m (each m i);
      link_refs = λ m i. refs_of m (each m i);
      fewer = fewer;
      published_once = λ w is. omega (arith, ap filled (get_or-set_other k.full u w b 0 (not_left w is)));
      others = λ j w m d e i. not_cell m.cell (k.cells.unpublished w m (j, e) i).0;
      swept = λ c lt. swept_other c;
      dead_once = once;
      net = net;
    }
      where
        not_start : (c : ℕ) → c < z.cells → (u < start_cell z 0) ⊎ (block z 0 ≤ u) →
            (start_cell z c ≢ u) × (suc (start_cell z c) ≢ u)
        not_start c lt (inl low) = ((λ e. omega (arith, low, e)), (λ e. omega (arith, low, e)))
        not_start c lt (inr high) = ((λ e. omega (arith, high, lt, e)), (λ e. omega (arith, high, lt, e)))

        cell_of : (m : Link) → IsIn m ls ⊎ ((m.cell ≡ l.cell) × IsMadeRef z k.log m.one
            × IsMadeRef z k.log m.two) → (n : Link) × IsIn n v.pending × (n.cell ≡ m.cell)
        cell_of m (inl i) = (m, behind_in m i, refl)
        cell_of m (inr h) = (l, first_in, sym h.0)

        refs_of : (m : Link) → IsIn m ls ⊎ ((m.cell ≡ l.cell) × IsMadeRef z k.log m.one
            × IsMadeRef z k.log m.two) → IsMadeRef z k.log m.one × IsMadeRef z k.log m.two
        refs_of m (inl i) = k.cells.link_refs v m seen (behind_in m i)
        refs_of m (inr h) = (h.1, h.2)

        still : (w : ℕ) → w ≢ u → get_or full w 0 ≡ get_or k.full w 0
        still w d = get_or-set_other k.full u w b 0 d

        open_still : (m : Link) → IsIn m ls ⊎
            ((m.cell ≡ l.cell) × IsMadeRef z k.log m.one × IsMadeRef z k.log m.two) →
            (get_or full m.cell 0 ≡ 0) × IsRightOf v m (get_or full (suc m.cell) 0)
        open_still m (inl i) =
            let h = k.cells.unpublished v m seen (behind_in m i) in
            let d = not_cell m.cell h.0 in
            (still m.cell d.0 ∙ h.1, subst (IsRightOf v m) (sym (still (suc m.cell) d.1)) h.2)
        open_still m (inr h) =
            let o = k.cells.unpublished v l seen first_in in
            let d = not_cell l.cell o.0 in (
              ap (λ w. get_or full w 0) h.0 ∙ still l.cell d.0 ∙ o.1,
              inl (ap (λ w. get_or full (suc w) 0) h.0 ∙ still (suc l.cell) d.1 ∙ right_empty),
            )

        swept_other : (c : ℕ) → (left_word z c ≢ u) × (suc (left_word z c) ≢ u)
        swept_other c = elim (cases_lt c (cells_of z)) [
          | inl low ↦ not_cell (left_word z c) (part_cell z c low).0
          | inr high ↦ (
            (λ e. omega (arith, left_past_all z c high, within, e)),
            (λ e. omega (arith, left_past_all z c high, within, e)),
          )
        ]

  -- the first pending link weighs what an edge at the wire weighs
  head_weigh : (h : ℕ → ℕ → ℕ) → Even h →
      pairs h (links_in v.pending) ≡ h (wire_ref u) b + pairs h (links_in (rest v.pending))
  head_weigh h even = of turn
    where
      whole : pairs h (links_in v.pending) ≡ h l.one l.two + pairs h (links_in (rest v.pending))
      whole = ap (λ ms. pairs h (links_in ms)) pending
          ∙ ap (λ ms. h l.one l.two + pairs h (links_in (rest ms))) (sym pending)

      of : IsBetween l (wire_ref u) b → pairs h (links_in v.pending) ≡ h (wire_ref u) b + pairs h
          (links_in (rest v.pending))
      of (inl t) = omega (arith, whole, ap (λ a. h a l.two) t.0, ap (h (wire_ref u)) t.1)
      of (inr t) = omega (arith, whole, ap (λ a. h a l.two) t.0, ap (h b) t.1, even b (wire_ref u))

  no_right : (w : ℕ) → part_of_word z w ≡ left → suc w ≡ u → get_or k.full w 0 ≡ 0
  no_right w is e = absurd ((not_cell w is).1 e)

  at_u : get_or full u 0 ≡ b
  at_u = get_or-set_same k.full u b 0 (omega (arith, within, k.words.full_wide))

  some_edge : (h : ℕ → ℕ → ℕ) (words : List ℕ) (y : ℕ) → get_or words u 0 ≡ y → y ≢ 0 →
      pairs h (word_edge z k.net reached words u) ≡ h (wire_ref u) y
  some_edge h words y e d = ap (pairs h) (at.edge words ∙ ap (edge_to (wire_ref u)) e) ∙ edge_some h (wire_ref u) y d

  -- the word was empty: the pending edge is the word's now
  module _ (empty : get_or s.words u 0 ≡ 0) where
    abbrev linked_views : List View
    linked_views = set s.views id (linked v)

    linked_deaths : (a : ℕ) → deaths a linked_views ≡ deaths a s.views
    linked_deaths a = omega (arith, total_set (λ (w : View). times_in a w.dead) s.views id v (linked v) here)

    linked_reached : is_reached z k.log linked_views ≡ reached
    linked_reached = λ n a. (ap (λ d. is_made z k.log a && nat_eq d 0) (linked_deaths a)) n

    linked_edges : Alike old_edges (edges_in z k.net reached full (table_size z) ++ pending_in linked_views)
    linked_edges h even =
        let none : pairs h (word_edge z k.net reached k.full u) ≡ 0 = ap (pairs h)
        (at.edge k.full ∙ edge_none (wire_ref u) (get_or k.full u 0) (same_word ∙ empty)) in
        omega (
          arith,
          edges_set z k.net reached reached k.full u b within (λ w d. refl) no_right h,
          none,
          some_edge h full b at_u some_b,
          pending_weigh h s.views id v (linked v) here,
          head_weigh h even,
          pairs_append h (edges_in z k.net reached k.full (table_size z)) (pending_in s.views),
          pairs_append h (edges_in z k.net reached full (table_size z)) (pending_in linked_views),
        )

    linked_stands : StandsForNet z k.net (is_reached z k.log linked_views) (edges_of z k.net k.log full linked_views)
    linked_stands = subst (λ (r : ℕ → Bool).
        StandsForNet z k.net r (edges_in z k.net r full (table_size z) ++ pending_in linked_views))
        (sym linked_reached) (stands_alike z k.net reached old_edges
        (edges_in z k.net reached full (table_size z) ++ pending_in linked_views) linked_edges k.stands)

    in_rest : (m : Link) → IsIn m (rest v.pending) → IsIn m ls
    in_rest m = subst (λ (ms : List Link). IsIn m (rest ms)) pending

    pub empty_keeps : Kept p (after s u b id (linked v))
    empty_keeps =
        link_keeps p s k id v u b v.published (rest v.pending) v.known v.dead here held
        (site_step (rest v.pending) v.dead (λ m i. inl (in_rest m i)) (λ a. rest_fewer a v.pending)
        (λ a. omega (arith, linked_deaths a, k.seats.dead a)) linked_stands)

  -- the word had the other end c of the wire: the wire is taken out, and b and c are to be linked
  module _ (found : get_or s.words u 0 ≢ 0) where
    abbrev c : ℕ
    c = get_or s.words u 0

    full_found : get_or k.full u 0 ≢ 0
    full_found e = found (sym same_word ∙ e)

    pub found_made : IsMadeRef z k.log c
    found_made = subst (IsMadeRef z k.log) same_word (k.words.refs u at.some_word full_found)

    word_in : IsIn (wire_ref u, get_or k.full u 0) (edges_in z k.net reached k.full (table_size z))
    word_in =
        edge_there z k.net reached k.full (table_size z) u _ within
        (subst (λ (es : List (ℕ × ℕ)). IsIn {X = ℕ × ℕ} (wire_ref u, get_or k.full u 0) es) (sym (at.edge k.full))
        (subst (λ q. IsIn {X = ℕ × ℕ} (wire_ref u, get_or k.full u 0)
        (if q then [] else (wire_ref u, get_or k.full u 0) ∷ []))
        (sym (ne_eqb (get_or k.full u 0) 0 full_found)) (inl refl)))

    pub found_end : 1 ≤ ends nat_eq c old_edges
    found_end = omega (
      arith,
      ends_append nat_eq c (edges_in z k.net reached k.full (table_size z))
          (pending_in s.views),
      subst (λ r. 1 ≤ ends nat_eq r
          (edges_in z k.net reached k.full (table_size z))) same_word
          (ends_second _ _ (edges_in z k.net reached k.full (table_size z)) word_in),
    )

    pending_ends : 1 ≤ ends nat_eq (wire_ref u) (pending_in s.views)
    pending_ends = of turn
      where
        edge : IsIn (l.one, l.two) (pending_in s.views)
        edge = pending_there s.views id v (l.one, l.two) here
            (subst (λ (ms : List Link). IsIn {X = ℕ × ℕ} (l.one, l.two) (links_in ms)) (sym pending) (inl refl))

        of : IsBetween l (wire_ref u) b → 1 ≤ ends nat_eq (wire_ref u) (pending_in s.views)
        of (inl t) = subst (λ r. 1 ≤ ends nat_eq r (pending_in s.views)) t.0 (ends_first _ _ (pending_in s.views) edge)
        of (inr t) = subst (λ r. 1 ≤ ends nat_eq r (pending_in s.views)) t.1 (ends_second _ _ (pending_in s.views) edge)

    -- a free port has one end only
    is_wire : reached u ≡ true
    is_wire = of (port_or_reached p s k u wire_end)
      where
        of : ((q : NamedPort NodeName) × IsEnd z k.net q (wire_ref u)
            × IsSite z k.net k.log reached u) ⊎ (reached u ≡ true) → reached u ≡ true
        of (inl t) = absurd (omega (
          arith,
          k.stands.ports t.0 (wire_ref u) t.1,
          ends_append nat_eq (wire_ref u) (edges_in z k.net reached k.full (table_size z))
              (pending_in s.views),
          ends_first _ _
              (edges_in z k.net reached k.full (table_size z)) word_in,
          pending_ends,
        ))
        of (inr e) = e

    abbrev after_view : View
    after_view = moved v u b c

    abbrev views : List View
    views = set s.views id after_view

    abbrev reached' : ℕ → Bool
    reached' = is_reached z k.log views

    more_deaths : (a : ℕ) → deaths a views ≡ deaths a s.views + one_if u a
    more_deaths a = omega (
      arith,
      total_set
          (λ (w : View). times_in a w.dead) s.views id v after_view here,
      times_more a v.dead u,
    )

    other_deaths : (a : ℕ) → a ≢ u → deaths a views ≡ deaths a s.views
    other_deaths a d = omega (arith, more_deaths a, one_other u a (λ q. d (sym q)))

    and_false : (a : Bool) → (a && false) ≡ false
    and_false true = refl
    and_false false = refl

    alive_parts : (is_made z k.log u ≡ true) × (nat_eq (deaths u s.views) 0 ≡ true)
    alive_parts = and_parts (is_made z k.log u) (nat_eq (deaths u s.views) 0) is_wire

    one_death : deaths u views ≡ 1
    one_death =
        let none : deaths u s.views ≡ 0 = eqb-true (deaths u s.views) 0 alive_parts.1 in
        omega (arith, more_deaths u, none, one_same u u refl)

    gone : reached' u ≡ false
    gone = ap (λ d. is_made z k.log u && nat_eq d 0) one_death ∙ and_false (is_made z k.log u)

    same_reached : (a : ℕ) → a ≢ u → reached' a ≡ reached a
    same_reached a d = ap (λ n. is_made z k.log a && nat_eq n 0) (other_deaths a d)

    -- all other edges
    abbrev left_over : List (ℕ × ℕ)
    left_over = edges_in z k.net reached' full (table_size z) ++ pending_in (set s.views id (linked v))

    from_edges : Alike old_edges ((wire_ref u, b) ∷ (wire_ref u, c) ∷ left_over)
    from_edges h even =
        omega (
          arith,
          edges_set z k.net reached reached' k.full u b within same_reached no_right h,
          some_edge h k.full c same_word found,
          ap (pairs h) (dead_edge p s k u is_wire reached' gone full),
          pending_weigh h s.views id v (linked v) here,
          head_weigh h even,
          pairs_append h (edges_in z k.net reached k.full (table_size z)) (pending_in s.views),
          pairs_append h (edges_in z k.net reached' full (table_size z)) (pending_in (set s.views id (linked v))),
        )

    relinked_weigh : (h : ℕ → ℕ → ℕ) → pairs h (links_in (relinked v.pending b c)) ≡ h b c + pairs h
        (links_in (rest v.pending))
    relinked_weigh h = ap (λ ms. pairs h (links_in (relinked ms b c))) pending
        ∙ ap (λ ms. h b c + pairs h (links_in (rest ms))) (sym pending)

    to_edges : Alike (edges_of z k.net k.log full views) ((b, c) ∷ left_over)
    to_edges h even =
        omega (
          arith,
          pending_weigh h s.views id v (linked v) here,
          pending_weigh h s.views id v after_view here,
          relinked_weigh h,
          pairs_append h (edges_in z k.net reached' full (table_size z)) (pending_in views),
          pairs_append h (edges_in z k.net reached' full (table_size z)) (pending_in (set s.views id (linked v))),
        )

    net_stands : StandsForNet z k.net reached' (edges_of z k.net k.log full views)
    net_stands =
        exchange_stands z k.net reached reached' old_edges
        (edges_of z k.net k.log full views) left_over u b c k.stands is_wire from_edges to_edges
        (λ a e d. same_reached a d ∙ e) (λ a e.
        let d : a ≢ u = λ q. false≢true (sym gone ∙ ap reached' (sym q) ∙ e) in
        (sym (same_reached a d) ∙ e, d))

    once : (a : ℕ) → deaths a views ≤ bit (is_made z k.log a)
    once a = elim (cases_eq a u) [
      | inl e ↦ omega (
        arith,
        ap (λ q. deaths q views) e,
        one_death,
        ap (λ q. bit (is_made z k.log q)) e,
        ap bit alive_parts.0,
      )
      | inr d ↦ omega (arith, other_deaths a d, k.seats.dead a)
    ]

    each : (m : Link) → IsIn m (relinked v.pending b c) →
        IsIn m ls ⊎ ((m.cell ≡ l.cell) × IsMadeRef z k.log m.one × IsMadeRef z k.log m.two)
    each m i = of (subst (λ (ms : List Link). IsIn m (relinked ms b c)) pending i)
      where
        of : IsIn m (relinked (l ∷ ls) b c) →
            IsIn m ls ⊎ ((m.cell ≡ l.cell) × IsMadeRef z k.log m.one × IsMadeRef z k.log m.two)
        of (inl e) = inr (
          ap (λ (n : Link). n.cell) e,
          subst (IsMadeRef z k.log) (sym (ap (λ (n : Link). n.one) e)) other_made,
          subst (IsMadeRef z k.log) (sym (ap (λ (n : Link). n.two) e)) found_made,
        )
        of (inr h) = inl h

    pub found_keeps : Kept p (after s u b id (moved v u b c))
    found_keeps =
        link_keeps p s k id v u b v.published (relinked v.pending b c) v.known (v.dead ++ u ∷ []) here held
        (site_step (relinked v.pending b c) (v.dead ++ u ∷ []) each
        (λ a. let e = relinked_same a b c v.pending in omega (arith, e)) once net_stands)

    -- the dead wires of the view are words, each once
    pub found_spread : (spread (table_size z) (moved v u b c).dead ≡ spread
        (table_size z) v.dead + 1) × (spread (table_size z) (moved v u b c).dead ≤ table_size z)
    found_spread = (spread_more (table_size z) v.dead u within, spread_few (table_size z) (v.dead ++ u ∷ []) few)
      where
        bit_few : (q : Bool) → bit q ≤ 1
        bit_few true = omega arith
        bit_few false = omega arith

        few : (a : ℕ) → times_in a (v.dead ++ u ∷ []) ≤ 1
        few a = omega (
          arith,
          once a,
          bit_few (is_made z k.log a),
          total_set (λ (w : View). times_in a w.dead) s.views id v after_view here,
          one_below (λ (w : View). times_in a w.dead) s.views id v here,
        )
