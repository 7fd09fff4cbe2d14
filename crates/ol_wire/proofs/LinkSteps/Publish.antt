-- A link between two nodes keeps the rule as it is made: the right word of its cell is written, and then the left one.
-- Used in Allowed.
use Rattle.std.proofs.Common.{◌≡◌, ◌≢◌, ℕ, suc, ◌+◌, ◌-◌, ◌==◌, ◌<◌, ◌≤◌, ◌⊎◌, Bool, ◌&&◌, if◌then◌else◌, nat_eq}
use Rattle.std.proofs.Common.{eq-eqb, ne_eqb, List, [], ◌∷◌, ◌++◌, length, get_or, set, sym, refl, ap, ◌∙◌, subst, inl}
use Rattle.std.proofs.Common.{inr, arith, get_or-set_same, get_or-set_other}
use Rattle.std.proofs.lemmas.Bool.{cases_eq}
use mathlib.Core.Option.{some}
use lib.ListN.{get_elem?}
use Rattle.ol_law_edges.specs.Edges.{IsIn, bit}
use Rattle.ol_wire.specs.declared.layout.Parts.{Parts}
use Rattle.ol_wire.specs.declared.plan.Plan.{Plan}
use Rattle.ol_wire.specs.declared.view.Link.{Link}
use Rattle.ol_wire.specs.declared.view.View.{View}
use Rattle.ol_wire.specs.References.{IsNodeRef}
use Rattle.ol_wire.specs.Layout.{left, right, part_of_word, block, table_size, left_word}
use Rattle.ol_wire.specs.Weights.{pairs}
use Rattle.ol_wire.specs.Edges.{is_reached, is_made, deaths, times_in, edges_of, edges_in, pending_in, links_in}
use Rattle.ol_wire.specs.Stands.{StandsForNet}
use Rattle.ol_wire.specs.Plays.{cell_at}
use Rattle.ol_wire.specs.StepPlays.{rest, knowing, publishing, first_active}
use Rattle.ol_wire.specs.Rule.{Table, Kept, IsView, IsLasting, IsOwn, IsRightOf, filled}
use Rattle.ol_wire.proofs.InWords.Places.{is_left}
use Rattle.ol_wire.proofs.InWords.Alike.{Alike, total_append, pairs_append}
use Rattle.ol_wire.proofs.InWords.Held.{word_full}
use Rattle.ol_wire.proofs.InWords.EdgeList.{word_edge, pending_weigh}
use Rattle.ol_wire.proofs.InWords.Edges.{edge_as}
use Rattle.ol_wire.proofs.Ticket.Numbers.{left_of_cell}
use Rattle.ol_wire.proofs.Steps.Keep.{after}
use Rattle.ol_wire.proofs.Steps.Lists.{total_set}
use Rattle.ol_wire.proofs.LinkSteps.Keep.{LinkStep, linking, link_keeps}
use Rattle.ol_wire.proofs.Steps.Live.{owed_keeps, index_in}
use Rattle.ol_wire.proofs.Steps.Plain.{left_past}
use Rattle.ol_wire.proofs.LinkSteps.Edges.{stands_alike, edges_set}
use Rattle.ol_wire.proofs.LinkSteps.Sites.{word_written}
use Rattle.ol_wire.proofs.LinkSteps.Exchange.{rest_fewer}
use Rattle.ol_wire.proofs.LinkSteps.Cells.{cell_open, ends_made, right_part, in_blocks, not_start}
use Rattle.ol_wire.proofs.LinkSteps.Cells.{behind_apart, others_apart, left_right, swept_apart}

node_some : (r : ℕ) → IsNodeRef r → r ≢ 0
node_some r sort e = omega (arith, sort, e)

module _ (p : Plan) (s : Table) (k : Kept p s) (id : ℕ) (v : View)
    (here : get_elem? s.views id ≡ some v) (held : 0 < v.holds)
    (l : Link) (ls : List Link) (due : v.due ≡ []) (pending : v.pending ≡ l ∷ ls)
    (one_node : IsNodeRef l.one) (two_node : IsNodeRef l.two) where
  abbrev z : Parts
  z = p.parts

  abbrev reached : ℕ → Bool
  reached = is_reached z k.log s.views

  abbrev old_edges : List (ℕ × ℕ)
  old_edges = edges_of z k.net k.log k.full s.views

  seen : IsView s v
  seen = (id, here)

  is_cell : part_of_word z l.cell ≡ left
  is_cell = (cell_open p s k id v here l ls pending).0

  empty : get_or k.full l.cell 0 ≡ 0
  empty = (cell_open p s k id v here l ls pending).1

  is_right : part_of_word z (suc l.cell) ≡ right
  is_right = right_part p s k id v here l ls pending

  within : suc l.cell < table_size z
  within = (is_left z l.cell is_cell).1

  blocks : (block z 0 ≤ l.cell) × (suc l.cell < block z (length k.log))
  blocks = in_blocks p s k id v here l ls pending

  which : (m : Link) → IsIn m v.pending → (m ≡ l) ⊎ IsIn m ls
  which m i = subst (λ (ms : List Link). IsIn m ms) pending i

  -- the same wires are reached where no wire died
  module _ (next : View) (same_dead : next.dead ≡ v.dead) where
    same_deaths : (a : ℕ) → deaths a (set s.views id next) ≡ deaths a s.views
    same_deaths a = omega (
      arith,
      ap (times_in a) same_dead,
      total_set (λ (w : View). times_in a w.dead) s.views id v next here,
    )

    same_reached : is_reached z k.log (set s.views id next) ≡ reached
    same_reached = λ n a. (ap (λ d. is_made z k.log a && nat_eq d 0) (same_deaths a)) n

    once : (a : ℕ) → deaths a (set s.views id next) ≤ bit (is_made z k.log a)
    once a = omega (arith, same_deaths a, k.seats.dead a)

    net_stands : (full : List ℕ) → Alike old_edges
        (edges_in z k.net reached full (table_size z) ++ pending_in (set s.views id next)) →
        StandsForNet z k.net (is_reached z k.log (set s.views id next))
        (edges_of z k.net k.log full (set s.views id next))
    net_stands full alike =
        subst (λ (r : ℕ → Bool). StandsForNet z k.net r
        (edges_in z k.net r full (table_size z) ++ pending_in (set s.views id next))) (sym same_reached)
        (stands_alike z k.net reached old_edges
        (edges_in z k.net reached full (table_size z) ++ pending_in (set s.views id next)) alike k.stands)

  -- the right word
  abbrev right_full : List ℕ
  right_full = set k.full (suc l.cell) l.two

  right_at : get_or right_full (suc l.cell) 0 ≡ l.two
  right_at = get_or-set_same k.full (suc l.cell) l.two 0 (omega (arith, within, k.words.full_wide))

  right_else : (w : ℕ) → w ≢ suc l.cell → get_or right_full w 0 ≡ get_or k.full w 0
  right_else w d = get_or-set_other k.full (suc l.cell) w l.two 0 d

  right_not_own : IsOwn (part_of_word z (suc l.cell)) → ⊥
  right_not_own o = subst IsOwn is_right o

  right_lasting : IsLasting (part_of_word z (suc l.cell))
  right_lasting = subst IsLasting (sym is_right) tt

  right_written : get_or k.full (suc l.cell) 0 ≡ get_or s.words (suc l.cell) 0
  right_written = word_written p s k (suc l.cell) within right_not_own
      (λ e. let clash : right ≡ left = sym is_right ∙ e in absurd (cc))

  left_of : (w : ℕ) → part_of_word z w ≡ left → w ≢ suc l.cell
  left_of w e = left_right p s k id v here l ls pending w (suc l.cell) e is_right

  -- the edges are the same
  right_edges : Alike old_edges (edges_in z k.net reached right_full (table_size z) ++ pending_in
      (set s.views id (knowing v (suc l.cell) l.two)))
  right_edges h even =
      let none : (ws : List ℕ) → pairs h (word_edge z k.net reached ws (suc l.cell)) ≡ 0 = λ ws.
      ap (pairs h) (edge_as z k.net reached ws (suc l.cell) right is_right) in
      omega (
        arith,
        edges_set z k.net reached reached k.full (suc l.cell) l.two within (λ w d. refl)
            (λ w e q. ap (λ a. get_or k.full a 0) (let same : w ≡ l.cell = omega (arith, q) in same) ∙ empty) h,
        none k.full,
        none right_full,
        pending_weigh h s.views id v (knowing v (suc l.cell) l.two) here,
        pairs_append h (edges_in z k.net reached k.full (table_size z)) (pending_in s.views),
        pairs_append h (edges_in z k.net reached right_full (table_size z))
            (pending_in (set s.views id (knowing v (suc l.cell) l.two))),
      )

  right_step : LinkStep p s k id v (suc l.cell) l.two v.published v.pending ((suc l.cell, l.two) ∷ v.known) v.dead
  right_step = record {
    some_word = omega (arith, left_past z l.cell is_cell);
    below = blocks.1;
    not_own = right_not_own;
    not_start = λ c lt. let h = not_start p s k id v here l ls pending c lt in (h.2, (λ e. h.0 (omega (arith, e))));
    same_word = right_written;
    made_ref = (ends_made p s k id v here l ls pending).1;
    unused = λ t w e. (
      left_of w (k.cells.used t w e).0,
      (λ q. (cell_open p s k id v here l ls pending).3 t w e (omega (arith, q))),
    );
    lasts = λ o ne. was (cell_open p s k id v here l ls pending).2 ne;
    cells = cells_after;
    nothing_due = due;
    knows = known_after;
    same_cells = λ m i. (m, i, refl);
    unpublished = open_after;
    link_refs = λ m i. k.cells.link_refs v m seen i;
    fewer = λ w. omega arith;
    published_once = λ w is. omega (arith, ap filled (right_else w (left_of w is)));
    others = λ j w m d e i. let o = others_apart p s k id v here l ls pending j w m d e i in
        (left_of m.cell (k.cells.unpublished w m (j, e) i).0, (λ q. o (omega (arith, q))));
    swept = λ c lt. let h = swept_apart p s k id v here l ls pending c lt in (h.2, (λ q. h.0 (omega (arith, q))));
    dead_once = once (knowing v (suc l.cell) l.two) refl;
    net = net_stands (knowing v (suc l.cell) l.two) refl right_full right_edges;
  }
    where
      was : IsRightOf v l (get_or k.full (suc l.cell) 0) → get_or s.words (suc l.cell) 0 ≢ 0 →
          l.two ≡ get_or s.words (suc l.cell) 0
      was (inl e) ne = absurd (ne (sym right_written ∙ e))
      was (inr h) ne = sym h.2 ∙ right_written

      cells_after : (w : ℕ) → part_of_word z w ≡ left → get_or right_full w 0 ≢ 0 →
          IsNodeRef (get_or right_full w 0) × IsNodeRef (get_or right_full (suc w) 0)
      cells_after w is ne = elim (cases_eq w l.cell) [
        | inl e ↦ absurd (ne (right_else w (left_of w is) ∙ ap (λ a. get_or k.full a 0) e ∙ empty))
        | inr d ↦
            let e = right_else w (left_of w is) in
            let f = right_else (suc w) (λ q. d (omega (arith, q))) in
            let h = k.words.cells w is (λ q. ne (e ∙ q)) in
            (subst IsNodeRef (sym e) h.0, subst IsNodeRef (sym f) h.1)
      ]

      known_after : (a y : ℕ) → IsIn {X = ℕ × ℕ} (a, y) ((suc l.cell, l.two) ∷ v.known) →
          IsIn {X = ℕ × ℕ} (a, y) v.known ⊎ ((get_or (set s.words (suc l.cell) l.two) a 0 ≡ y)
          × (y ≢ 0) × IsLasting (part_of_word z a))
      known_after a y (inr i) = inl i
      known_after a y (inl e) =
          let f : a ≡ suc l.cell = ap (λ (q : ℕ × ℕ). q.0) e in
          let g : y ≡ l.two = ap (λ (q : ℕ × ℕ). q.1) e in
          let h : get_or (set s.words (suc l.cell) l.two)
          (suc l.cell) 0 ≡ l.two = get_or-set_same s.words (suc l.cell) l.two 0
          (omega (arith, within, k.words.wide)) in
          inr (
            ap (λ b. get_or (set s.words (suc l.cell) l.two) b 0) f ∙ h ∙ sym g,
            (λ q. node_some l.two two_node (sym g ∙ q)),
            subst (λ b. IsLasting (part_of_word z b)) (sym f) right_lasting,
          )

      open_after : (m : Link) → IsIn m v.pending →
          (get_or right_full m.cell 0 ≡ 0) × IsRightOf v m (get_or right_full (suc m.cell) 0)
      open_after m i =
          let o = k.cells.unpublished v m seen i in
          (right_else m.cell (left_of m.cell o.0) ∙ o.1, of (which m i) o.2)
        where
          of : (m ≡ l) ⊎ IsIn m ls → IsRightOf v m (get_or k.full (suc m.cell) 0) →
              IsRightOf v m (get_or right_full (suc m.cell) 0)
          of (inl e) r = subst (λ n. IsRightOf v n (get_or right_full (suc n.cell) 0)) (sym e)
              (inr (one_node, two_node, right_at, due))
          of (inr i) r = subst (IsRightOf v m)
              (sym (right_else (suc m.cell) (λ q. behind_apart p s k id v here l ls pending m i (omega (arith, q))))) r

  pub place_keeps : Kept p (after s (suc l.cell) l.two id (knowing v (suc l.cell) l.two))
  place_keeps = link_keeps p s k id v (suc l.cell) l.two v.published v.pending
      ((suc l.cell, l.two) ∷ v.known) v.dead here held right_step

  -- the left word, once the right one is known
  module _ (known : IsIn (suc l.cell, l.two) v.known) where
    abbrev left_full : List ℕ
    left_full = set k.full l.cell l.one

    abbrev published : List ℕ
    published = v.published ++ cell_at v.parts l.cell ∷ []

    left_at : get_or left_full l.cell 0 ≡ l.one
    left_at = get_or-set_same k.full l.cell l.one 0 (omega (arith, within, k.words.full_wide))

    left_else : (w : ℕ) → w ≢ l.cell → get_or left_full w 0 ≡ get_or k.full w 0
    left_else w d = get_or-set_other k.full l.cell w l.one 0 d

    right_of : (w : ℕ) → part_of_word z w ≡ left → suc w ≢ l.cell
    right_of w e q = left_right p s k id v here l ls pending l.cell (suc w) is_cell (is_left z w e).0 (sym q)

    two_there : get_or left_full (suc l.cell) 0 ≡ l.two
    two_there = left_else (suc l.cell) (λ e. omega (arith, e)) ∙ right_written
        ∙ (k.words.known v (suc l.cell) l.two seen known).0

    left_written : get_or k.full l.cell 0 ≡ get_or s.words l.cell 0
    left_written = elim (cases_eq (get_or s.words l.cell 0) 0) [
      | inl e ↦ empty ∙ sym e
      | inr n ↦ word_full p s k l.cell (omega (arith, within)) n
    ]

    in_rest : (m : Link) → IsIn m (rest v.pending) → IsIn m ls
    in_rest m = subst (λ (ms : List Link). IsIn m (rest ms)) pending

    behind_in : (m : Link) → IsIn m ls → IsIn m v.pending
    behind_in m i = subst (λ (ms : List Link). IsIn m ms) (sym pending) (inr i)

    -- the pending edge is the cell's now
    left_edges : Alike old_edges (edges_in z k.net reached left_full (table_size z) ++ pending_in
        (set s.views id (linking v published (rest v.pending) [] v.dead)))
    left_edges h even =
        let none : pairs h (word_edge z k.net reached k.full l.cell) ≡ 0 = ap (pairs h)
        (edge_as z k.net reached k.full l.cell left is_cell
        ∙ ap (λ y. if y == 0 then [] else (y, get_or k.full (suc l.cell) 0) ∷ []) empty) in
        let one : pairs h (word_edge z k.net reached left_full l.cell) ≡ h l.one l.two + 0 =
        ap (pairs h) (edge_as z k.net reached left_full l.cell left is_cell
        ∙ ap (λ y. if y == 0 then [] else (y, get_or left_full (suc l.cell) 0) ∷ []) left_at
        ∙ ap (λ y. if l.one == 0 then [] else (l.one, y) ∷ []) two_there
        ∙ ap (λ q. if q then [] else (l.one, l.two) ∷ []) (ne_eqb l.one 0 (node_some l.one one_node))) in
        let head : pairs h (links_in v.pending) ≡ h l.one l.two + pairs h
        (links_in (rest v.pending)) = ap (λ ms. pairs h (links_in ms)) pending
        ∙ ap (λ ms. h l.one l.two + pairs h (links_in (rest ms))) (sym pending) in
        omega (
          arith,
          edges_set z k.net reached reached k.full l.cell l.one (omega (arith, within))
              (λ w d. refl) (λ w e q. absurd (right_of w e q)) h,
          none,
          one,
          head,
          pending_weigh h s.views id v (linking v published (rest v.pending) [] v.dead) here,
          pairs_append h (edges_in z k.net reached k.full (table_size z)) (pending_in s.views),
          pairs_append h (edges_in z k.net reached left_full (table_size z))
              (pending_in (set s.views id (linking v published (rest v.pending) [] v.dead))),
        )

    left_step : LinkStep p s k id v l.cell l.one published (rest v.pending) [] v.dead
    left_step = record {
      some_word = omega (arith, blocks.0);
      below = omega (arith, blocks.1);
      not_own = λ o. subst IsOwn is_cell o;
      not_start = λ c lt. let h = not_start p s k id v here l ls pending c lt in (h.0, h.1);
      same_word = left_written;
      made_ref = (ends_made p s k id v here l ls pending).0;
      unused = λ t w e. ((cell_open p s k id v here l ls pending).3 t w e, right_of w (k.cells.used t w e).0);
      lasts = λ o ne. absurd (subst IsLasting is_cell o);
      cells = cells_after;
      nothing_due = due;
      knows = λ a y m. elim m [ ];
      same_cells = λ m i. (m, behind_in m (in_rest m i), refl);
      unpublished = λ m i.
          let o = k.cells.unpublished v m seen (behind_in m (in_rest m i)) in (
            left_else m.cell (behind_apart p s k id v here l ls pending m (in_rest m i)) ∙ o.1,
            subst (IsRightOf v m) (sym (left_else (suc m.cell) (right_of m.cell o.0))) o.2,
          );
      link_refs = λ m i. k.cells.link_refs v m seen (behind_in m (in_rest m i));
      fewer = λ w. rest_fewer w v.pending;
      published_once = published_once;
      others = λ j w m d e i. (
        others_apart p s k id v here l ls pending j w m d e i,
        right_of m.cell (k.cells.unpublished w m (j, e) i).0,
      );
      swept = λ c lt. let h = swept_apart p s k id v here l ls pending c lt in (h.0, h.1);
      dead_once = once (linking v published (rest v.pending) [] v.dead) refl;
      net = net_stands (linking v published (rest v.pending) [] v.dead) refl left_full left_edges;
    }
      where
        cells_after : (w : ℕ) → part_of_word z w ≡ left → get_or left_full w 0 ≢ 0 →
            IsNodeRef (get_or left_full w 0) × IsNodeRef (get_or left_full (suc w) 0)
        cells_after w is ne = elim (cases_eq w l.cell) [
          | inl e ↦ (
            subst (λ a. IsNodeRef (get_or left_full a 0)) (sym e)
                (subst IsNodeRef (sym left_at) one_node),
            subst (λ a. IsNodeRef (get_or left_full (suc a) 0)) (sym e) (subst IsNodeRef (sym two_there) two_node),
          )
          | inr d ↦
              let e = left_else w d in
              let f = left_else (suc w) (right_of w is) in
              let h = k.words.cells w is (λ q. ne (e ∙ q)) in
              (subst IsNodeRef (sym e) h.0, subst IsNodeRef (sym f) h.1)
        ]

        -- the cell is published once more, and was empty; each other cell is as it was
        one : ℕ → ℕ
        one c = if nat_eq (cell_at v.parts l.cell) c then 1 else 0

        more : (c : ℕ) → times_in c published ≡ times_in c v.published + one c
        more c = omega (
          arith,
          total_append (λ y. if nat_eq y c then 1 else 0) v.published
              (cell_at v.parts l.cell ∷ []),
        )

        number_is : cell_at v.parts l.cell ≡ cell_at z l.cell
        number_is = ap (λ (y : Parts). cell_at y l.cell) (k.seats.plans v seen held).0

        published_once : (w : ℕ) → part_of_word z w ≡ left →
            times_in (cell_at z w) published + filled (get_or k.full w 0) ≡ times_in
            (cell_at z w) v.published + filled (get_or left_full w 0)
        published_once w is = elim (cases_eq w l.cell) [
          | inl e ↦
              let same : one (cell_at z w) ≡ 1 = ap (λ b. if b then 1 else 0)
              (eq-eqb (cell_at v.parts l.cell) (cell_at z w) (number_is ∙ ap (cell_at z) (sym e))) in
              let was : filled (get_or k.full w 0) ≡ 0 = ap filled (ap (λ a. get_or k.full a 0) e ∙ empty) in
              let now : filled (get_or left_full w 0) ≡ 1 = ap filled
              (ap (λ a. get_or left_full a 0) e ∙ left_at)
              ∙ ap (λ b. if b then 0 else 1) (ne_eqb l.one 0 (node_some l.one one_node)) in
              omega (arith, more (cell_at z w), same, was, now)
          | inr d ↦
              let apart : cell_at v.parts l.cell ≢ cell_at z w = λ q.
              d (sym (left_of_cell z w is) ∙ ap (left_word z) (sym q ∙ number_is)
              ∙ left_of_cell z l.cell is_cell) in
              let other : one (cell_at z w) ≡ 0 = ap (λ b. if b then 1 else 0)
              (ne_eqb (cell_at v.parts l.cell) (cell_at z w) apart) in
              omega (arith, more (cell_at z w), other, ap filled (left_else w d))
        ]

    pub publish_keeps : Kept p (after s l.cell l.one id (publishing v l.cell))
    publish_keeps = owed_keeps p s l.cell l.one id (linking v published (rest v.pending) [] v.dead)
        (link_keeps p s k id v l.cell l.one published
        (rest v.pending) [] v.dead here held left_step) (index_in s.views id v here) held
        (v.owed - first_active v.pending)
