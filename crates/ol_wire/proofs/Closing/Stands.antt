-- What closed words stand for.
-- Used in `settled`, `stands`, `swept` and `undrawn`.
use Rattle.std.specs.Prelude.{slice_get}
use Rattle.std.proofs.Common.{◌≡◌, ◌≢◌, ℕ, zero, suc, ◌<◌, ◌≤◌, Bool, true, nat_eq, ◌&&◌, List, [], ◌∷◌, ◌++◌, length}
use Rattle.std.proofs.Common.{map, Some, ◌⊎◌, inl, inr, ◌↔◌, slice_index, refl, sym, ap, ◌∙◌, subst, arith}
use Rattle.std.proofs.lemmas.Bool.{false≢true, and_parts}
use Rattle.ol_net.specs.declared.parts.Kind.{Kind}
use Rattle.ol_net.specs.Nets.{NamedNet, HasNode}
use Rattle.ol_rules.specs.declared.journal.NodeName.{NodeName}
use Rattle.ol_net.specs.Pairs.{IsComplete}
use Rattle.ol_rules.proofs.Same.{complete_same}
use Rattle.ol_wire.specs.declared.view.View.{View}
use Rattle.ol_wire.specs.References.{place_in, IsNodeRef, IsRef, IsWholeRef}
use Rattle.ol_wire.specs.Layout.{WordPart, ticket, live_word, port, field, wire, between, left, right, entry, past}
use Rattle.ol_wire.specs.Layout.{part_of_word, left_word, cells_of, block, table_size, IsPlaced}
use Rattle.ol_wire.specs.Events.{Event, IsStuckPair}
use Rattle.ol_wire.specs.Edges.{edges_in, edges_of, is_reached, is_made, is_wire_made, crosses_at, times_in, deaths}
use Rattle.ol_wire.specs.Stands.{StandsForNet}
use Rattle.ol_wire.specs.ClosedRule.{IsClosed}
use Rattle.ol_wire.specs.Closed.{ClosedTable, events_in, log_in, IsAfter}
use Rattle.ol_wire.specs.Standing.{is_reached_in, IsWirePart, IsMadeNode, IsUntouched, WordsStandFor}
use Rattle.ol_wire.proofs.InWords.Overlooked.{complete}
use Rattle.ol_wire.proofs.Closing.Entry.{crosses, crosses_read}
use Rattle.ol_wire.proofs.Closing.Table.{z, s, k, all_in, read, log_told, is_full, tickets, pending_none, no_pending}
use Rattle.ol_wire.proofs.Closing.Cells.{cell_word}
use Rattle.ol_wire.proofs.Closing.Start.{live_told}
use Rattle.ol_wire.proofs.Closing.Told.{after, one_after}
use Rattle.std.proofs.lemmas.List.{append-nil}
use Rattle.ol_wire.proofs.Credit.Quiet.{quiet_complete}

-- a wire that was made is a wire
wire_part : (log : List Event) (q : WordPart) → is_wire_made log q ≡ true → IsWirePart q
wire_part log (wire j) h = tt
wire_part log (between t u v) h = tt
wire_part log ticket h = absurd (false≢true h)
wire_part log live_word h = absurd (false≢true h)
wire_part log (port n) h = absurd (false≢true h)
wire_part log (field x c) h = absurd (false≢true h)
wire_part log left h = absurd (false≢true h)
wire_part log right h = absurd (false≢true h)
wire_part log entry h = absurd (false≢true h)
wire_part log past h = absurd (false≢true h)

crosses_map : (xs : List Event) (t q p : ℕ) →
    ((u : ℕ) (e : Event) → slice_get xs u ≡ Some e → crosses q p (read e) ≡ crosses q p e) →
    crosses_at (slice_get (map read xs) t) q p ≡ crosses_at (slice_get xs t) q p
crosses_map [] t q p h = refl
crosses_map (x ∷ xs) zero q p h = h 0 x refl
crosses_map (x ∷ xs) (suc t) q p h = crosses_map xs t q p (λ u. h (suc u))

made_same : (a b : List Event) → ((t q p : ℕ) →
    crosses_at (slice_get a t) q p ≡ crosses_at (slice_get b t) q p) → (x : WordPart) →
    is_wire_made a x ≡ is_wire_made b x
made_same a b h (wire j) = refl
made_same a b h (between t q p) = h t q p
made_same a b h ticket = refl
made_same a b h live_word = refl
made_same a b h (port n) = refl
made_same a b h (field x c) = refl
made_same a b h left = refl
made_same a b h right = refl
made_same a b h entry = refl
made_same a b h past = refl

module _ (w : ClosedTable) (c : IsClosed w) where
  abbrev pub reached : ℕ → Bool
  reached = is_reached (z w c) (k w c).log (s w c).views

  -- a wire is reached where the words tell that it was made, and the last view doesn't have it as dead
  reached_told : reached ≡ is_reached_in w
  reached_told = λ i n. (told n) i
    where
      crosses_same : (t q p : ℕ) → crosses_at (slice_get (k w c).log t) q p ≡ crosses_at
          (slice_get (log_in (z w c) w.words) t) q p
      crosses_same t q p =
          sym (crosses_map (k w c).log t q p (λ u e h. crosses_read q p e ((k w c).journal.rules u e h)))
          ∙ ap (λ l. crosses_at (slice_get l t) q p) (sym (log_told w c))

      told : (n : ℕ) → reached n ≡ is_reached_in w n
      told n =
          ap (λ b. b && nat_eq (deaths n (s w c).views) 0)
          (made_same (k w c).log (log_in (z w c) w.words) crosses_same (part_of_word (z w c) n))
          ∙ ap (λ d. is_made (z w c) (log_in (z w c) w.words) n && nat_eq d 0)
          (all_in w c (λ (v : View). times_in n v.dead) (λ v o e. ap (λ (v : View). times_in n v.dead) e))

  edges_same : edges_of (z w c) (k w c).net (k w c).log (k w c).full (s w c).views ≡ edges_in
      (z w c) (k w c).net reached w.words (table_size (z w c))
  edges_same = ap (λ es. edges_in (z w c) (k w c).net reached (k w c).full
      (table_size (z w c)) ++ es) (pending_none w c)
      ∙ append-nil (edges_in (z w c) (k w c).net reached (k w c).full (table_size (z w c)))
      ∙ ap (λ l. edges_in (z w c) (k w c).net reached l (table_size (z w c))) (sym (is_full w c))

  -- the words stand for the net, where the nodes are those
  pub stands_for : ((x : NodeName) → ((m : Kind) × (i : ℕ) × HasNode (k w c).net x m i) ↔
      (IsMadeNode w.plan.parts w.words x × IsUntouched w.plan.parts w.words x)) → WordsStandFor w (k w c).net reached
  stands_for live = record {
    wide = ap length (sym c.words) ∙ (k w c).words.wide;
    small = (k w c).plan.small;
    is_net = (k w c).journal.is_net;
    ports = (k w c).journal.ports;
    live = live;
    names = λ x m i h. subst (λ n. IsPlaced (z w c) n x) (sym (tickets w c)) ((k w c).journal.names x m i h);
    indexes = λ x m i h. omega (arith, tickets w c, (k w c).journal.indexes x m i h);
    erasers = (k w c).journal.erasers;
    refs = λ n lt d. ref n lt (λ e. d (ap (λ l. slice_index l n) (is_full w c) ∙ e));
    cells = λ n q d. cell n q (λ e. d (ap (λ l. slice_index l n) (is_full w c) ∙ e));
    wires = λ n h. wire_part (k w c).log (part_of_word (z w c) n)
        (and_parts (is_made (z w c) (k w c).log n) (nat_eq (deaths n (s w c).views) 0) h).0;
    stands = subst (λ es. StandsForNet (z w c) (k w c).net reached es) edges_same (k w c).stands;
  }
    where
      ref : (n : ℕ) → 1 < n → slice_index (k w c).full n ≢ 0 →
          IsRef (slice_index w.words n) × IsWholeRef (slice_index w.words n)
          × (place_in (slice_index w.words n) < block w.plan.parts (events_in w.plan.parts w.words))
      ref n lt d =
          let h = (k w c).words.refs n lt d in
          let e : slice_index (k w c).full n ≡ slice_index w.words n = ap (λ l. slice_index l n) (sym (is_full w c)) in (
            subst (λ x. IsRef x) e h.0,
            subst (λ x. IsWholeRef x) e h.1,
            subst (λ t. place_in (slice_index w.words n) < block w.plan.parts t)
                (sym (tickets w c)) (subst (λ x. place_in x < block w.plan.parts (length (k w c).log)) e h.2),
          )

      cell : (n : ℕ) → part_of_word (z w c) n ≡ left → slice_index (k w c).full n ≢ 0 →
          IsNodeRef (slice_index w.words n) × IsNodeRef (slice_index w.words (suc n))
      cell n q d =
          let h = (k w c).words.cells n q d in (
            subst (λ l. IsNodeRef (slice_index l n)) (sym (is_full w c)) h.0,
            subst (λ l. IsNodeRef (slice_index l (suc n))) (sym (is_full w c)) h.1,
          )

  -- where all cells were swept the net is complete
  pub all_swept : w.view.swept ≡ cells_of (z w c) → IsComplete (k w c).net
  all_swept all = complete w.plan (s w c) (k w c) (no_pending w c) still
    where
      still : (n : ℕ) → part_of_word (z w c) n ≡ left → slice_index (k w c).full n ≢ 0 →
          IsStuckPair (slice_index (k w c).full n) (slice_index (k w c).full (suc n))
      still n q d =
          let t = cell_word (z w c) n q in
          go t.0 t.2 ((k w c).cells.swept w.view t.0 (c.id, c.seat) (omega (arith, all, t.1))).1
        where
          go : (a : ℕ) → left_word (z w c) a ≡ n →
              (slice_index (k w c).full (left_word (z w c) a) ≡ 0)
              ⊎ IsStuckPair (slice_index (k w c).full (left_word (z w c) a))
              (slice_index (k w c).full (suc (left_word (z w c) a))) →
              IsStuckPair (slice_index (k w c).full n) (slice_index (k w c).full (suc n))
          go a e (inl h) = absurd (d (ap (slice_index (k w c).full) (sym e) ∙ h))
          go a e (inr h) = subst (λ n. IsStuckPair (slice_index (k w c).full n) (slice_index (k w c).full (suc n))) e h

  pub complete_after : w.view.swept ≡ cells_of w.plan.parts → (net : NamedNet NodeName) → IsAfter w net → IsComplete net
  complete_after all net a = complete_same (k w c).net net (one_after w c (k w c).net net (after w c) a) (all_swept all)

  pub settled_after : w.view.settled ≡ true → (net : NamedNet NodeName) → IsAfter w net → IsComplete net
  settled_after heard net a = complete_same (k w c).net net
      (one_after w c (k w c).net net (after w c) a)
      (quiet_complete w.plan (s w c) (k w c) c.credit (c.credit.settled w.view (c.id, c.seat) heard))

  pub stands_told : (net : NamedNet NodeName) × IsAfter w net × WordsStandFor w net (is_reached_in w)
  stands_told = (
    (k w c).net,
    after w c,
    subst (λ (r : ℕ → Bool). WordsStandFor w (k w c).net r) reached_told
        (stands_for (live_told w c (k w c).plan.started)),
  )

  -- the blocks of tickets that weren't drawn are empty
  pub undrawn : (n : ℕ) → block w.plan.parts (events_in w.plan.parts w.words) ≤ n → slice_index w.words n ≡ 0
  undrawn n le = ap (λ l. slice_index l n) (is_full w c)
      ∙ (k w c).words.fresh n (subst (λ t. block w.plan.parts t ≤ n) (tickets w c) le)
