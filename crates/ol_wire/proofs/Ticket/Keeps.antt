-- A ticket below the fuel keeps the rule: the seat's pair is rewritten, in the words as in the net.
-- Used in Steps.Allowed.
use Rattle.std.proofs.Common.{◌≡◌, ◌≢◌, ℕ, suc, ◌+◌, ◌<◌, ◌≤◌, Bool, true, false, if◌then◌else◌, List, [], ◌∷◌, ◌++◌}
use Rattle.std.proofs.Common.{length, Some, ◌⊎◌, ◌↔◌, inl, inr, sym, ap, ◌∙◌, subst, arith}
use mathlib.Core.Option.{some}
use lib.ListN.{get_elem?}
use Rattle.std.specs.Prelude.{slice_index, slice_set}
use Rattle.ol_net.specs.declared.parts.Kind.{Kind}
use Rattle.ol_net.specs.Nets.{NamedNet, HasNode, Linked, slot, Faces}
use Rattle.ol_net.specs.Parts.{arity}
use Rattle.ol_net.specs.Rules.{rule_of}
use Rattle.ol_rules.specs.declared.journal.NodeName.{NodeName}
use Rattle.ol_rules.specs.declared.journal.NodeName.TheVariants.{Born}
use Rattle.ol_rules.specs.Rewriting.{NodeOf, action_of, is_meeting}
use Rattle.ol_rules.proofs.FreshPairs.{linked_sym}
use Rattle.ol_wire.specs.declared.layout.Parts.{Parts}
use Rattle.ol_wire.specs.declared.plan.Plan.{Plan}
use Rattle.ol_wire.specs.declared.view.View.{View}
use Rattle.ol_wire.specs.References.{node_ref, kind_in, index_in, place_in, IsRef}
use Rattle.ol_wire.specs.Layout.{block, place_of, table_size, born_wire}
use Rattle.ol_wire.specs.Weights.{pairs}
use Rattle.ol_wire.specs.Events.{Event}
use Rattle.ol_wire.specs.Edges.{edges_in, edges_of, pending_in, links_in, deaths, times_in, is_reached}
use Rattle.ol_wire.specs.Blocks.{copies_of_f, copies_of_g, block_words}
use Rattle.ol_wire.specs.LinkLists.{links_of}
use Rattle.ol_wire.specs.Plays.{event_in}
use Rattle.ol_wire.specs.StepPlays.{IsLookedUp, ticketed}
use Rattle.ol_wire.specs.Rule.{Table, Kept}
use Rattle.ol_wire.proofs.InWords.References.{kind_of_ref, index_of_ref, place_of_ref}
use Rattle.ol_wire.proofs.InWords.Alike.{Alike, pairs_append}
use Rattle.ol_wire.proofs.InWords.Claimed.{IsNodeAt, IsCellPair, cell_pair, field_none}
use Rattle.ol_wire.proofs.Ticket.Event.{old_edges, new_edges, born_edges, Rewritten, event_sides}
use Rattle.ol_wire.proofs.Degrees.After.{ports_after, wires_after, others_after}
use Rattle.ol_wire.proofs.Links.After.{links_after}
use Rattle.ol_wire.proofs.Ticket.NetBut.{net_but}
use Rattle.ol_wire.proofs.InWords.EdgeList.{pending_set}
use Rattle.ol_wire.proofs.InWords.Edges.{PairStands}
use Rattle.ol_wire.proofs.InWords.Edges as words_before
use Rattle.ol_wire.proofs.Ticket.Edges.{BlockStands, pair_event, event_is, emptied_fresh}
use Rattle.ol_wire.proofs.Ticket.Edges as words_after
use Rattle.ol_wire.proofs.Ticket.Journal as journals
use Rattle.ol_wire.proofs.Ticket.Lists.{total_set}
use Rattle.ol_wire.proofs.Ticket.Words as words
use Rattle.ol_wire.proofs.Ticket.Cells as cells
use Rattle.ol_wire.proofs.Ticket.Seats as seats
use Rattle.ol_wire.proofs.Ticket.Reached as reaching
use Rattle.ol_rules.proofs.Born.{at_most_two}

-- the two nodes of an event, as nodes of the net
record Actors (z : Parts) (N : NamedNet NodeName) (e : Event) (left right : ℕ) : Type 0 where
  pub f : IsNodeAt z N e.f
  pub g : IsNodeAt z N e.g
  pub linked : Linked N (slot f.x 0) (slot g.x 0)
  pub pair : ((left ≡ e.f) × (right ≡ e.g)) ⊎ ((left ≡ e.g) × (right ≡ e.f))

abbrev as_node : (z : Parts) (N : NamedNet NodeName) (r q : ℕ) → q ≡ r → IsNodeAt z N r → IsNodeAt z N q
as_node z N r q e n = record { x = n.x; k = n.k; i = n.i; has = n.has; is = e ∙ n.is }

module _ (p : Plan) (s : Table) (k : Kept p s) (id : ℕ) (v : View)
    (here : get_elem? s.views id ≡ some v) (w : ℕ) (ready : IsLookedUp v w)
    (low : slice_index s.words 0 < p.parts.fuel) where
  abbrev z : Parts
  z = p.parts

  abbrev t : ℕ
  t = slice_index s.words 0

  abbrev e : Event
  e = event_in v

  abbrev log' : List Event
  log' = k.log ++ event_in v ∷ []

  abbrev a : ℕ → ℕ
  a = words.a p s k id v here w ready low

  abbrev b : ℕ → ℕ
  b = words.b p s k id v here w ready low

  abbrev full' : List ℕ
  full' = words.full' p s k id v here w ready low

  abbrev s' : Table
  s' = words.table_after s id v

  drawn_is : length k.log ≡ t
  drawn_is = words.drawn_is p s k id v here w ready low

  left_full : slice_index k.full w ≡ v.last.0
  left_full = words.left_full p s k id v here w ready low

  right_full : slice_index k.full (suc w) ≡ v.last.1
  right_full = words.right_full p s k id v here w ready low

  actors : Actors z k.net e (slice_index k.full w) (slice_index k.full (suc w))
  actors = of (event_sides v.last.0 v.last.1)
    where
      cell : IsCellPair p s k w
      cell = cell_pair p s k w (words.is_left_word p s k id v here w ready low)
          (λ q. words.left_some p s k id v here w ready low (sym left_full ∙ q))

      of : ((e.f ≡ v.last.0) × (e.g ≡ v.last.1)) ⊎ ((e.f ≡ v.last.1) × (e.g ≡ v.last.0)) →
          Actors z k.net e (slice_index k.full w) (slice_index k.full (suc w))
      of (inl h) = record {
        f = as_node z k.net _ e.f (h.0 ∙ sym left_full) cell.f;
        g = as_node z k.net _ e.g (h.1 ∙ sym right_full) cell.g;
        linked = cell.linked;
        pair = inl (left_full ∙ sym h.0, right_full ∙ sym h.1);
      }
      of (inr h) = record {
        f = as_node z k.net _ e.f (h.0 ∙ sym right_full) cell.g;
        g = as_node z k.net _ e.g (h.1 ∙ sym left_full) cell.f;
        linked = linked_sym k.net (slot cell.f.x 0) (slot cell.g.x 0) cell.linked;
        pair = inr (left_full ∙ sym h.1, right_full ∙ sym h.0);
      }

  module _ (c : Actors z k.net e (slice_index k.full w) (slice_index k.full (suc w))) where
    abbrev x : NodeName
    x = c.f.x

    abbrev y : NodeName
    y = c.g.x

    abbrev kf : Kind
    kf = c.f.k

    abbrev kg : Kind
    kg = c.g.k

    abbrev i : ℕ
    i = c.f.i

    abbrev j : ℕ
    j = c.g.i

    faces : Faces k.net x y kf i kg j
    faces = record { first = c.f.has; second = c.g.has; linked = c.linked }

    small_f : i < 16777216
    small_f = omega (arith, k.journal.indexes x kf i c.f.has, k.tickets.few, k.plan.small.fuel)

    small_g : j < 16777216
    small_g = omega (arith, k.journal.indexes y kg j c.g.has, k.tickets.few, k.plan.small.fuel)

    kind_f : kind_in e.f ≡ kf
    kind_f = ap kind_in c.f.is ∙ kind_of_ref kf i (place_of z x)

    kind_g : kind_in e.g ≡ kg
    kind_g = ap kind_in c.g.is ∙ kind_of_ref kg j (place_of z y)

    place_f : place_in e.f ≡ place_of z x
    place_f = ap place_in c.f.is ∙ place_of_ref kf i (place_of z x) small_f

    place_g : place_in e.g ≡ place_of z y
    place_g = ap place_in c.g.is ∙ place_of_ref kg j (place_of z y) small_g

    rule : rule_of kf i kg j ≡ Some e.rule
    rule =
        sym (ap (λ k. rule_of k (index_in e.f) (kind_in e.g) (index_in e.g)) kind_f
        ∙ ap (λ n. rule_of kf n (kind_in e.g) (index_in e.g))
        (ap index_in c.f.is ∙ index_of_ref kf i (place_of z x) small_f)
        ∙ ap (λ k. rule_of kf i k (index_in e.g)) kind_g
        ∙ ap (rule_of kf i kg) (ap index_in c.g.is ∙ index_of_ref kg j (place_of z y) small_g)) ∙ ready.rule

    low_log : length k.log < p.parts.fuel
    low_log = omega (arith, drawn_is, low)

    abbrev follows : (M : NamedNet NodeName) × journals.Follows p k.log k.net x y kf kg i j e M
    follows = journals.ticket_follows p k.log k.net k.journal x y kf kg i j e faces rule c.f.is
        c.g.is low_log k.plan.small.fuel

    abbrev M : NamedNet NodeName
    M = follows.0

    -- the ticket's number is that of the entries so far
    abbrev n : ℕ
    n = length k.log

    nodes : (u : NodeName) (m : Kind) (c' : ℕ) →
        HasNode M u m c' ↔ NodeOf k.net (λ place. Born t place) x y kf i kg (action_of e.rule j) u m c'
    nodes u m c' = subst (λ n. HasNode M u m c' ↔ NodeOf k.net (λ place. Born n place) x y kf i kg
        (action_of e.rule j) u m c') drawn_is (follows.1.rewrites.nodes u m c')

    abbrev event : Event
    event = pair_event z e.rule x y kf kg i j

    e_is : e ≡ event
    e_is = event_is z e x y kf kg i j c.f.is c.g.is

    abbrev reached : ℕ → Bool
    reached = is_reached z k.log s.views

    abbrev reached' : ℕ → Bool
    reached' = is_reached z log' s'.views

    same_deaths : (u : ℕ) → deaths u s'.views ≡ deaths u s.views
    same_deaths u = omega (arith, total_set (λ (v : View). times_in u v.dead) s.views id v (ticketed v t) here)

    f_slot : (q : ℕ) → q < arity kf → q < arity (kind_in e.f)
    f_slot q lt = omega (arith, lt, ap arity kind_f)

    g_slot : (q : ℕ) → q < arity kg → q < arity (kind_in e.g)
    g_slot q lt = omega (arith, lt, ap arity kind_g)

    f_field : (q : ℕ) → q < arity kf → (slice_index k.full (place_of z x + q) ≡ a q) × (a q ≢ 0) × IsRef (a q)
    f_field q lt = let h = words.f_field p s k id v here w ready low q (f_slot q lt) in
        (ap (λ place. slice_index k.full (place + q)) (sym place_f) ∙ h.0, h.1, h.2.0)

    g_field : (q : ℕ) → q < arity kg → (slice_index k.full (place_of z y + q) ≡ b q) × (b q ≢ 0) × IsRef (b q)
    g_field q lt = let h = words.g_field p s k id v here w ready low q (g_slot q lt) in
        (ap (λ place. slice_index k.full (place + q)) (sym place_g) ∙ h.0, h.1, h.2.0)

    pair_is : ((slice_index k.full w ≡ node_ref kf i (place_of z x))
        × (slice_index k.full (suc w) ≡ node_ref kg j (place_of z y)))
        ⊎ ((slice_index k.full w ≡ node_ref kg j (place_of z y))
        × (slice_index k.full (suc w) ≡ node_ref kf i (place_of z x)))
    pair_is = of c.pair
      where
        of : ((slice_index k.full w ≡ e.f) × (slice_index k.full (suc w) ≡ e.g))
            ⊎ ((slice_index k.full w ≡ e.g) × (slice_index k.full (suc w) ≡ e.f)) →
            ((slice_index k.full w ≡ node_ref kf i (place_of z x))
            × (slice_index k.full (suc w) ≡ node_ref kg j (place_of z y)))
            ⊎ ((slice_index k.full w ≡ node_ref kg j (place_of z y))
            × (slice_index k.full (suc w) ≡ node_ref kf i (place_of z x)))
        of (inl h) = inl (h.0 ∙ c.f.is, h.1 ∙ c.g.is)
        of (inr h) = inr (h.0 ∙ c.g.is, h.1 ∙ c.f.is)

    pair_stands : PairStands z k.net k.full x y kf kg i j n w a b
    pair_stands = record {
      drawn = low_log;
      first = c.f.has;
      second = c.g.has;
      apart = journals.apart p k.log k.net k.journal x y kf kg i j e faces rule c.f.is c.g.is low_log k.plan.small.fuel;
      first_placed = k.journal.names x kf i c.f.has;
      second_placed = k.journal.names y kg j c.g.has;
      cell = words.is_left_word p s k id v here w ready low;
      pair = pair_is;
      a_there = λ q lt. (f_field q lt).0;
      a_some = λ q lt. (f_field q lt).1;
      a_none = λ q le lt. field_none p s k x kf i q c.f.has le lt;
      b_there = λ q lt. (g_field q lt).0;
      b_some = λ q lt. (g_field q lt).1;
      b_none = λ q le lt. field_none p s k y kg j q c.g.has le lt;
    }

    abbrev less : List ℕ
    less = slice_set k.full w 0

    filled : (q : ℕ) → q < 10 → slice_index full' (block z n + q) ≡ slice_index (block_words z event n) q
    filled q lt =
        ap (λ n. slice_index full' (block z n + q)) drawn_is
        ∙ words.full_there z e t w k.full q lt low k.words.full_wide
        ∙ ap (λ t. slice_index (block_words z e t) q) (sym drawn_is) ∙ ap (λ e. slice_index (block_words z e n) q) e_is

    only : (u : ℕ) → reached' u ≡ true →
        (reached u ≡ true) ⊎ ((q : ℕ) × (q' : ℕ) × (q < copies_of_f event)
        × (q' < copies_of_g event) × (u ≡ born_wire z n q q'))
    only u h = subst (λ e. (reached u ≡ true)
        ⊎ ((q : ℕ) × (q' : ℕ) × (q < copies_of_f e) × (q' < copies_of_g e)
        × (u ≡ born_wire z n q q'))) e_is (reaching.only z k.log e low_log s.views s'.views same_deaths u h)

    still : (u : ℕ) → reached u ≡ true → reached' u ≡ true
    still = reaching.still z k.log e low_log s.views s'.views same_deaths

    block_stands : BlockStands z k.net M less full' reached reached' x y kf kg i j n e.rule
    block_stands = record {
      drawn = low_log;
      nodes = follows.1.rewrites.nodes;
      fresh = emptied_fresh k.full w (block z n) k.words.fresh;
      filled = filled;
      others = λ u some o. words.full_out z e t w k.full u (elsewhere u o) (λ q. omega arith);
      still = still;
      only = only;
    }
      where
        elsewhere : (u : ℕ) → (u < block z n) ⊎ (block z n + 10 ≤ u) → (u < block z t) ⊎ (block z t + 10 ≤ u)
        elsewhere u o = subst (λ n. (u < block z n) ⊎ (block z n + 10 ≤ u)) drawn_is o

    abbrev rest : List (ℕ × ℕ)
    rest = edges_in z (net_but x y k.net) reached less (table_size z) ++ pending_in s.views

    from : Alike (edges_of z k.net k.log k.full s.views)
        (old_edges (node_ref kf i (place_of z x)) (node_ref kg j (place_of z y)) (place_of z x)
        (place_of z y) (arity kf) (arity kg) a b ++ rest)
    from h ev =
        let olds = old_edges (node_ref kf i (place_of z x)) (node_ref kg j (place_of z y))
        (place_of z x) (place_of z y) (arity kf) (arity kg) a b in
        let left_words = edges_in z (net_but x y k.net) reached less (table_size z) in
        omega (
          arith,
          pairs_append h (edges_in z k.net reached k.full (table_size z)) (pending_in s.views),
          words_before.before z k.net k.full reached x y kf kg i j n w a b pair_stands h ev,
          pairs_append h olds left_words,
          pairs_append h olds rest,
          pairs_append h left_words (pending_in s.views),
        )

    links_are : (ticketed v t).pending ≡ links_of z event n a b
    links_are = words.pending_is p s k id v here w ready low
        ∙ ap (λ t. links_of z e t a b) (sym drawn_is) ∙ ap (λ e. links_of z e n a b) e_is

    to : Alike (edges_of z M log' full' s'.views) (new_edges z event n a b ++ rest)
    to h ev =
        let left_words = edges_in z (net_but x y k.net) reached less (table_size z) in
        let links = links_in (links_of z event n a b) in
        let born = born_edges z event n in
        omega (
          arith,
          pairs_append h (edges_in z M reached' full' (table_size z)) (pending_in s'.views),
          words_after.after z k.net M less full' reached reached' x y kf kg i j n e.rule block_stands h ev,
          pairs_append h born left_words,
          pending_set s.views id v (ticketed v t) here ready.nothing_pending h ev,
          pairs_append h (links_in (ticketed v t).pending) (pending_in s.views),
          ap (λ l. pairs h (links_in l)) links_are,
          pairs_append h (links ++ born) rest,
          pairs_append h links born,
          pairs_append h left_words (pending_in s.views),
        )

    rewritten : Rewritten z k.net M x y kf kg i j n e.rule a b
        (edges_of z k.net k.log k.full s.views) (edges_of z M log' full' s'.views) rest reached reached'
    rewritten = record {
      is_net = k.journal.is_net;
      faces = faces;
      fits = rule;
      step = follows.1.step;
      ports = k.journal.ports;
      names = k.journal.names;
      indexes = λ u m c' h. omega (arith, k.journal.indexes u m c' h, k.tickets.few, k.plan.small.fuel);
      drawn = low_log;
      before = k.stands;
      from = from;
      to = to;
      a_refs = λ q lt. (f_field q lt).2;
      b_refs = λ q lt. (g_field q lt).2;
      old_wires = reaching.old_wires z k.log e low_log s.views s'.views same_deaths;
      still = still;
      come = come;
      only = only;
    }
      where
        come : (q q' : ℕ) → q < copies_of_f event → q' < copies_of_g event → reached' (born_wire z n q q') ≡ true
        come q q' hq hp =
            let fq : q < copies_of_f e = subst (λ e. q < copies_of_f e) (sym e_is) hq in
            let gq : q' < copies_of_g e = subst (λ e. q' < copies_of_g e) (sym e_is) hp in
            reaching.come z k.log e low_log s.views s'.views same_deaths k.seats.dead q q' fq gq
            (copies_few q fq) (copies_few' q' gq)
          where
            few : (m : Bool) (k : Kind) → (if m then 0 else arity k) ≤ 2
            few true k = omega arith
            few false k = at_most_two k

            copies_few : (q : ℕ) → q < copies_of_f e → q < 2
            copies_few q h = omega (arith, h, few (is_meeting e.rule) (kind_in e.g))

            copies_few' : (q : ℕ) → q < copies_of_g e → q < 2
            copies_few' q h = omega (arith, h, few (is_meeting e.rule) (kind_in e.f))

    done : Kept p s'
    done = record {
      log = log';
      net = M;
      full = full';
      from = k.from ++ w ∷ [];
      plan = k.plan;
      tickets = words.tickets_after p s k id v here w ready low;
      journal = follows.1.journal;
      words = words.words_after p s k id v here w ready low;
      cells = cells.cells_after p s k id v here w ready low;
      seats = seats.seats_after p s k id v here w ready low M x y kf kg i j faces c.f.is c.g.is nodes follows.1.journal;
      stands = record {
        ports = ports_after z k.net M x y kf kg i j n e.rule a b _ _ rest reached reached' rewritten;
        wires = wires_after z k.net M x y kf kg i j n e.rule a b _ _ rest reached reached' rewritten;
        others = others_after z k.net M x y kf kg i j n e.rule a b _ _ rest reached reached' rewritten;
        links = links_after z k.net M x y kf kg i j n e.rule a b _ _ rest reached reached' rewritten;
      };
    }

  pub ticket_keeps : Kept p s'
  ticket_keeps = done actors
