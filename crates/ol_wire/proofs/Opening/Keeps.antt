-- The words of a start net meet the rule.
-- Used in `lay`.
use Rattle.std.proofs.Common.{is_some, count_by, length, ◌≡◌, ℕ, zero, suc, ◌+◌, ◌<◌, ◌≤◌, ◌&&◌, nat_eq, true, false}
use Rattle.std.proofs.Common.{Bool, List, [], ◌∷◌, ◌++◌, slice_index, refl, sym, ap, ◌∙◌, subst, arith, inr}
use Rattle.std.proofs.lemmas.List.{append-nil}
use mathlib.Core.Option as option
use lib.ListN.{get_elem?}
use Rattle.atomic_table.specs.Table.{opening}
use Rattle.ol_law_edges.specs.Edges.{IsIn}
use Rattle.ol_net.specs.Graph.{Graph, IsTabled}
use Rattle.ol_net.specs.Indexes.{HasIndexes, top_index_of}
use Rattle.ol_net.specs.Nets.{NamedNet, net_under, IsNet}
use Rattle.ol_net.specs.Numbered.{net_of}
use Rattle.ol_net.proofs.Numbered.{has_node, net_is_net}
use Rattle.ol_rules.specs.declared.journal.NodeName.{NodeName}
use Rattle.ol_rules.specs.declared.journal.NodeName.TheVariants.{Init}
use Rattle.ol_rules.specs.Listed.{each}
use Rattle.ol_rules.specs.Runs as runs
use Rattle.ol_rules.proofs.Renaming.{node_from}
use Rattle.ol_rules.proofs.StartNets as start_nets
use Rattle.ol_wire.specs.declared.layout.Parts.{Parts}
use Rattle.ol_wire.specs.declared.plan.Plan.{Plan}
use Rattle.ol_wire.specs.declared.view.Link.{Link}
use Rattle.ol_wire.specs.declared.view.View.{View}
use Rattle.ol_wire.specs.Layout.{WordPart, part_of_word, start_wire, table_size, IsPlaced}
use Rattle.ol_wire.specs.Layout as part
use Rattle.ol_wire.specs.Sizes.{IsSmall}
use Rattle.ol_wire.specs.Starts.{AreParts}
use Rattle.ol_wire.specs.Events as events
use Rattle.ol_wire.specs.Edges.{is_wire_made, is_made, is_reached, deaths, edge_in, edges_in, edges_of}
use Rattle.ol_wire.specs.Stands.{StandsForNet}
use Rattle.ol_wire.specs.Rule.{Table, Kept, PlanKeeps, JournalKeeps, WordsKeep, CellsKeep, SeatsKeep, IsView, filled}
use Rattle.ol_wire.specs.Openings.{opener}
use Rattle.ol_wire.specs.Credit.{active_cells, Credited, IsRuled}
use Rattle.ol_wire.specs.Remembered.{Remembered}
use Rattle.ol_wire.specs.LaidWords.{IsLaid}
use Rattle.ol_wire.proofs.InWords.Places.{part_wire, is_wire}
use Rattle.ol_wire.proofs.Opening.Ends.{live_start}
use Rattle.ol_wire.proofs.Opening.Sites.{Given}
use Rattle.ol_wire.proofs.Opening.Stands.{start_stands}
use Rattle.ol_wire.proofs.Opening.Refs.{start_refs, start_cells}
use Rattle.std.proofs.lemmas.Bool.{and_parts}
use Rattle.std.proofs.lemmas.Option.{none-some}
use Rattle.ol_net.proofs.Indexes.{top_is_top}
use Rattle.ol_net.proofs.Places.{kind_at-inside}

only_view : {A : Type 0} (a b : A) (id : ℕ) → get_elem? (a ∷ []) id ≡ option.some b → b ≡ a
only_view a b zero e = cc
only_view a b (suc id) e = absurd (let bad : option.none ≡ option.some b = e in cc)

edges_each : (z : Parts) (N : NamedNet NodeName) (reached : ℕ → Bool) (words : List ℕ) (n : ℕ) →
    edges_in z N reached words n ≡ each n
    (λ w. edge_in N (reached w) (part_of_word z w) w (slice_index words w) (slice_index words (suc w)))
edges_each z N reached words zero = refl
edges_each z N reached words (suc n) = ap
    (λ es. es ++ edge_in N (reached n) (part_of_word z n) n (slice_index words n)
    (slice_index words (suc n))) (edges_each z N reached words n)

-- a wire is made where it is one of the start
wire_made : (z : Parts) (w : ℕ) (p : WordPart) → part_of_word z w ≡ p → is_wire_made [] p ≡ true →
    (j : ℕ) × (j < z.wires) × (w ≡ start_wire z j)
wire_made z w (part.wire j) e h = let t = is_wire z w j e in (j, t.0, t.1)
wire_made z w (part.between t q p) e h = absurd (let bad : false ≡ true = h in cc)
wire_made z w part.ticket e h = absurd (let bad : false ≡ true = h in cc)
wire_made z w part.live_word e h = absurd (let bad : false ≡ true = h in cc)
wire_made z w (part.port k) e h = absurd (let bad : false ≡ true = h in cc)
wire_made z w (part.field x s) e h = absurd (let bad : false ≡ true = h in cc)
wire_made z w part.left e h = absurd (let bad : false ≡ true = h in cc)
wire_made z w part.right e h = absurd (let bad : false ≡ true = h in cc)
wire_made z w part.entry e h = absurd (let bad : false ≡ true = h in cc)
wire_made z w part.past e h = absurd (let bad : false ≡ true = h in cc)

-- The net is laid out in these words, with blocks for so many tickets, and is small enough.
pub record IsStart (net : Graph) (fuel : ℕ) (z : Parts) (words : List ℕ) : Type 0 where
  pub is_net : IsNet (net_of net)
  pub whole : count_by is_some net.nodes ≡ length net.nodes
  pub parts : AreParts net fuel z
  pub small : IsSmall z
  pub laid : IsLaid net z words
  pub live : slice_index words 1 ≡ active_cells z words
  pub low : top_index_of net.nodes ≤ 1000000
  pub tabled : IsTabled net.free net.nodes net.partners
  pub indexes : HasIndexes net.nodes

module _ (p : Plan) (fuel : ℕ) (words : List ℕ) (is : IsStart p.start.value fuel p.parts words)
    (some_seat : 0 < p.seats) (few_seats : p.seats ≤ 64) where
  abbrev g : Graph
  g = p.start.value

  abbrev z : Parts
  z = p.parts

  abbrev N : NamedNet NodeName
  N = net_under Init (net_of g)

  abbrev reached : ℕ → Bool
  reached = is_reached z [] (opener p ∷ [])

  given : Given g z words N reached
  given = record {
    free = is.parts.free;
    nodes = is.parts.nodes;
    wires = is.parts.wires;
    cells = is.parts.cells;
    low = is.low;
    tabled = is.tabled;
    laid = is.laid;
    live = live_start g;
    reaches = λ j lt. ap (λ pt. is_wire_made [] pt && nat_eq
        (deaths (start_wire z j) (opener p ∷ [])) 0) (part_wire z j lt);
    only = λ w h. wire_made z w (part_of_word z w) refl
        (and_parts (is_made z [] w) (nat_eq (deaths w (opener p ∷ [])) 0) h).0;
  }

  stands : StandsForNet z N reached (edges_of z N [] words (opener p ∷ []))
  stands = subst (λ es. StandsForNet z N reached es)
      (sym (append-nil (edges_in z N reached words (table_size z))
      ∙ edges_each z N reached words (table_size z))) (start_stands g z words reached given)

  journal : JournalKeeps p [] N
  journal = record {
    run = runs.end;
    played = events.end;
    is_net = start_nets.start_net (net_of g) (net_is_net g is.tabled);
    ports = sym is.parts.free;
    names = λ x k i h.
        let t = node_from Init (net_of g) x k i h in
        let b = kind_at-inside g.nodes t.0 (k, i) ((has_node g t.0 k i).0 t.1) in
        let lt : t.0 < z.nodes = omega (arith, b, is.parts.nodes) in
        subst (λ y. IsPlaced z 0 y) (sym t.2) lt;
    indexes = λ x k i h.
        let t = node_from Init (net_of g) x k i h in
        let b = top_is_top g.nodes t.0 (k, i) ((has_node g t.0 k i).0 t.1) in
        omega (arith, b, is.low);
    erasers = λ x k i h e. let t = node_from Init (net_of g) x k i h in
        is.indexes.erasers t.0 (k, i) ((has_node g t.0 k i).0 t.1) e;
    rules = λ t e h. absurd (none-some e h);
  }

  -- the one view is the opener, and it holds nothing
  abbrev start : Table
  start = opening words [] (opener p)

  view_is : (v : View) → IsView start v → v ≡ opener p
  view_is v (id, e) = only_view (opener p) v id e

  none_taken : (v : View) (x : ℕ × ℕ) → IsView start v → IsIn x v.taken → ⊥
  none_taken v x h i = subst (λ (u : View). IsIn x u.taken) (view_is v h) i

  none_due : (v : View) (x : ℕ × ℕ) → IsView start v → IsIn x v.due → ⊥
  none_due v x h i = subst (λ (u : View). IsIn x u.due) (view_is v h) i

  none_known : (v : View) (x : ℕ × ℕ) → IsView start v → IsIn x v.known → ⊥
  none_known v x h i = subst (λ (u : View). IsIn x u.known) (view_is v h) i

  none_pending : (v : View) (l : Link) → IsView start v → IsIn l v.pending → ⊥
  none_pending v l h i = subst (λ (u : View). IsIn l u.pending) (view_is v h) i

  words_keep : WordsKeep p start [] words
  words_keep = record {
    wide = is.laid.wide;
    full_wide = is.laid.wide;
    written = λ h empties. omega arith;
    refs = λ w lt some. start_refs g z words reached given w lt some;
    cells = start_cells g z words reached given;
    fields = is.laid.fields;
    starts = λ c n get. let both = is.laid.cells c n get in (inr both.0, both.1);
    fresh = is.laid.blocks;
    entries = λ t j e h lt. absurd (none-some e h);
    known = λ v w y h i. absurd (none_known v (w, y) h i);
  }

  cells_keep : CellsKeep p start [] [] words
  cells_keep = record {
    tickets = refl;
    used = λ t w h. absurd (none-some w h);
    unpublished = λ v l h i. absurd (none_pending v l h i);
    one_link = λ w. omega arith;
    link_refs = λ v l h i. absurd (none_pending v l h i);
    swept = λ v c h lt. absurd (let e = ap (λ (u : View). u.swept) (view_is v h) in omega (arith, lt, e));
    published = λ w h le. omega (arith, ap filled (is.laid.blocks w le));
  }

  seats_keep : SeatsKeep p start [] N
  seats_keep = record {
    all = omega arith;
    calm = omega (arith, is.laid.ticket);
    over = λ v h e. absurd (let bad : false ≡ true = sym (ap (λ (u : View). u.over) (view_is v h)) ∙ e in cc);
    plans = λ v h held. (
      ap (λ (u : View). u.parts) (view_is v h),
      ap (λ (u : View). u.seats) (view_is v h),
      ap (λ (u : View). u.start) (view_is v h),
    );
    spent = λ v h e. absurd (let q : v.holds ≡ p.seats = ap (λ (u : View). u.holds) (view_is v h) in
        omega (arith, q, e, some_seat));
    taken = λ v w y h i. absurd (none_taken v (w, y) h i);
    due = λ v w y h i. absurd (none_due v (w, y) h i);
    links = λ v l h i. absurd (none_pending v l h i);
    due_fields = λ v w y x c h i e. absurd (none_due v (w, y) h i);
    made = λ h. omega arith;
    dead = λ w. omega arith;
  }

  plan_keeps : PlanKeeps p
  plan_keeps = record {
    started = record { net = is.is_net; whole = is.whole; low = is.low };
    parts = record {
      free = is.parts.free;
      nodes = is.parts.nodes;
      wires = is.parts.wires;
      cells = is.parts.cells;
      fuel = refl;
    };
    small = is.small;
    seats = (some_seat, few_seats);
  }

  opens : Kept p start
  opens = record {
    log = [];
    net = N;
    full = words;
    from = [];
    plan = plan_keeps;
    tickets = record {
      few = omega arith;
      below = λ lt. sym is.laid.ticket;
      above = λ le. omega (arith, le, is.laid.ticket);
    };
    journal = journal;
    words = words_keep;
    cells = cells_keep;
    seats = seats_keep;
    stands = stands;
  }

  credited : Credited p start
  credited = record {
    live = omega (arith, is.live);
    links = λ v h. let e = ap (λ (u : View). length u.pending) (view_is v h) in omega (arith, e);
    owes = λ v h. let e = ap (λ (u : View). u.owed) (view_is v h) in omega (arith, e);
    few = λ v h. let e = ap (λ (u : View). u.owed + length u.taken) (view_is v h) in omega (arith, e);
    settled = λ v h e. absurd (let bad : false ≡ true = sym (ap (λ (u : View). u.settled) (view_is v h)) ∙ e in cc);
  }

  remembered : Remembered p start
  remembered = record {
    last = λ v h found. absurd (found (ap (λ (u : View). u.last.0) (view_is v h)));
    taken = λ v w y h m. absurd (subst (λ (l : List (ℕ × ℕ)). IsIn {X = ℕ × ℕ} (w, y) l)
        (ap (λ (u : View). u.taken) (view_is v h)) m);
  }

  opens_ruled : IsRuled p start
  opens_ruled = (opens, credited, remembered)

pub opens_as : (p : Plan) (net : Graph) (fuel : ℕ) (z : Parts) (words : List ℕ) →
    IsStart net fuel z words → p.parts ≡ z → p.start.value ≡ net → 0 < p.seats → p.seats ≤ 64 →
    IsRuled p (opening words [] (opener p))
opens_as p net fuel z words is is_z is_net = opens_ruled p fuel words
    (subst (λ (n : Graph). IsStart n fuel p.parts words) (sym is_net)
    (subst (λ (y : Parts). IsStart net fuel y words) (sym is_z) is))
