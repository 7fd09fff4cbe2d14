-- What a turn leaves, and that each answer comes by its own cause alone.
-- Used in `begin` and `turn`.
use Rattle.std.proofs.Common.{◌≡◌, ◌≢◌, ℕ, suc, ◌+◌, ◌-◌, ◌<◌, ◌≤◌, ◌&&◌, nat_eq, eqb-true, true}
use Rattle.std.proofs.Common.{arith, false, get_or, if◌then◌else◌, Bool, None, Some, Option, List}
use Rattle.std.proofs.Common.{[], ◌∷◌, ◌++◌, sym, refl, ap, ◌∙◌, subst, ◌*◌, ◌^◌}
use Rattle.ol_net.specs.declared.parts.Rule.{Rule}
use Rattle.ol_wire.specs.declared.layout.Parts.{Parts}
use Rattle.ol_wire.specs.declared.begun.Begun.{Begun}
use Rattle.ol_wire.specs.declared.turn.Turn.{Turn}
use Rattle.ol_wire.specs.declared.turn.Turn.TheVariants.{Gone, Stuck, Spent, Rewrote}
use Rattle.ol_wire.specs.declared.plan.Plan.{Plan}
use Rattle.ol_wire.specs.declared.view.Link.{Link}
use Rattle.ol_wire.specs.declared.view.View.{View}
use Rattle.ol_wire.specs.Layout.{left_word, cells_of}
use Rattle.ol_wire.specs.Events.{Event, rule_between, event_of, entry_of, acting}
use Rattle.ol_wire.specs.Plays.{cell_at, swept_on, event_in}
use Rattle.ol_wire.specs.StepPlays.{IsNodeOf, is_stuck, returned, repaid}
use Rattle.ol_wire.specs.declared.rewrite.Rewrite.{Rewrite}
use Rattle.ol_wire.specs.Rewrites.{event_for}
use Rattle.ol_wire.specs.Idle.{IsIdle}
use Rattle.ol_wire.specs.LinkLists.{links_of, joins_in}
use Rattle.ol_wire.specs.InHand as hands
use Rattle.ol_wire.specs.Hands.{claiming, IsStuckLast, IsActiveLast}
use Rattle.ol_wire.specs.InHand.{in_hand, AreRefs}
use Rattle.ol_wire.specs.Moments.{WasPending}
use Rattle.ol_wire.specs.Turns.{FoundActive, HasCause, masked, Leaves, LinksJoins}
use Rattle.ol_wire.specs.TurnParts.{TurnBegins, IsBegun, AreLinked}
use Rattle.ol_wire.proofs.InWords.Places.{cell_of_left}
use Rattle.ol_wire.proofs.Ticket.Refs.{event_of_pair, joins_few}
use Rattle.ol_wire.proofs.LinkSteps.All.{cell_of_born}

none_some : {x : Rule} → ◌≡◌ {A = Option Rule} None (Some x) → ⊥
none_some e = absurd (cc)

active_pair : (a b : ℕ) → rule_between (event_of a b).f (event_of a b).g ≡ Some
    (event_of a b).rule → is_stuck (rule_between a b) (rule_between b a) ≡ false
active_pair a b fits = of (rule_between a b) (rule_between b a) refl fits
  where
    of : (q r : Option Rule) → rule_between a b ≡ q →
        rule_between (acting q r a b).f (acting q r a b).g ≡ Some (acting q r a b).rule → is_stuck q r ≡ false
    of (Some q) r e f = refl
    of None (Some r) e f = refl
    of None None e f = absurd (none_some (sym e ∙ f))

-- a seat has swept at most the cells of its table
pub swept_stays : (v : View) (c n : ℕ) → v.swept ≤ n → c < n → swept_on v c ≤ n
swept_stays v c n le lt = of (nat_eq v.holds v.seats) (nat_eq c v.swept) refl
  where
    of : (a b : Bool) → nat_eq c v.swept ≡ b → (if a && b then suc v.swept else v.swept) ≤ n
    of true true e = omega (arith, eqb-true c v.swept e, lt)
    of true false e = le
    of false b e = le

-- a pair of cell c was in hand, and is put back; `ks` and `o` are what was known then, and whether
-- the fuel was found used up
module _ (z : Parts) (v t n : View) (c : ℕ) (pair : ℕ × ℕ) (ks : List (ℕ × ℕ)) (o : Bool)
    (parts : v.parts ≡ z) (low : c < cells_of z) (idle : IsIdle v)
    (hand : t ≡ record (in_hand v (left_word z c) c pair) { known = ks; over = o }) (back : n ≡ returned t) where
  abbrev shape : List (ℕ × ℕ) → ℕ → Bool → ℕ × ℕ → View
  shape taken swept over last = record v {
    claimed = v.claimed ++ c ∷ [];
    last = last;
    cell = c;
    taken = taken;
    known = [];
    swept = swept;
    over = over;
  }

  number : cell_at v.parts (left_word z c) ≡ c
  number = ap (λ (y : Parts). cell_at y (left_word z c)) parts ∙ cell_of_left z c low

  abbrev stuck : Bool
  stuck = is_stuck (rule_between pair.0 pair.1) (rule_between pair.1 pair.0)

  whole : n ≡ shape [] (if stuck then swept_on v (cell_at v.parts (left_word z c)) else v.swept) o pair
  whole = back ∙ ap returned hand

  last : n.last ≡ pair
  last = ap (λ (u : View). u.last) whole

  some_left : pair.0 ≢ 0 → n.last.0 ≢ 0
  some_left some_pair e = some_pair (sym (ap (λ (q : ℕ × ℕ). q.0) last) ∙ e)

  stuck_last : rule_between pair.0 pair.1 ≡ None → rule_between pair.1 pair.0 ≡ None → IsStuckLast n
  stuck_last e f = subst (λ (q : ℕ × ℕ). (rule_between q.0 q.1 ≡ None)
      × (rule_between q.1 q.0 ≡ None)) (sym last) (e, f)

  stuck_leaves : o ≡ v.over → rule_between pair.0 pair.1 ≡ None →
      rule_between pair.1 pair.0 ≡ None → n ≡ record (claiming v c n.last) { known = []; swept = swept_on v c }
  stuck_leaves over e f =
      let sure : stuck ≡ true = ap (λ q. is_stuck q (rule_between pair.1 pair.0)) e ∙ ap (is_stuck None) f in
      whole ∙ ap (λ b. shape [] (if b then swept_on v
      (cell_at v.parts (left_word z c)) else v.swept) o pair) sure
      ∙ ap (λ m. shape [] (swept_on v m) o pair) number ∙ ap (λ l. shape l (swept_on v c) o pair) (sym idle.0)
      ∙ ap (λ b. shape v.taken (swept_on v c) b pair) over ∙ ap (shape v.taken (swept_on v c) v.over) (sym last)

  -- the pair has no rule
  pub stuck_after : pair.0 ≢ 0 → o ≡ v.over → rule_between pair.0 pair.1 ≡ None → rule_between pair.1 pair.0 ≡ None
      → ((n.last.0 ≢ 0) × IsStuckLast n) × (n ≡ record (claiming v c n.last) { known = []; swept = swept_on v c })
  stuck_after some_pair over e f = ((some_left some_pair, stuck_last e f), stuck_leaves over e f)

  -- the fuel was found used up, now or before
  pub spent_after : pair.0 ≢ 0 → (r : Rewrite) → event_for r ≡ event_of pair.0 pair.1 →
      rule_between r.f r.g ≡ Some r.rule → o ≡ true
      → (FoundActive n × (n.over ≡ true)) × (n ≡ record (claiming v c n.last) { known = []; over = true })
  spent_after some_pair r is rule over = (
    (
      (some_left some_pair, active_last),
      ap (λ (u : View). u.over) whole ∙ over,
    ),
    leaves,
  )
    where
      fits : rule_between (event_of pair.0 pair.1).f (event_of pair.0 pair.1).g ≡ Some (event_of pair.0 pair.1).rule
      fits = subst (λ (e : Event). rule_between e.f e.g ≡ Some e.rule) is rule

      active_last : IsActiveLast n
      active_last = subst (λ (q : ℕ × ℕ). rule_between (event_of q.0 q.1).f
          (event_of q.0 q.1).g ≡ Some (event_of q.0 q.1).rule) (sym last) fits

      leaves : n ≡ record (claiming v c n.last) { known = []; over = true }
      leaves =
          whole ∙ ap (λ b. shape [] (if b then swept_on v
          (cell_at v.parts (left_word z c)) else v.swept) o pair)
          (active_pair pair.0 pair.1 fits) ∙ ap (λ l. shape l v.swept o pair) (sym idle.0)
          ∙ ap (λ b. shape v.taken v.swept b pair) over ∙ ap (shape v.taken v.swept true) (sym last)

-- the links were owed, and are owed no more
module _ (z : Parts) (v t back n : View) (c joins : ℕ) (pair : ℕ × ℕ) (ks : List (ℕ × ℕ)) (idle : IsIdle v)
    (hand : t ≡ record (in_hand v (left_word z c) c pair) { known = ks; over = true; owed = joins })
    (repays : back ≡ repaid t joins) (returns : n ≡ returned back) where
  pub hand_repaid : record t { owed = v.owed } ≡ record (in_hand v (left_word z c) c pair) { known = ks; over = true }
  hand_repaid = ap (λ (u : View). record u { owed = v.owed }) hand

  pub back_repaid : n ≡ returned (record t { owed = v.owed })
  back_repaid =
      let none : t.owed - joins ≡ v.owed = omega (arith, ap (λ (u : View). u.owed) hand, idle.3) in
      returns ∙ ap returned (repays ∙ ap (λ (o : ℕ). record t { owed = o }) none)

-- the pair in hand has become a ticket
module _ (z : Parts) (v t n : View) (c : ℕ) (pair : ℕ × ℕ) (r : Rewrite) (b : Begun)
    (hand : t ≡ in_hand v (left_word z c) c pair) (same : b.rewrite ≡ r)
    (done : hands.Rewrote t b.ticket b.of_f b.of_g n)
    (is : event_for r ≡ event_of pair.0 pair.1) (rule : rule_between r.f r.g ≡ Some r.rule) where
  last_pair : n.last ≡ pair
  last_pair = ap (λ (u : View). u.last) done.view ∙ ap (λ (u : View). u.last) hand

  pub begun_after : pair.0 ≢ 0 → v.over ≡ false → b.ticket < z.fuel → IsNodeOf z pair.0 →
      IsNodeOf z pair.1 → AreRefs z r.f b.of_f → AreRefs z r.g b.of_g → TurnBegins z v c b n
  begun_after some_pair under ticket left right of_f of_g = record {
    cause = (
      ((λ e. some_pair (sym (ap (λ (q : ℕ × ℕ). q.0) last_pair) ∙ e)), active),
      ap (λ (u : View). u.over) done.view ∙ ap (λ (u : View). u.over) hand ∙ under,
    );
    ticket = ticket;
    event = ap (λ (q : Rewrite). event_for q) same ∙ is ∙ ap (λ (q : ℕ × ℕ). event_of q.0 q.1) (sym last_pair);
    nodes = subst (λ (q : Rewrite). IsNodeOf z q.f × IsNodeOf z q.g) (sym same)
        (subst (λ (e : Event). IsNodeOf z e.f × IsNodeOf z e.g) (sym is)
        (event_of_pair (IsNodeOf z) pair.0 pair.1 left right));
    fields = subst (λ (q : Rewrite). AreRefs z q.f b.of_f × AreRefs z q.g b.of_g) (sym same) (of_f, of_g);
    rewrote = subst (λ (u : View). hands.Rewrote u b.ticket b.of_f b.of_g n)
        (hand ∙ ap (in_hand v (left_word z c) c) (sym last_pair)) done;
  }
    where
      active : IsActiveLast n
      active = subst (λ (q : ℕ × ℕ). rule_between (event_of q.0 q.1).f (event_of q.0 q.1).g ≡ Some
          (event_of q.0 q.1).rule) (sym last_pair) (subst (λ (e : Event). rule_between e.f e.g ≡ Some e.rule) is rule)

-- and its links are pending
pub links_pending : (z : Parts) (v m : View) (c : ℕ) (b : Begun) → v.parts ≡ z → IsIdle v →
    TurnBegins z v c b m → IsBegun z m b
links_pending z v m c b parts idle begun = record {
  due = ap (λ (u : View). u.due) begun.rewrote.view ∙ idle.1;
  pending = begun.rewrote.links ∙ ap (λ (y : Parts).
      links_of y (event_in m) b.ticket (λ s. get_or b.of_f s 0) (λ s. get_or b.of_g s 0)) parts
      ∙ ap (λ (e : Event). links_of z e b.ticket (λ s. get_or b.of_f s 0) (λ s. get_or b.of_g s 0)) (sym begun.event);
  ticket = begun.ticket;
  rule = subst (λ (e : Event). rule_between e.f e.g ≡ Some e.rule) (sym begun.event) begun.cause.0.1;
  nodes = begun.nodes;
  fields = begun.fields;
  owed = ap (λ (u : View). u.owed) begun.rewrote.view ∙ ap (λ (e : Event). suc (joins_in e)) (sym begun.event);
}

-- the links are made: the whole turn, by its first part and by what the making of the links leaves of it
module _ (z : Parts) (v m n : View) (c mask : ℕ) (b : Begun) (ws : List ℕ) (parts : v.parts ≡ z)
    (low : c < cells_of z) (idle : IsIdle v) (begun : TurnBegins z v c b m) (small : mask < 16)
    (linked : n ≡ record m {
      pending = [];
      known = n.known;
      published = m.published ++ masked (z.cells + 4 * b.ticket) mask;
      dead = m.dead ++ ws;
      owed = 0;
    }) where
  abbrev first_cell : ℕ
  first_cell = z.cells + 4 * b.ticket

  abbrev done : ℕ → List (ℕ × ℕ) → List Link → ℕ → Parts → ℕ × ℕ → List ℕ → View
  done owed taken pending swept y last dead = record v {
    owed = owed;
    claimed = v.claimed ++ c ∷ [];
    published = v.published ++ masked first_cell mask;
    made = v.made ++ (b.ticket, entry_of y (event_of last.0 last.1)) ∷ [];
    last = last;
    cell = c;
    taken = taken;
    known = n.known;
    pending = pending;
    dead = dead;
    swept = swept;
  }

  all_of : n ≡ done 0 [] [] (swept_on v (cell_at v.parts (left_word z c))) v.parts m.last (v.dead ++ ws)
  all_of = linked ∙ ap (λ (u : View). record u {
    pending = [];
    known = n.known;
    published = u.published ++ masked first_cell mask;
    dead = u.dead ++ ws;
    owed = 0;
  }) begun.rewrote.view

  same_last : n.last ≡ m.last
  same_last = ap (λ (u : View). u.last) all_of

  dead_grows : n.dead ≡ v.dead ++ ws
  dead_grows = ap (λ (u : View). u.dead) all_of

  cell : cell_at v.parts (left_word z c) ≡ c
  cell = ap (λ (y : Parts). cell_at y (left_word z c)) parts ∙ cell_of_left z c low

  view : n ≡ done v.owed v.taken v.pending (swept_on v c) z n.last n.dead
  view =
      all_of ∙ ap (λ l. done 0 l [] (swept_on v (cell_at v.parts (left_word z c))) v.parts m.last
      (v.dead ++ ws)) (sym idle.0)
      ∙ ap (λ l. done 0 v.taken l (swept_on v (cell_at v.parts (left_word z c))) v.parts m.last
      (v.dead ++ ws)) (sym idle.2)
      ∙ ap (λ a. done 0 v.taken v.pending (swept_on v a) v.parts m.last (v.dead ++ ws)) cell
      ∙ ap (λ y. done 0 v.taken v.pending (swept_on v c) y m.last (v.dead ++ ws)) parts
      ∙ ap (λ l. done 0 v.taken v.pending (swept_on v c) z l (v.dead ++ ws)) (sym same_last)
      ∙ ap (done 0 v.taken v.pending (swept_on v c) z n.last) (sym dead_grows)
      ∙ ap (λ o. done o v.taken v.pending (swept_on v c) z n.last n.dead) (sym idle.3)

  pub rewritten_leaves : HasCause (Rewrote b.ticket b.rewrite.rule first_cell mask) n
      × Leaves z v c (Rewrote b.ticket b.rewrite.rule first_cell mask) n
  rewritten_leaves = (
    cause,
    record {
      ticket = begun.ticket;
      rule = rule;
      first = refl;
      mask = small;
      dead = (ws, dead_grows);
      view = view;
    },
  )
    where
      cause : FoundActive n × (n.over ≡ false)
      cause = (
        subst (λ (l : ℕ × ℕ). FoundActive (record n { last = l }))
            (sym same_last) begun.cause.0,
        ap (λ (u : View). u.over) linked ∙ begun.cause.1,
      )

      rule : b.rewrite.rule ≡ (event_in n).rule
      rule = ap (λ (e : Event). e.rule) (begun.event ∙ ap (λ (l : ℕ × ℕ). event_of l.0 l.1) (sym same_last))

-- which cell is which join's
pub joins_told : (p : Plan) (v m n : View) (c mask : ℕ) (b : Begun) → v.parts ≡ p.parts → IsIdle v →
    TurnBegins p.parts v c b m → AreLinked p.parts m b mask n → WasPending p m
    → n.published ≡ v.published ++ masked (p.parts.cells + 4 * b.ticket) mask →
    LinksJoins p v b.ticket (p.parts.cells + 4 * b.ticket) mask n
joins_told p v m n c mask b parts idle begun linked was published = record {
  of_f = λ s. get_or b.of_f s 0;
  of_g = λ s. get_or b.of_g s 0;
  drawn = was.0;
  moment = was.1;
  links = was.2 ∙ (links_pending p.parts v m c b parts idle begun).pending
      ∙ ap (λ (e : Event). links_of p.parts e b.ticket (λ s. get_or b.of_f s 0) (λ s. get_or b.of_g s 0)) event;
  cells = λ j lt. cell_of_born p.parts b.ticket j (omega (arith, lt, joins_few (event_in n)));
  bits = subst (λ (e : Event). mask < 2 ^ joins_in e) event linked.joins;
  published = published;
}
  where
    last : n.last ≡ m.last
    last = ap (λ (u : View). u.last) linked.view

    event : event_for b.rewrite ≡ event_in n
    event = begun.event ∙ ap (λ (l : ℕ × ℕ). event_of l.0 l.1) (sym last)

-- the whole turn, in one
pub turn_rewrites : (z : Parts) (v m n : View) (c mask : ℕ) (b : Begun) → v.parts ≡ z →
    c < cells_of z → IsIdle v → TurnBegins z v c b m → AreLinked z m b mask n
    → HasCause (Rewrote b.ticket b.rewrite.rule (z.cells + 4 * b.ticket) mask) n
    × Leaves z v c (Rewrote b.ticket b.rewrite.rule (z.cells + 4 * b.ticket) mask) n
turn_rewrites z v m n c mask b parts low idle begun linked =
    rewritten_leaves z v m n c mask b linked.dead.0 parts low idle begun linked.mask
    (linked.view ∙ ap (λ (ds : List ℕ). record m {
      pending = [];
      known = n.known;
      published = m.published ++ masked (z.cells + 4 * b.ticket) mask;
      dead = ds;
      owed = 0;
    }) linked.dead.1)

-- a turn that is over leaves a seat at rest, as it was
rests : (v n : View) (c : ℕ) (over : Bool) (holds : ℕ) → c < cells_of v.parts → IsIdle v →
    v.over ≡ over → v.holds ≡ holds → 0 < holds → v.swept ≤ cells_of v.parts
    → n.taken ≡ v.taken → n.due ≡ v.due → n.pending ≡ v.pending → n.owed ≡ v.owed →
    n.over ≡ v.over → n.holds ≡ v.holds → n.parts ≡ v.parts → n.swept ≡ swept_on v c
    → IsIdle n × (n.over ≡ over) × (n.holds ≡ holds) × (0 < holds) × (n.swept ≤ cells_of n.parts)
rests v n c over holds low idle o h some within taken due pending owed over' holds' parts swept = (
  (taken ∙ idle.0, due ∙ idle.1, pending ∙ idle.2, owed ∙ idle.3),
  over' ∙ o,
  holds' ∙ h,
  some,
  omega (arith, swept, ap (λ (z : Parts). cells_of z) parts, swept_stays v c (cells_of v.parts) within low),
)

pub ended_rests : (z : Parts) (v n : View) (c : ℕ) (t : Turn) (over : Bool) (holds : ℕ) →
    c < cells_of v.parts → IsIdle v → v.over ≡ over → v.holds ≡ holds → 0 < holds → v.swept ≤ cells_of v.parts
    → t ≢ Spent → Leaves z v c t n → IsIdle n × (n.over ≡ over) × (n.holds ≡ holds) × (0 < holds)
    × (n.swept ≤ cells_of n.parts)
ended_rests z v n c Gone over holds low idle o h some within more e =
    rests v n c over holds low idle o h some within (ap (λ (u : View). u.taken) e)
    (ap (λ (u : View). u.due) e) (ap (λ (u : View). u.pending) e) (ap (λ (u : View). u.owed) e)
    (ap (λ (u : View). u.over) e) (ap (λ (u : View). u.holds) e) (ap (λ (u : View). u.parts) e)
    (ap (λ (u : View). u.swept) e)
ended_rests z v n c Stuck over holds low idle o h some within more e =
    rests v n c over holds low idle o h some within (ap (λ (u : View). u.taken) e)
    (ap (λ (u : View). u.due) e) (ap (λ (u : View). u.pending) e) (ap (λ (u : View). u.owed) e)
    (ap (λ (u : View). u.over) e) (ap (λ (u : View). u.holds) e) (ap (λ (u : View). u.parts) e)
    (ap (λ (u : View). u.swept) e)
ended_rests z v n c Spent over holds low idle o h some within more e = absurd (more refl)
ended_rests z v n c (Rewrote t r b m) over holds low idle o h some within more done =
    let e = done.view in
    rests v n c over holds low idle o h some within (ap (λ (u : View). u.taken) e)
    (ap (λ (u : View). u.due) e) (ap (λ (u : View). u.pending) e) (ap (λ (u : View). u.owed) e)
    (ap (λ (u : View). u.over) e) (ap (λ (u : View). u.holds) e) (ap (λ (u : View). u.parts) e)
    (ap (λ (u : View). u.swept) e)
