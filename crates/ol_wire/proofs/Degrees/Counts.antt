-- The ends of the edges that a ticket takes away and puts in. What the fields held stays; the ends
-- of the pair and of its fields go, and those of
-- the copies and of their wires come.
-- Used in After, Born and Nodes.
use Rattle.std.proofs.Common.{◌≡◌, ℕ, ◌+◌, ◌*◌, ◌<◌, nat_eq, if◌then◌else◌, true, false, inl, inr, sym, ap, ◌∙◌, arith}
use Rattle.ol_law_edges.specs.Edges.{ends}
use Rattle.ol_net.specs.declared.parts.Kind.{Kind}
use Rattle.ol_net.specs.declared.parts.Rule.{Rule}
use Rattle.ol_net.specs.Parts.{arity}
use Rattle.ol_rules.specs.declared.journal.NodeName.TheVariants.{Born}
use Rattle.ol_rules.specs.Rewriting.{is_meeting, index_after}
use Rattle.ol_wire.specs.declared.layout.Parts.{Parts}
use Rattle.ol_wire.specs.References.{kind_in, index_in, node_ref, wire_ref, slot_ref}
use Rattle.ol_wire.specs.Layout.{place_of, born_wire}
use Rattle.ol_wire.specs.Events.{Event}
use Rattle.ol_wire.specs.Blocks.{copies_of_f, copies_of_g}
use Rattle.ol_wire.specs.Weights.{pairs}
use Rattle.ol_wire.proofs.InWords.Alike.{end_weight, ends_weigh}
use Rattle.ol_wire.proofs.Ticket.Event.{old_edges, new_edges}
use Rattle.ol_wire.proofs.InWords.References.{kind_of_ref, index_of_ref}
use Rattle.ol_wire.proofs.Degrees.Sums.{sum_to, sum_add, is_at, among, within, ends_in_grid}
use Rattle.ol_wire.proofs.Degrees.Weights.{old_weigh, new_weigh_meeting, new_weigh_crossing}
use Rattle.std.proofs.lemmas.Bool.{cases_Bool}

-- the ends of a pair, and of the fields of its nodes
abbrev pub gone : ℕ → ℕ → ℕ → ℕ → ℕ → ℕ → ℕ → ℕ
gone f g pf pg m n u = is_at u f + is_at u g + among m (λ s. slot_ref (pf + s)) u + among n (λ s. slot_ref (pg + s)) u

-- what the fields held
abbrev pub held : ℕ → ℕ → (ℕ → ℕ) → (ℕ → ℕ) → ℕ → ℕ
held m n a b u = among m a u + among n b u

-- the ends of n copies of f and m of g that ticket t makes, and of the wires between them
abbrev pub born : Parts → ℕ → Kind → ℕ → Kind → ℕ → ℕ → ℕ → ℕ → ℕ
born z t k i l j n m u =
    among n (λ q. node_ref k i (place_of z (Born t q))) u
    + among m (λ p. node_ref l j (place_of z (Born t (n + p)))) u
    + within n m (λ q p. slot_ref (place_of z (Born t q) + p)) u
    + within n m (λ q p. slot_ref (place_of z (Born t (n + p)) + q)) u
    + 2 * within n m (λ q p. wire_ref (born_wire z t q p)) u

-- the event of two nodes, by kind, index and place
abbrev pub event : Rule → Kind → ℕ → ℕ → Kind → ℕ → ℕ → Event
event r k i pf l j pg = record { rule = r; f = node_ref k i pf; g = node_ref l j pg }

module _ (z : Parts) (k l : Kind) (i j t : ℕ) (r : Rule) (pf pg : ℕ) (a b : ℕ → ℕ) where
  abbrev its_event : Event
  its_event = event r k i pf l j pg

  pub old_ends : (u : ℕ) → ends nat_eq u
      (old_edges (node_ref k i pf) (node_ref l j pg) pf pg (arity k) (arity l) a b) ≡ gone
      (node_ref k i pf) (node_ref l j pg) pf pg (arity k) (arity l) u + held (arity k) (arity l) a b u
  old_ends u =
      let w = old_weigh (end_weight u) (node_ref k i pf) (node_ref l j pg) pf pg (arity k) (arity l) a b in
      let x = sum_add (arity k) (λ s. is_at u (slot_ref (pf + s))) (λ s. is_at u (a s)) in
      let y = sum_add (arity l) (λ s. is_at u (slot_ref (pg + s))) (λ s. is_at u (b s)) in
      omega (arith, ends_weigh u (old_edges (node_ref k i pf) (node_ref l j pg) pf pg (arity k) (arity l) a b), w, x, y)

  -- what a crossing puts in, by kind and index of its two nodes
  abbrev crossing_weight : (ℕ → ℕ → ℕ) → Kind → ℕ → Kind → ℕ → ℕ
  crossing_weight h k i l j =
      sum_to (arity l) (λ q. h (node_ref k i (place_of z (Born t q))) (b q))
      + sum_to (arity k) (λ p. h (node_ref l (index_after r j) (place_of z (Born t (arity l + p)))) (a p))
      + sum_to (arity l) (λ q. sum_to (arity k)
      (λ p. h (slot_ref (place_of z (Born t q) + p)) (wire_ref (born_wire z t q p)) + h
      (slot_ref (place_of z (Born t (arity l + p)) + q)) (wire_ref (born_wire z t q p))))

  pub meeting_weighs : (h : ℕ → ℕ → ℕ) → is_meeting r ≡ true →
      pairs h (new_edges z its_event t a b) ≡ sum_to (arity k) (λ s. h (a s) (b s))
  meeting_weighs h meets = new_weigh_meeting h z its_event t a b meets
      ∙ ap (λ k. sum_to (arity k) (λ s. h (a s) (b s))) (kind_of_ref k i pf)

  pub crossing_weighs : (h : ℕ → ℕ → ℕ) → i < 16777216 → j < 16777216 → is_meeting r ≡ false →
      pairs h (new_edges z its_event t a b) ≡ crossing_weight h k i l j
  crossing_weighs h si sj crosses =
      new_weigh_crossing h z its_event t a b crosses
      ∙ ap (λ k'. crossing_weight h k' (index_in (node_ref k i pf)) (kind_in (node_ref l j pg))
      (index_in (node_ref l j pg))) (kind_of_ref k i pf)
      ∙ ap (λ i'. crossing_weight h k i' (kind_in (node_ref l j pg)) (index_in (node_ref l j pg)))
      (index_of_ref k i pf si)
      ∙ ap (λ l'. crossing_weight h k i l' (index_in (node_ref l j pg))) (kind_of_ref l j pg)
      ∙ ap (crossing_weight h k i l) (index_of_ref l j pg sj)

  pub copies_meeting : is_meeting r ≡ true → (copies_of_f its_event ≡ 0) × (copies_of_g its_event ≡ 0)
  copies_meeting meets = (
    ap (λ c. if c then 0 else arity (kind_in (node_ref l j pg))) meets,
    ap (λ c. if c then 0 else arity (kind_in (node_ref k i pf))) meets,
  )

  pub copies_crossing : is_meeting r ≡ false → (copies_of_f its_event ≡ arity l) × (copies_of_g its_event ≡ arity k)
  copies_crossing crosses = (
    ap (λ c. if c then 0 else arity (kind_in (node_ref l j pg))) crosses ∙ ap arity (kind_of_ref l j pg),
    ap (λ c. if c then 0 else arity (kind_in (node_ref k i pf))) crosses ∙ ap arity (kind_of_ref k i pf),
  )

  ends_meeting : (u : ℕ) → arity k ≡ arity l → is_meeting r ≡ true →
      ends nat_eq u (new_edges z its_event t a b) ≡ held (arity k) (arity l) a b u
  ends_meeting u same meets =
      let w = ends_weigh u (new_edges z its_event t a b) ∙ meeting_weighs (end_weight u) meets in
      let x = sum_add (arity k) (λ s. is_at u (a s)) (λ s. is_at u (b s)) in
      let y : among (arity k) b u ≡ among (arity l) b u = ap (λ n. among n b u) same in
      w ∙ x ∙ ap (λ n. among (arity k) a u + n) y

  ends_crossing : (u : ℕ) → i < 16777216 → j < 16777216 → is_meeting r ≡ false →
      ends nat_eq u (new_edges z its_event t a b) ≡ born z t k i l (index_after r j) (arity l)
      (arity k) u + held (arity k) (arity l) a b u
  ends_crossing u si sj crosses =
      let w = ends_weigh u (new_edges z its_event t a b) ∙ crossing_weighs (end_weight u) si sj crosses in
      let x = sum_add (arity l) (λ q. is_at u (node_ref k i (place_of z (Born t q)))) (λ q. is_at u (b q)) in
      let y = sum_add (arity k) (λ p. is_at u
      (node_ref l (index_after r j) (place_of z (Born t (arity l + p))))) (λ p. is_at u (a p)) in
      let g = ends_in_grid (arity l) (arity k) (λ q p. slot_ref (place_of z (Born t q) + p))
      (λ q p. slot_ref (place_of z (Born t (arity l + p)) + q)) (λ q p. wire_ref (born_wire z t q p)) u in
      w ∙ (omega (arith, x, y, g))

  pub new_ends : (u : ℕ) → (is_meeting r ≡ true → arity k ≡ arity l) → i < 16777216 → j < 16777216 →
      ends nat_eq u (new_edges z its_event t a b) ≡ born z t k i l (index_after r j)
      (copies_of_f its_event) (copies_of_g its_event) u + held (arity k) (arity l) a b u
  new_ends u same si sj = elim (cases_Bool (is_meeting r)) [
    | inl meets ↦
        let c = copies_meeting meets in
        let none : held (arity k) (arity l) a b u ≡ born z t k i l (index_after r j) 0 0 u + held
        (arity k) (arity l) a b u = omega arith in
        ends_meeting u (same meets) meets ∙ none
        ∙ sym (ap (λ n. born z t k i l (index_after r j) n (copies_of_g its_event) u + held
        (arity k) (arity l) a b u) c.0 ∙ ap (λ m.
        born z t k i l (index_after r j) 0 m u + held (arity k) (arity l) a b u) c.1)
    | inr crosses ↦
        let c = copies_crossing crosses in
        ends_crossing u si sj crosses ∙ sym (ap
        (λ n. born z t k i l (index_after r j) n (copies_of_g its_event) u + held (arity k)
        (arity l) a b u) c.0 ∙ ap (λ m. born z t k i l (index_after r j) (arity l) m u + held
        (arity k) (arity l) a b u) c.1)
  ]
