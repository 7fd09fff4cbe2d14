-- What the edges that a ticket takes away weigh, and those that it puts in.
-- Used in After and Counts.
use Rattle.std.proofs.Common.{◌≡◌, ℕ, zero, suc, ◌+◌, ◌-◌, ◌<◌, ◌≤◌, nat_eq, nat_lt, lt-ltb, ne_eqb, if◌then◌else◌}
use Rattle.std.proofs.Common.{Bool, true, false, List, [], ◌∷◌, ◌++◌, refl, ap, ◌∙◌, arith}
use Rattle.std.proofs.lemmas.Bool.Decides.{nat_tests}
use Rattle.ol_net.specs.declared.parts.Kind.{Kind}
use Rattle.ol_net.specs.Parts.{arity}
use Rattle.ol_rules.specs.declared.journal.NodeName.TheVariants.{Born}
use Rattle.ol_rules.specs.Rewriting.{is_meeting, index_after}
use Rattle.ol_rules.specs.Listed.{each}
use Rattle.ol_wire.specs.declared.layout.Parts.{Parts}
use Rattle.ol_wire.specs.declared.view.Link.{Link}
use Rattle.ol_wire.specs.References.{kind_in, index_in, node_ref, wire_ref, slot_ref}
use Rattle.ol_wire.specs.Layout.{place_of, born_wire}
use Rattle.ol_wire.specs.Events.{Event}
use Rattle.ol_wire.specs.Blocks.{copies_of_f, copies_of_g, born_field}
use Rattle.ol_wire.specs.LinkLists.{joins_in, link_of, links_of}
use Rattle.ol_wire.specs.Edges.{edge_to, links_in}
use Rattle.ol_wire.specs.Weights.{pairs}
use Rattle.ol_wire.proofs.InWords.Alike.{pairs_append}
use Rattle.ol_wire.proofs.Ticket.Event.{field_edges, old_edges, born_edges, new_edges}
use Rattle.ol_wire.proofs.Degrees.Sums.{sum_to, sum_same, sum_split, pairs_each}
use Rattle.ol_rules.proofs.Born.{at_most_two}

-- the fields of a node

pub fields_weigh : (h : ℕ → ℕ → ℕ) (place n : ℕ) (held : ℕ → ℕ) →
    pairs h (field_edges place n held) ≡ sum_to n (λ s. h (slot_ref (place + s)) (held s))
fields_weigh h place n held = pairs_each h n (λ s. (slot_ref (place + s), held s) ∷ [])
    ∙ sum_same n (λ s. h (slot_ref (place + s)) (held s) + 0)
    (λ s. h (slot_ref (place + s)) (held s)) (λ s b. omega arith)

-- the pair, and the fields of its two nodes
pub old_weigh : (h : ℕ → ℕ → ℕ) (f g pf pg m n : ℕ) (a b : ℕ → ℕ) →
    pairs h (old_edges f g pf pg m n a b) ≡ h f g + sum_to m
    (λ s. h (slot_ref (pf + s)) (a s)) + sum_to n (λ s. h (slot_ref (pg + s)) (b s))
old_weigh h f g pf pg m n a b =
    let p = pairs_append h (field_edges pf m a) (field_edges pg n b) in
    omega (arith, p, fields_weigh h pf m a, fields_weigh h pg n b)

-- the links of a list that `each` makes
pub links_weigh : (h : ℕ → ℕ → ℕ) (n : ℕ) (link : ℕ → Link) →
    pairs h (links_in (each n (λ j. link j ∷ []))) ≡ sum_to n (λ j. h (link j).one (link j).two)
links_weigh h zero link = refl
links_weigh h (suc n) link = omega (arith, appended (each n (λ j. link j ∷ [])) (link n), links_weigh h n link)
  where
    appended : (ls : List Link) (l : Link) → pairs h (links_in (ls ++ l ∷ [])) ≡ pairs h (links_in ls) + h l.one l.two
    appended [] l = omega arith
    appended (x ∷ ls) l = omega (arith, appended ls l)

-- the edge to a wire is there
wire_weighs : (h : ℕ → ℕ → ℕ) (u w : ℕ) → pairs h (edge_to u (wire_ref w)) ≡ h u (wire_ref w)
wire_weighs h u w =
    let d : nat_eq (wire_ref w) 0 ≡ false = ne_eqb (wire_ref w) 0 (λ e. omega arith) in
    ap (λ c. pairs h (if c then [] else (u, wire_ref w) ∷ [])) d ∙ (omega arith)

-- the field of place i and slot s + 1, where n copies of f and m of g are made
abbrev field_of : Parts → ℕ → ℕ → ℕ → ℕ → ℕ → ℕ
field_of z t n m i s =
    if nat_lt i n then (if nat_lt s m then wire_ref (born_wire z t i s) else 0)
    else if nat_lt i (n + m) then (if nat_lt s n then wire_ref (born_wire z t s (i - n)) else 0)
    else 0

abbrev slot_at : Parts → ℕ → ℕ → ℕ → ℕ
slot_at z t i s = slot_ref (place_of z (Born t i) + s)

-- the two edges of the wire of q and p
abbrev wire_at : (ℕ → ℕ → ℕ) → Parts → ℕ → ℕ → ℕ → ℕ → ℕ
wire_at h z t n q p = h (slot_at z t q p) (wire_ref (born_wire z t q p)) + h (slot_at z t (n + p) q)
    (wire_ref (born_wire z t q p))

abbrev field_weight : (ℕ → ℕ → ℕ) → Parts → ℕ → ℕ → ℕ → ℕ → ℕ → ℕ
field_weight h z t n m i s = pairs h (edge_to (slot_at z t i s) (field_of z t n m i s))

block_weighs : (h : ℕ → ℕ → ℕ) (z : Parts) (t n m : ℕ) → n ≤ 2 → m ≤ 2 →
    sum_to 4 (λ i. sum_to 2 (λ s. field_weight h z t n m i s)) ≡ sum_to n (λ q. sum_to m (λ p. wire_at h z t n q p))
block_weighs h z t zero zero a b = omega arith
block_weighs h z t zero (suc zero) a b = omega arith
block_weighs h z t zero (suc (suc zero)) a b = omega arith
block_weighs h z t (suc zero) zero a b = omega arith
block_weighs h z t (suc (suc zero)) zero a b = omega arith
block_weighs h z t (suc zero) (suc zero) a b = omega
    (arith, wire_weighs h (slot_at z t 0 0) (born_wire z t 0 0), wire_weighs h (slot_at z t 1 0) (born_wire z t 0 0))
block_weighs h z t (suc zero) (suc (suc zero)) a b = omega (
  arith,
  wire_weighs h (slot_at z t 0 0) (born_wire z t 0 0),
  wire_weighs h (slot_at z t 0 1) (born_wire z t 0 1),
  wire_weighs h (slot_at z t 1 0) (born_wire z t 0 0),
  wire_weighs h (slot_at z t 2 0) (born_wire z t 0 1),
)
block_weighs h z t (suc (suc zero)) (suc zero) a b = omega (
  arith,
  wire_weighs h (slot_at z t 0 0) (born_wire z t 0 0),
  wire_weighs h (slot_at z t 1 0) (born_wire z t 1 0),
  wire_weighs h (slot_at z t 2 0) (born_wire z t 0 0),
  wire_weighs h (slot_at z t 2 1) (born_wire z t 1 0),
)
block_weighs h z t (suc (suc zero)) (suc (suc zero)) a b = omega (
  arith,
  wire_weighs h (slot_at z t 0 0) (born_wire z t 0 0),
  wire_weighs h (slot_at z t 0 1) (born_wire z t 0 1),
  wire_weighs h (slot_at z t 1 0) (born_wire z t 1 0),
  wire_weighs h (slot_at z t 1 1) (born_wire z t 1 1),
  wire_weighs h (slot_at z t 2 0) (born_wire z t 0 0),
  wire_weighs h (slot_at z t 2 1) (born_wire z t 1 0),
  wire_weighs h (slot_at z t 3 0) (born_wire z t 0 1),
  wire_weighs h (slot_at z t 3 1) (born_wire z t 1 1),
)
block_weighs h z t (suc (suc (suc n))) m a b = absurd (omega arith)
block_weighs h z t zero (suc (suc (suc m))) a b = absurd (omega arith)
block_weighs h z t (suc zero) (suc (suc (suc m))) a b = absurd (omega arith)
block_weighs h z t (suc (suc zero)) (suc (suc (suc m))) a b = absurd (omega arith)

pub copies_small : (c : Bool) (k : Kind) → (if c then 0 else arity k) ≤ 2
copies_small true k = omega arith
copies_small false k = at_most_two k

-- the fields of the block, by the copies that are made
pub born_weigh : (h : ℕ → ℕ → ℕ) (z : Parts) (e : Event) (t : ℕ) →
    pairs h (born_edges z e t) ≡ sum_to (copies_of_f e)
    (λ q. sum_to (copies_of_g e) (λ p. wire_at h z t (copies_of_f e) q p))
born_weigh h z e t =
    pairs_each h 4 (λ i. each 2 (λ s. edge_to (slot_at z t i s) (born_field z e t i s)))
    ∙ sum_same 4 (λ i. pairs h (each 2 (λ s. edge_to (slot_at z t i s) (born_field z e t i s))))
    (λ i. sum_to 2 (λ s. field_weight h z t (copies_of_f e) (copies_of_g e) i s))
    (λ i b. pairs_each h 2 (λ s. edge_to (slot_at z t i s) (born_field z e t i s)))
    ∙ block_weighs h z t (copies_of_f e) (copies_of_g e)
    (copies_small (is_meeting e.rule) (kind_in e.g)) (copies_small (is_meeting e.rule) (kind_in e.f))

module _ (h : ℕ → ℕ → ℕ) (z : Parts) (e : Event) (t : ℕ) (a b : ℕ → ℕ) where
  abbrev f_copy : ℕ → ℕ
  f_copy i = node_ref (kind_in e.f) (index_in e.f) (place_of z (Born t i))

  abbrev g_copy : ℕ → ℕ
  g_copy i = node_ref (kind_in e.g) (index_after e.rule (index_in e.g)) (place_of z (Born t i))

  -- the links and the copies, by whether the two nodes meet
  abbrev made : Bool → Kind → ℕ
  made meets k = if meets then 0 else arity k

  abbrev link_weight : Bool → ℕ → ℕ
  link_weight meets j = h (if meets then a j else if nat_lt j
      (made meets (kind_in e.g)) then f_copy j else g_copy j)
      (if meets then b j else if nat_lt j (made meets (kind_in e.g)) then b j else a (j - made meets (kind_in e.g)))

  abbrev link_weights : Bool → ℕ
  link_weights meets = sum_to (if meets then arity (kind_in e.f) else made meets
      (kind_in e.g) + made meets (kind_in e.f)) (link_weight meets)

  abbrev wire_weights : Bool → ℕ
  wire_weights meets = sum_to (made meets (kind_in e.g))
      (λ q. sum_to (made meets (kind_in e.f)) (λ p. wire_at h z t (made meets (kind_in e.g)) q p))

  all_weigh : pairs h (new_edges z e t a b) ≡ link_weights (is_meeting e.rule) + wire_weights (is_meeting e.rule)
  all_weigh =
      let p = pairs_append h (links_in (links_of z e t a b)) (born_edges z e t) in
      let q = links_weigh h (joins_in e) (λ j. link_of z e t a b j) in
      omega (arith, p, q, born_weigh h z e t)

  -- a meeting: slots of one number
  pub new_weigh_meeting : is_meeting e.rule ≡ true →
      pairs h (new_edges z e t a b) ≡ sum_to (arity (kind_in e.f)) (λ s. h (a s) (b s))
  new_weigh_meeting meets = all_weigh ∙ ap (λ c. link_weights c + wire_weights c) meets ∙ (omega arith)

  -- a crossing: each copy of f with what the slot of g held, each copy of g with what the slot of f
  -- held, and each new wire with its two slots
  pub new_weigh_crossing : is_meeting e.rule ≡ false → pairs h (new_edges z e t a b) ≡
      sum_to (arity (kind_in e.g)) (λ q. h (node_ref (kind_in e.f) (index_in e.f) (place_of z (Born t q))) (b q))
      + sum_to (arity (kind_in e.f)) (λ p.
      h (node_ref (kind_in e.g) (index_after e.rule (index_in e.g))
      (place_of z (Born t (arity (kind_in e.g) + p)))) (a p))
      + sum_to (arity (kind_in e.g)) (λ q.
      sum_to (arity (kind_in e.f)) (λ p. h (slot_ref (place_of z (Born t q) + p))
      (wire_ref (born_wire z t q p)) + h (slot_ref
      (place_of z (Born t (arity (kind_in e.g) + p)) + q)) (wire_ref (born_wire z t q p))))
  new_weigh_crossing crosses = all_weigh ∙ ap (λ c. link_weights c + wire_weights c) crosses
      ∙ ap (λ w. w + wire_weights false) linked
    where
      first : (q : ℕ) → q < arity (kind_in e.g) → link_weight false q ≡ h (f_copy q) (b q)
      first q lt = ap (λ c. h (if c then f_copy q else g_copy q)
          (if c then b q else a (q - arity (kind_in e.g)))) (lt-ltb q (arity (kind_in e.g)) lt)

      second : (p : ℕ) → link_weight false (arity (kind_in e.g) + p) ≡ h (g_copy (arity (kind_in e.g) + p)) (a p)
      second p =
          let j = arity (kind_in e.g) + p in
          let d : nat_lt j (arity (kind_in e.g)) ≡ false = grind (arith, nat_tests) in
          let s : j - arity (kind_in e.g) ≡ p = omega arith in
          ap (λ c. h (if c then f_copy j else g_copy j)
          (if c then b j else a (j - arity (kind_in e.g)))) d ∙ ap (λ q. h (g_copy j) (a q)) s

      linked : link_weights false ≡ sum_to (arity (kind_in e.g)) (λ q. h (f_copy q) (b q)) + sum_to
          (arity (kind_in e.f)) (λ p. h (g_copy (arity (kind_in e.g) + p)) (a p))
      linked =
          let s = sum_split (arity (kind_in e.g)) (arity (kind_in e.f)) (link_weight false) in
          let u = sum_same (arity (kind_in e.g)) (link_weight false) (λ q. h (f_copy q) (b q)) first in
          let v = sum_same (arity (kind_in e.f)) (λ p. link_weight false (arity (kind_in e.g) + p))
          (λ p. h (g_copy (arity (kind_in e.g) + p)) (a p)) (λ p lt. second p) in
          omega (arith, s, u, v)
