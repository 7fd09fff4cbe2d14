-- What each turn of the walk along a chain knows.
use Rattle.std.proofs.Common.{◌≡◌, ◌≢◌, ℕ, suc, ◌+◌, ◌-◌, ◌<◌, ◌≤◌, Bool, true, false, length}
use Rattle.std.proofs.Common.{slice_index, inl, inr, ◌↔◌, sym, ap, ◌∙◌, subst, arith}
use Rattle.std.proofs.lemmas.Bool.{cases_lt, false≢true}
use Rattle.ol_net.specs.Nets.{NamedNet}
use Rattle.ol_rules.specs.declared.journal.NodeName.{NodeName}
use Rattle.ol_reduce.specs.declared.chains.Goal.TheVariants.{Node, Port, Wire}
use Rattle.ol_wire.specs.References.{place_in, IsNodeRef, IsWireRef, IsRef}
use Rattle.ol_wire.specs.Layout.{table_size}
use Rattle.ol_wire.specs.Sizes.{IsSmall}
use Rattle.ol_wire.specs.declared.layout.Parts.{Parts}
use Rattle.ol_wire.specs.Closed.{ClosedTable}
use Rattle.ol_wire.specs.Standing.{WordsStandFor}
use Rattle.ol_reduce.specs.Following.{LeadsTo, IsStart, IsFirst, EndsAt, value_after, IsPassed, IsValueAfter}
use Rattle.ol_reduce.proofs.Bounded.{along, few, led_ref, led_wire, Names, a_port, a_wire, no_wire_below}

small_size : (z : Parts) → IsSmall z → table_size z ≤ 400000000
small_size z s = omega (arith, s.free, s.nodes, s.wires, s.cells, s.fuel)

-- what isn't the reference of a node is that of a wire
wire_sort : (at : ℕ) (b : Bool) → (b ≡ true) ↔ IsNodeRef at → b ≡ false → IsRef at → IsWireRef at
wire_sort at b t f (inl h) = absurd (false≢true (sym f ∙ t.1 h))
wire_sort at b t f (inr h) = h

module _ (w : ClosedTable) (first k at : ℕ) (h : IsValueAfter w first k at) where
  leads : (N : NamedNet NodeName) (reached : ℕ → Bool) (e : ℕ) (s : WordsStandFor w N reached) →
      IsStart w N reached e first → LeadsTo w N reached e at
  leads N reached e s start = subst (λ v. LeadsTo w N reached e v) h.0 (along w N reached s e first start k h.1)

  pub at_node : IsNodeRef at → (N : NamedNet NodeName) (reached : ℕ → Bool) (e : ℕ) →
      WordsStandFor w N reached → IsStart w N reached e first → EndsAt w N reached e (Node at)
  at_node sort N reached e s start = (sort, leads N reached e s start)

  module _ (first_of : IsFirst w first) where
    pub is_ref : IsRef at
    is_ref = (led_ref w first_of.0 first_of.1 first_of.3 first_of.2 at
        (leads first_of.0 first_of.1 first_of.2 first_of.3 first_of.4)).0

    within : place_in at < table_size w.plan.parts
    within = (led_ref w first_of.0 first_of.1 first_of.3 first_of.2 at
        (leads first_of.0 first_of.1 first_of.2 first_of.3 first_of.4)).2

    pub place_small : place_in at < 4294967296
    place_small = omega (arith, within, small_size w.plan.parts first_of.3.small)

    pub place_within : place_in at < length w.words
    place_within = omega (arith, within, first_of.3.wide)

    -- the loop doesn't come to its end
    pub never : table_size w.plan.parts ≤ k → ⊥
    never le = omega (arith, le, few w first_of.0 first_of.1 first_of.3 first_of.2 first first_of.4 k h.1)

    module _ (b : Bool) (tells : (b ≡ true) ↔ IsNodeRef at) (not : b ≡ false) where
      sort : IsWireRef at
      sort = wire_sort at b tells not is_ref

      named : (N : NamedNet NodeName) (reached : ℕ → Bool) (e : ℕ) (s : WordsStandFor w N reached) →
          IsStart w N reached e first → Names w N reached s at
      named N reached e s start = led_wire w N reached s e at (leads N reached e s start) sort

      pub place_some : 1 < place_in at
      place_some = go (named first_of.0 first_of.1 first_of.2 first_of.3 first_of.4)
        where
          go : Names w first_of.0 first_of.1 first_of.3 at → 1 < place_in at
          go (a_port m lt q r) = omega (arith, r)
          go (a_wire q r) = elim (cases_lt 1 (place_in at)) [
            | inl lt ↦ lt
            | inr ge ↦ absurd (no_wire_below w first_of.0 first_of.1 first_of.3 (place_in at)
                (omega (arith, ge)) (first_of.3.wires (place_in at) r))
          ]

      pub at_port : place_in at ≤ w.plan.parts.free + 1 →
          (N : NamedNet NodeName) (reached : ℕ → Bool) (e : ℕ) → WordsStandFor w N reached →
          IsStart w N reached e first → EndsAt w N reached e (Port (place_in at - 2))
      at_port le N reached e s start = go (named N reached e s start)
        where
          go : Names w N reached s at → EndsAt w N reached e (Port (place_in at - 2))
          go (a_port m lt q r) =
              let f : place_in at - 2 ≡ m = omega (arith, r) in
              subst (λ j. EndsAt w N reached e (Port j)) (sym f)
              (lt, subst (λ v. LeadsTo w N reached e v) q (leads N reached e s start))
          go (a_wire q r) = absurd (no_wire_below w N reached s (place_in at) le (s.wires (place_in at) r))

      pub at_wire : w.plan.parts.free + 1 < place_in at → slice_index w.words (place_in at) ≡ 0 →
          (N : NamedNet NodeName) (reached : ℕ → Bool) (e : ℕ) → WordsStandFor w N reached →
          IsStart w N reached e first → EndsAt w N reached e (Wire (place_in at))
      at_wire lt empty N reached e s start = go (named N reached e s start)
        where
          go : Names w N reached s at → EndsAt w N reached e (Wire (place_in at))
          go (a_port m low q r) = absurd (omega (arith, low, r, lt))
          go (a_wire q r) = (r, empty, subst (λ v. LeadsTo w N reached e v) q (leads N reached e s start))

      pub goes_on : w.plan.parts.free + 1 < place_in at → slice_index w.words (place_in at) ≢ 0 →
          IsValueAfter w first (k + 1) (slice_index w.words (place_in at))
      goes_on lt filled =
          let e : k + 1 ≡ suc k = omega arith in
          subst (λ j. IsValueAfter w first j (slice_index w.words (place_in at))) (sym e)
          (ap (λ v. slice_index w.words (place_in v)) h.0, passed)
        where
          passed : (j : ℕ) → j < suc k → IsPassed w (value_after w.words first j)
          passed j below = elim (cases_lt j k) [
            | inl b ↦ h.1 j b
            | inr ge ↦ let e : k ≡ j = omega arith in
                subst (λ v. IsPassed w v) (sym h.0 ∙ ap (value_after w.words first) e) (sort, lt, filled)
          ]

      -- by the place as the code has it
      module _ (place : ℕ) (is : place ≡ place_in at) where
        pub port_answer : (port : ℕ) → port ≡ place - 2 → port < w.plan.parts.free →
            (N : NamedNet NodeName) (reached : ℕ → Bool) (e : ℕ) → WordsStandFor w N reached →
            IsStart w N reached e first → EndsAt w N reached e (Port port)
        port_answer port from lt N reached e s start = subst (λ p. EndsAt w N reached e (Port p))
            (ap (λ p. p - 2) (sym is) ∙ sym from) (at_port (omega (arith, lt, is, from)) N reached e s start)

        pub wire_answer : (next : ℕ) → w.plan.parts.free + 1 < place →
            next ≡ slice_index w.words place → next ≡ 0 →
            (N : NamedNet NodeName) (reached : ℕ → Bool) (e : ℕ) → WordsStandFor w N reached →
            IsStart w N reached e first → EndsAt w N reached e (Wire place)
        wire_answer next lt read empty N reached e s start =
            subst (λ p. EndsAt w N reached e (Wire p)) (sym is)
            (at_wire (omega (arith, lt, is)) (ap (slice_index w.words) (sym is) ∙ sym read
            ∙ empty) N reached e s start)

        pub next_answer : (next : ℕ) → w.plan.parts.free + 1 < place →
            next ≡ slice_index w.words place → next ≢ 0 → IsValueAfter w first (k + 1) next
        next_answer next lt read filled =
            let q : slice_index w.words (place_in at) ≡ next = ap (slice_index w.words) (sym is) ∙ sym read in
            subst (λ v. IsValueAfter w first (k + 1) v) q (goes_on (omega (arith, lt, is)) (λ e. filled (sym q ∙ e)))
