-- Places of the table of partners, and the ports of the net that they stand for.
use Rattle.std.proofs.Common.{◌≡◌, ℕ, zero, suc, ◌+◌, ◌-◌, ◌*◌, ◌/◌, ◌%◌, ◌<◌, ◌≤◌, Bool, true, false, nat_lt, lt-ltb}
use Rattle.std.proofs.Common.{if◌then◌else◌, List, length, slice_index, inl, inr, refl, sym, ap, ◌∙◌, subst, arith}
use Rattle.std.proofs.lemmas.Bool.{cases_lt}
use Rattle.std.proofs.lemmas.Bool.Decides.{nat_tests}
use Rattle.ol_net.specs.declared.parts.Kind.{Kind}
use Rattle.ol_net.specs.declared.parts.Port.TheVariants.{Free, Of}
use Rattle.ol_net.specs.Parts.{arity}
use Rattle.ol_net.specs.Nets.{NamedPort, free, slot, NamedNet, HasNode, IsPort, port_under}
use Rattle.ol_net.specs.Numbered.{numbered_port}
use Rattle.ol_net.specs.Graph.{port_at}
use Rattle.ol_rules.specs.declared.journal.NodeName.{NodeName}
use Rattle.ol_rules.specs.Names.{comes_before}
use Rattle.ol_rules.proofs.Born.{at_most_two}
use Rattle.ol_wire.specs.declared.layout.Parts.{Parts}
use Rattle.ol_wire.specs.References.{node_ref, wire_ref, slot_ref}
use Rattle.ol_wire.specs.Layout.{place_of, port_word, IsPlaced}
use Rattle.ol_wire.specs.Events.{name_at}
use Rattle.ol_wire.specs.Stands.{IsEnd, of_port, principal, auxiliary}
use Rattle.ol_wire.specs.Closed.{ClosedTable, events_in}
use Rattle.ol_wire.specs.Standing.{WordsStandFor}
use Rattle.ol_wire.proofs.InWords.Places.{name_of_place, place_order}
use Rattle.ol_wire.proofs.InWords.Claimed.{wider}
use Rattle.ol_reduce.specs.Left.{ranks_in, rank_of, name_of_rank, IsLeft, AreLeft}
use Rattle.ol_reduce.specs.Found.{name_of, port_of}
use Rattle.ol_reduce.proofs.Numbering.{name_placed, name_back, rank_low}
use Rattle.ol_reduce.proofs.Bounded.{events_few}

pub port_low : (m a : ℕ) → a < m → port_at m a ≡ Free a
port_low m a lt = ap (λ b. if b then Free a else Of (record { 0 = (a - m) / 3 }) ((a - m) % 3)) (lt-ltb a m lt)

pub port_high : (m a n s : ℕ) → s < 3 → a ≡ m + 3 * n + s → port_at m a ≡ Of (record { 0 = n }) s
port_high m a n s lt e =
    let f : nat_lt a m ≡ false = grind (arith, nat_tests) in
    let q : (a - m) / 3 ≡ n = omega (arith, e, lt) in
    let r : (a - m) % 3 ≡ s = omega (arith, e, lt) in
    ap (λ b. if b then Free a else Of (record { 0 = (a - m) / 3 }) ((a - m) % 3)) f
    ∙ (λ j. Of (record { 0 = q j }) (r j))

module _ (w : ClosedTable) (places numbers : List ℕ) (left : AreLeft w (ranks_in w) places numbers) where
  abbrev z : Parts
  z = w.plan.parts

  abbrev name : ℕ → NodeName
  name n = name_of z places n

  abbrev port : ℕ → NamedPort NodeName
  port a = port_of z places a

  -- the node of number n
  pub record IsNumbered (n : ℕ) : Type 0 where
    pub placed : IsPlaced z (events_in z w.words) (name n)
    pub is_left : IsLeft w (name n)
    pub place : slice_index places n ≡ place_of z (name n)

  pub numbered : (n : ℕ) → n < length places → IsNumbered n
  numbered n lt =
      let t = left.each n lt in
      let p = name_placed z (events_in z w.words) t.0 t.1 in
      let q : name n ≡ name_of_rank z t.0 = ap (name_at z) t.3
      ∙ name_of_place z (name_of_rank z t.0)
      (wider z (name_of_rank z t.0) (events_in z w.words) z.fuel (events_few z w.words) p) in
      record {
        placed = subst (IsPlaced z (events_in z w.words)) (sym q) p;
        is_left = subst (IsLeft w) (sym q) t.2;
        place = t.3 ∙ ap (place_of z) (sym q);
      }

  pub names_rise : (j k : ℕ) → j < k → k < length places → comes_before (name j) (name k) ≡ true
  names_rise j k lt ltk =
      let a = numbered j (omega arith) in
      let b = numbered k ltk in
      (place_order z (name j) (name k) (events_in z w.words) a.placed b.placed).1
      (omega (arith, left.rising j k lt ltk, a.place, b.place))

  pub one_name : (j k : ℕ) → j < length places → k < length places → name j ≡ name k → j ≡ k
  one_name j k ltj ltk e = elim (cases_lt j k) [
    | inl a ↦ absurd (omega (
      arith,
      left.rising j k a ltk,
      (numbered j ltj).place,
      (numbered k ltk).place,
      ap (place_of z) e,
    ))
    | inr a ↦ elim (cases_lt k j) [
      | inl b ↦ absurd (omega (
        arith,
        left.rising k j b ltj,
        (numbered j ltj).place,
        (numbered k ltk).place,
        ap (place_of z) e,
      ))
      | inr b ↦ omega (arith, a, b)
    ]
  ]

  -- a node that is left has a number
  pub number_of : (x : NodeName) → IsPlaced z (events_in z w.words) x → IsLeft w x →
      (n : ℕ) × (n < length places) × (name n ≡ x)
  number_of x p l =
      let back = name_back z x (events_in z w.words) p in
      let t = left.found (rank_of z x) (rank_low z x (events_in z w.words) p) (subst (IsLeft w) (sym back) l) in
      let n = slice_index numbers (rank_of z x) - 1 in (
        n,
        omega (arith, t.0, t.1),
        ap (name_at z) (t.2 ∙ ap (place_of z) back)
            ∙ name_of_place z x (wider z x (events_in z w.words) z.fuel (events_few z w.words) p),
      )

  -- ---- the port at a place

  pub data IsSite (a : ℕ) : Type 0 where
    of_free : a < z.free → port a ≡ free a → IsSite a
    of_slot : (n s : ℕ) → n < length places → s < 3 → a ≡ z.free + 3 * n + s → port a ≡ slot (name n) s → IsSite a

  pub port_free : (a : ℕ) → a < z.free → port a ≡ free a
  port_free a lt = ap (λ p. port_under (name_of z places) (numbered_port p)) (port_low z.free a lt)

  pub port_slot : (a n s : ℕ) → s < 3 → a ≡ z.free + 3 * n + s → port a ≡ slot (name n) s
  port_slot a n s lt e = ap (λ p. port_under (name_of z places) (numbered_port p)) (port_high z.free a n s lt e)

  pub site : (a : ℕ) → a < z.free + 3 * length places → IsSite a
  site a lt = elim (cases_lt a z.free) [
    | inl b ↦ of_free b (port_free a b)
    | inr b ↦ of_slot ((a - z.free) / 3) ((a - z.free) % 3) (omega (arith, lt, b)) (omega arith)
        (omega (arith, b)) (port_slot a ((a - z.free) / 3) ((a - z.free) % 3) (omega arith) (omega (arith, b)))
  ]

  pub one_site : (a b : ℕ) → a < z.free + 3 * length places → b < z.free + 3 * length places → port a ≡ port b → a ≡ b
  one_site a b lta ltb e = go (site a lta) (site b ltb)
    where
      go : IsSite a → IsSite b → a ≡ b
      go (of_free p q) (of_free r t) = let same : free a ≡ free b = sym q ∙ e ∙ t in cc
      go (of_free p q) (of_slot m u r l f t) = absurd (let bad : free a ≡ slot (name m) u = sym q ∙ e ∙ t in cc)
      go (of_slot n s p l f q) (of_free r t) = absurd (let bad : free b ≡ slot (name n) s = sym t ∙ sym e ∙ q in cc)
      go (of_slot n s p l f q) (of_slot m u r h g t) =
          let same : slot (name n) s ≡ slot (name m) u = sym q ∙ e ∙ t in
          let names : name n ≡ name m = cc in
          let slots : s ≡ u = cc in
          omega (arith, f, g, slots, one_name n m p r names)

  -- ---- ports of the net

  module _ (N : NamedNet NodeName) (reached : ℕ → Bool) (s : WordsStandFor w N reached) where
    pub site_of_node : (x : NodeName) (k : Kind) (i c : ℕ) → HasNode N x k i → c ≤ arity k →
        (n : ℕ) × (n < length places) × (name n ≡ x) × (port (z.free + 3 * n + c) ≡ slot x c)
    site_of_node x k i c h le =
        let t = number_of x (s.names x k i h) ((s.live x).0 (k, i, h)) in (
          t.0,
          t.1,
          t.2,
          port_slot (z.free + 3 * t.0 + c) t.0 c
              (omega (arith, le, at_most_two k)) refl ∙ ap (λ y. slot y c) t.2,
        )

    -- each port of the net has a place
    pub site_of_port : (p : NamedPort NodeName) → IsPort N p → (a : ℕ) × (a < z.free + 3 * length places) × (port a ≡ p)
    site_of_port (free a) lt = (a, omega (arith, lt, s.ports), port_free a (omega (arith, lt, s.ports)))
    site_of_port (slot x c) (k, i, h, le) =
        let t = site_of_node x k i c h le in
        (z.free + 3 * t.0 + c, omega (arith, t.1, le, at_most_two k), t.3)

    -- each port of the net has an end
    pub end_of_port : (p : NamedPort NodeName) → IsPort N p → (e : ℕ) × IsEnd z N p e
    end_of_port (free a) lt = (wire_ref (port_word a), of_port lt)
    end_of_port (slot x zero) (k, i, h, le) = (node_ref k i (place_of z x), principal k i h)
    end_of_port (slot x (suc c)) (k, i, h, le) = (slot_ref (place_of z x + c), auxiliary k i h (omega (arith, le)))
