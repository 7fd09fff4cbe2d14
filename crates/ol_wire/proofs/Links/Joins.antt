-- The joins of a ticket, by ends; what they connect with the edges before is what they connect with the links.
-- Used in After and Moved.
use Rattle.std.proofs.Common.{◌≡◌, ℕ, suc, ◌+◌, ◌<◌, Bool, true, false, if◌then◌else◌, ◌⊎◌, inl, inr, List, refl, arith}
use Rattle.ol_law_edges.specs.Edges.{Joined, EdgeOf, Edge}
use Rattle.ol_net.specs.declared.parts.Kind.{Kind}
use Rattle.ol_net.specs.declared.parts.Rule.{Rule}
use Rattle.ol_net.specs.Parts.{arity}
use Rattle.ol_net.specs.Nets.{NamedNet, NamedPort, slot, Linked, IsSlotOf, IsPrincipalOf}
use Rattle.ol_rules.specs.declared.journal.NodeName.{NodeName}
use Rattle.ol_rules.specs.declared.journal.NodeName.TheVariants.{Born}
use Rattle.ol_rules.specs.Rewriting.{meeting, crossing, is_meeting, index_after, action_of, JoinOf}
use Rattle.ol_rules.specs.Rewriting.{meet, at_f, at_g, between}
use Rattle.ol_rules.proofs.Alike.{meeting_alike}
use Rattle.ol_wire.specs.declared.layout.Parts.{Parts}
use Rattle.ol_wire.specs.References.{node_ref, slot_ref}
use Rattle.ol_wire.specs.Layout.{place_of}
use Rattle.ol_wire.proofs.Ticket.Event.{Rewritten}
use Rattle.ol_wire.proofs.Links.Walk.{to_ends, from_ends}
use Rattle.ol_rules.proofs.Actions.{crosses, meets}
use Rattle.ol_wire.proofs.Links.Ends.{IsKnown, StandsAt, one_end, born_not_x, born_not_y, ended, linked, met}

-- slots of one number; each copy with a slot; each copy of x with each of y
pub data JoinEnds (z : Parts) (x y : NodeName) (k l : Kind) (i j t : ℕ) (r : Rule) : ℕ → ℕ → Type 0 where
  side_by_side : {s : ℕ} → is_meeting r ≡ true → s < arity k →
      JoinEnds z x y k l i j t r (slot_ref (place_of z x + s)) (slot_ref (place_of z y + s))
  to_x : {p : ℕ} → is_meeting r ≡ false → p < arity k →
      JoinEnds z x y k l i j t r (node_ref l (index_after r j) (place_of z (Born t (arity l + p))))
      (slot_ref (place_of z x + p))
  to_y : {q : ℕ} → is_meeting r ≡ false → q < arity l →
      JoinEnds z x y k l i j t r (node_ref k i (place_of z (Born t q))) (slot_ref (place_of z y + q))
  across : {q p : ℕ} → is_meeting r ≡ false → q < arity l → p < arity k →
      JoinEnds z x y k l i j t r (slot_ref (place_of z (Born t q) + p))
      (slot_ref (place_of z (Born t (arity l + p)) + q))

to_meeting : (m : Bool) (n : ℕ) → m ≡ true → (if m then meeting else crossing n) ≡ meeting
to_meeting true n e = refl
to_meeting false n e = absurd (cc)

to_crossing : (m : Bool) (n : ℕ) → m ≡ false → (if m then meeting else crossing n) ≡ crossing n
to_crossing true n e = absurd (cc)
to_crossing false n e = refl

module _ {z : Parts} {N M : NamedNet NodeName} {x y : NodeName} {k l : Kind} {i j t : ℕ} {r : Rule}
    {a b : ℕ → ℕ} {es fs rest : List (ℕ × ℕ)} {reached reached' : ℕ → Bool}
    (c : Rewritten z N M x y k l i j t r a b es fs rest reached reached') where
  abbrev pub IsJoin : NamedPort NodeName → NamedPort NodeName → Type 0
  IsJoin = JoinOf (λ q. Born t q) x y k l (action_of r j)

  abbrev pub IsJoinEnds : ℕ → ℕ → Type 0
  IsJoinEnds = JoinEnds z x y k l i j t r

  -- the ports that a join has, by their ends
  pub slot_of_x : (s : ℕ) → s < arity k → StandsAt c (slot x (suc s)) (slot_ref (place_of z x + s))
  slot_of_x s lt = (k, i, inl c.faces.first, lt, refl)

  pub slot_of_y : (s : ℕ) → s < arity l → StandsAt c (slot y (suc s)) (slot_ref (place_of z y + s))
  slot_of_y s lt = (l, j, inl c.faces.second, lt, refl)

  copy_of_x : (q : ℕ) → is_meeting r ≡ false → q < arity l → IsKnown c (Born t q) k i
  copy_of_x q m lt = inr (q, refl, m, inl (lt, refl, refl))

  copy_of_y : (p : ℕ) → is_meeting r ≡ false → p < arity k → IsKnown c (Born t (arity l + p)) l (index_after r j)
  copy_of_y p m lt = inr (arity l + p, refl, m, inr (omega arith, omega (arith, lt), refl, refl))

  pub copy_of_x_stands : (q : ℕ) → is_meeting r ≡ false → q < arity l →
      StandsAt c (slot (Born t q) 0) (node_ref k i (place_of z (Born t q)))
  copy_of_x_stands q m lt = (k, i, copy_of_x q m lt, refl)

  pub copy_of_y_stands : (p : ℕ) → is_meeting r ≡ false → p < arity k →
      StandsAt c (slot (Born t (arity l + p)) 0) (node_ref l (index_after r j) (place_of z (Born t (arity l + p))))
  copy_of_y_stands p m lt = (l, index_after r j, copy_of_y p m lt, refl)

  pub field_of_x_copy : (q p : ℕ) → is_meeting r ≡ false → q < arity l → p < arity k →
      StandsAt c (slot (Born t q) (suc p)) (slot_ref (place_of z (Born t q) + p))
  field_of_x_copy q p m lt lt' = (k, i, copy_of_x q m lt, lt', refl)

  pub field_of_y_copy : (q p : ℕ) → is_meeting r ≡ false → q < arity l → p < arity k →
      StandsAt c (slot (Born t (arity l + p)) (suc q)) (slot_ref (place_of z (Born t (arity l + p)) + q))
  field_of_y_copy q p m lt lt' = (l, index_after r j, copy_of_y p m lt', lt, refl)

  pub alike : is_meeting r ≡ true → arity k ≡ arity l
  alike m = meeting_alike k i l j r c.fits m

  join_ends : (p q : NamedPort NodeName) → IsJoin p q →
      (d : ℕ) × (e : ℕ) × StandsAt c p d × StandsAt c q e × IsJoinEnds d e
  join_ends p q (meet {s = s} e lt) =
      let m = meets (is_meeting r) (index_after r j) e in (
        slot_ref (place_of z x + s),
        slot_ref (place_of z y + s),
        slot_of_x s lt,
        slot_of_y s (omega (arith, lt, alike m)),
        side_by_side m lt,
      )
  join_ends p q (at_f {p = s} o e lt) =
      let m = (crosses (is_meeting r) (index_after r j) o e).0 in (
        node_ref l (index_after r j) (place_of z (Born t (arity l + s))),
        slot_ref (place_of z x + s),
        copy_of_y_stands s m lt,
        slot_of_x s lt,
        to_x m lt,
      )
  join_ends p q (at_g {q = s} o e lt) =
      let m = (crosses (is_meeting r) (index_after r j) o e).0 in (
        node_ref k i (place_of z (Born t s)),
        slot_ref (place_of z y + s),
        copy_of_x_stands s m lt,
        slot_of_y s lt,
        to_y m lt,
      )
  join_ends p q (between {p = s} {q = u} o e lt lt') =
      let m = (crosses (is_meeting r) (index_after r j) o e).0 in (
        slot_ref (place_of z (Born t u) + s),
        slot_ref (place_of z (Born t (arity l + s)) + u),
        field_of_x_copy u s m lt' lt,
        field_of_y_copy u s m lt' lt,
        across m lt' lt,
      )

  end_joins : (d e : ℕ) → IsJoinEnds d e →
      (p : NamedPort NodeName) × (q : NamedPort NodeName) × StandsAt c p d × StandsAt c q e × IsJoin p q
  end_joins d e (side_by_side {s = s} m lt) = (
    slot x (suc s),
    slot y (suc s),
    slot_of_x s lt,
    slot_of_y s (omega (arith, lt, alike m)),
    meet (to_meeting (is_meeting r) (index_after r j) m) lt,
  )
  end_joins d e (to_x {p = s} m lt) = (
    slot (Born t (arity l + s)) 0,
    slot x (suc s),
    copy_of_y_stands s m lt,
    slot_of_x s lt,
    at_f (index_after r j) (to_crossing (is_meeting r) (index_after r j) m) lt,
  )
  end_joins d e (to_y {q = s} m lt) = (
    slot (Born t s) 0,
    slot y (suc s),
    copy_of_x_stands s m lt,
    slot_of_y s lt,
    at_g (index_after r j) (to_crossing (is_meeting r) (index_after r j) m) lt,
  )
  end_joins d e (across {q = u} {p = s} m lt lt') = (
    slot (Born t u) (suc s),
    slot (Born t (arity l + s)) (suc u),
    field_of_x_copy u s m lt lt',
    field_of_y_copy u s m lt lt',
    between (index_after r j)
        (to_crossing (is_meeting r) (index_after r j) m) lt' lt,
  )

  no_first : (u : NodeName) (s : ℕ) → IsPrincipalOf x y (slot u (suc s)) → ⊥
  no_first u s (inl e) = let q : suc s ≡ 0 = cc in omega (arith, q)
  no_first u s (inr e) = let q : suc s ≡ 0 = cc in omega (arith, q)

  born_not_first : (q : ℕ) → IsPrincipalOf x y (slot (Born t q) 0) → ⊥
  born_not_first q (inl e) = let d : Born t q ≡ x = cc in born_not_x c q d
  born_not_first q (inr e) = let d : Born t q ≡ y = cc in born_not_y c q d

  join_clear : (p q : NamedPort NodeName) → IsJoin p q → (IsPrincipalOf x y p → ⊥) × (IsPrincipalOf x y q → ⊥)
  join_clear p q (meet {s = s} e lt) = (no_first x s, no_first y s)
  join_clear p q (at_f {p = s} o e lt) = (born_not_first (arity l + s), no_first x s)
  join_clear p q (at_g {q = s} o e lt) = (born_not_first s, no_first y s)
  join_clear p q (between {p = s} {q = u} o e lt lt') = (no_first (Born t u) s, no_first (Born t (arity l + s)) u)

  -- the edges before, and the joins
  abbrev pub BeforeWithJoins : ℕ → ℕ → Type 0
  BeforeWithJoins d e = EdgeOf es d e ⊎ IsJoinEnds d e

  abbrev pub LinksWithJoins : NamedPort NodeName → NamedPort NodeName → Type 0
  LinksWithJoins = Edge (Linked N) (IsPrincipalOf x y) IsJoin

  first_is_slot : (p : NamedPort NodeName) → IsPrincipalOf x y p → IsSlotOf x y p
  first_is_slot p (inl e) = (0, inl e)
  first_is_slot p (inr e) = (0, inr e)

  pub ports_to_ends : (p q : NamedPort NodeName) (d e : ℕ) → StandsAt c p d → StandsAt c q e →
      Joined LinksWithJoins p q → Joined BeforeWithJoins d e
  ports_to_ends = to_ends (StandsAt c) (Linked N) (IsPrincipalOf x y) IsJoin (EdgeOf es) IsJoinEnds
      (one_end c) (ended c) (linked c) (met c) join_ends end_joins join_clear

  pub ends_to_ports : (p q : NamedPort NodeName) (d e : ℕ) → StandsAt c p d → StandsAt c q e →
      (IsSlotOf x y p → ⊥) → (IsSlotOf x y q → ⊥) → Joined BeforeWithJoins d e → Joined LinksWithJoins p q
  ends_to_ports p q d e h h' n n' joins =
      from_ends (StandsAt c) (Linked N) (IsPrincipalOf x y) IsJoin (EdgeOf es) IsJoinEnds
      (one_end c) (ended c) (linked c) (met c) join_ends end_joins join_clear
      p q d e h h' (λ s. n (first_is_slot p s)) (λ s. n' (first_is_slot q s)) joins
