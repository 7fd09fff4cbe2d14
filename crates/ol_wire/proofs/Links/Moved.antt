-- The edges before with the joins, and the edges after, join the same of what stays.
-- Used in After.
use Rattle.std.proofs.Common.{◌≡◌, ◌≢◌, ℕ, zero, suc, ◌+◌, ◌*◌, ◌==◌, ◌<◌, ◌≤◌, Bool, if◌then◌else◌}
use Rattle.std.proofs.Common.{nat_eq, eq-eqb, ne_eqb, ◌⊎◌, ◌↔◌, inl, inr, List, [], ◌∷◌, ◌++◌, refl}
use Rattle.std.proofs.Common.{sym, ap, ◌∙◌, subst, arith}
use Rattle.std.proofs.lemmas.Bool.{cases_eq}
use Rattle.ol_law_edges.specs.Edges.{Near, Joined, here, on, back, EdgeOf, ends, bit}
use Rattle.ol_law_edges.proofs.Contraction.{ends_in}
use Rattle.ol_law_edges.proofs.Joining.{joined_sym, joined_trans, joined_image}
use Rattle.ol_net.specs.declared.parts.Kind.{Kind}
use Rattle.ol_net.specs.declared.parts.Rule.{Rule}
use Rattle.ol_net.specs.Parts.{arity}
use Rattle.ol_net.specs.Nets.{NamedNet, NamedPort, slot, IsSlotOf}
use Rattle.ol_rules.specs.declared.journal.NodeName.{NodeName}
use Rattle.ol_rules.specs.declared.journal.NodeName.TheVariants.{Born}
use Rattle.ol_rules.specs.Rewriting.{index_after}
use Rattle.ol_law_edges.proofs.Lists.{in_left, in_right, in_cases, only}
use Rattle.ol_rules.proofs.Lists.{in_each, in_each_of}
use Rattle.ol_rules.proofs.EndCounts.{ends_append}
use Rattle.ol_rules.proofs.Tests.{nat_test}
use Rattle.ol_wire.specs.declared.layout.Parts.{Parts}
use Rattle.ol_wire.specs.References.{node_ref, wire_ref, slot_ref, IsRef}
use Rattle.ol_wire.specs.Layout.{block, place_of, born_wire}
use Rattle.ol_wire.specs.Stands.{IsEnd, auxiliary, principal, IsWireEnd}
use Rattle.ol_wire.proofs.InWords.Alike.{alike_ends, alike_near, alike_sym}
use Rattle.ol_wire.proofs.Ticket.Event.{Rewritten, old_edges, new_edges, field_edges}
use Rattle.ol_wire.proofs.Links.Ends.{StandsAt, one_port, stands_before, no_wire, slot_apart}
use Rattle.ol_wire.proofs.Links.Ends.{born_not_x, born_not_y, x_not_y}
use Rattle.ol_wire.proofs.Links.Joins.{JoinEnds, side_by_side, to_x, to_y, across, slot_of_x}
use Rattle.ol_wire.proofs.Links.Joins.{slot_of_y, copy_of_x_stands, copy_of_y_stands}
use Rattle.ol_wire.proofs.Links.Joins.{field_of_x_copy, field_of_y_copy, alike, BeforeWithJoins}
use Rattle.ol_wire.proofs.Links.New.{Has, pair_of, NewEdge, link_met, link_f, link_g, copy_f}
use Rattle.ol_wire.proofs.Links.New.{copy_g, new_has, has_met, has_f, has_g, has_field_f}
use Rattle.ol_wire.proofs.Links.New.{has_field_g}
use Rattle.ol_rules.proofs.Born.{at_most_two}

-- the first n keys are replaced by their values; no two of them are the same
abbrev pub replaced : ℕ → (ℕ → ℕ) → (ℕ → ℕ) → ℕ → ℕ → ℕ
replaced zero key value other u = other
replaced (suc n) key value other u = if u == key n then value n else replaced n key value other u

key_replaced : (n : ℕ) (key value : ℕ → ℕ) (other s : ℕ) → ((s s' : ℕ) → key s ≡ key s' → s ≡ s') →
    s < n → replaced n key value other (key s) ≡ value s
key_replaced zero key value other s one lt = absurd (omega (arith, lt))
key_replaced (suc n) key value other s one lt = go (cases_eq (key s) (key n)) (key_replaced n key value other s one)
  where
    go : (key s ≡ key n) ⊎ (key s ≢ key n) →
        (s < n → replaced n key value other (key s) ≡ value s) →
        (if key s == key n then value n else replaced n key value other (key s)) ≡ value s
    go (inl e) ih = ap (λ c. if c then value n else replaced n key value other (key s))
        (eq-eqb (key s) (key n) e) ∙ ap value (sym (one s n e))
    go (inr d) ih = ap (λ c. if c then value n else replaced n key value other (key s))
        (ne_eqb (key s) (key n) d) ∙ ih (below n (λ e. d (ap key e)) lt)
      where
        below : (n : ℕ) → s ≢ n → s < suc n → s < n
        below n d lt = omega (arith, d, lt)

other_kept : (n : ℕ) (key value : ℕ → ℕ) (other u : ℕ) → ((s : ℕ) → s < n → u ≢ key s) →
    replaced n key value other u ≡ other
other_kept zero key value other u none = refl
other_kept (suc n) key value other u none =
    ap (λ c. if c then value n else replaced n key value other u)
    (ne_eqb u (key n) (none n (omega arith))) ∙ other_kept n key value other u (λ s lt. none s (omega (arith, lt)))

ref_not_slot : (u w : ℕ) → IsRef u → u ≢ slot_ref w
ref_not_slot u w (inl h) e = omega (arith, h, e)
ref_not_slot u w (inr h) e = omega (arith, h, e)

module _ {z : Parts} {N M : NamedNet NodeName} {x y : NodeName} {k l : Kind} {i j t : ℕ} {r : Rule}
    {a b : ℕ → ℕ} {es fs rest : List (ℕ × ℕ)} {reached reached' : ℕ → Bool}
    (c : Rewritten z N M x y k l i j t r a b es fs rest reached reached') where
  abbrev f : ℕ
  f = node_ref k i (place_of z x)

  abbrev g : ℕ
  g = node_ref l j (place_of z y)

  abbrev olds : List (ℕ × ℕ)
  olds = old_edges f g (place_of z x) (place_of z y) (arity k) (arity l) a b

  abbrev news : List (ℕ × ℕ)
  news = new_edges z (record { rule = r; f = f; g = g }) t a b

  abbrev fields : List (ℕ × ℕ)
  fields = field_edges (place_of z x) (arity k) a ++ field_edges (place_of z y) (arity l) b

  -- each edge before is old or rests, each edge after is new or rests
  ends_parted : (u : ℕ) → ends nat_eq u es ≡ ends nat_eq u olds + ends nat_eq u rest
  ends_parted u = alike_ends es (olds ++ rest) c.from u ∙ ends_append nat_eq u olds rest

  before_has : (u v : ℕ) → Has u v olds ⊎ Has u v rest → Near es u v
  before_has u v (inl h) = alike_near (olds ++ rest) es (alike_sym es (olds ++ rest) c.from) u v
      (inl (in_left {X = ℕ × ℕ} (u, v) olds rest h))
  before_has u v (inr h) = alike_near (olds ++ rest) es (alike_sym es (olds ++ rest) c.from) u v
      (inl (in_right {X = ℕ × ℕ} (u, v) olds rest h))

  after_has : (u v : ℕ) → Has u v news ⊎ Has u v rest → Near fs u v
  after_has u v (inl h) = alike_near (news ++ rest) fs (alike_sym fs (news ++ rest) c.to) u v
      (inl (in_left {X = ℕ × ℕ} (u, v) news rest h))
  after_has u v (inr h) = alike_near (news ++ rest) fs (alike_sym fs (news ++ rest) c.to) u v
      (inl (in_right {X = ℕ × ℕ} (u, v) news rest h))

  x_field : (s : ℕ) → s < arity k → Has (slot_ref (place_of z x + s)) (a s) fields
  x_field s lt =
      in_left {X = ℕ × ℕ} (slot_ref (place_of z x + s), a s)
      (field_edges (place_of z x) (arity k) a) (field_edges (place_of z y) (arity l) b)
      (in_each {X = ℕ × ℕ} (slot_ref (place_of z x + s), a s) (arity k)
      (λ s. (slot_ref (place_of z x + s), a s) ∷ []) s lt (inl refl))

  y_field : (s : ℕ) → s < arity l → Has (slot_ref (place_of z y + s)) (b s) fields
  y_field s lt =
      in_right {X = ℕ × ℕ} (slot_ref (place_of z y + s), b s)
      (field_edges (place_of z x) (arity k) a) (field_edges (place_of z y) (arity l) b)
      (in_each {X = ℕ × ℕ} (slot_ref (place_of z y + s), b s) (arity l)
      (λ s. (slot_ref (place_of z y + s), b s) ∷ []) s lt (inl refl))

  data OldEdge : ℕ → ℕ → Type 0 where
    pair : OldEdge f g
    of_x : (s : ℕ) → s < arity k → OldEdge (slot_ref (place_of z x + s)) (a s)
    of_y : (s : ℕ) → s < arity l → OldEdge (slot_ref (place_of z y + s)) (b s)

  by_ends : (u v u' v' : ℕ) → (u ≡ u') × (v ≡ v') → OldEdge u' v' → OldEdge u v
  by_ends u v u' v' (e, e') h = subst (λ u. OldEdge u v) (sym e) (subst (λ v. OldEdge u' v) (sym e') h)

  old_has : (u v : ℕ) → Has u v olds → OldEdge u v
  old_has u v (inl e) = by_ends u v f g (pair_of u v f g e) pair
  old_has u v (inr h) = go (in_cases {X = ℕ × ℕ} (u, v) (field_edges (place_of z x) (arity k) a)
      (field_edges (place_of z y) (arity l) b) h)
    where
      go : Has u v (field_edges (place_of z x) (arity k) a)
          ⊎ Has u v (field_edges (place_of z y) (arity l) b) → OldEdge u v
      go (inl h) =
          let s = in_each_of {X = ℕ × ℕ} (u, v) (arity k) (λ s. (slot_ref (place_of z x + s), a s) ∷ []) h in
          let e = only {X = ℕ × ℕ} (u, v) (slot_ref (place_of z x + s.0), a s.0) s.2 in
          by_ends u v (slot_ref (place_of z x + s.0)) (a s.0)
          (pair_of u v (slot_ref (place_of z x + s.0)) (a s.0) e) (of_x s.0 s.1)
      go (inr h) =
          let s = in_each_of {X = ℕ × ℕ} (u, v) (arity l) (λ s. (slot_ref (place_of z y + s), b s) ∷ []) h in
          let e = only {X = ℕ × ℕ} (u, v) (slot_ref (place_of z y + s.0), b s.0) s.2 in
          by_ends u v (slot_ref (place_of z y + s.0)) (b s.0)
          (pair_of u v (slot_ref (place_of z y + s.0)) (b s.0) e) (of_y s.0 s.1)

  -- what goes stands at no edge that rests
  x_slot_rests : (s : ℕ) → s < arity k → ends nat_eq (slot_ref (place_of z x + s)) rest ≡ 0
  x_slot_rests s lt =
      let u = slot_ref (place_of z x + s) in
      omega (
        arith,
        c.before.ports (slot x (suc s)) u (auxiliary k i c.faces.first lt),
        ends_parted u,
        ends_in nat_eq nat_test u (a s) olds (inl (inr (x_field s lt))),
      )

  y_slot_rests : (s : ℕ) → s < arity l → ends nat_eq (slot_ref (place_of z y + s)) rest ≡ 0
  y_slot_rests s lt =
      let u = slot_ref (place_of z y + s) in
      omega (
        arith,
        c.before.ports (slot y (suc s)) u (auxiliary l j c.faces.second lt),
        ends_parted u,
        ends_in nat_eq nat_test u (b s) olds (inl (inr (y_field s lt))),
      )

  g_once : ends nat_eq g fields + ends nat_eq g rest ≡ 0
  g_once =
      let same : bit (nat_eq g g) ≡ 1 = ap bit (eq-eqb g g refl) in
      let split : ends nat_eq g olds ≡ bit (nat_eq g f) + bit (nat_eq g g) + ends nat_eq g fields = refl in
      omega (arith, c.before.ports (slot y 0) g (principal l j c.faces.second), ends_parted g, same, split)

  not_g : (u v : ℕ) → Has u v fields → v ≢ g
  not_g u v h e = omega (arith, g_once, ends_in nat_eq nat_test g u fields (inr (subst (λ v. Has u v fields) e h)))

  -- Each slot of the two is moved to what it was joined to.
  abbrev moved : ℕ → ℕ
  moved u = replaced (arity k) (λ s. slot_ref (place_of z x + s)) a
      (replaced (arity l) (λ s. slot_ref (place_of z y + s)) b (if u == g then f else u) u) u

  y_not_x : (s s' : ℕ) → s < arity l → s' < arity k → slot_ref (place_of z y + s) ≢ slot_ref (place_of z x + s')
  y_not_x s s' lt lt' e =
      let q = one_port c (slot y (suc s)) (slot x (suc s')) (slot_ref (place_of z y + s))
      (slot_of_y c s lt) (subst (StandsAt c (slot x (suc s'))) (sym e) (slot_of_x c s' lt')) in
      let d : x ≡ y = cc in
      x_not_y c d

  x_moved : (s : ℕ) → s < arity k → moved (slot_ref (place_of z x + s)) ≡ a s
  x_moved s lt = key_replaced (arity k) (λ s. slot_ref (place_of z x + s)) a
      (replaced (arity l) (λ s. slot_ref (place_of z y + s)) b
      (if slot_ref (place_of z x + s) == g then f else slot_ref (place_of z x + s))
      (slot_ref (place_of z x + s))) s (λ s s' e. omega (arith, e)) lt

  y_moved : (s : ℕ) → s < arity l → moved (slot_ref (place_of z y + s)) ≡ b s
  y_moved s lt =
      let u = slot_ref (place_of z y + s) in
      other_kept (arity k) (λ s. slot_ref (place_of z x + s)) a
      (replaced (arity l) (λ s. slot_ref (place_of z y + s)) b (if u == g then f else u) u) u
      (λ s' lt'. y_not_x s s' lt lt')
      ∙ key_replaced (arity l) (λ s. slot_ref (place_of z y + s)) b (if u == g then f else u) s
      (λ s s' e. omega (arith, e)) lt

  slots_aside : (u : ℕ) → ((s : ℕ) → s < arity k → u ≢ slot_ref (place_of z x + s)) →
      ((s : ℕ) → s < arity l → u ≢ slot_ref (place_of z y + s)) → moved u ≡ (if u == g then f else u)
  slots_aside u n n' =
      other_kept (arity k) (λ s. slot_ref (place_of z x + s)) a
      (replaced (arity l) (λ s. slot_ref (place_of z y + s)) b (if u == g then f else u) u) u n
      ∙ other_kept (arity l) (λ s. slot_ref (place_of z y + s)) b (if u == g then f else u) u n'

  stays : (u : ℕ) → ((s : ℕ) → s < arity k → u ≢ slot_ref (place_of z x + s)) →
      ((s : ℕ) → s < arity l → u ≢ slot_ref (place_of z y + s)) → u ≢ g → moved u ≡ u
  stays u n n' d = slots_aside u n n' ∙ ap (λ c. if c then f else u) (ne_eqb u g d)

  g_moved : moved g ≡ f
  g_moved = slots_aside g (λ s lt e. omega (arith, e)) (λ s lt e. omega (arith, e))
      ∙ ap (λ c. if c then f else g) (eq-eqb g g refl)

  f_moved : moved f ≡ f
  f_moved = slots_aside f (λ s lt e. omega (arith, e)) (λ s lt e. omega (arith, e)) ∙ go (cases_eq f g)
    where
      go : (f ≡ g) ⊎ (f ≢ g) → (if f == g then f else f) ≡ f
      go (inl e) = ap (λ c. if c then f else f) (eq-eqb f g e)
      go (inr d) = ap (λ c. if c then f else f) (ne_eqb f g d)

  ref_stays : (u v : ℕ) → Has u v fields → IsRef v → moved v ≡ v
  ref_stays u v h ref = stays v (λ s lt. ref_not_slot v (place_of z x + s) ref)
      (λ s lt. ref_not_slot v (place_of z y + s) ref) (not_g u v h)

  a_stays : (s : ℕ) → s < arity k → moved (a s) ≡ a s
  a_stays s lt = ref_stays (slot_ref (place_of z x + s)) (a s) (x_field s lt) (c.a_refs s lt)

  b_stays : (s : ℕ) → s < arity l → moved (b s) ≡ b s
  b_stays s lt = ref_stays (slot_ref (place_of z y + s)) (b s) (y_field s lt) (c.b_refs s lt)

  rest_stays : (u : ℕ) → 1 ≤ ends nat_eq u rest → moved u ≡ u
  rest_stays u some =
      stays u
      (λ s lt e. let o : ends nat_eq u rest ≡ 0 = subst (λ u. ends nat_eq u rest ≡ 0) (sym e)
      (x_slot_rests s lt) in omega (arith, o, some))
      (λ s lt e. let o : ends nat_eq u rest ≡ 0 = subst (λ u. ends nat_eq u rest ≡ 0) (sym e)
      (y_slot_rests s lt) in omega (arith, o, some))
      (λ e. let o : ends nat_eq u fields + ends nat_eq u rest ≡ 0 = subst
      (λ u. ends nat_eq u fields + ends nat_eq u rest ≡ 0) (sym e) g_once in omega (arith, o, some))

  -- an end of a port that isn't a slot of the two stays
  pub port_stays : (p : NamedPort NodeName) (u : ℕ) → StandsAt c p u → (IsSlotOf x y p → ⊥) → moved u ≡ u
  port_stays p u h n =
      stays u
      (λ s lt e. n (
        suc s,
        inl (one_port c p (slot x (suc s)) u h
            (subst (StandsAt c (slot x (suc s))) (sym e) (slot_of_x c s lt))),
      ))
      (λ s lt e. n (
        suc s,
        inr (one_port c p (slot y (suc s)) u h
            (subst (StandsAt c (slot y (suc s))) (sym e) (slot_of_y c s lt))),
      ))
      (λ e. n (0, inr (one_port c p (slot y 0) u h (l, j, inl c.faces.second, e))))

  born_apart : (q s : ℕ) → IsSlotOf x y (slot (Born t q) s) → ⊥
  born_apart q s = slot_apart c (Born t q) s (born_not_x c q) (born_not_y c q)

  -- from the edges before and the joins
  near : (u v u' v' : ℕ) → u ≡ u' → v ≡ v' → Near fs u' v' → Joined (EdgeOf fs) u v
  near u v u' v' e e' h = subst (λ u. Joined (EdgeOf fs) u v) (sym e)
      (subst (λ v. Joined (EdgeOf fs) u' v) (sym e') (walk h))
    where
      walk : Near fs u' v' → Joined (EdgeOf fs) u' v'
      walk (inl h) = on here h
      walk (inr h) = back here h

  moved_old : (u v : ℕ) → OldEdge u v → Joined (EdgeOf fs) (moved u) (moved v)
  moved_old u v pair = subst (λ w. Joined (EdgeOf fs) (moved f) w) (f_moved ∙ sym g_moved) here
  moved_old u v (of_x s lt) = subst (λ w.
      Joined (EdgeOf fs) (moved (slot_ref (place_of z x + s))) w) (x_moved s lt ∙ sym (a_stays s lt)) here
  moved_old u v (of_y s lt) = subst (λ w.
      Joined (EdgeOf fs) (moved (slot_ref (place_of z y + s))) w) (y_moved s lt ∙ sym (b_stays s lt)) here

  moved_before : (u v : ℕ) → Has u v olds ⊎ Has u v rest → Joined (EdgeOf fs) (moved u) (moved v)
  moved_before u v (inl h) = moved_old u v (old_has u v h)
  moved_before u v (inr h) = near (moved u) (moved v) u v
      (rest_stays u (ends_in nat_eq nat_test u v rest (inl h)))
      (rest_stays v (ends_in nat_eq nat_test v u rest (inr h))) (after_has u v (inr h))

  small_x : i < 16777216
  small_x = omega (arith, c.indexes x k i c.faces.first)

  small_y : j < 16777216
  small_y = omega (arith, c.indexes y l j c.faces.second)

  moved_join : (u v : ℕ) → JoinEnds z x y k l i j t r u v → Joined (EdgeOf fs) (moved u) (moved v)
  moved_join u v (side_by_side {s = s} m lt) =
      near (moved (slot_ref (place_of z x + s))) (moved (slot_ref (place_of z y + s))) (a s) (b s)
      (x_moved s lt) (y_moved s (omega (arith, lt, alike c m)))
      (after_has (a s) (b s) (inl (has_met z r k l i j t (place_of z x) (place_of z y) small_x small_y a b m s lt)))
  moved_join u v (to_x {p = s} m lt) =
      let w = node_ref l (index_after r j) (place_of z (Born t (arity l + s))) in
      near (moved w) (moved (slot_ref (place_of z x + s))) w (a s)
      (port_stays (slot (Born t (arity l + s)) 0) w (copy_of_y_stands c s m lt)
      (born_apart (arity l + s) 0)) (x_moved s lt)
      (after_has w (a s) (inl (has_g z r k l i j t (place_of z x) (place_of z y) small_x small_y a b m s lt)))
  moved_join u v (to_y {q = s} m lt) =
      let w = node_ref k i (place_of z (Born t s)) in
      near (moved w) (moved (slot_ref (place_of z y + s))) w (b s)
      (port_stays (slot (Born t s) 0) w (copy_of_x_stands c s m lt) (born_apart s 0)) (y_moved s lt)
      (after_has w (b s) (inl (has_f z r k l i j t (place_of z x) (place_of z y) small_x small_y a b m s lt)))
  moved_join u v (across {q = q} {p = p} m lt lt') =
      let d = slot_ref (place_of z (Born t q) + p) in
      let e = slot_ref (place_of z (Born t (arity l + p)) + q) in
      let w = wire_ref (born_wire z t q p) in
      let d_stays = port_stays (slot (Born t q) (suc p)) d (field_of_x_copy c q p m lt lt') (born_apart q (suc p)) in
      let e_stays = port_stays (slot (Born t (arity l + p)) (suc q)) e
      (field_of_y_copy c q p m lt lt') (born_apart (arity l + p) (suc q)) in
      joined_trans (near (moved d) w d w d_stays refl
      (after_has d w (inl (has_field_f z r k l i j t (place_of z x)
      (place_of z y) small_x small_y a b m q p lt lt'))))
      (joined_sym (near (moved e) w e w e_stays refl
      (after_has e w (inl (has_field_g z r k l i j t (place_of z x)
      (place_of z y) small_x small_y a b m q p lt lt')))))

  pub joined_after : (d e : ℕ) → Joined (BeforeWithJoins c) d e → Joined (EdgeOf fs) (moved d) (moved e)
  joined_after d e joins = joined_image moved edge joins
    where
      listed : (u v : ℕ) → Near (olds ++ rest) u v → Joined (EdgeOf fs) (moved u) (moved v)
      listed u v (inl h) = moved_before u v (in_cases {X = ℕ × ℕ} (u, v) olds rest h)
      listed u v (inr h) = joined_sym (moved_before v u (in_cases {X = ℕ × ℕ} (v, u) olds rest h))

      edge : (u v : ℕ) → BeforeWithJoins c u v → Joined (EdgeOf fs) (moved u) (moved v)
      edge u v (inl h) = listed u v (alike_near es (olds ++ rest) c.from u v (inl h))
      edge u v (inr h) = moved_join u v h

  -- Back: the end of a wire that the ticket makes is moved to the field of the copy of x.
  abbrev returned : ℕ → ℕ
  returned u = replaced 4 (λ n. wire_ref (block z t + 10 + n)) (λ n. slot_ref (block z t + 2 + n)) u u

  wire_returned : (q p : ℕ) → q < 2 → p < 2 →
      returned (wire_ref (born_wire z t q p)) ≡ slot_ref (place_of z (Born t q) + p)
  wire_returned q p lt lt' =
      let n : ℕ = 2 * q + p in
      let d : born_wire z t q p ≡ block z t + 10 + n = omega arith in
      let e : block z t + 2 + n ≡ place_of z (Born t q) + p = omega arith in
      ap (λ w. returned (wire_ref w)) d
      ∙ key_replaced 4 (λ n. wire_ref (block z t + 10 + n)) (λ n. slot_ref (block z t + 2 + n))
      (wire_ref (block z t + 10 + n)) n (λ s s' e. omega (arith, e)) (omega (arith, lt, lt'))
      ∙ ap (λ w. slot_ref w) e

  kept : (u : ℕ) → ((n : ℕ) → n < 4 → u ≢ wire_ref (block z t + 10 + n)) → returned u ≡ u
  kept u none = other_kept 4 (λ n. wire_ref (block z t + 10 + n)) (λ n. slot_ref (block z t + 2 + n)) u u none

  pub port_kept : (p : NamedPort NodeName) (u : ℕ) → StandsAt c p u → returned u ≡ u
  port_kept p u h = kept u (λ n lt e. no_wire c p u (block z t + 10 + n) h e (omega arith))

  old_kept : (u v : ℕ) → Near es u v → returned u ≡ u
  old_kept u v h = go (c.before.others u (ends_in nat_eq nat_test u v es h))
    where
      go : ((p : NamedPort NodeName) × IsEnd z N p u) ⊎ IsWireEnd reached u → returned u ≡ u
      go (inl s) = port_kept s.0 u (stands_before c s.0 u s.1)
      go (inr s) = kept u (λ n lt e. omega (arith, s.2, e, (c.old_wires s.0 s.1).1))

  turned : (u v : ℕ) → Near es u v → Near es v u
  turned u v (inl h) = inr h
  turned u v (inr h) = inl h

  walk_before : (u v : ℕ) → Near es u v → Joined (BeforeWithJoins c) u v
  walk_before u v (inl h) = on here (inl h)
  walk_before u v (inr h) = back here (inl h)

  at_kept : (u v : ℕ) → returned u ≡ u → returned v ≡ v → Joined (BeforeWithJoins c) u v →
      Joined (BeforeWithJoins c) (returned u) (returned v)
  at_kept u v e e' h = subst (λ u. Joined (BeforeWithJoins c) u (returned v)) (sym e)
      (subst (λ v. Joined (BeforeWithJoins c) u v) (sym e') h)

  returned_before : (u v : ℕ) → Near es u v → Joined (BeforeWithJoins c) (returned u) (returned v)
  returned_before u v h = at_kept u v (old_kept u v h) (old_kept v u (turned u v h)) (walk_before u v h)

  near_x : (s : ℕ) → s < arity k → Near es (slot_ref (place_of z x + s)) (a s)
  near_x s lt = before_has (slot_ref (place_of z x + s)) (a s) (inl (inr (x_field s lt)))

  near_y : (s : ℕ) → s < arity l → Near es (slot_ref (place_of z y + s)) (b s)
  near_y s lt = before_has (slot_ref (place_of z y + s)) (b s) (inl (inr (y_field s lt)))

  a_kept : (s : ℕ) → s < arity k → returned (a s) ≡ a s
  a_kept s lt = let u = slot_ref (place_of z x + s) in old_kept (a s) u (turned u (a s) (near_x s lt))

  b_kept : (s : ℕ) → s < arity l → returned (b s) ≡ b s
  b_kept s lt = let u = slot_ref (place_of z y + s) in old_kept (b s) u (turned u (b s) (near_y s lt))

  abbrev IsNew : ℕ → ℕ → Type 0
  IsNew = NewEdge z r k l i j t (place_of z x) (place_of z y) small_x small_y a b

  returned_new : (u v : ℕ) → IsNew u v → Joined (BeforeWithJoins c) (returned u) (returned v)
  returned_new u v (link_met n m lt) =
      let d = slot_ref (place_of z x + n) in
      let e = slot_ref (place_of z y + n) in
      let lt' : n < arity l = omega (arith, lt, alike c m) in
      at_kept (a n) (b n) (a_kept n lt) (b_kept n lt')
      (joined_trans (walk_before (a n) d (turned d (a n) (near_x n lt)))
      (joined_trans (on here (inr (side_by_side m lt))) (walk_before e (b n) (near_y n lt'))))
  returned_new u v (link_f n m lt) =
      let w = node_ref k i (place_of z (Born t n)) in
      at_kept w (b n) (port_kept (slot (Born t n) 0) w (copy_of_x_stands c n m lt)) (b_kept n lt)
      (joined_trans (on here (inr (to_y m lt))) (walk_before (slot_ref (place_of z y + n)) (b n) (near_y n lt)))
  returned_new u v (link_g n m lt) =
      let w = node_ref l (index_after r j) (place_of z (Born t (arity l + n))) in
      at_kept w (a n) (port_kept (slot (Born t (arity l + n)) 0) w (copy_of_y_stands c n m lt)) (a_kept n lt)
      (joined_trans (on here (inr (to_x m lt))) (walk_before (slot_ref (place_of z x + n)) (a n) (near_x n lt)))
  returned_new u v (copy_f n s m lt lt') =
      let d = slot_ref (place_of z (Born t n) + s) in
      subst (λ v. Joined (BeforeWithJoins c) (returned d) v)
      (port_kept (slot (Born t n) (suc s)) d (field_of_x_copy c n s m lt lt')
      ∙ sym (wire_returned n s (omega (arith, lt, at_most_two l)) (omega (arith, lt', at_most_two k)))) here
  returned_new u v (copy_g n s m lt lt') =
      let d = slot_ref (place_of z (Born t n) + s) in
      let e = slot_ref (place_of z (Born t (arity l + s)) + n) in
      subst (λ u. Joined (BeforeWithJoins c) u (returned (wire_ref (born_wire z t n s))))
      (sym (port_kept (slot (Born t (arity l + s)) (suc n)) e (field_of_y_copy c n s m lt lt')))
      (subst (λ v. Joined (BeforeWithJoins c) e v)
      (sym (wire_returned n s (omega (arith, lt, at_most_two l))
      (omega (arith, lt', at_most_two k)))) (back here (inr (across m lt lt'))))

  pub joined_before : (d e : ℕ) → Joined (EdgeOf fs) d e → Joined (BeforeWithJoins c) (returned d) (returned e)
  joined_before d e joins = joined_image returned edge joins
    where
      of_parts : (u v : ℕ) → Has u v news ⊎ Has u v rest → Joined (BeforeWithJoins c) (returned u) (returned v)
      of_parts u v (inl h) = returned_new u v
          (new_has z r k l i j t (place_of z x) (place_of z y) small_x small_y a b u v h)
      of_parts u v (inr h) = returned_before u v (before_has u v (inr h))

      listed : (u v : ℕ) → Near (news ++ rest) u v → Joined (BeforeWithJoins c) (returned u) (returned v)
      listed u v (inl h) = of_parts u v (in_cases {X = ℕ × ℕ} (u, v) news rest h)
      listed u v (inr h) = joined_sym (of_parts v u (in_cases {X = ℕ × ℕ} (v, u) news rest h))

      edge : (u v : ℕ) → EdgeOf fs u v → Joined (BeforeWithJoins c) (returned u) (returned v)
      edge u v h = listed u v (alike_near fs (news ++ rest) c.to u v (inl h))

  -- what stays is joined before, by way of the joins, where it is joined after
  pub joined_both : (p q : NamedPort NodeName) (d e : ℕ) → StandsAt c p d → StandsAt c q e →
      (IsSlotOf x y p → ⊥) → (IsSlotOf x y q → ⊥) → Joined (BeforeWithJoins c) d e ↔ Joined (EdgeOf fs) d e
  joined_both p q d e h h' n n' = (
    (λ joins. subst (λ d. Joined (EdgeOf fs) d e) (port_stays p d h n)
        (subst (λ e. Joined (EdgeOf fs) (moved d) e) (port_stays q e h' n') (joined_after d e joins))),
    (λ joins. subst (λ d. Joined (BeforeWithJoins c) d e) (port_kept p d h)
        (subst (λ e. Joined (BeforeWithJoins c) (returned d) e) (port_kept q e h') (joined_before d e joins))),
  )
