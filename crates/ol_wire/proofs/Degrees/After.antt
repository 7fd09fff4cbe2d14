-- After a ticket each port of the net stands at one end of an edge, each reached wire at two, and nothing else at any.
-- Used in Ticket.Keeps.
use Rattle.std.proofs.Common.{◌≡◌, ◌≢◌, ℕ, suc, ◌+◌, ◌<◌, Bool, true, List, nat_eq, ◌++◌, ◌⊎◌, inl}
use Rattle.std.proofs.Common.{inr, refl, sym, ap, ◌∙◌, subst, arith}
use Rattle.std.proofs.lemmas.Bool.{cases_eq}
use Rattle.ol_law_edges.specs.Edges.{ends}
use Rattle.ol_net.specs.declared.parts.Kind.{Kind}
use Rattle.ol_net.specs.declared.parts.Rule.{Rule}
use Rattle.ol_net.specs.Nets.{NamedNet, NamedPort, free, slot, HasNode}
use Rattle.ol_net.specs.Parts.{arity}
use Rattle.ol_rules.specs.declared.journal.NodeName.{NodeName}
use Rattle.ol_rules.specs.declared.journal.NodeName.TheVariants.{Born}
use Rattle.ol_rules.specs.Rewriting.{is_meeting, index_after}
use Rattle.ol_rules.proofs.Alike.{meeting_alike}
use Rattle.ol_rules.proofs.EndCounts.{ends_append}
use Rattle.ol_wire.specs.declared.layout.Parts.{Parts}
use Rattle.ol_wire.specs.References.{kind_in, node_ref, wire_ref, slot_ref}
use Rattle.ol_wire.specs.Layout.{port_word, place_of, born_wire}
use Rattle.ol_wire.specs.Blocks.{copies_of_f, copies_of_g}
use Rattle.ol_wire.specs.Stands.{IsEnd, of_port, principal, auxiliary, IsWireEnd}
use Rattle.ol_wire.proofs.InWords.Alike.{alike_ends}
use Rattle.ol_wire.proofs.Ticket.Event.{Rewritten, old_edges, new_edges}
use Rattle.ol_wire.proofs.InWords.References.{node_same, slot_same, node_not_wire, node_not_slot, wire_not_slot}
use Rattle.ol_wire.proofs.InWords.Places.{place_before, place_same}
use Rattle.ol_wire.proofs.Degrees.Sums.{is_at, at_same, at_some, among, among_in, among_some}
use Rattle.ol_wire.proofs.Degrees.Weights.{copies_small}
use Rattle.ol_wire.proofs.Degrees.Counts.{gone, held, born, event, old_ends, new_ends}
use Rattle.ol_wire.proofs.Degrees.Born.{Few, Comes, a_copy_of_f, a_copy_of_g, slot_of_f, slot_of_g}
use Rattle.ol_wire.proofs.Degrees.Born.{a_wire, born_some, born_f, born_g, born_f_slot, born_g_slot}
use Rattle.ol_wire.proofs.Degrees.Born.{born_wires, node_unborn, slot_unborn, wire_unborn}
use Rattle.ol_wire.proofs.Degrees.Nodes.{After, stays, f_comes, g_comes, node_after, stays_after, f_after, g_after}
use Rattle.ol_wire.proofs.InWords.Lists.{index_after_small}
use Rattle.ol_rules.proofs.Born.{at_most_two}

-- what an end is that goes
data Goes (f g pf pg m n u : ℕ) : Type 0 where
  first : u ≡ f → Goes f g pf pg m n u
  second : u ≡ g → Goes f g pf pg m n u
  of_first : (s : ℕ) → s < m → u ≡ slot_ref (pf + s) → Goes f g pf pg m n u
  of_second : (s : ℕ) → s < n → u ≡ slot_ref (pg + s) → Goes f g pf pg m n u

gone_some : (f g pf pg m n u : ℕ) → 0 < gone f g pf pg m n u → Goes f g pf pg m n u
gone_some f g pf pg m n u h = elim (cases_eq (is_at u f) 0) [
  | inr some ↦ first (at_some u f (omega (arith, some)))
  | inl a ↦ elim (cases_eq (is_at u g) 0) [
    | inr some ↦ second (at_some u g (omega (arith, some)))
    | inl b ↦ elim (cases_eq (among m (λ s. slot_ref (pf + s)) u) 0) [
      | inr some ↦ let s = among_some m (λ s. slot_ref (pf + s)) u (omega (arith, some)) in of_first s.0 s.1 s.2
      | inl d ↦ let s = among_some n (λ s. slot_ref (pg + s)) u (omega (arith, h, a, b, d)) in of_second s.0 s.1 s.2
    ]
  ]
]

module _ (z : Parts) (N M : NamedNet NodeName) (x y : NodeName) (k l : Kind) (i j t : ℕ) (r : Rule)
    (a b : ℕ → ℕ) (es fs rest : List (ℕ × ℕ)) (reached reached' : ℕ → Bool)
    (c : Rewritten z N M x y k l i j t r a b es fs rest reached reached') where
  abbrev f : ℕ
  f = node_ref k i (place_of z x)

  abbrev g : ℕ
  g = node_ref l j (place_of z y)

  abbrev goes : ℕ → ℕ
  goes u = gone f g (place_of z x) (place_of z y) (arity k) (arity l) u

  -- how many copies of f, and of g, are made
  abbrev made_f : ℕ
  made_f = copies_of_f (event r k i (place_of z x) l j (place_of z y))

  abbrev made_g : ℕ
  made_g = copies_of_g (event r k i (place_of z x) l j (place_of z y))

  abbrev comes : ℕ → ℕ
  comes u = born z t k i l (index_after r j) made_f made_g u

  abbrev IsAfter : NodeName → Kind → ℕ → Type 0
  IsAfter v o h = After z N M x y k l i j t r a b es fs rest reached reached' c v o h

  small : (u : NodeName) (o : Kind) (h : ℕ) → HasNode N u o h → h < 16777216
  small u o h has = omega (arith, c.indexes u o h has)

  few : Few i (index_after r j) made_f made_g
  few = record {
    index_f = small x k i c.faces.first;
    index_g = omega (arith, c.indexes y l j c.faces.second, index_after_small r j);
    copies_f = copies_small (is_meeting r) (kind_in g);
    copies_g = copies_small (is_meeting r) (kind_in f);
  }

  abbrev IsNew : ℕ → Type 0
  IsNew u = Comes z t k l i (index_after r j) made_f made_g few u

  before_ends : (u : ℕ) → ends nat_eq u es ≡ goes u + held (arity k) (arity l) a b u + ends nat_eq u rest
  before_ends u =
      let olds = old_edges f g (place_of z x) (place_of z y) (arity k) (arity l) a b in
      let p = alike_ends es (olds ++ rest) c.from u ∙ ends_append {V = ℕ} nat_eq u olds rest in
      let v = old_ends z k l i j t r (place_of z x) (place_of z y) a b u in
      omega (arith, p, v)

  -- the ends that go and come
  moved : (u : ℕ) → ends nat_eq u fs + goes u ≡ ends nat_eq u es + comes u
  moved u =
      let e = event r k i (place_of z x) l j (place_of z y) in
      let news = new_edges z e t a b in
      let q = alike_ends fs (news ++ rest) c.to u ∙ ends_append {V = ℕ} nat_eq u news rest in
      let w = new_ends z k l i j t r (place_of z x) (place_of z y) a b u
      (meeting_alike k i l j r c.fits) (small x k i c.faces.first) (small y l j c.faces.second) in
      omega (arith, before_ends u, q, w)

  -- ends of the net and of wires before are none of those that come
  port_unborn : (p : NamedPort NodeName) (u : ℕ) → IsEnd z N p u → comes u ≡ 0
  port_unborn p u (of_port {n = w} lt) = wire_unborn z t k l i (index_after r j) made_f made_g few
      (port_word w) (omega (arith, lt, c.ports))
  port_unborn p u (principal {x = v} o h has) = node_unborn z t k l i
      (index_after r j) made_f made_g few o h (place_of z v) (small v o h has)
      (omega (arith, (place_before z v t (c.names v o h has)).1))
  port_unborn p u (auxiliary {x = v} {s = s} o h has lt) = slot_unborn z t k l i
      (index_after r j) made_f made_g few (place_of z v + s)
      (omega (arith, (place_before z v t (c.names v o h has)).1, lt, at_most_two o))

  wires_unborn : (w : ℕ) → reached w ≡ true → comes (wire_ref w) ≡ 0
  wires_unborn w h = wire_unborn z t k l i (index_after r j) made_f made_g few w (c.old_wires w h).1

  -- what goes is an end of the net before
  goes_before : (u : ℕ) → 0 < goes u → (p : NamedPort NodeName) × IsEnd z N p u
  goes_before u h = go (gone_some f g (place_of z x) (place_of z y) (arity k) (arity l) u h)
    where
      go : Goes f g (place_of z x) (place_of z y) (arity k) (arity l) u → (p : NamedPort NodeName) × IsEnd z N p u
      go (first e) = (slot x 0, subst (IsEnd z N (slot x 0)) (sym e) (principal k i c.faces.first))
      go (second e) = (slot y 0, subst (IsEnd z N (slot y 0)) (sym e) (principal l j c.faces.second))
      go (of_first s lt e) = (
        slot x (suc s),
        subst (IsEnd z N (slot x (suc s))) (sym e) (auxiliary k i c.faces.first lt),
      )
      go (of_second s lt e) = (
        slot y (suc s),
        subst (IsEnd z N (slot y (suc s))) (sym e) (auxiliary l j c.faces.second lt),
      )

  -- what comes stood nowhere
  new_before : (u : ℕ) → 0 < comes u → ends nat_eq u es ≡ 0
  new_before u h = elim (cases_eq (ends nat_eq u es) 0) [
    | inl none ↦ none
    | inr some ↦ absurd (go (c.before.others u (omega (arith, some))))
  ]
    where
      go : ((p : NamedPort NodeName) × IsEnd z N p u) ⊎ IsWireEnd reached u → ⊥
      go (inl p) = omega (arith, h, port_unborn p.0 u p.1)
      go (inr w) = let e : comes u ≡ comes (wire_ref w.0) = ap (λ u. comes u) w.2 in
          omega (arith, h, e, wires_unborn w.0 w.1)

  -- an end that goes stands nowhere else
  pub gone_once : (u : ℕ) → 0 < gone f g (place_of z x) (place_of z y) (arity k) (arity l) u →
      (held (arity k) (arity l) a b u ≡ 0) × (ends nat_eq u rest ≡ 0)
  gone_once u h =
      let p = goes_before u h in
      let one = c.before.ports p.0 u p.1 in
      (omega (arith, h, before_ends u, one), omega (arith, h, before_ends u, one))

  -- and an end that comes stood nowhere
  pub born_fresh : (u : ℕ) → 0 < born z t k i l (index_after r j) made_f made_g u →
      (held (arity k) (arity l) a b u ≡ 0) × (ends nat_eq u rest ≡ 0)
  born_fresh u h = (omega (arith, new_before u h, before_ends u), omega (arith, new_before u h, before_ends u))

  new_end : (u : ℕ) → 0 < comes u → ends nat_eq u fs ≡ comes u
  new_end u h = elim (cases_eq (goes u) 0) [
    | inl none ↦ omega (arith, moved u, new_before u h, none)
    | inr some ↦ let p = goes_before u (omega (arith, some)) in omega (arith, h, port_unborn p.0 u p.1)
  ]

  old_end : (u : ℕ) → goes u ≡ 0 → comes u ≡ 0 → ends nat_eq u fs ≡ ends nat_eq u es
  old_end u stay h = omega (arith, moved u, stay, h)

  stays_unless : (u : ℕ) → (Goes f g (place_of z x) (place_of z y) (arity k) (arity l) u → ⊥) → goes u ≡ 0
  stays_unless u d = elim (cases_eq (goes u) 0) [
    | inl none ↦ none
    | inr some ↦ absurd (d (gone_some f g (place_of z x) (place_of z y) (arity k) (arity l) u (omega (arith, some))))
  ]

  -- two nodes of the net before with one place
  placed_once : (v w : NodeName) (o o' : Kind) (h h' s s' : ℕ) → HasNode N v o h →
      HasNode N w o' h' → s < 2 → s' < 2 → place_of z v + s ≡ place_of z w + s' → v ≡ w
  placed_once v w o o' h h' s s' p q b d e = (place_same z v w s s' t (c.names v o h p) (c.names w o' h' q) b d e).0

  node_stays : (v : NodeName) (o : Kind) (h : ℕ) → HasNode N v o h → v ≢ x → v ≢ y →
      goes (node_ref o h (place_of z v)) ≡ 0
  node_stays v o h has dx dy = stays_unless (node_ref o h (place_of z v)) go
    where
      go : Goes f g (place_of z x) (place_of z y) (arity k) (arity l) (node_ref o h (place_of z v)) → ⊥
      go (first e) = let s = node_same o k h i (place_of z v) (place_of z x) (small v o h has)
          (small x k i c.faces.first) e in dx (placed_once v x o k h i 0 0 has c.faces.first
          (omega arith) (omega arith) (omega (arith, s.2)))
      go (second e) = let s = node_same o l h j (place_of z v) (place_of z y) (small v o h has)
          (small y l j c.faces.second) e in dy
          (placed_once v y o l h j 0 0 has c.faces.second (omega arith) (omega arith) (omega (arith, s.2)))
      go (of_first s b e) = node_not_slot o h (place_of z v) (place_of z x + s) e
      go (of_second s b e) = node_not_slot o h (place_of z v) (place_of z y + s) e

  slot_stays : (v : NodeName) (o : Kind) (h s : ℕ) → HasNode N v o h → s < arity o → v ≢ x → v ≢ y →
      goes (slot_ref (place_of z v + s)) ≡ 0
  slot_stays v o h s has lt dx dy = stays_unless (slot_ref (place_of z v + s)) go
    where
      go : Goes f g (place_of z x) (place_of z y) (arity k) (arity l) (slot_ref (place_of z v + s)) → ⊥
      go (first e) = node_not_slot k i (place_of z x) (place_of z v + s) (sym e)
      go (second e) = node_not_slot l j (place_of z y) (place_of z v + s) (sym e)
      go (of_first s' b e) = dx (placed_once v x o k h i s s' has c.faces.first
          (omega (arith, lt, at_most_two o)) (omega (arith, b, at_most_two k))
          (slot_same (place_of z v + s) (place_of z x + s') e))
      go (of_second s' b e) = dy (placed_once v y o l h j s s' has c.faces.second
          (omega (arith, lt, at_most_two o)) (omega (arith, b, at_most_two l))
          (slot_same (place_of z v + s) (place_of z y + s') e))

  wire_stays : (w : ℕ) → goes (wire_ref w) ≡ 0
  wire_stays w = stays_unless (wire_ref w) go
    where
      go : Goes f g (place_of z x) (place_of z y) (arity k) (arity l) (wire_ref w) → ⊥
      go (first e) = node_not_wire k i (place_of z x) w (sym e)
      go (second e) = node_not_wire l j (place_of z y) w (sym e)
      go (of_first s b e) = wire_not_slot w (place_of z x + s) e
      go (of_second s b e) = wire_not_slot w (place_of z y + s) e

  -- a port of the net before that stays
  port_stays : (p : NamedPort NodeName) (u : ℕ) → IsEnd z N p u → goes u ≡ 0 → ends nat_eq u fs ≡ 1
  port_stays p u h stay = old_end u stay (port_unborn p u h) ∙ c.before.ports p u h

  -- an end that comes once, or twice
  comes_so : (u w : ℕ) → comes u ≡ suc w → ends nat_eq u fs ≡ suc w
  comes_so u w e = new_end u (omega (arith, e)) ∙ e

  principal_after : (v : NodeName) (o : Kind) (h : ℕ) → IsAfter v o h → ends nat_eq (node_ref o h (place_of z v)) fs ≡ 1
  principal_after v o h (stays has dx dy) = port_stays (slot v 0) (node_ref o h (place_of z v))
      (principal o h has) (node_stays v o h has dx dy)
  principal_after v o h (f_comes q lt e ev eo eh) =
      let same : node_ref o h (place_of z v) ≡ node_ref k i (place_of z (Born t q)) = ap
      (λ o. node_ref o h (place_of z v)) eo ∙ ap (λ h. node_ref k h (place_of z v)) eh
      ∙ ap (λ v. node_ref k i (place_of z v)) ev in
      ap (λ u. ends nat_eq u fs) same ∙ comes_so (node_ref k i (place_of z (Born t q))) 0
      (born_f z t k l i (index_after r j) made_f made_g few q lt)
  principal_after v o h (g_comes p lt e ev eo eh) =
      let same : node_ref o h (place_of z v) ≡ node_ref l (index_after r j)
      (place_of z (Born t (made_f + p))) = ap (λ o. node_ref o h (place_of z v)) eo
      ∙ ap (λ h. node_ref l h (place_of z v)) eh ∙ ap (λ v. node_ref l (index_after r j) (place_of z v)) ev in
      ap (λ u. ends nat_eq u fs) same ∙ comes_so
      (node_ref l (index_after r j) (place_of z (Born t (made_f + p)))) 0
      (born_g z t k l i (index_after r j) made_f made_g few p lt)

  auxiliary_after : (v : NodeName) (o : Kind) (h s : ℕ) → IsAfter v o h → s < arity o →
      ends nat_eq (slot_ref (place_of z v + s)) fs ≡ 1
  auxiliary_after v o h s (stays has dx dy) lt = port_stays (slot v (suc s))
      (slot_ref (place_of z v + s)) (auxiliary o h has lt) (slot_stays v o h s has lt dx dy)
  auxiliary_after v o h s (f_comes q b e ev eo eh) lt =
      let below : s < made_g = omega (arith, lt, ap arity eo, e) in
      ap (λ v. ends nat_eq (slot_ref (place_of z v + s)) fs) ev
      ∙ comes_so (slot_ref (place_of z (Born t q) + s)) 0
      (born_f_slot z t k l i (index_after r j) made_f made_g few q s b below)
  auxiliary_after v o h s (g_comes p b e ev eo eh) lt =
      let below : s < made_f = omega (arith, lt, ap arity eo, e) in
      ap (λ v. ends nat_eq (slot_ref (place_of z v + s)) fs) ev
      ∙ comes_so (slot_ref (place_of z (Born t (made_f + p)) + s)) 0
      (born_g_slot z t k l i (index_after r j) made_f made_g few s p below b)

  pub ports_after : (p : NamedPort NodeName) (e : ℕ) → IsEnd z M p e → ends nat_eq e fs ≡ 1
  ports_after p e (of_port {n = w} lt) = port_stays (free w) (wire_ref (port_word w))
      (of_port (omega (arith, lt, c.step.rewrites.free_ports))) (wire_stays (port_word w))
  ports_after p e (principal {x = v} o h has) = principal_after v o h
      (node_after z N M x y k l i j t r a b es fs rest reached reached' c v o h has)
  ports_after p e (auxiliary {x = v} {s = s} o h has lt) = auxiliary_after v o h s
      (node_after z N M x y k l i j t r a b es fs rest reached reached' c v o h has) lt

  old_wire : (w : ℕ) → reached w ≡ true → ends nat_eq (wire_ref w) fs ≡ 2
  old_wire w h = old_end (wire_ref w) (wire_stays w) (wires_unborn w h) ∙ c.before.wires (wire_ref w) (w, h, refl)

  new_wire : (q p : ℕ) → q < made_f → p < made_g → ends nat_eq (wire_ref (born_wire z t q p)) fs ≡ 2
  new_wire q p b d = comes_so (wire_ref (born_wire z t q p)) 1
      (born_wires z t k l i (index_after r j) made_f made_g few q p b d)

  pub wires_after : (e : ℕ) → IsWireEnd reached' e → ends nat_eq e fs ≡ 2
  wires_after e (w, h, same) = ap (λ u. ends nat_eq u fs) same ∙ go (c.only w h)
    where
      go : (reached w ≡ true) ⊎ ((q : ℕ) × (p : ℕ) × (q < made_f) × (p < made_g)
          × (w ≡ born_wire z t q p)) → ends nat_eq (wire_ref w) fs ≡ 2
      go (inl old) = old_wire w old
      go (inr new) = ap (λ w. ends nat_eq (wire_ref w) fs) new.4 ∙ new_wire new.0 new.1 new.2 new.3

  abbrev AnEnd : ℕ → Type 0
  AnEnd u = ((p : NamedPort NodeName) × IsEnd z M p u) ⊎ IsWireEnd reached' u

  -- what comes is an end of the net after, or of a wire that comes
  new_is_end : (u : ℕ) → IsNew u → AnEnd u
  new_is_end u (a_copy_of_f q lt e) =
      let h = f_after z N M x y k l i j t r a b es fs rest reached reached' c q lt in
      inl (slot (Born t q) 0, subst (IsEnd z M (slot (Born t q) 0)) (sym e) (principal k i h.0))
  new_is_end u (a_copy_of_g p lt e) =
      let h = g_after z N M x y k l i j t r a b es fs rest reached reached' c p lt in
      inl (
        slot (Born t (made_f + p)) 0,
        subst (IsEnd z M (slot (Born t (made_f + p)) 0)) (sym e)
            (principal l (index_after r j) h.0),
      )
  new_is_end u (slot_of_f q p lt low e) =
      let h = f_after z N M x y k l i j t r a b es fs rest reached reached' c q lt in
      inl (
        slot (Born t q) (suc p),
        subst (IsEnd z M (slot (Born t q) (suc p))) (sym e)
            (auxiliary k i h.0 (omega (arith, low, h.1))),
      )
  new_is_end u (slot_of_g q p lt low e) =
      let h = g_after z N M x y k l i j t r a b es fs rest reached reached' c p low in
      inl (
        slot (Born t (made_f + p)) (suc q),
        subst (IsEnd z M (slot (Born t (made_f + p)) (suc q))) (sym e)
            (auxiliary l (index_after r j) h.0 (omega (arith, lt, h.1))),
      )
  new_is_end u (a_wire q p lt low e) = inr (born_wire z t q p, c.come q p lt low, e)

  -- the ends of x and y go
  goes_at_first : goes f ≡ 0 → ⊥
  goes_at_first none = omega (arith, none, at_same f f refl)

  goes_at_second : goes g ≡ 0 → ⊥
  goes_at_second none = omega (arith, none, at_same g g refl)

  goes_at_slot : (v : NodeName) (o : Kind) (h s : ℕ) → HasNode N v o h → s < arity o →
      (v ≡ x) ⊎ (v ≡ y) → goes (slot_ref (place_of z v + s)) ≡ 0 → ⊥
  goes_at_slot v o h s has lt (inl e) none =
      let w = c.is_net.one_node x o k h i (subst (λ v. HasNode N v o h) e has) c.faces.first in
      let u = slot_ref (place_of z v + s) in
      omega (
        arith,
        none,
        among_in (arity k) s (λ s. slot_ref (place_of z x + s)) u
            (omega (arith, lt, ap arity w.0)) (ap (λ v. slot_ref (place_of z v + s)) e),
      )
  goes_at_slot v o h s has lt (inr e) none =
      let w = c.is_net.one_node y o l h j (subst (λ v. HasNode N v o h) e has) c.faces.second in
      let u = slot_ref (place_of z v + s) in
      omega (
        arith,
        none,
        among_in (arity l) s (λ s. slot_ref (place_of z y + s)) u
            (omega (arith, lt, ap arity w.0)) (ap (λ v. slot_ref (place_of z v + s)) e),
      )

  goes_at_node : (v : NodeName) (o : Kind) (h : ℕ) → HasNode N v o h → (v ≡ x) ⊎ (v ≡ y) →
      goes (node_ref o h (place_of z v)) ≡ 0 → ⊥
  goes_at_node v o h has (inl e) none =
      let w = c.is_net.one_node x o k h i (subst (λ v. HasNode N v o h) e has) c.faces.first in
      let same : node_ref o h (place_of z v) ≡ f = ap (λ o. node_ref o h (place_of z v)) w.0
      ∙ ap (λ h. node_ref k h (place_of z v)) w.1 ∙ ap (λ v. node_ref k i (place_of z v)) e in
      goes_at_first (sym (ap (λ u. goes u) same) ∙ none)
  goes_at_node v o h has (inr e) none =
      let w = c.is_net.one_node y o l h j (subst (λ v. HasNode N v o h) e has) c.faces.second in
      let same : node_ref o h (place_of z v) ≡ g = ap (λ o. node_ref o h (place_of z v)) w.0
      ∙ ap (λ h. node_ref l h (place_of z v)) w.1 ∙ ap (λ v. node_ref l j (place_of z v)) e in
      goes_at_second (sym (ap (λ u. goes u) same) ∙ none)

  -- an end of the net before that stays
  old_is_end : (p : NamedPort NodeName) (u : ℕ) → IsEnd z N p u → goes u ≡ 0 → IsEnd z M p u
  old_is_end p u (of_port {n = w} lt) stay = of_port (omega (arith, lt, c.step.rewrites.free_ports))
  old_is_end p u (principal {x = v} o h has) stay = principal o h
      (stays_after z N M x y k l i j t r a b es fs rest reached reached' c v o h has
      (λ e. goes_at_node v o h has (inl e) stay) (λ e. goes_at_node v o h has (inr e) stay))
  old_is_end p u (auxiliary {x = v} {s = s} o h has lt) stay = auxiliary o h
      (stays_after z N M x y k l i j t r a b es fs rest reached reached' c v o h has
      (λ e. goes_at_slot v o h s has lt (inl e) stay) (λ e. goes_at_slot v o h s has lt (inr e) stay)) lt

  pub others_after : (e : ℕ) → 0 < ends nat_eq e fs → ((p : NamedPort NodeName) × IsEnd z M p e) ⊎ IsWireEnd reached' e
  others_after e h = elim (cases_eq (comes e) 0) [
    | inr some ↦ new_is_end e (born_some z t k l i (index_after r j) made_f made_g few e (omega (arith, some)))
    | inl none ↦ go none (c.before.others e (omega (arith, h, moved e, none)))
  ]
    where
      go : comes e ≡ 0 → ((p : NamedPort NodeName) × IsEnd z N p e) ⊎ IsWireEnd reached e → AnEnd e
      go none (inl (p, at)) = inl (p, old_is_end p e at (omega (arith, h, moved e, none, c.before.ports p e at)))
      go none (inr (w, at, same)) = inr (w, c.still w at, same)
