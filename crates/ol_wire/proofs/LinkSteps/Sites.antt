-- Where a link to a wire or to a free port is made: the word is that of a reached wire, or of a free port.
-- Used in Credit.Steps, Allowed, Exchange and Publish.
use Rattle.std.proofs.Common.{◌≡◌, ◌≢◌, ℕ, ◌+◌, ◌%◌, ◌<◌, ◌≤◌, ◌⊎◌, Bool, true, false, nat_eq}
use Rattle.std.proofs.Common.{if◌then◌else◌, Option, Some, None, List, [], ◌∷◌, length, get_or}
use Rattle.std.proofs.Common.{slice_index, sym, refl, ap, ◌∙◌, subst, inl, inr, arith}
use Rattle.std.proofs.lemmas.Bool.{cases_eq, and_parts}
use mathlib.Core.Bool.{false≢true}
use Rattle.core.specs.Prelude.{slice_get}
use Rattle.ol_law_edges.specs.Edges.{IsIn, ends}
use Rattle.ol_net.specs.Nets.{NamedPort, NamedNet}
use Rattle.ol_rules.specs.declared.journal.NodeName.{NodeName}
use Rattle.ol_wire.specs.declared.layout.Parts.{Parts}
use Rattle.ol_wire.specs.declared.plan.Plan.{Plan}
use Rattle.ol_wire.specs.declared.view.Link.{Link}
use Rattle.ol_wire.specs.declared.view.View.{View}
use Rattle.ol_wire.specs.References.{node_ref, wire_ref, kind_in, index_in, place_in, IsWireRef, IsRef}
use Rattle.ol_wire.specs.Layout.{WordPart, ticket, live_word, port, field, wire, between, left, right, entry, past}
use Rattle.ol_wire.specs.Layout.{part_of_word, place_of, port_word, start_cell, block, table_size}
use Rattle.ol_wire.specs.Events.{Event}
use Rattle.ol_wire.specs.Edges.{crosses_at, is_reached, is_made, is_wire_made, deaths, edge_to}
use Rattle.ol_wire.specs.Edges.{edges_of, edges_in, pending_in, links_in}
use Rattle.ol_wire.specs.Stands.{IsEnd, of_port, principal, auxiliary, IsWireEnd}
use Rattle.ol_wire.specs.StepPlays.{IsNodeOf, IsRefOf}
use Rattle.ol_wire.specs.Rule.{Table, Kept, IsView, IsOwn, IsLasting, IsMadeRef}
use Rattle.ol_wire.proofs.InWords.References.{node_sort, slot_sort, wire_sort, wire_same}
use Rattle.ol_wire.proofs.InWords.References.{kind_of_ref, index_of_ref, place_of_ref}
use Rattle.ol_wire.proofs.InWords.Places.{part_port, is_wire, is_between, place_before}
use Rattle.ol_wire.proofs.InWords.Held.{Holds, owner, word_full}
use Rattle.ol_wire.proofs.InWords.Claimed.{IsNodeAt, node_of, is_placed, ends_first, ends_second}
use Rattle.ol_wire.proofs.InWords.EdgeList.{word_edge, pending_there}
use Rattle.ol_wire.proofs.InWords.Edges.{edge_as}
use Rattle.std.proofs.lemmas.Option.{slice_get_within}
use Rattle.ol_law_edges.proofs.Lists.{in_right}

-- the part of a wire or of a free port
abbrev pub IsLinked : WordPart → Type 0
IsLinked (port n) = Unit {0}
IsLinked (wire j) = Unit {0}
IsLinked (between t q r) = Unit {0}
IsLinked other = ⊥

pub linked_not_own : (q : WordPart) → IsLinked q → IsOwn q → ⊥
linked_not_own (port n) l o = o
linked_not_own (wire j) l o = o
linked_not_own (between t a b) l o = o
linked_not_own ticket l o = l
linked_not_own live_word l o = l
linked_not_own (field x c) l o = l
linked_not_own left l o = l
linked_not_own right l o = l
linked_not_own entry l o = l
linked_not_own past l o = l

pub linked_not_lasting : (q : WordPart) → IsLinked q → IsLasting q → ⊥
linked_not_lasting (port n) l o = o
linked_not_lasting (wire j) l o = o
linked_not_lasting (between t a b) l o = o
linked_not_lasting ticket l o = l
linked_not_lasting live_word l o = l
linked_not_lasting (field x c) l o = l
linked_not_lasting left l o = l
linked_not_lasting right l o = l
linked_not_lasting entry l o = l
linked_not_lasting past l o = l

-- such a word, its place, and its edge
pub record IsSite (z : Parts) (net : NamedNet NodeName) (log : List Event) (reached : ℕ → Bool) (u : ℕ) : Type 0 where
  pub part : IsLinked (part_of_word z u)
  pub some_word : 1 < u
  pub below : u < block z (length log)
  pub before_cells : u < start_cell z 0 ⊎ (block z 0 ≤ u)
  pub edge : (words : List ℕ) → word_edge z net reached words u ≡ edge_to (wire_ref u) (slice_index words u)

crossed_some : (o : Option Event) (q r : ℕ) → crosses_at o q r ≡ true → (e : Event) × (o ≡ Some e)
crossed_some None q r h = absurd (false≢true h)
crossed_some (Some e) q r h = (e, refl)

module _ (p : Plan) (s : Table) (k : Kept p s) where
  abbrev z : Parts
  z = p.parts

  abbrev reached : ℕ → Bool
  reached = is_reached z k.log s.views

  abbrev all : List (ℕ × ℕ)
  all = edges_of z k.net k.log k.full s.views

  abbrev Site : ℕ → Type 0
  Site u = IsSite z k.net k.log reached u

  port_site : (n : ℕ) → n < z.free → Site (port_word n)
  port_site n lt =
      let e : part_of_word z (port_word n) ≡ port n = part_port z n lt in record {
        part = subst IsLinked (sym e) tt;
        some_word = omega arith;
        below = omega arith;
        before_cells = inl (omega arith);
        edge = λ words. edge_as z k.net reached words (port_word n) (port n) e;
      }

  reached_site : (u : ℕ) → reached u ≡ true → Site u
  reached_site u is = of (part_of_word z u) refl (and_parts (is_made z k.log u) (nat_eq (deaths u s.views) 0) is).0
    where
      of : (q : WordPart) → part_of_word z u ≡ q → is_wire_made k.log q ≡ true → Site u
      of (wire j) e m =
          let h = is_wire z u j e in record {
            part = subst IsLinked (sym e) tt;
            some_word = omega (arith, h.1);
            below = omega (arith, h.0, h.1);
            before_cells = inl (omega (arith, h.0, h.1));
            edge = λ words. edge_as z k.net reached words u (wire j) e
                ∙ ap (λ r. if r then edge_to (wire_ref u) (slice_index words u) else []) is;
          }
      of (between t a b) e m =
          let h = is_between z u t a b e in
          let o = crossed_some (slice_get k.log t) a b m in
          let lt = slice_get_within k.log t o.0 o.1 in record {
            part = subst IsLinked (sym e) tt;
            some_word = omega (arith, h.3);
            below = omega (arith, h.1, h.2, h.3, lt);
            before_cells = inr (omega (arith, h.3));
            edge = λ words. edge_as z k.net reached words u (between t a b) e
                ∙ ap (λ r. if r then edge_to (wire_ref u) (slice_index words u) else []) is;
          }
      of ticket e m = absurd (false≢true m)
      of live_word e m = absurd (false≢true m)
      of (port n) e m = absurd (false≢true m)
      of (field x c) e m = absurd (false≢true m)
      of left e m = absurd (false≢true m)
      of right e m = absurd (false≢true m)
      of entry e m = absurd (false≢true m)
      of past e m = absurd (false≢true m)

  -- a wire that isn't reached has no edge
  pub dead_edge : (u : ℕ) → reached u ≡ true → (reached' : ℕ → Bool) → reached' u ≡ false →
      (words : List ℕ) → word_edge z k.net reached' words u ≡ []
  dead_edge u is reached' gone words = of (part_of_word z u) refl
      (and_parts (is_made z k.log u) (nat_eq (deaths u s.views) 0) is).0
    where
      of : (q : WordPart) → part_of_word z u ≡ q → is_wire_made k.log q ≡ true → word_edge z k.net reached' words u ≡ []
      of (wire j) e m = edge_as z k.net reached' words u (wire j) e
          ∙ ap (λ r. if r then edge_to (wire_ref u) (slice_index words u) else []) gone
      of (between t a b) e m = edge_as z k.net reached' words u (between t a b) e
          ∙ ap (λ r. if r then edge_to (wire_ref u) (slice_index words u) else []) gone
      of ticket e m = absurd (false≢true m)
      of live_word e m = absurd (false≢true m)
      of (port n) e m = absurd (false≢true m)
      of (field x c) e m = absurd (false≢true m)
      of left e m = absurd (false≢true m)
      of right e m = absurd (false≢true m)
      of entry e m = absurd (false≢true m)
      of past e m = absurd (false≢true m)

  -- the end of a wire or of a free port
  pub port_or_reached : (u : ℕ) → 1 ≤ ends nat_eq (wire_ref u) all →
      ((q : NamedPort NodeName) × IsEnd z k.net q (wire_ref u) × Site u) ⊎ (reached u ≡ true)
  port_or_reached u some_end = of (k.stands.others (wire_ref u) (omega (arith, some_end)))
    where
      of_end : (q : NamedPort NodeName) (e : ℕ) → IsEnd z k.net q e → e ≡ wire_ref u → Site u
      of_end q e (of_port {n = n} lt) same = subst Site (wire_same (port_word n) u same)
          (port_site n (omega (arith, lt, k.journal.ports)))
      of_end q e (principal {x = x} m i h) same = absurd
          (omega (arith, same, wire_sort u, node_sort m i (place_of z x)))
      of_end q e (auxiliary {x = x} {s = c} m i h lt) same = absurd
          (omega (arith, same, wire_sort u, slot_sort (place_of z x + c)))

      of : ((q : NamedPort NodeName) × IsEnd z k.net q (wire_ref u))
          ⊎ IsWireEnd reached (wire_ref u) → ((q : NamedPort NodeName)
          × IsEnd z k.net q (wire_ref u) × Site u) ⊎ (reached u ≡ true)
      of (inl t) = inl (t.0, t.1, of_end t.0 (wire_ref u) t.1 refl)
      of (inr t) = inr (ap reached (wire_same u t.0 t.2) ∙ t.1)

  pub site : (u : ℕ) → 1 ≤ ends nat_eq (wire_ref u) all → Site u
  site u some_end = of (port_or_reached u some_end)
    where
      of : ((q : NamedPort NodeName) × IsEnd z k.net q (wire_ref u) × Site u) ⊎ (reached u ≡ true) → Site u
      of (inl t) = t.2
      of (inr e) = reached_site u e

  -- a word that no view can hold is written
  pub word_written : (u : ℕ) → u < table_size z → (IsOwn (part_of_word z u) → ⊥) →
      part_of_word z u ≢ left → get_or k.full u 0 ≡ get_or s.words u 0
  word_written u lt not_own not_left = elim (cases_eq (get_or k.full u 0) 0) [
    | inl e ↦ elim (cases_eq (get_or s.words u 0) 0) [
      | inl f ↦ e ∙ sym f
      | inr n ↦ word_full p s k u lt n
    ]
    | inr n ↦ of (owner p s k u lt n)
  ]
    where
      of : (get_or s.words u 0 ≡ get_or k.full u 0)
          ⊎ ((v : View) × IsView s v × Holds v u (get_or k.full u 0)) → get_or k.full u 0 ≡ get_or s.words u 0
      of (inl e) = sym e
      of (inr (v, is, inl due)) = absurd (not_own (k.seats.due v u (get_or k.full u 0) is due).1)
      of (inr (v, is, inr taken)) = absurd (not_left (k.seats.taken v u (get_or k.full u 0) is taken).0)

  node_of_place : (r : ℕ) → IsNodeAt z k.net r → IsNodeOf z r
  node_of_place r n =
      let small : n.i < 16777216 = omega (
        arith,
        k.journal.indexes n.x n.k n.i n.has,
        k.tickets.few,
        k.plan.small.fuel,
      ) in
      let place : ℕ = place_of z n.x in
      let within = place_before z n.x z.fuel (is_placed p s k n.x n.k n.i n.has) in
      let sort : kind_in r ≡ n.k = ap kind_in n.is ∙ kind_of_ref n.k n.i place in
      let index : index_in r ≡ n.i = ap index_in n.is ∙ index_of_ref n.k n.i place small in
      let at : place_in r ≡ place = ap place_in n.is ∙ place_of_ref n.k n.i place small in
      let whole : r ≡ node_ref (kind_in r) (index_in r) (place_in r) = n.is
      ∙ sym (ap (λ q. node_ref q (index_in r) (place_in r)) sort
      ∙ ap (λ q. node_ref n.k q (place_in r)) index ∙ ap (node_ref n.k n.i) at) in (
        ap (λ q. q % 4) n.is ∙ node_sort n.k n.i place,
        whole,
        omega (arith, index, k.journal.indexes n.x n.k n.i n.has, k.tickets.few),
        omega (arith, at, within),
        omega (arith, at, within),
      )

  -- a reference of a wire is whole
  pub wire_whole : (r : ℕ) → IsMadeRef z k.log r → IsWireRef r → r ≡ wire_ref (place_in r)
  wire_whole r made sort = of made.1
    where
      of : (r ≡ node_ref (kind_in r) (index_in r) (place_in r)) ⊎ (r ≡ wire_ref (place_in r)) →
          r ≡ wire_ref (place_in r)
      of (inl e) = absurd (omega (arith, e, sort, node_sort (kind_in r) (index_in r) (place_in r)))
      of (inr e) = e

  -- a reference that stands in an edge
  pub ref_of_end : (r : ℕ) → IsMadeRef z k.log r → 1 ≤ ends nat_eq r all → IsRefOf z r
  ref_of_end r made some_end = of made.0
    where
      of : IsRef r → IsRefOf z r
      of (inl sort) = inl (node_of_place r (node_of p s k r sort some_end))
      of (inr sort) =
          let e = wire_whole r made sort in
          let st : Site (place_in r) = site (place_in r) (subst (λ q. 1 ≤ ends nat_eq q all) e some_end) in
          inr (sort, omega (arith, st.some_word), omega (arith, made.2, k.tickets.few))

  -- a pending link stands among the edges
  pub link_ends : (v : View) (l : Link) (ls : List Link) → IsView s v → v.pending ≡ l ∷ ls →
      (1 ≤ ends nat_eq l.one all) × (1 ≤ ends nat_eq l.two all)
  link_ends v l ls is e =
      let first : IsIn (l.one, l.two) (links_in v.pending) = subst
      (λ (ms : List Link). IsIn {X = ℕ × ℕ} (l.one, l.two) (links_in ms)) (sym e) (inl refl) in
      let edge : IsIn (l.one, l.two) all = in_right (l.one, l.two)
      (edges_in z k.net reached k.full (table_size z)) (pending_in s.views)
      (pending_there s.views is.0 v (l.one, l.two) is.1 first) in
      (ends_first l.one l.two all edge, ends_second l.two l.one all edge)
