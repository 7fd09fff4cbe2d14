-- The nodes of the net after a ticket: those that stay, and the copies.
-- Used in After.
use Rattle.std.proofs.Common.{◌≡◌, ◌≢◌, ℕ, ◌+◌, ◌<◌, if◌then◌else◌, Bool, false, List, ◌⊎◌, inl}
use Rattle.std.proofs.Common.{inr, ◌↔◌, refl, sym, ap, ◌∙◌, subst, arith}
use Rattle.ol_net.specs.declared.parts.Kind.{Kind}
use Rattle.ol_net.specs.declared.parts.Rule.{Rule}
use Rattle.ol_net.specs.Nets.{NamedNet, HasNode}
use Rattle.ol_net.specs.Parts.{arity}
use Rattle.ol_rules.specs.declared.journal.NodeName.{NodeName}
use Rattle.ol_rules.specs.declared.journal.NodeName.TheVariants.{Born}
use Rattle.ol_rules.specs.Rewriting.{meeting, crossing, is_meeting, index_after, action_of, NodeOf, left, of_f, of_g}
use Rattle.ol_wire.specs.declared.layout.Parts.{Parts}
use Rattle.ol_wire.specs.Layout.{place_of}
use Rattle.ol_wire.specs.Blocks.{copies_of_f, copies_of_g}
use Rattle.ol_wire.proofs.Ticket.Event.{Rewritten}
use Rattle.ol_wire.proofs.Degrees.Counts.{event, copies_meeting, copies_crossing}
use Rattle.std.proofs.lemmas.Bool.{cases_Bool}

-- a rule that crosses, and the index of the copies of g
pub crosses_to : (r : Rule) (j h : ℕ) → action_of r j ≡ crossing h → (is_meeting r ≡ false) × (h ≡ index_after r j)
crosses_to r j h e = elim (cases_Bool (is_meeting r)) [
  | inl meets ↦ absurd (let bad : meeting ≡ crossing h = sym
      (ap (λ c. if c then meeting else crossing (index_after r j)) meets) ∙ e in cc)
  | inr crosses ↦ (
    crosses,
    (let same : crossing (index_after r j) ≡ crossing h = sym
        (ap (λ c. if c then meeting else crossing (index_after r j)) crosses) ∙ e in cc),
  )
]

pub action_crossing : (r : Rule) (j : ℕ) → is_meeting r ≡ false → action_of r j ≡ crossing (index_after r j)
action_crossing r j crosses = ap (λ c. if c then meeting else crossing (index_after r j)) crosses

module _ (z : Parts) (N M : NamedNet NodeName) (x y : NodeName) (k l : Kind) (i j t : ℕ) (r : Rule)
    (a b : ℕ → ℕ) (es fs rest : List (ℕ × ℕ)) (reached reached' : ℕ → Bool)
    (c : Rewritten z N M x y k l i j t r a b es fs rest reached reached') where
  abbrev pub copies_f : ℕ
  copies_f = copies_of_f (event r k i (place_of z x) l j (place_of z y))

  abbrev pub copies_g : ℕ
  copies_g = copies_of_g (event r k i (place_of z x) l j (place_of z y))

  abbrev NodesBy : Kind → ℕ → Kind → ℕ → Type 0
  NodesBy k i l j = (u : NodeName) (m : Kind) (n : ℕ) →
      HasNode M u m n ↔ NodeOf N (λ place. Born t place) x y k i l (action_of r j) u m n

  nodes_by : NodesBy k i l j
  nodes_by =
      let act = c.step.active in
      let f = c.is_net.one_node x act.k k act.i i act.faces.first c.faces.first in
      let g = c.is_net.one_node y act.l l act.j j act.faces.second c.faces.second in
      subst (λ k. NodesBy k i l j) f.0 (subst (λ i. NodesBy act.k i l j) f.1
      (subst (λ l. NodesBy act.k act.i l j) g.0
      (subst (λ j. NodesBy act.k act.i act.l j) g.1 c.step.rewrites.nodes)))

  -- what a node is after the ticket
  pub data After (u : NodeName) (m : Kind) (n : ℕ) : Type 0 where
    stays : HasNode N u m n → u ≢ x → u ≢ y → After u m n
    f_comes : (q : ℕ) → q < copies_f → arity k ≡ copies_g → u ≡ Born t q → m ≡ k → n ≡ i → After u m n
    g_comes : (p : ℕ) → p < copies_g → arity l ≡ copies_f → u ≡ Born t (copies_f + p) → m ≡ l →
        n ≡ index_after r j → After u m n

  crossing_counts : is_meeting r ≡ false → (copies_f ≡ arity l) × (copies_g ≡ arity k)
  crossing_counts crosses = copies_crossing z k l i j t r (place_of z x) (place_of z y) a b crosses

  pub node_after : (u : NodeName) (m : Kind) (n : ℕ) → HasNode M u m n → After u m n
  node_after u m n h = go u m n ((nodes_by u m n).0 h)
    where
      go : (u : NodeName) (m : Kind) (n : ℕ) →
          NodeOf N (λ place. Born t place) x y k i l (action_of r j) u m n → After u m n
      go u m n (left g d e) = stays g d e
      go u m n (of_f {q = q} h e lt) =
          let s = crosses_to r j h e in
          let w = crossing_counts s.0 in
          f_comes q (omega (arith, w.0, lt)) (sym w.1) refl refl refl
      go u m n (of_g {p = p} h e lt) =
          let s = crosses_to r j h e in
          let w = crossing_counts s.0 in
          g_comes p (omega (arith, w.1, lt)) (sym w.0) (ap (λ n. Born t (n + p)) (sym w.0)) refl s.1

  pub crosses_where : (n : ℕ) → (n < copies_f) ⊎ (n < copies_g) → is_meeting r ≡ false
  crosses_where n h = elim (cases_Bool (is_meeting r)) [
    | inl meets ↦ let w = copies_meeting z k l i j t r (place_of z x) (place_of z y) a b meets in
        absurd (none w.0 w.1 h)
    | inr crosses ↦ crosses
  ]
    where
      none : copies_f ≡ 0 → copies_g ≡ 0 → (n < copies_f) ⊎ (n < copies_g) → ⊥
      none e d (inl lt) = omega (arith, e, lt)
      none e d (inr lt) = omega (arith, d, lt)

  pub stays_after : (u : NodeName) (m : Kind) (n : ℕ) → HasNode N u m n → u ≢ x → u ≢ y → HasNode M u m n
  stays_after u m n h d e = (nodes_by u m n).1 (left h d e)

  pub f_after : (q : ℕ) → q < copies_f → HasNode M (Born t q) k i × (arity k ≡ copies_g)
  f_after q lt =
      let crosses = crosses_where q (inl lt) in
      let w = crossing_counts crosses in (
        (nodes_by (Born t q) k i).1 (of_f (index_after r j) (action_crossing r j crosses)
            (omega (arith, w.0, lt))),
        sym w.1,
      )

  pub g_after : (p : ℕ) → p < copies_g → HasNode M (Born t (copies_f + p)) l (index_after r j) × (arity l ≡ copies_f)
  g_after p lt =
      let crosses = crosses_where p (inr lt) in
      let w = crossing_counts crosses in (
        subst (λ n. HasNode M (Born t (n + p)) l (index_after r j)) (sym w.0)
            ((nodes_by (Born t (arity l + p)) l (index_after r j)).1
            (of_g (index_after r j) (action_crossing r j crosses) (omega (arith, w.1, lt)))),
        sym w.0,
      )
