-- One step as a relation between nets over any names, said by what edges join.
use Rattle.std.specs.Prelude.{◌≡◌, ◌≢◌, ℕ, suc, ◌+◌, ◌-◌, ◌<◌, Bool, true, false, if◌then◌else◌, ◌↔◌}
use Rattle.ol_law_edges.specs.Edges.{Edge, Contracted}
use Rattle.ol_net.specs.declared.parts.Kind.{Kind}
use Rattle.ol_net.specs.declared.parts.Rule.{Rule}
use Rattle.ol_net.specs.declared.parts.Rule.TheVariants as rule
use Rattle.ol_net.specs.Parts.{arity}
use Rattle.ol_net.specs.Nets.{NamedPort, slot, NamedNet, HasNode, Linked, IsPrincipalOf, IsSlotOf}
use Rattle.ol_net.specs.Pairs.{IsActive}

-- what a step does with its two nodes: it joins their slots side by side, or they cross, and the
-- copies of g have this index
pub data Action : Type 0 where
  meeting : Action
  crossing : ℕ → Action

abbrev pub is_meeting : Rule → Bool
is_meeting rule.Beta = true
is_meeting rule.Fan = true
is_meeting rule.Croissant = true
is_meeting rule.Bracket = true
is_meeting _ = false

-- the index of a copy of g, whose index is j: one less past a croissant, one more past a bracket
abbrev pub index_after : Rule → ℕ → ℕ
index_after rule.CrossCroissant j = j - 1
index_after rule.CrossBracket j = j + 1
index_after _ j = j

abbrev pub action_of : Rule → ℕ → Action
action_of r j = if is_meeting r then meeting else crossing (index_after r j)

-- The joins of a step of f and g. In a crossing the copy of f at slot q + 1 of g has place q, and
-- the copy of g at slot p + 1 of f has place arity l + p.
pub data JoinOf {A : Type 0} (born : ℕ → A) (f g : A) (k l : Kind) (a : Action) : NamedPort A →
    NamedPort A → Type 0 where
  meet : {s : ℕ} → a ≡ meeting → s < arity k → JoinOf born f g k l a (slot f (suc s)) (slot g (suc s))
  at_f : {p : ℕ} (j : ℕ) → a ≡ crossing j → p < arity k →
      JoinOf born f g k l a (slot (born (arity l + p)) 0) (slot f (suc p))
  at_g : {q : ℕ} (j : ℕ) → a ≡ crossing j → q < arity l → JoinOf born f g k l a (slot (born q) 0) (slot g (suc q))
  between : {p q : ℕ} (j : ℕ) → a ≡ crossing j → p < arity k → q < arity l →
      JoinOf born f g k l a (slot (born q) (suc p)) (slot (born (arity l + p)) (suc q))

-- the nodes after a step: those that stay, a copy of f for each auxiliary port of g, and one of g for each of f
pub data NodeOf {A : Type 0} (N : NamedNet A) (born : ℕ → A) (f g : A) (k : Kind) (i : ℕ) (l : Kind)
    (a : Action) : A → Kind → ℕ → Type 0 where
  left : {x : A} {m : Kind} {n : ℕ} → HasNode N x m n → x ≢ f → x ≢ g → NodeOf N born f g k i l a x m n
  of_f : {q : ℕ} (j : ℕ) → a ≡ crossing j → q < arity l → NodeOf N born f g k i l a (born q) k i
  of_g : {p : ℕ} (j : ℕ) → a ≡ crossing j → p < arity k → NodeOf N born f g k i l a (born (arity l + p)) l j

-- The two nodes and the link of their slots 0 go, the born nodes come, the joins are added as
-- edges, and what is joined by way of the slots that go is linked.
pub record Rewrites {A : Type 0} (born : ℕ → A) (N : NamedNet A) (f g : A) (k : Kind) (i : ℕ)
    (l : Kind) (a : Action) (M : NamedNet A) : Type 0 where
  pub free_ports : M.free_ports ≡ N.free_ports
  pub nodes : (x : A) (m : Kind) (n : ℕ) → HasNode M x m n ↔ NodeOf N born f g k i l a x m n
  pub links : (p q : NamedPort A) → Linked M p q ↔ Contracted
      (Edge (Linked N) (IsPrincipalOf f g) (JoinOf born f g k l a)) (IsSlotOf f g) p q

-- M is N after the active pair of f and g was rewritten by rule r; the node born at place n is named born n
pub record IsStep {A : Type 0} (born : ℕ → A) (N : NamedNet A) (f g : A) (r : Rule) (M : NamedNet A) : Type 0 where
  pub active : IsActive N f g r
  pub rewrites : Rewrites born N f g active.k active.i active.l (action_of r active.j) M
