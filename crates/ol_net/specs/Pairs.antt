-- Facing pairs, active where they have a rule and stuck where they have none.
use Rattle.std.specs.Prelude.{◌≡◌, ℕ, List, [], ◌∷◌, length, None, Some, ◌⊎◌, ◌↔◌}
use Rattle.ol_law_edges.specs.Edges.{IsIn}
use Rattle.ol_net.specs.declared.parts.Kind.{Kind}
use Rattle.ol_net.specs.declared.parts.Rule.{Rule}
use Rattle.ol_net.specs.Rules.{rule_of}
use Rattle.ol_net.specs.Nets.{NamedNet, Faces}

-- f, which acts, faces g, and r is the rule of the two
pub record IsActive {A : Type 0} (N : NamedNet A) (f g : A) (r : Rule) : Type 0 where
  pub k : Kind
  pub i : ℕ
  pub l : Kind
  pub j : ℕ
  pub faces : Faces N f g k i l j
  pub fits : rule_of k i l j ≡ Some r

-- no pair is active
abbrev pub IsComplete : {A : Type 0} → NamedNet A → Type 0
IsComplete {A} N = (f g : A) (r : Rule) → IsActive N f g r → ⊥

-- some pair is active
abbrev pub HasActive : {A : Type 0} → NamedNet A → Type 0
HasActive {A} N = (f : A) × (g : A) × (r : Rule) × IsActive N f g r

-- f faces g, and no rule fits, whichever of the two acts
pub record IsStuck {A : Type 0} (N : NamedNet A) (f g : A) : Type 0 where
  pub k : Kind
  pub i : ℕ
  pub l : Kind
  pub j : ℕ
  pub faces : Faces N f g k i l j
  pub first : rule_of k i l j ≡ None
  pub second : rule_of l j k i ≡ None

-- x is one of the two nodes of an active pair with rule r
abbrev pub IsInActive : {A : Type 0} → NamedNet A → A → Rule → Type 0
IsInActive {A} N x r = (y : A) × (IsActive N x y r ⊎ IsActive N y x r)

-- x is one of the two nodes of a stuck pair
abbrev pub IsInStuck : {A : Type 0} → NamedNet A → A → Type 0
IsInStuck {A} N x = (y : A) × IsStuck N x y

-- there is no node x, or its principal port is not joined to the principal port of a node
abbrev pub FacesNone : {A : Type 0} → NamedNet A → A → Type 0
FacesNone {A} N x = (y : A) (k : Kind) (i : ℕ) (l : Kind) (j : ℕ) → Faces N x y k i l j → ⊥

-- the pair stands in the list, either way round
abbrev pub HasPair : {A : Type 0} → List (A × A) → A → A → Type 0
HasPair pairs f g = IsIn (f, g) pairs ⊎ IsIn (g, f) pairs

-- no pair stands in the list twice, either way round
abbrev pub AreDifferent : {A : Type 0} → List (A × A) → Type 0
AreDifferent [] = Unit {0}
AreDifferent (p ∷ pairs) = (HasPair pairs p.0 p.1 → ⊥) × AreDifferent pairs

-- n pairs of the net are stuck
pub record HasStuck {A : Type 0} (N : NamedNet A) (n : ℕ) : Type 0 where
  pub pairs : List (A × A)
  pub count : length pairs ≡ n
  pub different : AreDifferent pairs
  pub all : (f g : A) → HasPair pairs f g ↔ IsStuck N f g
