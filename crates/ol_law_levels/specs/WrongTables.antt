-- Wrong indexes in the net of a term: which of them levels exclude, and which they don't.
use Rattle.std.specs.Prelude.{◌≡◌, ℕ, ◌≤◌, [], ◌∷◌}
use Rattle.ol_net.specs.Nets.{NamedNet, free, slot, HasNode}
use Rattle.ol_net.specs.declared.parts.Kind.{Kind}
use Rattle.ol_net.specs.declared.parts.Kind.TheVariants as kind
use Rattle.ol_term.specs.Trees as tree
use Rattle.ol_term.specs.declared.translations.Translation.TheVariants.{One}
use Rattle.ol_translate.specs.Translation.{translation_of}
use Rattle.ol_law_levels.specs.Levels.{IsLevelled}

-- The net of name 0 applied to name 1, by translation 1, with these indexes of the argument's
-- croissant and of its bracket. In the translation they are 1 and 0.
abbrev pub application_net : ℕ → ℕ → NamedNet ℕ
application_net croissant bracket = record {
  nodes = (0, kind.App, 0) ∷ (1, kind.Croissant, 0) ∷ (2, kind.Croissant, croissant)
      ∷ (3, kind.Bracket, bracket) ∷ [];
  free_ports = 3;
  links = (slot 0 0, slot 1 1) ∷ (slot 0 2, slot 2 1) ∷ (slot 3 1, slot 2 0) ∷ (free 0, slot 0 1)
      ∷ (free 1, slot 1 0) ∷ (free 2, slot 3 0) ∷ [];
}

-- With those it is the net of this term, and is levelled.
abbrev pub RightIndexesAreLevelled : Type 0
RightIndexesAreLevelled =
    (translation_of One (tree.app (tree.free 0) (tree.free 1)) 2 ≡ application_net 1 0)
    × IsLevelled (application_net 1 0)

-- A greater index of either is excluded.
abbrev pub GreaterIndexesAreNot : Type 0
GreaterIndexesAreNot = (croissant bracket : ℕ) → IsLevelled (application_net croissant bracket) →
    (croissant ≤ 1) × (bracket ≤ 0)

-- A node of this kind may have index i where it had j: a fan, a croissant and a bracket any lower
-- one, an abstraction and an application no other, an eraser any.
abbrev pub MayHaveInPlace : Kind → (i j : ℕ) → Type 0
MayHaveInPlace kind.Lam i j = i ≡ j
MayHaveInPlace kind.App i j = i ≡ j
MayHaveInPlace kind.Fan i j = i ≤ j
MayHaveInPlace kind.Croissant i j = i ≤ j
MayHaveInPlace kind.Bracket i j = i ≤ j
MayHaveInPlace kind.Eraser i j = Unit {0}

-- Lower indexes of these three are not excluded, in any net: the depths of all ports stay.
abbrev pub LowerIndexesKeepLevels : Type 0 → Type 0
LowerIndexesKeepLevels A = (N M : NamedNet A) → M.links ≡ N.links →
    ((x : A) (k : Kind) (i : ℕ) → HasNode M x k i →
    (j : ℕ) × HasNode N x k j × MayHaveInPlace k i j) → IsLevelled N → IsLevelled M
