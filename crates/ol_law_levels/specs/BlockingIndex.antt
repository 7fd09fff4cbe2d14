-- A wrong index in the net of a term that levels don't exclude.
use Rattle.std.specs.Prelude.{◌≡◌, ℕ, [], ◌∷◌}
use Rattle.ol_law_levels.specs.Levels.{IsLevelled}
use Rattle.ol_net.specs.Nets.{NamedNet, free, slot}
use Rattle.ol_net.specs.declared.parts.Kind.TheVariants as kind
use Rattle.ol_term.specs.Trees as tree
use Rattle.ol_term.specs.declared.translations.Translation.TheVariants.{Two}
use Rattle.ol_translate.specs.Translation.{translation_of}
use Rattle.ol_law_levels.specs.Unblocked.{IsUnblocked}

-- the term (\x. x x) (\y. y)
abbrev pub self_applied : tree.Tree
self_applied = tree.app (tree.lam (tree.app (tree.var 0) (tree.var 0))) (tree.lam (tree.var 0))

-- its net by translation 2, with this index of the croissant of y, which in the translation is 1
abbrev pub self_net : ℕ → NamedNet ℕ
self_net croissant = record {
  nodes = (0, kind.App, 0) ∷ (1, kind.Lam, 0) ∷ (2, kind.App, 0) ∷ (3, kind.Croissant, 0)
      ∷ (4, kind.Fan, 0) ∷ (5, kind.Lam, 1) ∷ (6, kind.Croissant, croissant) ∷ [];
  free_ports = 1;
  links = (slot 2 0, slot 3 1) ∷ (slot 4 1, slot 3 0) ∷ (slot 4 2, slot 2 2) ∷ (slot 1 1, slot 2 1)
      ∷ (slot 1 2, slot 4 0) ∷ (slot 5 1, slot 6 1) ∷ (slot 5 2, slot 6 0) ∷ (slot 0 0, slot 1 0)
      ∷ (slot 0 2, slot 5 0) ∷ (free 0, slot 0 1) ∷ [];
}

-- With that index it is unblocked.
abbrev pub RightIndexIsUnblocked : Type 0
RightIndexIsUnblocked = (translation_of Two self_applied 0 ≡ self_net 1) × IsUnblocked (self_net 1)

-- With index 0 it is levelled, and blocked: two occurrences of x ask for \y. y, and the value by
-- which the first one asks isn't empty.
abbrev pub LowerIndexIsBlocked : Type 0
LowerIndexIsBlocked = IsLevelled (self_net 0) × (IsUnblocked (self_net 0) → ⊥)
