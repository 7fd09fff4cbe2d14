-- Lines of the tables of translation that would break the laws: an argument's bracket left out, and
-- a fan's slots turned.
use Rattle.std.specs.Prelude.{◌≡◌, ℕ, [], ◌∷◌}
use Rattle.ol_net.specs.declared.parts.Kind.TheVariants as kind
use Rattle.ol_net.specs.Nets.{NamedNet, free, slot}
use Rattle.ol_term.specs.declared.translations.Translation.TheVariants.{One, Two}
use Rattle.ol_translate.specs.Translation.{translation_of}
use Rattle.ol_law_meaning.specs.Contraction.{Tree, var, lam, app}
use Rattle.ol_law_meaning.specs.Contraction as term
use Rattle.ol_law_meaning.specs.Nets.{FindsHeads}

-- ---- an argument's bracket

-- (\x. x) y
abbrev pub named : Tree
named = app (lam (var 0)) (term.free 0)

-- its net by translation 1: the application, the abstraction, the two occurrences, and the bracket of y
abbrev pub net_of_named : NamedNet ℕ
net_of_named = record {
  nodes = (0, kind.App, 0) ∷ (1, kind.Lam, 0) ∷ (2, kind.Croissant, 0) ∷ (3, kind.Croissant, 1)
      ∷ (4, kind.Bracket, 0) ∷ [];
  free_ports = 2;
  links = (slot 1 1, slot 2 1) ∷ (slot 1 2, slot 2 0) ∷ (slot 0 0, slot 1 0) ∷ (slot 0 2, slot 3 1)
      ∷ (slot 4 1, slot 3 0)
      ∷ (free 0, slot 0 1) ∷ (free 1, slot 4 0) ∷ [];
}

-- the same without the bracket
abbrev pub without_bracket : NamedNet ℕ
without_bracket = record {
  nodes = (0, kind.App, 0) ∷ (1, kind.Lam, 0) ∷ (2, kind.Croissant, 0) ∷ (3, kind.Croissant, 1)
      ∷ [];
  free_ports = 2;
  links = (slot 1 1, slot 2 1) ∷ (slot 1 2, slot 2 0) ∷ (slot 0 0, slot 1 0) ∷ (slot 0 2, slot 3 1)
      ∷ (free 0, slot 0 1) ∷ (free 1, slot 3 0) ∷ [];
}

-- Without it, a path tells levels that no head has.
pub record BracketIsNeeded : Type 0 where
  pub with_it : translation_of One named 1 ≡ net_of_named
  pub without_it : FindsHeads One without_bracket named → ⊥

-- ---- a fan's slots

-- y y
abbrev pub doubled : Tree
doubled = app (term.free 0) (term.free 0)

-- its net by translation 1, where slot s of the fan is joined to the occurrence in the function,
-- and slot r to the bracket of that in the argument
abbrev pub net_of_doubled : (s r : ℕ) → NamedNet ℕ
net_of_doubled s r = record {
  nodes = (0, kind.App, 0) ∷ (1, kind.Croissant, 0) ∷ (2, kind.Croissant, 1) ∷ (3, kind.Bracket, 0)
      ∷ (4, kind.Fan, 0) ∷ [];
  free_ports = 2;
  links = (slot 0 0, slot 1 1) ∷ (slot 0 2, slot 2 1) ∷ (slot 3 1, slot 2 0) ∷ (slot 4 s, slot 1 0)
      ∷ (slot 4 r, slot 3 0)
      ∷ (free 0, slot 0 1) ∷ (free 1, slot 4 0) ∷ [];
}

-- its net by translation 2, where slot r is joined to the argument's slot of the application
abbrev pub bare_net_of_doubled : (s r : ℕ) → NamedNet ℕ
bare_net_of_doubled s r = record {
  nodes = (0, kind.App, 0) ∷ (1, kind.Croissant, 0) ∷ (2, kind.Fan, 0) ∷ [];
  free_ports = 2;
  links = (slot 0 0, slot 1 1) ∷ (slot 2 s, slot 1 0) ∷ (slot 2 r, slot 0 2) ∷ (free 0, slot 0 1)
      ∷ (free 1, slot 2 0) ∷ [];
}

-- With the slots turned, a path leaves by the mark of the other occurrence.
pub record FanIsNotTurned : Type 0 where
  pub straight : translation_of One doubled 1 ≡ net_of_doubled 1 2
  pub turned : FindsHeads One (net_of_doubled 2 1) doubled → ⊥
  pub bare_straight : translation_of Two doubled 1 ≡ bare_net_of_doubled 1 2
  pub bare_turned : FindsHeads Two (bare_net_of_doubled 2 1) doubled → ⊥
