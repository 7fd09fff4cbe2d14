-- The free names of a term.
use Rattle.std.specs.Prelude.{◌≡◌, ℕ, true}
use Rattle.ol_term.specs.Trees.{Tree, is_below, is_named_below, EachOccurs}

-- a term with so many free names: each variable is bound, and the names that occur are just these
pub record HasNames (t : Tree) (names : ℕ) : Type 0 where
  pub bound : is_below 0 t ≡ true
  pub named : is_named_below names t ≡ true
  pub each : EachOccurs names t
