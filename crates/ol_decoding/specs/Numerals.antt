-- The Church numeral that a tree's places stand for.
use Rattle.std.specs.Prelude.{ℕ, List, Option, Some, None}
use Rattle.ol_readback.specs.declared.answers.ReadNode.{ReadNode}
use Rattle.ol_beta.specs.TreeTerms.{IsTermOf}
use Rattle.ol_decoding.specs.Values.{church_term}

-- the places stand for the Church numeral of this number, or for none
abbrev pub IsNumeralOf : List ReadNode → Option ℕ → Type 0
IsNumeralOf ns (Some n) = IsTermOf ns (church_term n)
IsNumeralOf ns None = (n : ℕ) → IsTermOf ns (church_term n) → ⊥
