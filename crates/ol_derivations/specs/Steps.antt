-- One beta step from a term to another.
use Rattle.std.specs.Prelude.{◌≡◌, ◌≢◌, ℕ, List, ◌⊎◌, Some}
use Rattle.ol_term.specs.Trees.{Tree}
use Rattle.ol_beta.specs.Beta.{contracted}
use Rattle.ol_beta.specs.Leftmost.{IsBefore}

-- contraction at this address gives u, and each other address at which it does stands after it in preorder
abbrev pub IsFirstStep : (t u : Tree) → List ℕ → Type 0
IsFirstStep t u at = (contracted t at ≡ Some u)
    × ((b : List ℕ) → contracted t b ≡ Some u → (at ≡ b) ⊎ IsBefore at b)

-- contraction at no address gives u
abbrev pub IsNoStep : (t u : Tree) → Type 0
IsNoStep t u = (at : List ℕ) → contracted t at ≢ Some u
