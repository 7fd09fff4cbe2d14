-- How long a reduction is.
use Rattle.std.specs.Prelude.{ℕ, suc, List}
use Rattle.ol_law_meaning.specs.Shows.{ReducesBy, ready, contract}
use Rattle.ol_term.specs.Trees.{Tree}

-- how many redexes a reduction contracts
abbrev pub steps_of : {Chosen : Tree → List ℕ → Type 0} {t v : Tree} → ReducesBy Chosen t v → ℕ
steps_of ready = 0
steps_of (contract c e r) = suc (steps_of r)
