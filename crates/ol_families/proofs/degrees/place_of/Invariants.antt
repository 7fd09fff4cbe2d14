use Rattle.std.proofs.Common.{◌≡◌, ℕ, ◌<◌, Some}
use Rattle.std.specs.Prelude.{slice_get}
use Rattle.ol_families.specs.Tables.{rows_of}
use Rattle.ol_families.proofs.degrees.place_of.Given as goal

abbrev pub invariant-loop-k : goal.invariant-loop-k
invariant-loop-k l = (j : ℕ) → j < l.k → slice_get (rows_of l.rows.items) j ≡ Some l.row → ⊥
