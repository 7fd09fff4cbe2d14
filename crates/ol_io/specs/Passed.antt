-- Private: what passed through a source or a sink.
use Rattle.std.specs.Prelude.{ℕ, List, []}
use Rattle.ol_io.specs.Readings.{Reading}

-- the readings that were handed over, the last one first, and the bytes that were taken
pub record Passed : Type 0 where
  pub readings : List Reading
  pub taken : List ℕ

abbrev pub nothing : Passed
nothing = record { readings = []; taken = [] }
