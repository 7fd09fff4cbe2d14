-- What one call after another does to a source.
use Rattle.std.proofs.Common.{ℕ, ◌+◌, ◌∙◌, arith}
use Rattle.ol_io.specs.declared.outside.Source.{Ghosts as SourceGhosts}
use Rattle.ol_io.proofs.Readings.{AreOfSince-then}
use Rattle.ol_cli.specs.Called.{ReadsAtMost}

module _ {S : Type 0} (g : SourceGhosts S) where
  -- one call after another
  pub reads_then : (m n : ℕ) (old mid new : S) → ReadsAtMost g m old mid → ReadsAtMost g n mid new →
      ReadsAtMost g (m + n) old new
  reads_then m n old mid new a b =
      let x = a.begins in
      let y = b.begins in
      record {
        begins = omega (arith, x, y);
        knows = b.knows ∙ a.knows;
        contents = b.contents ∙ a.contents;
        told = AreOfSince-then (g.contents old) (g.readings old) (g.readings mid) (g.readings new)
            a.told (rw a.contents at b.told);
      }
