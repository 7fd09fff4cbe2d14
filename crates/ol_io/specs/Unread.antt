-- What is left to be read of a file.
use Rattle.std.specs.Prelude.{ℕ, List, [], slice_get, drop}
use Rattle.std.specs.Option.{option_map_or}
use Rattle.ol_io.specs.Files.{File}

-- what is left of the file at a place from an offset on, and nothing where no file is there
abbrev pub left_of : List File → ℕ → ℕ → List ℕ
left_of files place at = option_map_or (λ (f : File). drop at f.bytes) (slice_get files place) []
