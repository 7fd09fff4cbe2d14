use Rattle.std.proofs.Common.{◌≡◌, take}
use Rattle.std.specs.Prelude.{string_bytes}
use Rattle.std.specs.List.{flat_map}
use Rattle.std.specs.Fmt.{decimal}
use Rattle.ol_cli.proofs.verdicts.digits.Given as goal

-- the moves so far are written
abbrev pub invariant-loop-k : goal.invariant-loop-k
invariant-loop-k l = string_bytes l.words ≡ flat_map decimal (take l.k l.at)
