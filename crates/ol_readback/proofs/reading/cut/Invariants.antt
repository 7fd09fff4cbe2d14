use Rattle.std.proofs.Common.{◌≡◌, ◌^◌, ◌<◌, ◌++◌, length, replicate}
use Rattle.ol_readback.specs.declared.answers.ReadNode.TheVariants.{Cut}
use Rattle.ol_readback.proofs.reading.cut.Given as goal

abbrev pub invariant-loop-place : goal.invariant-loop-place
invariant-loop-place l = (l.nodes.items ≡ l.initial.nodes.items ++ replicate l.place Cut)
    × (length l.nodes.items < 2 ^ 32)
