use Rattle.std.proofs.Common.{◌≡◌, ◌^◌, ◌<◌, ◌++◌, List, length, vec_len}
use Rattle.ol_context.specs.Contexts.{Level}
use Rattle.ol_readback.specs.Reading.{cuts_of}
use Rattle.ol_readback.proofs.reading.cut_all.Given as goal

abbrev pub invariant-loop-group : goal.invariant-loop-group
invariant-loop-group l = ((vs : List Level) →
    l.nodes.items ++ cuts_of vs l.pending.items ≡ l.initial.nodes.items ++ cuts_of vs
    l.initial.pending.items) × (length l.nodes.items < 2 ^ 32)

abbrev pub decreases-loop-group : goal.decreases-loop-group
decreases-loop-group l = vec_len l.pending
