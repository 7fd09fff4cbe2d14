use Rattle.std.proofs.Common.{length, ap, arith}
use Rattle.ol_counts.specs.Machines.{Machine}
use Rattle.ol_counts.proofs.need.Reducer.show.Goals as goal

pub link-requires : goal.link-requires
link-requires c =
    let e = ap (λ (m : Machine). length m.links) c.in_ok-fresh-in-Function.ensures.machine in
    let r = c.requires.room.1 in
    record { room = omega (arith, e, r) }
