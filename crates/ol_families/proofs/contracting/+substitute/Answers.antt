use Rattle.std.proofs.Common.{◌≤◌, arith}
use Rattle.ol_beta.proofs.Rooms.{less_room}
use Rattle.ol_families.specs.Held.{held_of, bare}
use Rattle.ol_families.proofs.contracting.+substitute.Goals as goal

pub raised-requires-clause-room : goal.raised-requires-clause-room
raised-requires-clause-room t c =
    let d : c.args.d ≤ 1000 = omega (arith, c.requires.inside) in
    less_room c.args.d 1000 (bare (held_of c.args.argument.now)) c.requires.room d
