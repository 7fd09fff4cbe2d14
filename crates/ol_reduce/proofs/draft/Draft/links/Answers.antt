use Rattle.std.proofs.Common.{◌<◌, length, arith}
use Rattle.ol_reduce.proofs.Building.{read_other}
use Rattle.ol_reduce.proofs.draft.Draft.links.Goals as goal

pub port_at-requires-then-place-partner : goal.port_at-requires-then-place-partner
port_at-requires-then-place-partner c =
    let within : c.loop-place.place < length c.args.self.now.partners.items = omega
    (arith, c.loop-place-test.true, c.len-place-end.ensures) in
    omega (
      arith,
      c.requires.few,
      c.requires.within c.loop-place.place within,
      read_other c.args.self.now.partners.items c.loop-place.place c.index-partner.result.now
          within c.index-partner.ensures,
    )
