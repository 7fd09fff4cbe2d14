use Rattle.std.proofs.Common.{◌<◌, subst, sym}
use Rattle.ol_wire.specs.References.{place_in}
use Rattle.ol_wire.proofs.Closing.Entry.{picked_small}
use Rattle.ol_wire.proofs.layout.Parts.entry_by.Goals as goal

pub place_in-first-requires : goal.place_in-first-requires
place_in-first-requires c = subst (λ r. place_in r < 4294967296) (sym c.earlier.ensures)
    (picked_small c.args.rewrite.f c.args.rewrite.g 4294967296 c.requires.places.0 c.requires.places.1).0

pub place_in-second-requires : goal.place_in-second-requires
place_in-second-requires c = subst (λ r. place_in r < 4294967296) (sym c.later.ensures)
    (picked_small c.args.rewrite.f c.args.rewrite.g 4294967296 c.requires.places.0 c.requires.places.1).1
