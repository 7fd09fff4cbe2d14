use Rattle.std.proofs.Common.{refl}
use Rattle.ol_term.proofs.NamePlaces.{place_some, place_none}
use Rattle.ol_term.proofs.renumbering.place_of.Goals as goal

pub returns-in-Some : goal.returns-in-Some
returns-in-Some c = place_some c.args.name.now c.args.table.now c.in-Some.place c.in-Some.ensures.place

pub returns-in-None : goal.returns-in-None
returns-in-None c = place_none c.args.name.now c.args.table.now (c.in-None.ensures.none.0 refl)
