use Rattle.std.proofs.Common.{◌<◌, sym, subst}
use Rattle.ol_wire.specs.References.{place_in}
use Rattle.ol_wire.specs.Events.{Event}
use Rattle.ol_wire.proofs.Closing.Entry.{event_small}
use Rattle.ol_wire.proofs.layout.Parts.entry.Goals as goal

pub entry_by-requires-clause-places : goal.entry_by-requires-clause-places
entry_by-requires-clause-places c =
    let small = event_small c.args.left c.args.right 4294967296 c.requires.places.0 c.requires.places.1 in (
      subst (λ (e : Event). place_in e.f < 4294967296) (sym c.in-Some.ensures.0) small.0,
      subst (λ (e : Event). place_in e.g < 4294967296) (sym c.in-Some.ensures.0) small.1,
    )
