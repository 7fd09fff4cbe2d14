-- Private: what a note adds to what passed.
use Rattle.std.specs.Prelude.{◌∷◌, ◌++◌, true}
use Rattle.ol_io.specs.Readings.{begun, gave, closed}
use Rattle.ol_io.specs.Passed.{Passed}
use Rattle.ol_io.specs.declared.log.Note.{Note}
use Rattle.ol_io.specs.declared.log.Note.TheVariants as note

abbrev pub noted : Passed → Note → Passed
noted p (note.Begun name) = record p { readings = begun name.now ∷ p.readings }
noted p (note.Gave piece) = record p { readings = gave piece.now p.readings }
noted p note.Ended = record p { readings = closed true p.readings }
noted p (note.Took piece) = record p { taken = p.taken ++ piece.now }
