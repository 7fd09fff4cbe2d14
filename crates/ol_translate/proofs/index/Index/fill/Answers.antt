use Rattle.std.proofs.Common.{sym, subst}
use Rattle.ol_translate.specs.Growth.{HaveOneEach}
use Rattle.ol_net.specs.declared.parts.Port.TheVariants.{Free}
use Rattle.ol_translate.proofs.Placing.{index_more}
use Rattle.ol_translate.proofs.index.Index.fill.Goals as goal

pub loop-place-preserved : goal.loop-place-preserved
loop-place-preserved c =
    let one = subst HaveOneEach (sym c.deref-wire-items.ensures.value) c.requires.one_each in
    index_more c.loop-place.self.places.items c.note.new.self.places.items
    c.deref-wire-items.result.now c.loop-place.place (0, Free 0) one c.loop-place-test.true
    c.loop-place.invariant c.in_ok-note.ensures.noted c.in_ok-note.ensures.kept
