use Rattle.std.proofs.Common.{subst}
use Rattle.ol_derivations.specs.StudentsSoFar.{IsAppliedFile}
use Rattle.ol_derivations.specs.Reads.{HasNoTree}
use Rattle.ol_derivations.proofs.reading.read_on.Goals as goal

pub returns-in-None : goal.returns-in-None
returns-in-None c =
    let h = subst (IsAppliedFile c.args.function.now.text.now c.args.input.now.text.now) c.in-None.is c.in_ok-applied.ensures in
    HasNoTree.deep h.2 h.3
