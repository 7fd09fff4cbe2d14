use Rattle.ol_derivations.proofs.Conversion.{apart_is_not_convertible}
use Rattle.ol_derivations.proofs.laws.apart_is_not_convertible.Goals as goal

pub returns : goal.returns
returns c = apart_is_not_convertible
