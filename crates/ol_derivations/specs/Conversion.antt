-- What `not convertible` says.
use Rattle.ol_term.specs.Trees.{Tree}
use Rattle.ol_law_confluence.specs.Reductions.{Convertible}
use Rattle.ol_derivations.specs.Verdicts.{IsVerdict}
use Rattle.ol_derivations.specs.declared.judging.Verdict.TheVariants.{Apart}

-- Terms that are told to be `not convertible` aren't.
abbrev pub ApartIsNotConvertible : Type 0
ApartIsNotConvertible = (t u : Tree) → IsVerdict t u Apart → Convertible t u → ⊥
