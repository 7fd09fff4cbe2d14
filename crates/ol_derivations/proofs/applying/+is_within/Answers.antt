use Rattle.std.proofs.Common.{arith}
use Rattle.ol_term.specs.Trees.{tree_of}
use Rattle.ol_derivations.proofs.Counted.{deep_positive}
use Rattle.ol_derivations.proofs.Spelled.{clash}
use Rattle.ol_derivations.proofs.applying.+is_within.Goals as goal

pub returns-then-most-eq0 : goal.returns-then-most-eq0
returns-then-most-eq0 t c =
    let p = deep_positive (tree_of c.args.term.now) in
    ((λ e. clash e), (λ l. absurd (omega (arith, p, l, c.if-most-eq0.true))))
