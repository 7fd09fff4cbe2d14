use Rattle.ol_parse.specs.Steps.{HaveStartsTo}
use Rattle.ol_parse.proofs.steps.starts_of.Given as goal

abbrev pub invariant-loop-at : goal.invariant-loop-at
invariant-loop-at l = HaveStartsTo l.steps l.at l.starts.items
