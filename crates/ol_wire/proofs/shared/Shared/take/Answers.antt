use Rattle.ol_wire.proofs.shared.Shared.take.Goals as goal

pub returns-then-left-eq0-clause-empty : goal.returns-then-left-eq0-clause-empty
returns-then-left-eq0-clause-empty c = c.claim-left.ensures.empty c.if-left-eq0.true
