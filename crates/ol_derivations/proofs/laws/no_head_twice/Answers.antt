use Rattle.ol_derivations.proofs.Differing.{heads_differ}
use Rattle.ol_derivations.proofs.Twice.{no_head_twice}
use Rattle.ol_derivations.proofs.laws.no_head_twice.Goals as goal

pub returns-clause-heads : goal.returns-clause-heads
returns-clause-heads c = heads_differ

pub returns-clause-lines : goal.returns-clause-lines
returns-clause-lines c = no_head_twice
