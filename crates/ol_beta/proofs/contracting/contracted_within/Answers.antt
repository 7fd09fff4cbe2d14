use Rattle.std.proofs.Common.{arith, rules}
use Rattle.ol_term.specs.Trees.{tree_of}
use Rattle.ol_beta.proofs.Bound.{bound_room, step_below}
use Rattle.ol_beta.proofs.contracting.contracted_within.Goals as goal

pub contract_at-requires-clause-room : goal.contract_at-requires-clause-room
contract_at-requires-clause-room c = bound_room 1000 0 (tree_of c.args.term) c.requires.bound
    (omega (arith, c.requires.before))

pub returns-clause-bound : goal.returns-clause-bound
returns-clause-bound c = step_below 0 (tree_of c.args.term) c.args.at.now
    (tree_of c.contract_at.new.term) c.requires.bound (search rules)
