use Rattle.std.proofs.Common.{refl}
use Rattle.ol_reduce.specs.Worked.{rested}
use Rattle.ol_reduce.proofs.Worked.{kept_first}
use Rattle.ol_reduce.proofs.working.go_round_if_due.Goals as goal

pub returns-else-is_round_due-clause-kept : goal.returns-else-is_round_due-clause-kept
returns-else-is_round_due-clause-kept g c =
    kept_first c.args.shared.now c.args.pool.now c.args.own.now c.requires.work.0 c.requires.work.1

pub returns-else-is_round_due-clause-goes : goal.returns-else-is_round_due-clause-goes
returns-else-is_round_due-clause-goes g c = rested refl
