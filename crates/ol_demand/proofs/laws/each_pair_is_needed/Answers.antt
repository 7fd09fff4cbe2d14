use Rattle.ol_demand.proofs.Needed.{turns_are_run, each_is_needed}
use Rattle.ol_demand.proofs.laws.each_pair_is_needed.Goals as goal

pub returns-clause-run : goal.returns-clause-run
returns-clause-run c = turns_are_run

pub returns-clause-needed : goal.returns-clause-needed
returns-clause-needed c = each_is_needed
