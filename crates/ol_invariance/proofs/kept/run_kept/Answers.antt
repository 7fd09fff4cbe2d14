use Rattle.ol_invariance.proofs.Afterwards.{after_run}
use Rattle.ol_invariance.proofs.kept.run_kept.Goals as goal
use Rattle.ol_rules.specs.declared.one_thread.Ran.{Ran}

pub returns-clause-paths : goal.returns-clause-paths
returns-clause-paths c = after_run (λ (r : Ran).
    r.journal) c.args.net.now c.run-ran.new.net c.args.fuel c.run-ran.result c.is_net.ensures.net
    c.is_net-2.ensures.net c.run-ran.ensures.runs c.run-ran.ensures.no_memory
