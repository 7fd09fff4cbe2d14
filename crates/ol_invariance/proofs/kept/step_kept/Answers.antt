use Rattle.ol_invariance.proofs.Afterwards.{after_step}
use Rattle.ol_invariance.proofs.kept.step_kept.Goals as goal

pub returns-clause-paths : goal.returns-clause-paths
returns-clause-paths c = after_step c.args.net.now c.step.new.net c.args.at.0 c.step.result
    c.is_net.ensures.net c.step.ensures.steps c.step.ensures.refused
