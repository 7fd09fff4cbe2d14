use Rattle.ol_rules.proofs.Stepping.{steps_from}
use Rattle.ol_rules.proofs.steps.step.Goals as goal

pub returns-in-Ok-clause-steps : goal.returns-in-Ok-clause-steps
returns-in-Ok-clause-steps c = steps_from c.args.net.now c.rewrite.new.net c.args.at c.in-Some.pair
    c.is_tabled.ensures.tables c.in-Some.ensures c.in-Ok.ensures.replaced
