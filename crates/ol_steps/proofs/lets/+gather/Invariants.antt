use Rattle.ol_steps.proofs.lets.+gather.Given as goal

abbrev pub decreases-gather : goal.decreases-gather
decreases-gather l = l.count
