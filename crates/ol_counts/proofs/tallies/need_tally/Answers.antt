use Rattle.ol_counts.proofs.tallies.need_tally.Goals as goal

pub returns : goal.returns
returns c = (c.in_ok-steps.steps.number, c.in_ok-steps.steps.ended, c.in_ok-steps.ensures, c.steps_tally.ensures)
