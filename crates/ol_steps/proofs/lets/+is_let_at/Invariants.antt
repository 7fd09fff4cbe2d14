use Rattle.ol_steps.proofs.lets.+is_let_at.Given as goal

abbrev pub decreases-is_let_at : goal.decreases-is_let_at
decreases-is_let_at l = l.left
