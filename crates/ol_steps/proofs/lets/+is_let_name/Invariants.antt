use Rattle.ol_steps.proofs.lets.+is_let_name.Given as goal

abbrev pub decreases-is_let_name : goal.decreases-is_let_name
decreases-is_let_name l = l.count
