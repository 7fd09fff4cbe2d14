use Rattle.ol_diamond.proofs.one_thread.same_nets_run_alike.Goals as goal
use Rattle.ol_diamond.proofs.SameNets.{run_from_same}

pub returns : goal.returns
returns c = run_from_same
