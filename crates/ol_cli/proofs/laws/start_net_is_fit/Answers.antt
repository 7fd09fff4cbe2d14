-- The law of the net with which runs begin.
use Rattle.ol_cli.proofs.StartNet.{start_net_is_fit}
use Rattle.ol_cli.proofs.laws.start_net_is_fit.Goals as goal

pub returns : goal.returns
returns c = start_net_is_fit
