use Rattle.ol_net.proofs.OpenEnds.{fit_is_once}
use Rattle.ol_net.proofs.laws.each_open_end_once.Goals as goal

pub returns : goal.returns
returns c = fit_is_once
