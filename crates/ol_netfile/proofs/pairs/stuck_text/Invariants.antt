use Rattle.ol_net.specs.Numbered.{net_of}
use Rattle.ol_netfile.proofs.StuckBelow.{Below}
use Rattle.ol_netfile.proofs.pairs.stuck_text.Given as goal

abbrev pub invariant-loop-number : goal.invariant-loop-number
invariant-loop-number l = Below (net_of l.net) l.number l.text.items
