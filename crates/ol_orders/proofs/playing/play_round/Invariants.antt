use Rattle.ol_orders.proofs.RoundOnItsWay.{IsPlaying}
use Rattle.ol_orders.proofs.playing.play_round.Given as goal

abbrev pub invariant-loop-pair : goal.invariant-loop-pair
invariant-loop-pair l = IsPlaying l.initial.replay l.replay l.waiting l.pairs l.pair-index l.fuel.most
