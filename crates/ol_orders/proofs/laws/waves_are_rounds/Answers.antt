use Rattle.ol_orders.proofs.RoundWaves as rounds
use Rattle.ol_orders.proofs.laws.waves_are_rounds.Goals as goal

pub returns : goal.returns
returns c = record { waves = rounds.waves_are_rounds }
