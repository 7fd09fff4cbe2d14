use Rattle.ol_io.proofs.Readings as readings
use Rattle.ol_io.proofs.laws.handed_over.Goals as goal

pub returns-clause-own : goal.returns-clause-own
returns-clause-own c = readings.handed-over

pub returns-clause-told : goal.returns-clause-told
returns-clause-told c = readings.handed-told
