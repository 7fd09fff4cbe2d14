use Rattle.ol_diamond.proofs.wave_laws.heaviest_stays.Goals as goal
use Rattle.ol_diamond.proofs.Heaviest as laws

pub returns-clause-way : goal.returns-clause-way
returns-clause-way g c = laws.heaviest_on_the_way

pub returns-clause-left : goal.returns-clause-left
returns-clause-left g c = laws.heaviest_is_left
