-- What questions of a levelled net's root see.
use Rattle.ol_law_optimality.proofs.wider_questions_see_alike.Goals as goal
use Rattle.ol_law_optimality.proofs.Wider.{wider, narrower}

pub returns-clause-wider : goal.returns-clause-wider
returns-clause-wider g c N n L m k s low S = wider N n L m k s low S

pub returns-clause-first : goal.returns-clause-first
returns-clause-first g c N n L m k s low q X r S = narrower N n L m k s low q X r S
