use Rattle.ol_steps.proofs.LetsLeft.{text_has_lets, let_goes, lets_stay}
use Rattle.ol_steps.proofs.laws.lets_are_left.Goals as goal

pub returns-clause-front : goal.returns-clause-front
returns-clause-front c = text_has_lets

pub returns-clause-goes : goal.returns-clause-goes
returns-clause-goes c = let_goes

pub returns-clause-stay : goal.returns-clause-stay
returns-clause-stay c = lets_stay
