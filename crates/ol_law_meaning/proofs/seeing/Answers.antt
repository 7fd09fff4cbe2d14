-- The law of terms that are seen in a net.
use Rattle.ol_law_meaning.proofs.seeing.Goals as goal
use Rattle.std.proofs.Common.{refl}
use Rattle.ol_law_meaning.proofs.Sights.{arg_seen}
use Rattle.ol_law_meaning.proofs.Based.{term_seen}

pub returns-clause-term : goal.returns-clause-term
returns-clause-term g = λ τ t names h. term_seen τ t names h

pub returns-clause-argument : goal.returns-clause-argument
returns-clause-argument g = λ τ N ch f t P p seen u m s e y a w j normal same q ms stands n i Q k.
    arg_seen seen s k n f refl refl e y a w j normal same q ms stands
