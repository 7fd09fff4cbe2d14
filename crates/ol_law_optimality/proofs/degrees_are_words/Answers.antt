-- Degrees of head steps are words.
use Rattle.ol_law_optimality.proofs.degrees_are_words.Goals as goal
use Rattle.ol_law_optimality.proofs.WordSources.{degrees_are_words}

pub returns : goal.returns
returns g = degrees_are_words
