-- No two beta steps come from routes with one word.
use Rattle.ol_law_optimality.proofs.betas_have_their_words.Goals as goal
use Rattle.ol_law_optimality.proofs.Telling.{betas_have_words}

pub returns : goal.returns
returns g = betas_have_words
