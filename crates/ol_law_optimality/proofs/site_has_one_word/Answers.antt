-- A site has one word.
use Rattle.ol_law_optimality.proofs.site_has_one_word.Goals as goal
use Rattle.ol_law_optimality.proofs.Sides.{site_has_one_word}

pub returns : goal.returns
returns g = site_has_one_word
