-- Different routes have different words.
use Rattle.ol_law_optimality.proofs.words_tell_routes.Goals as goal
use Rattle.ol_law_optimality.proofs.Telling.{words_tell_routes}

pub returns : goal.returns
returns g c = words_tell_routes
