-- Routes of a term's net along which alike words are read are one.
use Rattle.ol_law_optimality.proofs.signs_tell_routes.Goals as goal
use Rattle.ol_law_optimality.proofs.Routes.{signs_tell_routes}

pub returns : goal.returns
returns c = signs_tell_routes
