-- Private: the names of the binders round a place.
use Rattle.std.specs.Prelude.{ℕ, List, [], ◌∷◌}
use Rattle.ol_steps.specs.declared.rounds.Round.{Round, Outside, Inside'}

abbrev pub names_round : Round → List (List ℕ)
names_round Outside = []
names_round (Inside' x p r) = x.now ∷ names_round r
