use Rattle.ol_law_levels.proofs.DemandPlaces.{demand_places}
use Rattle.ol_law_levels.proofs.demand_places_are_the_sources.Goals as goal

pub returns : goal.returns
returns c = demand_places
