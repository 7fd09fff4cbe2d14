use Rattle.ol_law_levels.proofs.Sources as sources
use Rattle.ol_law_levels.proofs.last_places_are_the_sources.Goals as goal

pub returns : goal.returns
returns c = λ w t names h journal M run complete heads edges ns r.
    sources.last_places w t names h journal M run complete heads edges ns r
