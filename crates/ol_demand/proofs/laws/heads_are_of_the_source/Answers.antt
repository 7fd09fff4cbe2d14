use Rattle.ol_demand.proofs.SourceHeads.{heads_are_of_source}
use Rattle.ol_demand.proofs.laws.heads_are_of_the_source.Goals as goal

pub returns : goal.returns
returns c = heads_are_of_source
