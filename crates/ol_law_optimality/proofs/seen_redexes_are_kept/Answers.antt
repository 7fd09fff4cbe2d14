use Rattle.ol_law_optimality.proofs.seen_redexes_are_kept.Goals as goal
use Rattle.ol_law_optimality.proofs.Nothing.{none_is_seen}
use Rattle.ol_law_optimality.proofs.Seen as seen

pub returns-clause-residue : goal.returns-clause-residue
returns-clause-residue g c = seen.seen_has_residue

pub returns-clause-source : goal.returns-clause-source
returns-clause-source g c = seen.seen_has_source

pub returns-clause-none : goal.returns-clause-none
returns-clause-none g c = none_is_seen
