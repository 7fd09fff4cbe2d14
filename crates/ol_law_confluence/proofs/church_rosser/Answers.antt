-- The law of confluence.
use Rattle.ol_law_confluence.proofs.church_rosser.Goals as goal
use Rattle.ol_law_confluence.proofs.Parallels.{develops}
use Rattle.ol_law_confluence.proofs.Contractions.{parallel_beta}
use Rattle.ol_law_confluence.proofs.Meetings.{meet}

pub returns-clause-development : goal.returns-clause-development
returns-clause-development g = λ t u p. (parallel_beta p, develops p)

pub returns-clause-meet : goal.returns-clause-meet
returns-clause-meet g = λ t u v k l. meet k l
