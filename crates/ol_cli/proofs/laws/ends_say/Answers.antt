use Rattle.ol_cli.proofs.Follows.{ends_say, first_ends_say, handed_follows}
use Rattle.ol_cli.proofs.laws.ends_say.Goals as goal

pub returns-clause-says : goal.returns-clause-says
returns-clause-says c = ends_say

pub returns-clause-handed : goal.returns-clause-handed
returns-clause-handed c = handed_follows

pub returns-clause-first : goal.returns-clause-first
returns-clause-first c = first_ends_say
