use Rattle.ol_invariance.proofs.WrongTables.{turned_fans, turned_beta, past_croissant, past_bracket}
use Rattle.ol_invariance.proofs.laws.wrong_tables_lose_paths.Goals as goal

pub returns-clause-fans : goal.returns-clause-fans
returns-clause-fans c = turned_fans

pub returns-clause-beta : goal.returns-clause-beta
returns-clause-beta c = turned_beta

pub returns-clause-croissant : goal.returns-clause-croissant
returns-clause-croissant c = past_croissant

pub returns-clause-bracket : goal.returns-clause-bracket
returns-clause-bracket c = past_bracket
