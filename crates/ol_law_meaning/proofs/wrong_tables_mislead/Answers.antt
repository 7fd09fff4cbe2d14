-- The law of wrong lines of the table of translation.
use Rattle.ol_law_meaning.proofs.wrong_tables_mislead.Goals as goal
use Rattle.ol_law_meaning.proofs.WrongTables.{bracket_needed, fan_not_turned}

pub returns-clause-bracket : goal.returns-clause-bracket
returns-clause-bracket g = bracket_needed

pub returns-clause-fan : goal.returns-clause-fan
returns-clause-fan g = fan_not_turned
