-- The law of wrong lines.
use Rattle.ol_law_confluence.proofs.wrong_lines_mislead.Goals as goal
use Rattle.ol_law_confluence.proofs.WrongLines as wrong

pub returns-clause-reduced : goal.returns-clause-reduced
returns-clause-reduced g = wrong.normal_form_is_reduced

pub returns-clause-other : goal.returns-clause-other
returns-clause-other g = wrong.other_term

pub returns-clause-reduct : goal.returns-clause-reduct
returns-clause-reduct g = wrong.reduct

pub returns-clause-names : goal.returns-clause-names
returns-clause-names g = wrong.names_apart
