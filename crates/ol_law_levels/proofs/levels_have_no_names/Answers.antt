use Rattle.ol_law_levels.proofs.Runs.{same_levelled, under_names, start_levelled}
use Rattle.ol_law_levels.proofs.levels_have_no_names.Goals as goal

pub returns-clause-same : goal.returns-clause-same
returns-clause-same g c = λ M N same L. same_levelled M N same L

pub returns-clause-under : goal.returns-clause-under
returns-clause-under g c = λ m N L. under_names m N L

pub returns-clause-start : goal.returns-clause-start
returns-clause-start g c = start_levelled
