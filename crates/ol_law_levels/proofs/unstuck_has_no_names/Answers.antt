use Rattle.ol_law_levels.proofs.Names as names
use Rattle.ol_law_levels.proofs.unstuck_has_no_names.Goals as goal

pub returns-clause-same : goal.returns-clause-same
returns-clause-same t c = λ M N s u f g k. names.same_unstuck M N s u f g k

pub returns-clause-under : goal.returns-clause-under
returns-clause-under t c = λ m N u f g k. names.under_unstuck m N u f g k

pub returns-clause-counted : goal.returns-clause-counted
returns-clause-counted t c = λ N u. (names.none_counted N u, λ n h. names.count_is_none N u n h)
