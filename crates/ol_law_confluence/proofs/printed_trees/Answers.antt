-- The law of printed trees.
use Rattle.ol_law_confluence.proofs.printed_trees.Goals as goal
use Rattle.ol_law_confluence.proofs.PrintedTrees.{says_always, decided, decides, never_differs}

pub returns-clause-always : goal.returns-clause-always
returns-clause-always g = λ t b ns s. says_always s

pub returns-clause-decide : goal.returns-clause-decide
returns-clause-decide g = λ t u b c ns ms s r h k. (λ e. decided s r h k e, λ e. decides s r h k e)

pub returns-clause-verdict : goal.returns-clause-verdict
returns-clause-verdict g = λ t b ns s most road o. never_differs s o
