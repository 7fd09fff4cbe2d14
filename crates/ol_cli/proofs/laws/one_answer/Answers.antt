-- The law of one answer.
use Rattle.ol_cli.proofs.DemandRuns.{one_demanded_tree}
use Rattle.ol_cli.proofs.Workers.{answers_alike}
use Rattle.ol_cli.proofs.NetRuns.{one_net_is_left}
use Rattle.ol_cli.proofs.OnePrint.{one_printed_tree, one_walked_tree}
use Rattle.ol_cli.proofs.laws.one_answer.Goals as goal

pub returns-clause-answer : goal.returns-clause-answer
returns-clause-answer c = λ words words' alike files s s' x x' a a'.
    answers_alike words words' alike files s s' x x' a a'

pub returns-clause-printed : goal.returns-clause-printed
returns-clause-printed c = one_printed_tree

pub returns-clause-walked : goal.returns-clause-walked
returns-clause-walked c = one_walked_tree

pub returns-clause-demanded : goal.returns-clause-demanded
returns-clause-demanded c = one_demanded_tree

pub returns-clause-left : goal.returns-clause-left
returns-clause-left c = one_net_is_left
