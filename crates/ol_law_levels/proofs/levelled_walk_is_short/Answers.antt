use Rattle.ol_law_levels.proofs.Heads.{walk_turns_once, walk_is_short, few_are_enough}
use Rattle.ol_law_levels.proofs.levelled_walk_is_short.Goals as goal

pub returns-clause-turns_once : goal.returns-clause-turns_once
returns-clause-turns_once t c =
    λ N is_net L complete p a n u d w. walk_turns_once N is_net L complete p a n u d w

pub returns-clause-short : goal.returns-clause-short
returns-clause-short t c = λ N is_net L complete p a q d r. walk_is_short N is_net L complete p a q
    d r

pub returns-clause-enough : goal.returns-clause-enough
returns-clause-enough t c = λ N is_net L complete p ls n q X r. few_are_enough N is_net L complete
    p ls n q X r
