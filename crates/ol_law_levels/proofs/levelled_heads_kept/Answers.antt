use Rattle.ol_law_levels.proofs.Heads.{no_head_is, printed}
use Rattle.ol_law_levels.proofs.levelled_heads_kept.Goals as goal

pub returns-clause-no_head : goal.returns-clause-no_head
returns-clause-no_head t c = λ N is_net L complete F i e h. no_head_is N is_net L complete F i e h

pub returns-clause-printed : goal.returns-clause-printed
returns-clause-printed t c = λ N M same is_net L complete most edges ns r. printed N M same is_net
    L complete most edges ns r
