use Rattle.ol_law_levels.proofs.Lost as lost
use Rattle.ol_law_levels.proofs.lost_is_lost.Goals as goal

pub returns : goal.returns
returns t c = λ N is_net L p ls n few ends m more q X r.
    lost.lost_is_lost N is_net L p ls n few ends m more q X r
