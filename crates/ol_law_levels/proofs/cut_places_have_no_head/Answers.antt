use Rattle.ol_law_levels.proofs.Budgets.{standing_is_lost, budget_is_no_head, spent_is_lost}
use Rattle.ol_law_levels.proofs.cut_places_have_no_head.Goals as goal

pub returns-clause-standing : goal.returns-clause-standing
returns-clause-standing t c = λ N is_net L complete p ls n edges many s m z q X r.
    standing_is_lost N is_net L complete p ls n edges many s m z q X r

pub returns-clause-within : goal.returns-clause-within
returns-clause-within t c = λ N is_net L complete F i e many h.
    budget_is_no_head N is_net L complete F i e many h

pub returns-clause-chain : goal.returns-clause-chain
returns-clause-chain t c = λ N is_net L p ls n x m z q X r. spent_is_lost N is_net L p ls n x m z q X r
