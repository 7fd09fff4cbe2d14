-- The law of conversion.
use Rattle.ol_law_confluence.proofs.conversion.Goals as goal
use Rattle.ol_law_confluence.proofs.Meetings.{convertible_meet, meet_convertible, convertible_leads, convertible_normal}

pub returns-clause-meet : goal.returns-clause-meet
returns-clause-meet g = λ t u. (λ c. convertible_meet c, λ m. meet_convertible m)

pub returns-clause-shared : goal.returns-clause-shared
returns-clause-shared g = λ t u v c l n. convertible_leads c l n

pub returns-clause-agree : goal.returns-clause-agree
returns-clause-agree g = λ t u v w c k n l m. convertible_normal c k n l m
