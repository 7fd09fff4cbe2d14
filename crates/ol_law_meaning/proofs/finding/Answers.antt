-- The law of heads that are found.
use Rattle.ol_law_meaning.proofs.finding.Goals as goal
use Rattle.ol_law_meaning.proofs.Walking.{found, exit_is, is_found, none_less, least, binder_after, binder_of}

pub returns-clause-found : goal.returns-clause-found
returns-clause-found g = λ τ t p v c d n w l. found t p v c d n w l

pub returns-clause-exit : goal.returns-clause-exit
returns-clause-exit g = λ τ t u m s p q v a j c d n w k l. exit_is s p q v a j c d n w k l

pub returns-clause-reached : goal.returns-clause-reached
returns-clause-reached g = λ τ t u m s q a j c k.
    (is_found s q a j c k, λ n w p v d h l. none_less s q a j c k n w p v d h l)

pub returns-clause-least : goal.returns-clause-least
returns-clause-least g = λ τ t p v c d n w l f. least t p v c d n w l f

pub returns-clause-binder : goal.returns-clause-binder
returns-clause-binder g = λ τ t u m s i x v v' r. (λ e. binder_after τ s i x v v' r e, λ e. binder_of τ s i x v v' r e)
