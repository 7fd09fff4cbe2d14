-- The law of the frames of terms that are seen.
use Rattle.ol_law_meaning.proofs.framing.Goals as goal
use Rattle.ol_law_meaning.specs.Seen.{seats_of}
use Rattle.ol_law_meaning.proofs.Showing.{reached_soon, headed, no_head_is}

pub returns-clause-reached : goal.returns-clause-reached
returns-clause-reached g = λ τ N F s ch t P p h n k v ls r.
    (let x = headed (seats_of τ p) F s h.seen h.chain n k v ls r in (x.args, x.count_is, x.reaches))

pub returns-clause-soon : goal.returns-clause-soon
returns-clause-soon g = λ τ N F s ch t P p h n q X r. reached_soon s h.seen n q X r

pub returns-clause-none : goal.returns-clause-none
returns-clause-none g = λ τ N F s ch t P p h r. no_head_is F s h.seen h.chain r
