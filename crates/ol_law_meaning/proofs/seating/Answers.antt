-- The law of an argument of a head normal form.
use Rattle.ol_law_meaning.specs.Contraction.{root, wire}
use Rattle.ol_law_meaning.proofs.seating.Goals as goal
use Rattle.ol_law_meaning.proofs.Seats.{seated, hat_one, up_to, down_to, root_stands, args_there}

pub returns-clause-below : goal.returns-clause-below
returns-clause-below g = λ τ u P i k w p q v b c d h.
    (λ p' v' c' n l. up_to k w p q v b c d h p' v' c' n l, λ q' b' d' n l. down_to k w p q v b c d h q' b' d' n l)

pub returns-clause-one : goal.returns-clause-one
returns-clause-one g = λ τ u P i k w. (
  λ v c. (let x = (seated k w).hat root v c tt tt in (x.port, x.level, x.rest, x.hat)),
  λ y v c m l. (let x = (seated k w).hat (wire y) v c m l in (x.port, x.level, x.rest, x.hat)),
  λ p q p' q' v b v' b' c d c' d' h h'. hat_one τ k w p q p' q' v b v' b' c d c' d' h h',
)

pub returns-clause-root : goal.returns-clause-root
returns-clause-root g = λ τ u P i k w q a j n. root_stands τ k w n

pub returns-clause-args : goal.returns-clause-args
returns-clause-args g = λ u q a j i n h. args_there n i h
