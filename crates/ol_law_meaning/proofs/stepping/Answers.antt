-- The law of one head step.
use Rattle.ol_law_meaning.proofs.stepping.Goals as goal
use Rattle.ol_law_meaning.proofs.Mains.{keeps, reflects, same_one, root_same, stuck, stays_short}

pub returns-clause-keeps : goal.returns-clause-keeps
returns-clause-keeps g = λ τ t t' h p q v v' w c d n r l. keeps h p q v v' w c d n r l

pub returns-clause-reflects : goal.returns-clause-reflects
returns-clause-reflects g = λ τ t t' h p q v v' w' c d n r l. reflects h p q v v' w' c d n r l

pub returns-clause-one : goal.returns-clause-one
returns-clause-one g = λ τ t t' h p v v' w w' r k. same_one τ h p v v' w w' r k

pub returns-clause-root : goal.returns-clause-root
returns-clause-root g = λ τ t t' h u. root_same τ h u

pub returns-clause-stuck : goal.returns-clause-stuck
returns-clause-stuck g = λ τ t t' h q v w c d n k.
    (λ l. stuck t q v w c d n k l, λ l. stuck t' q v w c d n (stays_short h v k) l)
