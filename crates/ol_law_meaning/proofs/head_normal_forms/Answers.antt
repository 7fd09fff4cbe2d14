-- The laws of head normal forms.
use Rattle.ol_law_meaning.proofs.head_normal_forms.Goals as goal
use Rattle.ol_law_meaning.proofs.Shapes.{normal_is, normal_of}
use Rattle.ol_law_meaning.proofs.Endless.{forever, comes_to_none}

pub returns-clause-same : goal.returns-clause-same
returns-clause-same g = λ t. (λ h. normal_of h, λ k. normal_is k.3)

pub returns-clause-endless : goal.returns-clause-endless
returns-clause-endless g = λ t. (λ f u s n. comes_to_none t u f s n, λ f. forever t f)
