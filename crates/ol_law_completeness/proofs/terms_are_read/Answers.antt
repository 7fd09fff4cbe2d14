use Rattle.ol_law_completeness.proofs.terms_are_read.Goals as goal
use Rattle.ol_law_completeness.proofs.Levelled.{normal_form_is_read, head_normal_form_is_read}
use Rattle.ol_law_completeness.proofs.Levelled.{places_are_of_term, reads_exactly}

pub returns-clause-normal : goal.returns-clause-normal
returns-clause-normal c = normal_form_is_read

pub returns-clause-head : goal.returns-clause-head
returns-clause-head c = head_normal_form_is_read

pub returns-clause-places : goal.returns-clause-places
returns-clause-places c = places_are_of_term

pub returns-clause-exactly : goal.returns-clause-exactly
returns-clause-exactly c = reads_exactly
