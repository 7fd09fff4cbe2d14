use Rattle.ol_law_completeness.proofs.inversions_are_one.Goals as goal
use Rattle.ol_law_completeness.proofs.OneNumber.{inversions_are_one, all_inversions_are_one}

pub returns-clause-first : goal.returns-clause-first
returns-clause-first g c = inversions_are_one

pub returns-clause-whole : goal.returns-clause-whole
returns-clause-whole g c = all_inversions_are_one
