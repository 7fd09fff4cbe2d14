-- Call-by-need ends where leftmost reduction does, and isn't longer.
use Rattle.ol_counts.proofs.laws.need_finds_the_normal_form.Goals as goal
use Rattle.ol_counts.proofs.Heading.{need_comes_to_a_head, need_finds_a_head}
use Rattle.ol_counts.proofs.Found.{need_finds_the_normal_form, need_is_no_more_than_leftmost}

pub returns-clause-ends : goal.returns-clause-ends
returns-clause-ends c = need_finds_the_normal_form

pub returns-clause-leftmost : goal.returns-clause-leftmost
returns-clause-leftmost c = need_is_no_more_than_leftmost

pub returns-clause-head : goal.returns-clause-head
returns-clause-head c = need_comes_to_a_head

pub returns-clause-finds_head : goal.returns-clause-finds_head
returns-clause-finds_head c = need_finds_a_head
