use Rattle.ol_steps.proofs.Marked.{parts_are_there, binders_along_fit, named_part_is_subterm, lettered_part_is_subterm, part_is_read}
use Rattle.ol_steps.proofs.laws.parts_are_subterms.Goals as goal

pub returns-clause-there : goal.returns-clause-there
returns-clause-there c = parts_are_there

pub returns-clause-fits : goal.returns-clause-fits
returns-clause-fits c = binders_along_fit

pub returns-clause-named : goal.returns-clause-named
returns-clause-named c = named_part_is_subterm

pub returns-clause-lettered : goal.returns-clause-lettered
returns-clause-lettered c = lettered_part_is_subterm

pub returns-clause-read : goal.returns-clause-read
returns-clause-read c = part_is_read
