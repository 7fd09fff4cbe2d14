use Rattle.ol_term.proofs.Binders.{binder_is_letter_with_digits, binder_is_not_free, binders_differ}
use Rattle.ol_term.proofs.binder_laws.binder_names_are_new.Goals as goal

pub returns-clause-letter : goal.returns-clause-letter
returns-clause-letter c = binder_is_letter_with_digits

pub returns-clause-free : goal.returns-clause-free
returns-clause-free c = binder_is_not_free

pub returns-clause-differ : goal.returns-clause-differ
returns-clause-differ c = binders_differ
