use Rattle.std.proofs.Common.{refl, sym}
use Rattle.ol_term.proofs.BinderTexts.{among_at, among_nowhere}
use Rattle.ol_term.proofs.binder_names.is_name.Goals as goal

pub returns-in-Some : goal.returns-in-Some
returns-in-Some c = sym (among_at c.args.names.now c.in-Some.field-0 c.args.text.now c.in-Some.ensures.place.here)

pub returns-in-None : goal.returns-in-None
returns-in-None c = sym (among_nowhere c.args.names.now c.args.text.now (c.in-None.ensures.none.0 refl))
