use Rattle.std.proofs.Common.{refl, sym}
use Rattle.ol_term.proofs.BinderTexts.{among_at, among_nowhere}
use Rattle.ol_steps.proofs.lets.is_name.Goals as goal

pub returns-in_default : goal.returns-in_default
returns-in_default c = sym (among_nowhere c.args.names.now c.args.name.now (c.in_default.ensures.none.0 refl))

pub returns : goal.returns
returns c = sym (among_at c.args.names.now c.in-Some._place c.args.name.now c.in-Some.ensures.place.here)
