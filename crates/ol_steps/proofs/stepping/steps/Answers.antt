use Rattle.std.proofs.Common.{subst}
use Rattle.ol_term.specs.declared.translations.Translation.TheVariants.{Two}
use Rattle.ol_subjects.specs.Readied.{IsTermRead}
use Rattle.ol_steps.specs.Steps.{refused}
use Rattle.ol_steps.proofs.stepping.steps.Goals as goal

pub returns-in-Refused : goal.returns-in-Refused
returns-in-Refused c = refused (subst (IsTermRead Two c.args.bytes.now) c.in-Refused.is c.in_ok-text.ensures)
