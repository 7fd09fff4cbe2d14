use Rattle.std.proofs.Common.{sym, ◌∙◌}
use Rattle.ol_orders.proofs.comparing.is_alone.Goals as goal

pub returns-in-None-clause-not : goal.returns-in-None-clause-not
returns-in-None-clause-not c = λ e k i h. absurd (c.in-None.ensures.none k i h)

pub returns-in-None-met_by-clause-alone : goal.returns-in-None-met_by-clause-alone
returns-in-None-met_by-clause-alone c = λ e. (
  sym c.met_by.ensures ∙ c.in-None-met_by.is,
  (c.in-Some.field-0.0, c.in-Some.field-0.1, c.in-Some.ensures.node),
)
