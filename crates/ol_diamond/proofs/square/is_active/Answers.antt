use Rattle.std.proofs.Common.{sym, ◌∙◌}
use Rattle.ol_diamond.proofs.square.is_active.Goals as goal

pub returns-in-Active-clause-active : goal.returns-in-Active-clause-active
returns-in-Active-clause-active c = λ e.
    (c.in-Active.field-0, (c.facing.ensures.active c.in-Active.field-0).0 c.in-Active.is)

pub returns-in-Stuck-clause-idle : goal.returns-in-Stuck-clause-idle
returns-in-Stuck-clause-idle c = λ e r a. let q = sym c.in-Stuck.is ∙ (c.facing.ensures.active r).1 a in absurd (cc)

pub returns-in-None-clause-idle : goal.returns-in-None-clause-idle
returns-in-None-clause-idle c = λ e r a. let q = sym c.in-None.is ∙ (c.facing.ensures.active r).1 a in absurd (cc)
