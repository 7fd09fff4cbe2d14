use Rattle.std.proofs.Common.{◌∙◌, ap, Err}
use Rattle.ol_diamond.proofs.Pairs.{not_idle, in_active}
use Rattle.ol_diamond.proofs.square.rewrite.Goals as goal

pub unreachable-requires : goal.unreachable-requires
unreachable-requires c = not_idle c.args.net.now c.args.at c.is_tabled.ensures.tables
    c.requires.active (c.step.ensures.not_active.0 (c.in-Err-NotActive.is ∙ ap Err c.in-Err-NotActive.field-0-is))

pub returns-in-Ok-clause-rule : goal.returns-in-Ok-clause-rule
returns-in-Ok-clause-rule c = in_active c.args.net.now c.args.at c.in-Ok.rule
    c.is_tabled.ensures.tables c.in-Ok.ensures.active
