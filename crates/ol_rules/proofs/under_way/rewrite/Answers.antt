use Rattle.std.proofs.Common.{Err, sym, ap, ◌∙◌}
use Rattle.ol_rules.proofs.under_way.rewrite.Goals as goal

pub unreachable-requires : goal.unreachable-requires
unreachable-requires c =
    let p = c.requires.active in
    let e = c.in-Err-NotActive.is ∙ ap Err c.in-Err-NotActive.field-0-is in
    c.step.ensures.not_active.0 e p.0 (sym c.facing-facing.ensures.table ∙ (c.facing-facing.ensures.active p.0).1 p.1)
