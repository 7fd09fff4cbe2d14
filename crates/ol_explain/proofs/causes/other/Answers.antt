use Rattle.std.proofs.Common.{refl}
use Rattle.ol_explain.proofs.WhyNot.{wave_is_other, rule_is_other}
use Rattle.ol_explain.proofs.causes.other.Goals as goal

pub returns-then-same_rule : goal.returns-then-same_rule
returns-then-same_rule c = wave_is_other c.args.line c.args.of c.in-Some.rule c.in-Some.field-0-1
    c.in-Some.is c.args.net.now c.args.replay.now c.in_ok-joined.joined c.in_ok-joined.ensures
    (c.if-same_rule.ensures.same refl)

pub returns : goal.returns
returns c = rule_is_other c.args.line c.args.of c.in-Some.rule c.in-Some.field-0-1
    c.in-Some.is c.args.net.now c.args.replay.now (c.if-same_rule.ensures.not refl)
