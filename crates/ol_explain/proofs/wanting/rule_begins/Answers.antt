use Rattle.std.proofs.Common.{◌∙◌}
use Rattle.ol_explain.proofs.Rules.{passes}
use Rattle.ol_explain.proofs.wanting.rule_begins.Goals as goal

pub loop-rule-preserved : goal.loop-rule-preserved
loop-rule-preserved c b = passes c.args.read.now c.loop-rule.rule-index c.loop-rule-test.true
    (λ more e. c.word_begins.ensures.not c.if-word_begins.false more (c.rule_word.ensures ∙ e)) (c.loop-rule.invariant b)
