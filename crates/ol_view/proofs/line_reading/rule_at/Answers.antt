use Rattle.std.proofs.Common.{◌∙◌, drop}
use Rattle.ol_view.proofs.Rules.{passed}
use Rattle.ol_view.proofs.line_reading.rule_at.Goals as goal

pub loop-rule-preserved : goal.loop-rule-preserved
loop-rule-preserved c =
    passed c.args.text.now (drop c.args.at c.args.text.now) c.rule_word.result.now
    c.loop-rule.rule-index c.word_behind.result c.loop-rule-test.true c.rule_word.ensures
    c.word_behind.ensures.read c.in_default.is
    ∙ c.loop-rule.invariant
