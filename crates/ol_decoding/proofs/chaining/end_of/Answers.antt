use Rattle.std.proofs.Common.{map, subst}
use Rattle.ol_context.specs.Asked.{asked}
use Rattle.ol_context.specs.Contexts.{Context}
use Rattle.ol_context.specs.Shapes.{value}
use Rattle.ol_context.proofs.Shapes.{extends_trans}
use Rattle.ol_decoding.specs.Chaining.{IsEndOf}
use Rattle.ol_decoding.proofs.Ending.{ended}
use Rattle.ol_decoding.proofs.chaining.end_of.Goals as goal

pub returns-clause-extends : goal.returns-clause-extends
returns-clause-extends c = (ended c.args.net.now c.args.frame.now.port
    (asked (map (value c.args.values.now) c.args.frame.now.levels) c.args.lams) c.args.values.now c.chain.new.values
    c.drop_unless_left.new.values c.count-count.result c.count-count.ensures.is
    (extends_trans c.args.values.now c.question.new.values c.chain.new.values c.question.ensures.extends
    c.chain.ensures.extends) c.in_ok-end.end c.drop_unless_left.ensures c.in_ok-end.ensures.held
    (subst (λ (x : Context). IsEndOf c.args.net.now c.args.frame.now.port x c.chain.new.values c.in_ok-end.end)
    c.in_ok-question.ensures.is c.in_ok-end.ensures.ends)).extends

pub returns-clause-kept : goal.returns-clause-kept
returns-clause-kept c = (ended c.args.net.now c.args.frame.now.port
    (asked (map (value c.args.values.now) c.args.frame.now.levels) c.args.lams) c.args.values.now c.chain.new.values
    c.drop_unless_left.new.values c.count-count.result c.count-count.ensures.is
    (extends_trans c.args.values.now c.question.new.values c.chain.new.values c.question.ensures.extends
    c.chain.ensures.extends) c.in_ok-end.end c.drop_unless_left.ensures c.in_ok-end.ensures.held
    (subst (λ (x : Context). IsEndOf c.args.net.now c.args.frame.now.port x c.chain.new.values c.in_ok-end.end)
    c.in_ok-question.ensures.is c.in_ok-end.ensures.ends)).kept

pub returns-clause-held : goal.returns-clause-held
returns-clause-held c = (ended c.args.net.now c.args.frame.now.port
    (asked (map (value c.args.values.now) c.args.frame.now.levels) c.args.lams) c.args.values.now c.chain.new.values
    c.drop_unless_left.new.values c.count-count.result c.count-count.ensures.is
    (extends_trans c.args.values.now c.question.new.values c.chain.new.values c.question.ensures.extends
    c.chain.ensures.extends) c.in_ok-end.end c.drop_unless_left.ensures c.in_ok-end.ensures.held
    (subst (λ (x : Context). IsEndOf c.args.net.now c.args.frame.now.port x c.chain.new.values c.in_ok-end.end)
    c.in_ok-question.ensures.is c.in_ok-end.ensures.ends)).held

pub returns-clause-ends : goal.returns-clause-ends
returns-clause-ends c = (ended c.args.net.now c.args.frame.now.port
    (asked (map (value c.args.values.now) c.args.frame.now.levels) c.args.lams) c.args.values.now c.chain.new.values
    c.drop_unless_left.new.values c.count-count.result c.count-count.ensures.is
    (extends_trans c.args.values.now c.question.new.values c.chain.new.values c.question.ensures.extends
    c.chain.ensures.extends) c.in_ok-end.end c.drop_unless_left.ensures c.in_ok-end.ensures.held
    (subst (λ (x : Context). IsEndOf c.args.net.now c.args.frame.now.port x c.chain.new.values c.in_ok-end.end)
    c.in_ok-question.ensures.is c.in_ok-end.ensures.ends)).ends
