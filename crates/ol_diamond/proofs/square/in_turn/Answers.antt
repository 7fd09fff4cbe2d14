use Rattle.std.proofs.Common.{subst}
use Rattle.ol_net.specs.Graph.{Graph}
use Rattle.ol_rules.specs.Steps.{StepsAt}
use Rattle.ol_diamond.proofs.Pairs.{active_after_step, same_rule}
use Rattle.ol_diamond.proofs.square.in_turn.Goals as goal

pub rewrite-requires-2-clause-active : goal.rewrite-requires-2-clause-active
rewrite-requires-2-clause-active c =
    let s = subst (λ (g : Graph). StepsAt g c.rewrite.new.net c.args.first.0
    c.in_ok-first_rule.first_rule) c.in_ok-after.ensures.copy c.in_ok-first_rule.ensures.steps in
    active_after_step c.args.net.now c.rewrite.new.net c.args.first.0 c.in_ok-first_rule.first_rule
    c.is_net.ensures.net s c.args.second.0 c.requires.two c.requires.second

pub returns-clause-second_rule : goal.returns-clause-second_rule
returns-clause-second_rule c =
    let s = subst (λ (g : Graph). StepsAt g c.rewrite.new.net c.args.first.0
    c.in_ok-first_rule.first_rule) c.in_ok-after.ensures.copy c.in_ok-first_rule.ensures.steps in
    same_rule c.args.net.now c.rewrite.new.net c.args.first.0 c.in_ok-first_rule.first_rule
    c.is_net.ensures.net s c.args.second.0 c.requires.two c.requires.second
    c.in_ok-second_rule.second_rule c.in_ok-second_rule.ensures.rule
