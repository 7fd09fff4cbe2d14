use Rattle.std.proofs.Common.{◌≡◌, ◌-◌, ◌++◌, [], ◌∷◌, length, ap, ◌∙◌, refl, arith}
use Rattle.std.proofs.lemmas.Result.{err_from_is_err_and, on_err_weaker, on_ok_weaker}
use Rattle.ol_rules.specs.declared.journal.NodeName.{NodeName}
use Rattle.ol_rules.specs.Runs.{names_born}
use Rattle.ol_rules.specs.UnderWay.{name_by}
use Rattle.ol_rules.proofs.OnTheWay.{step_few, pair_of_step}
use Rattle.ol_rules.proofs.under_way.UnderWay.rewrite_pair.Goals as goal

pub push-requires : goal.push-requires
push-requires c = let b = step_few c.args.net.now c.rewrite.new.net c.args.x.0
    c.in_ok-rule.rule c.in_ok-rule.ensures.steps in let e = c.born-from.ensures.born in
    let e' = c.born-to.ensures.born in omega arith

pub returns-clause-ok : goal.returns-clause-ok
returns-clause-ok c =
    let from = c.born-from.ensures.born in
    let to = c.born-to.ensures.born in
    let names = c.args.self.now.names in
    let journal = c.args.self.now.journal in
    let count : c.born-to.result - c.born-from.result ≡ length c.rewrite.new.net.nodes - length
    c.args.net.now.nodes = omega arith in
    on_ok_weaker c.push-2.result (λ p. record {
      rule = c.in_ok-rule.rule;
      pair = pair_of_step c.args.net.now c.rewrite.new.net c.args.x.0 c.args.y.0 c.in_ok-rule.rule
          c.in_ok-rule.ensures.steps c.requires.pair.1.1;
      step = c.in_ok-rule.ensures.steps;
      start = c.push.ensures.start;
      journal = p ∙ ap (λ (v : NodeName). journal ++ record
          { rule = c.in_ok-rule.rule; first = v; second = c.name_of-second.result } ∷ []) c.name_of-first.ensures
          ∙ ap (λ (v : NodeName). journal ++ record
          { rule = c.in_ok-rule.rule; first = name_by names c.args.x.0; second = v } ∷ []) c.name_of-second.ensures;
      names = c.in_ok-push.ensures.born ∙ ap (λ n. names.born.items ++ names_born c.len.result n) count
          ∙ ap (λ t. names.born.items ++ names_born t
          (length c.rewrite.new.net.nodes - length c.args.net.now.nodes)) c.len.ensures;
      is_net = c.is_net-2.ensures.net;
    }) c.push-2.ensures.ok

pub returns-in_err-push-clause-left : goal.returns-in_err-push-clause-left
returns-in_err-push-clause-left c =
    let some = c.in_err-push.ensures.some in
    let from = c.born-from.ensures.born in
    let to = c.born-to.ensures.born in
    let b = step_few c.args.net.now c.rewrite.new.net c.args.x.0 c.in_ok-rule.rule c.in_ok-rule.ensures.steps in
    let p = err_from_is_err_and c.from_residual-in_err-push.result
    c.from_residual-in_err-push.ensures.1 in
    rw p.1 record {
      journal = refl;
      start = c.push.ensures.start;
      added = some.0;
      few = omega arith;
      names = some.2 ∙ ap (λ n. c.args.self.now.names.born.items ++ names_born n some.0) c.len.ensures;
    }

pub returns-clause-left : goal.returns-clause-left
returns-clause-left c =
    let from = c.born-from.ensures.born in
    let to = c.born-to.ensures.born in
    let b = step_few c.args.net.now c.rewrite.new.net c.args.x.0 c.in_ok-rule.rule c.in_ok-rule.ensures.steps in
    on_err_weaker c.push-2.result (λ p. record {
      journal = p;
      start = c.push.ensures.start;
      added = c.born-to.result - c.born-from.result;
      few = omega arith;
      names = c.in_ok-push.ensures.born ∙ ap (λ n. c.args.self.now.names.born.items
          ++ names_born n (c.born-to.result - c.born-from.result)) c.len.ensures;
    }) c.push-2.ensures.err
