use Rattle.std.proofs.Common.{Option, ap, subst}
use Rattle.std.specs.Prelude.{IfSome}
use Rattle.ol_diamond.specs.declared.weighing.Rewritten.{Rewritten}
use Rattle.ol_rules.specs.declared.journal.Entry.{Entry}
use Rattle.ol_net.specs.declared.parts.Rule.{Rule}
use Rattle.ol_diamond.specs.PortWeights.{WeighsEntry}
use Rattle.ol_diamond.proofs.weighing.Weighing.rewrite_entry.Goals as goal

pub returns : goal.returns
returns c =
    let of : Rule → Entry = λ r. record { rule = r; first = c.args.entry.first; second = c.args.entry.second } in
    record {
      weighed = subst (λ (e : Entry). WeighsEntry c.args.self.now.net c.rewrite.new.self.net
          c.args.self.now.numbers.bases.items c.rewrite.new.self.numbers.bases.items c.args.self.now.weights.items
          c.rewrite.new.self.weights.items e c.in-Some.made.wave)
          (ap of (c.same_rule.ensures c.if-not-same_rule.false))
          (subst (λ (o : Option Rewritten). IfSome o
          (λ r. WeighsEntry c.args.self.now.net c.rewrite.new.self.net
          c.args.self.now.numbers.bases.items c.rewrite.new.self.numbers.bases.items
          c.args.self.now.weights.items c.rewrite.new.self.weights.items
          (record {
            rule = r.rule;
            first = c.args.entry.first;
            second = c.args.entry.second;
          }) r.wave)) c.in-Some.is c.in_ok-made.ensures.made);
    }
