-- A node faces one rule, and two nodes without a rule have none under their names.
use Rattle.std.proofs.Common.{◌≡◌, ℕ, List, Some, [], ◌∷◌, ◌++◌, length, sym, ap, ◌∙◌, subst}
use Rattle.ol_net.specs.declared.parts.Rule.{Rule}
use Rattle.ol_net.specs.declared.parts.NodeId.{NodeId}
use Rattle.ol_net.specs.declared.parts.Facing.TheVariants.{Active}
use Rattle.ol_net.specs.Graph.{Graph, facing_at}
use Rattle.ol_net.specs.Numbered.{net_of}
use Rattle.ol_rules.specs.declared.journal.NodeName.{NodeName}
use Rattle.ol_rules.specs.declared.names.Numbers.{Numbers}
use Rattle.ol_rules.specs.Steps.{StepsAt}
use Rattle.ol_diamond.specs.Replaying.{AreIdle, AreIdleNumbers}
use Rattle.ol_rules.specs.UnderWay.{node_number}
use Rattle.ol_diamond.proofs.weighing.Weighing.rewrite.Goals as goal

one_rule : (g g' : Graph) (at : NodeId) (r s : Rule) → g ≡ g' → facing_at g at ≡ Active r →
    facing_at g' at ≡ Active s → r ≡ s
one_rule g g' at r s e h h' = let z : Active r ≡ Active s = sym h ∙ ap (λ g. facing_at g at) e ∙ h' in cc

idle_numbers : (g : Graph) (bases : List ℕ) (a b : NodeName) (f h : ℕ) →
    Some f ≡ node_number bases a → Some h ≡ node_number bases b → AreIdle (net_of g) f h → AreIdleNumbers g bases a b
idle_numbers g bases a b f h e e' idle x y p q =
    let i : f ≡ x = (let z : Some f ≡ Some x = e ∙ p in cc) in
    let j : h ≡ y = (let z : Some h ≡ Some y = e' ∙ q in cc) in
    subst (λ x. AreIdle (net_of g) x y) i (subst (λ y. AreIdle (net_of g) f y) j idle)

pub returns-in_default-rule_between-clause-idle : goal.returns-in_default-rule_between-clause-idle
returns-in_default-rule_between-clause-idle c =
    idle_numbers c.args.self.now.net c.args.self.now.numbers.bases.items c.args.first c.args.second
    c.in-Some.a.0 c.in-Some-node_of.b.0 (c.in-Some.ensures)
    (c.in-Some-node_of.ensures) c.in_default-rule_between.ensures.idle

pub returns-clause-made : goal.returns-clause-made
returns-clause-made c = record {
  tabled = c.is_tabled.ensures.tables;
  named = record {
    f = c.in-Some.a.0;
    h = c.in-Some-node_of.b.0;
    rule = c.in-Ok.field-0;
    first = sym c.in-Some.ensures;
    second = sym c.in-Some-node_of.ensures;
    linked = c.in-Some-rule_between.ensures.linked;
    steps = subst (λ (g : Graph). StepsAt g c.step.new.net c.in-Some.a.0 c.in-Ok.field-0)
        c.weigh.ensures.net c.in-Ok.ensures.steps;
    old_net = c.is_net.ensures.net;
    new_net = c.is_net-2.ensures.net;
    bases_on = c.in_ok-push.ensures.bases
        ∙ ap (λ (v : Numbers). v.bases.items ++ length c.step.new.net.nodes ∷ []) c.weigh.ensures.numbers;
  };
  rule = one_rule c.weigh.new.self.net c.args.self.now.net c.in-Some.a c.in-Ok.field-0
      c.in-Some-rule_between.rule c.weigh.ensures.net c.in-Ok.ensures.active c.in-Some-rule_between.ensures.active;
  wave_is = c.in-Some-wave_of.ensures;
  weights_are = c.in_ok-weigh.ensures.weights;
}
