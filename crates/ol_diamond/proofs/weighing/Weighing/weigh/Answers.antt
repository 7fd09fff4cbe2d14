-- The weights of the two links that a pair of like nodes leaves.
use Rattle.std.proofs.Common.{◌≡◌, ℕ, true, List, refl, sym, ap, ◌∙◌}
use Rattle.ol_net.specs.declared.parts.NodeId.{NodeId}
use Rattle.ol_net.specs.declared.parts.Port.{Port}
use Rattle.ol_net.specs.declared.parts.Port.TheVariants.{Of}
use Rattle.ol_net.specs.declared.parts.Rule.{Rule}
use Rattle.ol_net.specs.Graph.{Graph}
use Rattle.ol_rules.specs.Rewriting.{is_meeting}
use Rattle.ol_diamond.specs.PortWeights.{joined_weights, weights_after}
use Rattle.ol_diamond.proofs.weighing.Weighing.weigh.Goals as goal

both : (g g1 : Graph) (ws ws1 ws2 : List ℕ) (s t s' t' p q p' q' : Port) (wave : ℕ) →
    ws1 ≡ joined_weights g ws s t wave → g1 ≡ g → ws2 ≡ joined_weights g1 ws1 s' t' wave →
    s ≡ p → t ≡ q → s' ≡ p' → t' ≡ q' → ws2 ≡ joined_weights g (joined_weights g ws p q wave) p' q' wave
both g g1 ws ws1 ws2 s t s' t' p q p' q' wave e1 eg e2 es et es' et' =
    e2 ∙ ap (λ g1. joined_weights g1 ws1 s' t' wave) eg ∙ ap (λ ws1. joined_weights g ws1 s' t' wave) e1
    ∙ ap (λ s. joined_weights g (joined_weights g ws s t wave) s' t' wave) es
    ∙ ap (λ t. joined_weights g (joined_weights g ws p t wave) s' t' wave) et
    ∙ ap (λ s'. joined_weights g (joined_weights g ws p q wave) s' t' wave) es'
    ∙ ap (λ t'. joined_weights g (joined_weights g ws p q wave) p' t' wave) et'

meets : (g : Graph) (ws : List ℕ) (a b : NodeId) (rule : Rule) (wave : ℕ) → is_meeting rule ≡ true →
    weights_after g ws a b rule wave ≡ joined_weights g (joined_weights g ws (Of a 1) (Of b 1) wave)
    (Of a 2) (Of b 2) wave
meets g ws a b rule wave e = rw e refl

pub returns-then-is_meeting-clause-weights : goal.returns-then-is_meeting-clause-weights
returns-then-is_meeting-clause-weights c =
    let e : is_meeting c.args.rule ≡ true = sym c.is_meeting.ensures ∙ c.if-is_meeting.true in
    both c.args.self.now.net c.join.new.self.net c.args.self.now.weights.items
    c.join.new.self.weights.items c.join-then-is_meeting.new.self.weights.items
    c.slot.result c.slot-then-is_meeting.result c.slot-then-is_meeting-2.result c.slot-then-is_meeting-3.result
    (Of c.args.a 1) (Of c.args.b 1) (Of c.args.a 2) (Of c.args.b 2) c.args.wave
    c.join.ensures.weights c.join.ensures.net c.join-then-is_meeting.ensures.weights
    c.slot.ensures c.slot-then-is_meeting.ensures c.slot-then-is_meeting-2.ensures c.slot-then-is_meeting-3.ensures
    ∙ sym (meets c.args.self.now.net c.args.self.now.weights.items c.args.a c.args.b c.args.rule c.args.wave e)
