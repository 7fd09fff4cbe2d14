-- Two named nodes without a rule have none, whichever has the smaller number.
use Rattle.std.proofs.Common.{◌≡◌, ℕ, ◌<◌, List, Some, ◌∙◌, subst}
use Rattle.ol_net.specs.Graph.{Graph}
use Rattle.ol_net.specs.Numbered.{net_of}
use Rattle.ol_rules.specs.declared.journal.NodeName.{NodeName}
use Rattle.ol_rules.specs.UnderWay.{node_number}
use Rattle.ol_diamond.specs.Replaying.{AreIdle}
use Rattle.ol_orders.proofs.replaying.Replay.rewrite_named.Goals as goal

apart : (g : Graph) (bases : List ℕ) (a b : NodeName) (f h : ℕ) → Some f ≡ node_number bases a →
    Some h ≡ node_number bases b → (f < h → AreIdle (net_of g) f h) → (x y : ℕ) →
    node_number bases a ≡ Some x → node_number bases b ≡ Some y → x < y → AreIdle (net_of g) x y
apart g bases a b f h e e' idle x y p q =
    let i : f ≡ x = (let z : Some f ≡ Some x = e ∙ p in cc) in
    let j : h ≡ y = (let z : Some h ≡ Some y = e' ∙ q in cc) in
    subst (λ x. x < y → AreIdle (net_of g) x y) i (subst (λ y. f < y → AreIdle (net_of g) f y) j idle)

pub returns-clause-apart : goal.returns-clause-apart
returns-clause-apart c = λ e.
    apart c.args.self.now.net c.args.self.now.numbers.bases.items c.args.first c.args.second
    c.in-Some.x.0 c.in-Some-node_of.y.0 c.in-Some.ensures c.in-Some-node_of.ensures
    (c.in_ok-made.ensures.idle e)
