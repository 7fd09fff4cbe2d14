use Rattle.std.proofs.Common.{◌≡◌, suc, ◌+◌, ◌*◌, ◌<◌, not, ap, ◌∙◌, subst, refl, arith}
use Rattle.ol_wire.specs.declared.layout.Parts.{Parts}
use Rattle.ol_rules.specs.declared.journal.NodeName.TheVariants.{Init}
use Rattle.ol_wire.specs.Layout.{start_node}
use Rattle.ol_reduce.specs.Left.{AreLeft}
use Rattle.ol_reduce.proofs.Numbering.{by_mark, name_of_start}
use Rattle.ol_reduce.proofs.live.Live.find.Goals as goal

pub loop-node-preserved : goal.loop-node-preserved
loop-node-preserved c =
    let z = c.args.words.now.plan.parts in
    let k = c.loop-node.node in
    let low : k < z.nodes = omega (arith, c.loop-node-test.true, ap (λ (z : Parts). z.nodes) c.parts-parts.ensures) in
    let e : suc k ≡ k + 1 = omega arith in
    let at : c.start_node.result ≡ start_node z k = c.start_node.ensures
    ∙ ap (λ (z : Parts). start_node z k) c.parts-parts.ensures in
    subst (λ n. AreLeft c.args.words.now n c.add.new.self.places.items c.add.new.self.numbers.items) e
    (by_mark c.args.words.now c.args.tally.now.marks.items c.requires.tally.marks k (omega (arith, low))
    (Init k) (name_of_start z k low)
    c.loop-node.live.places.items c.loop-node.live.numbers.items c.add.new.self.places.items
    c.add.new.self.numbers.items c.loop-node.invariant c.start_node.result at (not c.index.result.now)
    c.in_ok-add.ensures.places k refl c.in_ok-add.ensures.numbers c.index.result.now c.index.ensures refl low)

pub loop-ticket-init : goal.loop-ticket-init
loop-ticket-init c =
    let e : c.loop-node.node ≡ c.args.words.now.plan.parts.nodes + 0 = omega
    (arith, c.loop-node-test.false, c.loop-node.auto.node-end, ap (λ (z : Parts). z.nodes) c.parts-parts.ensures) in
    subst (λ n. AreLeft c.args.words.now n c.loop-node.live.places.items
    c.loop-node.live.numbers.items) e c.loop-node.invariant

pub returns : goal.returns
returns c =
    let e : c.args.words.now.plan.parts.nodes + 4 * c.loop-ticket.ticket ≡ c.args.words.now.plan.parts.nodes + 4 * c.events-ticket-end.result = ap (λ t. c.args.words.now.plan.parts.nodes + 4 * t) (let q : c.loop-ticket.ticket ≡ c.events-ticket-end.result = omega (arith, c.loop-ticket-test.false, c.loop-ticket.auto.ticket-end) in q) in
    subst (λ n. AreLeft c.args.words.now n c.loop-ticket.live.places.items
    c.loop-ticket.live.numbers.items) (e
    ∙ ap (λ t. c.args.words.now.plan.parts.nodes + 4 * t) c.events-ticket-end.ensures) c.loop-ticket.invariant
