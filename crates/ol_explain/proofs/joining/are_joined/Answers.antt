use Rattle.std.proofs.Common.{◌≡◌, sym, subst}
use Rattle.ol_net.specs.Nets.{slot, Linked}
use Rattle.ol_net.specs.Numbered.{net_of}
use Rattle.ol_explain.proofs.Joins.{numbers, joined_named}
use Rattle.ol_explain.proofs.joining.are_joined.Goals as goal

pub returns-in_default-clause-apart : goal.returns-in_default-clause-apart
returns-in_default-clause-apart c = λ e linked.
    let u = c.requires.replay in
    let n = numbers u.0 c.args.replay.now u.1 c.args.first c.args.second linked in
    let q = c.in_default.ensures in
    let f = n.first in absurd (cc)

pub returns-in_default-node_of-clause-apart : goal.returns-in_default-node_of-clause-apart
returns-in_default-node_of-clause-apart c = λ e linked.
    let u = c.requires.replay in
    let n = numbers u.0 c.args.replay.now u.1 c.args.first c.args.second linked in
    let q = c.in_default-node_of.ensures in
    let f = n.second in absurd (cc)

pub returns-clause-joined : goal.returns-clause-joined
returns-clause-joined c = λ e.
    let u = c.requires.replay in
    joined_named u.0 c.args.replay.now u.1 c.args.first c.args.second c.in-Some.x.0 c.in-Some-node_of.y.0
    (sym c.in-Some.ensures) (sym c.in-Some-node_of.ensures) (c.are_facing.ensures.0 e)

pub returns-clause-apart : goal.returns-clause-apart
returns-clause-apart c = λ e linked.
    let u = c.requires.replay in
    let n = numbers u.0 c.args.replay.now u.1 c.args.first c.args.second linked in
    let q = c.in-Some.ensures in
    let q' = c.in-Some-node_of.ensures in
    let f = n.first in
    let f' = n.second in
    let x : n.x ≡ c.in-Some.x.0 = cc in
    let y : n.y ≡ c.in-Some-node_of.y.0 = cc in
    let l = subst (λ x. Linked (net_of c.args.replay.now.net) (slot x 0) (slot c.in-Some-node_of.y.0 0)) x
    (subst (λ y. Linked (net_of c.args.replay.now.net) (slot n.x 0) (slot y 0)) y n.linked) in
    let t = c.are_facing.ensures.1 l in absurd (cc)
