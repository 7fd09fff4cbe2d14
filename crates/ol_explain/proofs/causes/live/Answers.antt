use Rattle.std.proofs.Common.{◌≡◌, sym, subst}
use Rattle.ol_net.specs.Nets.{HasNode}
use Rattle.ol_net.specs.Numbered.{net_of}
use Rattle.ol_explain.proofs.WhyNot.{named, gone}
use Rattle.ol_explain.proofs.causes.live.Goals as goal

pub returns-in_default-clause-gone : goal.returns-in_default-clause-gone
returns-in_default-clause-gone c =
    let u = c.requires.replay in
    gone u.0 c.args.replay.now u.1 c.args.name (λ n e k i h. let q = c.in_default.ensures in absurd (cc))

pub returns-in-Some-kind_of-clause-there : goal.returns-in-Some-kind_of-clause-there
returns-in-Some-kind_of-clause-there c =
    let u = c.requires.replay in
    let k = c.in-Some-kind_of.field-0 in (
      named u.0 c.args.replay.now u.1 c.args.name c.in-Some.at.0 (sym c.in-Some.ensures),
      (k.0, k.1, c.in-Some-kind_of.ensures.node),
    )

pub returns-in-None-clause-gone : goal.returns-in-None-clause-gone
returns-in-None-clause-gone c =
    let u = c.requires.replay in
    gone u.0 c.args.replay.now u.1 c.args.name (λ n e k i h.
    let s = c.in-Some.ensures in
    let q : n ≡ c.in-Some.at.0 = cc in
    c.in-None.ensures.none k i (subst (λ n. HasNode (net_of c.args.replay.now.net) n k i) q h))
