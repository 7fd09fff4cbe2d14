use Rattle.std.proofs.Common.{refl, sym, ◌∙◌, arith}
use Rattle.ol_diamond.proofs.Weighed.{there_is}
use Rattle.ol_explain.proofs.Joins.{so_far_first, joined_now, joined_last, makes_it, made}
use Rattle.ol_explain.proofs.joining.joined_after.Goals as goal

pub loop-k-init : goal.loop-k-init
loop-k-init c =
    let a = c.in_ok-again in
    so_far_first c.args.net.now c.args.replay.now a.again c.args.first c.args.second a.ensures.replay a.ensures.journal

pub returns-then-are_joined : goal.returns-then-are_joined
returns-then-are_joined c =
    let l = c.len-k-end.ensures in
    let t = c.loop-k-test.true in
    joined_now c.args.net.now c.is_net.ensures.net c.args.replay.now c.loop-k.again c.requires.replay c.args.first
    c.args.second c.loop-k.k c.loop-k.invariant (omega arith) (c.if-are_joined.ensures.joined refl)

pub unreachable-requires : goal.unreachable-requires
unreachable-requires c =
    let l = c.len-k-end.ensures in
    let b = c.loop-k-test.true in
    let t = there_is c.args.replay.now.run.journal c.loop-k.k (omega arith) in
    c.in_default.not-Some t.0 (c.get.ensures ∙ t.1)

pub unreachable-requires-then-not-branch : goal.unreachable-requires-then-not-branch
unreachable-requires-then-not-branch c =
    makes_it c.args.net.now c.is_net.ensures.net c.args.replay.now c.loop-k.again c.requires.replay c.args.first
    c.args.second c.loop-k.k c.loop-k.invariant c.in-Some.entry (sym c.get.ensures ∙ c.in-Some.is)
    (c.in_ok-rewrite_named.ensures.apart c.if-not-branch.true)

pub loop-k-preserved : goal.loop-k-preserved
loop-k-preserved c =
    made c.args.net.now c.is_net.ensures.net c.args.replay.now c.loop-k.again c.requires.replay c.args.first
    c.args.second c.loop-k.k c.loop-k.invariant c.in-Some.entry (sym c.get.ensures ∙ c.in-Some.is)
    c.rewrite_named.new.self (c.in_ok-rewrite_named.ensures.made c.if-not-branch.false)
    (c.if-are_joined.ensures.apart refl)

pub returns : goal.returns
returns c =
    let l = c.len-k-end.ensures in
    let t = c.loop-k-test.false in
    joined_last c.args.net.now c.is_net.ensures.net c.args.replay.now c.loop-k.again c.requires.replay c.args.first
    c.args.second c.loop-k.k c.loop-k.invariant (omega arith) c.len.result c.len.ensures (omega arith) c.requires.joined
