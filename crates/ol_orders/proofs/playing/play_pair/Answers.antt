use Rattle.std.proofs.Common.{inl, inr, arith}
use Rattle.ol_orders.proofs.ActivePairs.{not_idle, new_wait}
use Rattle.ol_orders.proofs.playing.play_pair.Goals as goal

pub unreachable-requires : goal.unreachable-requires
unreachable-requires c =
    let p = c.requires.pair in
    not_idle c.args.replay.now.net c.is_net.ensures.net c.args.x.0 c.args.y.0 p.0 p.1
    (c.in_ok-rewrite.ensures.idle c.if-not-branch.true p.1.lesser)

pub returns-clause-kept : goal.returns-clause-kept
returns-clause-kept c = λ z h.
    (c.in_ok-await_active.ensures z).1 (inl ((c.in_ok-await_beside-2.ensures z).1
    (inl ((c.in_ok-await_beside.ensures z).1 (inl h)))))

pub returns-clause-waits : goal.returns-clause-waits
returns-clause-waits c =
    let a = c.in_ok-rewrite.ensures.made c.if-not-branch.false in
    let from = c.born-from.ensures.born in
    let to = c.born.ensures.born in
    new_wait c.args.replay.now.net c.rewrite.new.self.net c.is_net.ensures.net c.args.x.0 c.args.y.0
    a.advances.rule a.advances.step a.linked c.await_active.new.waiting
    (λ z b. (c.in_ok-await_active.ensures z).1 (inl ((c.in_ok-await_beside-2.ensures z).1
    (inl ((c.in_ok-await_beside.ensures z).1 (inr b))))))
    (λ z b. (c.in_ok-await_active.ensures z).1 (inl ((c.in_ok-await_beside-2.ensures z).1 (inr b))))
    (λ z b. (c.in_ok-await_active.ensures z).1
    (inr (let l = b.0 in omega arith, let l = b.1 in omega arith, b.2)))
