use Rattle.std.proofs.Common.{inl, inr, arith}
use Rattle.std.proofs.lemmas.Result.{on_ok_weaker}
use Rattle.ol_rules.proofs.Waiting.{all_wait_on}
use Rattle.ol_rules.proofs.one_thread.Running.advance.Goals as goal

pub rewrite_pair-requires-clause-pair : goal.rewrite_pair-requires-clause-pair
rewrite_pair-requires-clause-pair c = let l = c.requires.lead in (l.rule, (l.active, l.linked))

pub returns-clause-waits : goal.returns-clause-waits
returns-clause-waits c =
    let a = c.in_ok-rewrite_pair.ensures.ok in
    on_ok_weaker c.await_active.result (λ added.
    let second = c.in_ok-await_beside-2.ensures in
    all_wait_on c.args.net.now c.rewrite_pair.new.net c.is_net.ensures.net c.args.lead.0
    c.args.partner.0 a.rule a.step c.requires.lead c.await_active.new.waiting
    (λ x r act n. (added x).1 (inl ((second x).1 (inl ((c.in_ok-await_beside.ensures x).1 (inl (c.requires.waits x r act n)))))))
    (λ x t h. (added x).1 (inl ((second x).1 (inl ((c.in_ok-await_beside.ensures x).1 (inr (t, h)))))))
    (λ x t h. (added x).1 (inl ((second x).1 (inr (t, h)))))
    (λ x r b b' h. (added x).1 (inr (omega arith, omega arith, (r, h))))) c.await_active.ensures
