use Rattle.std.proofs.Common.{inr, arith}
use Rattle.ol_rules.proofs.Waiting.{active_below}
use Rattle.ol_rules.proofs.one_thread.begin.Goals as goal

pub returns-clause-waits : goal.returns-clause-waits
returns-clause-waits c = λ x r a. let b = active_below c.args.net.now x r a in
    let e = c.born.ensures.born in (c.in_ok-await_active.ensures x).1 (inr (omega arith, omega arith, (r, a)))
