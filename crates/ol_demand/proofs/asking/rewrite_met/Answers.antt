use Rattle.std.proofs.Common.{inr, arith}
use Rattle.std.proofs.lemmas.Result.{on_ok_weaker, on_err_weaker}
use Rattle.ol_net.specs.Numbered.{net_of}
use Rattle.ol_demand.proofs.Paired.{turned, apart}
use Rattle.ol_demand.proofs.asking.rewrite_met.Goals as goal

pub rewrite_pair-requires-else-x-y-clause-pair : goal.rewrite_pair-requires-else-x-y-clause-pair
rewrite_pair-requires-else-x-y-clause-pair c = let p = c.requires.pair in
    (p.0, turned (net_of c.args.net.now) c.is_net.ensures.net c.args.x.0 c.args.y.0 p.0 p.1)

pub returns-else-x-y-clause-ok : goal.returns-else-x-y-clause-ok
returns-else-x-y-clause-ok c =
    let p = c.requires.pair in
    let n = apart (net_of c.args.net.now) c.is_net.ensures.net c.args.x.0 c.args.y.0 p.0 p.1 in
    on_ok_weaker c.rewrite_pair-else-x-y.result
    (λ a. inr (omega (arith, n, c.if-x-y.false), a)) c.rewrite_pair-else-x-y.ensures.ok

pub returns-else-x-y-clause-err : goal.returns-else-x-y-clause-err
returns-else-x-y-clause-err c =
    let p = c.requires.pair in
    let n = apart (net_of c.args.net.now) c.is_net.ensures.net c.args.x.0 c.args.y.0 p.0 p.1 in
    on_err_weaker c.rewrite_pair-else-x-y.result
    (λ a. inr (omega (arith, n, c.if-x-y.false), a)) c.rewrite_pair-else-x-y.ensures.err
