use Rattle.std.proofs.Common.{◌≡◌, ◌≢◌, ◌≤◌, length, sym, ◌∙◌, arith}
use Rattle.ol_orders.proofs.RoundOnItsWay.{round_begun, turn_on, is_cut, all_played, all_waits}
use Rattle.ol_orders.proofs.playing.play_round.Goals as goal

pub loop-pair-init : goal.loop-pair-init
loop-pair-init c = round_begun c.args.replay.now c.args.waiting.now c.args.pairs.now c.args.fuel.most
    c.is_net.ensures.net c.requires.pairs c.requires.few c.requires.within

pub returns-then-len-fuel-clause-cut : goal.returns-then-len-fuel-clause-cut
returns-then-len-fuel-clause-cut c = λ e. is_cut c.args.replay.now c.loop-pair.replay c.loop-pair.waiting
    c.args.pairs.now c.loop-pair.pair-index c.args.fuel.most c.loop-pair.invariant c.loop-pair-test.true
    (sym c.len.ensures ∙ c.if-len-fuel.true)

pub loop-pair-preserved : goal.loop-pair-preserved
loop-pair-preserved c =
    let more : length c.loop-pair.replay.run.journal ≢ c.args.fuel.most = λ q. c.if-len-fuel.false (c.len.ensures ∙ q) in
    let e = c.in_ok-play_pair.ensures in
    turn_on c.args.replay.now c.loop-pair.replay c.loop-pair.waiting c.args.pairs.now c.loop-pair.pair-index
    c.args.fuel.most c.loop-pair.invariant _ c.play_pair.new.replay c.play_pair.new.waiting
    c.loop-pair-test.true more e.advances e.kept e.waits

pub returns-clause-all : goal.returns-clause-all
returns-clause-all c = λ e.
    let l : length c.args.pairs.now ≤ c.loop-pair.pair-index = (let t = c.loop-pair-test.false in omega arith) in
    all_played c.args.replay.now c.loop-pair.replay c.loop-pair.waiting c.args.pairs.now
    c.loop-pair.pair-index c.args.fuel.most c.loop-pair.invariant l

pub returns-clause-waits : goal.returns-clause-waits
returns-clause-waits c = λ e.
    let l : length c.args.pairs.now ≤ c.loop-pair.pair-index = (let t = c.loop-pair-test.false in omega arith) in
    all_waits c.args.replay.now c.loop-pair.replay c.loop-pair.waiting c.args.pairs.now
    c.loop-pair.pair-index c.args.fuel.most c.loop-pair.invariant l
