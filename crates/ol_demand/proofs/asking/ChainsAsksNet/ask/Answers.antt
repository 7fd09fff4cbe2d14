use Rattle.std.proofs.Common.{refl}
use Rattle.ol_readback.specs.Frames.{frames_of}
use Rattle.ol_demand.proofs.Chained.{answered_by, stopped_by}
use Rattle.ol_demand.proofs.asking.ChainsAsksNet.ask.Goals as goal
use Rattle.ol_law_edges.proofs.Options.{on_err}

pub returns-clause-answered : goal.returns-clause-answered
returns-clause-answered c =
    answered_by c.args.self.now c.args.net.now
    (record { run = c.ask.new.run; fuel = c.args.self.now.fuel }) c.ask.new.net
    (frames_of c.args.values.now c.args.asked.now.frames.now.items) c.ask.new.values
    c.in_ok-answer.answer refl c.in_ok-answer.ensures.answered c.in_ok-answer.ensures.spent
    c.in_ok-answer.ensures.running.within

pub returns-in_err-answer-clause-stopped : goal.returns-in_err-answer-clause-stopped
returns-in_err-answer-clause-stopped c =
    on_err c.from_residual.result (stopped_by c.args.self.now c.args.net.now
    (record { run = c.ask.new.run; fuel = c.args.self.now.fuel }) c.ask.new.net
    (frames_of c.args.values.now c.args.asked.now.frames.now.items) c.args.self.now.fuel refl
    c.in_err-answer.ensures.stopped)
