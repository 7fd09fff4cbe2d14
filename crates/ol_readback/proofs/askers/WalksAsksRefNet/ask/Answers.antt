use Rattle.std.proofs.Common.{arith}
use Rattle.ol_readback.specs.Frames.{frames_of}
use Rattle.ol_readback.specs.Heads.{answer_of}
use Rattle.ol_readback.proofs.FrameLists.{count_frames}
use Rattle.ol_readback.proofs.Walking.{walk_answered, walk_known}
use Rattle.ol_readback.proofs.askers.WalksAsksRefNet.ask.Goals as goal

pub returns-clause-answered : goal.returns-clause-answered
returns-clause-answered c =
    λ s0 n0 heads places front t ss z b u.
    walk_answered c.args.net.now.now c.args.self.now.edges c.args.values.now
    c.args.asked.now.frames.now.items c.args.asked.now.at
    (answer_of c.walk_frame.new.values c.in_ok-head.head) c.requires.asked.last c.in_ok-head.ensures.answer
    n0.now s0.edges heads places front t ss z b u

pub returns-clause-known : goal.returns-clause-known
returns-clause-known c =
    let n = count_frames c.args.values.now c.args.asked.now.frames.now.items in
    let l = c.requires.asked.last in
    walk_known c.args.net.now.now c.is_net.ensures.net
    (frames_of c.args.values.now c.args.asked.now.frames.now.items)
    c.requires.asked.list.parents c.args.asked.now.at c.args.self.now.edges
    c.walk_frame.new.values c.in_ok-head.head (omega arith) c.in_ok-head.ensures.answer
