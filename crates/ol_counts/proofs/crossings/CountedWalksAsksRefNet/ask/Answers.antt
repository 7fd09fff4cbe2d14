use Rattle.std.proofs.Common.{arith}
use Rattle.ol_readback.specs.Frames.{frames_of}
use Rattle.ol_readback.proofs.FrameLists.{count_frames}
use Rattle.ol_readback.proofs.Walking.{walk_known}
use Rattle.ol_counts.proofs.ReadingCounted.{walk_answered}
use Rattle.ol_counts.proofs.crossings.CountedWalksAsksRefNet.ask.Goals as goal

pub returns-clause-answered : goal.returns-clause-answered
returns-clause-answered c =
    λ s0 n0 heads places front t ss z b u.
    walk_answered c.args.net.now.now c.args.self.now.edges c.args.values.now c.walk_counted.new.values
    c.args.asked.now.frames.now.items c.args.asked.now.at c.in_ok-walked.walked.0 c.in_ok-walked.walked.1
    c.requires.asked.last c.in_ok-walked.ensures.walked n0.now s0.edges s0.crossings c.args.self.now.crossings
    c.in-Some.crossings heads places front t ss (omega (arith, c.in-Some.ensures.1)) z b u

pub returns-clause-known : goal.returns-clause-known
returns-clause-known c =
    let n = count_frames c.args.values.now c.args.asked.now.frames.now.items in
    let l = c.requires.asked.last in
    walk_known c.args.net.now.now c.is_net.ensures.net
    (frames_of c.args.values.now c.args.asked.now.frames.now.items)
    c.requires.asked.list.parents c.args.asked.now.at c.args.self.now.edges
    c.walk_counted.new.values c.in_ok-walked.walked.0 (omega arith) c.in_ok-walked.ensures.walked.head
