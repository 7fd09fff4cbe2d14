use Rattle.std.proofs.Common.{◌-◌, refl, sym, subst, arith}
use Rattle.ol_readback.specs.Askers.{IsKnownHead}
use Rattle.ol_readback.specs.Frames.{frames_of}
use Rattle.ol_readback.specs.Heads.{answer_of}
use Rattle.ol_readback.proofs.Skips.{parents_any}
use Rattle.ol_decoding.proofs.Reading.{at_front, depth_last, asked_deep, asked_part}
use Rattle.ol_decoding.proofs.asking.PartsAsksNet.ask.Goals as goal

pub depth_of-depth-requires-clause-parents : goal.depth_of-depth-requires-clause-parents
depth_of-depth-requires-clause-parents c =
    parents_any c.args.values.now c.args.asked.now.frames.now.items c.requires.asked.list.parents

pub returns-then-depth-self-clause-answered : goal.returns-then-depth-self-clause-answered
returns-then-depth-self-clause-answered c = λ s0 n0 heads places front t ss z b u.
    let vs = c.args.values.now in
    let fs = c.args.asked.now.frames.now.items in
    asked_deep s0.depth s0.fuel n0 s0.left c.args.self.now.depth c.args.self.now.fuel c.args.net.now
    c.args.self.now.left c.args.net.now c.args.self.now.left heads front t ss places u b c.depth_of-depth.result
    (depth_last (frames_of vs fs) c.requires.asked.list.parents front t z c.args.asked.now.at c.depth_of-depth.result
    (at_front vs fs c.args.asked.now.at front t c.requires.asked.last z) (c.depth_of-depth.ensures vs))
    c.if-depth-self.true refl refl

pub ask_part-requires-clause-room : goal.ask_part-requires-clause-room
ask_part-requires-clause-room c = let r = c.requires.ready in let s = c.lesser-fuel.ensures.second in omega arith

pub returns-clause-answered : goal.returns-clause-answered
returns-clause-answered c = λ s0 n0 heads places front t ss z b u.
    let vs = c.args.values.now in
    let fs = c.args.asked.now.frames.now.items in
    asked_part s0.depth s0.fuel n0 s0.left c.args.self.now.depth c.args.self.now.fuel c.args.net.now
    c.args.self.now.left c.ask_part.new.net (c.args.self.now.left - c.in_ok-found.found.1) heads front t ss places u b
    c.depth_of-depth.result
    (depth_last (frames_of vs fs) c.requires.asked.list.parents front t z c.args.asked.now.at c.depth_of-depth.result
    (at_front vs fs c.args.asked.now.at front t c.requires.asked.last z) (c.depth_of-depth.ensures vs))
    c.lesser-fuel.result c.in_ok-found.found.1 (answer_of c.ask_part.new.values c.in_ok-found.found.0)
    c.if-depth-self.false c.lesser-fuel.ensures (c.in_ok-found.ensures.found.finds front t z) refl

pub returns-clause-ready : goal.returns-clause-ready
returns-clause-ready c =
    let r = c.requires.ready in
    let s = c.lesser-fuel.ensures.second in
    let w = c.in_ok-found.ensures.found.within in
    let f = c.in_ok-found.ensures.found.few in
    omega arith

pub returns-clause-known : goal.returns-clause-known
returns-clause-known c =
    subst (λ n. IsKnownHead n (frames_of c.args.values.now c.args.asked.now.frames.now.items) c.in_ok-found.found.0)
    (sym c.in_ok-found.ensures.found.free) c.in_ok-found.ensures.found.known
