use Rattle.std.proofs.Common.{ℕ, ◌<◌, length, Option, refl, sym, subst, arith}
use Rattle.ol_decoding.specs.AddedLines.{IsSeen}
use Rattle.ol_readback.specs.Frames.{frames_of}
use Rattle.ol_readback.specs.Heads.{answer_of}
use Rattle.ol_readback.proofs.FrameLists.{count_frames, frame_is, held_this, port_this}
use Rattle.ol_readback.proofs.Walking.{walk_known}
use Rattle.ol_decoding.proofs.Seen.{watched_on, seen_now, last_below}
use Rattle.ol_decoding.proofs.watching.WatchAsksRefNet.ask.Goals as goal

pub index-frame-requires : goal.index-frame-requires
index-frame-requires c = subst (λ (n : ℕ). c.args.asked.now.at < n) (sym c.args.asked.now.frames.now.ok.0)
    (last_below c.args.asked.now.at (length c.args.asked.now.frames.now.items) c.requires.asked.last)

pub questions-requires-clause-port : goal.questions-requires-clause-port
questions-requires-clause-port c = port_this c.args.net.now.now.free c.args.asked.now.frames.now.items
    c.args.asked.now.at c.index-frame.result.now c.requires.asked.list.ports
    (last_below c.args.asked.now.at (length c.args.asked.now.frames.now.items) c.requires.asked.last)
    c.index-frame.ensures

pub questions-requires-clause-held : goal.questions-requires-clause-held
questions-requires-clause-held c = held_this c.args.values.now c.args.asked.now.frames.now.items
    c.args.asked.now.at c.index-frame.result.now c.requires.asked.list.held
    (last_below c.args.asked.now.at (length c.args.asked.now.frames.now.items) c.requires.asked.last)
    c.index-frame.ensures

pub returns-clause-answered : goal.returns-clause-answered
returns-clause-answered c = λ s0 n0 heads places front t ss z b u. (
  watched_on c.args.net.now.now c.args.self.now.edges c.args.self.now.place c.args.values.now
      c.args.asked.now.frames.now.items c.args.asked.now.at (answer_of c.head.new.values c.in_ok-head.head)
      c.requires.asked.last c.if-asked-self.false ((c.in_ok-head.ensures.answer _).0 refl)
      n0.now s0.edges s0.place heads places front t ss z b u.0,
  u.1,
  u.2,
)

pub returns-clause-known : goal.returns-clause-known
returns-clause-known c =
    let n = count_frames c.args.values.now c.args.asked.now.frames.now.items in
    let l = c.requires.asked.last in
    walk_known c.args.net.now.now c.is_net.ensures.net
    (frames_of c.args.values.now c.args.asked.now.frames.now.items)
    c.requires.asked.list.parents c.args.asked.now.at c.args.self.now.edges
    c.head.new.values c.in_ok-head.head (omega arith) ((c.in_ok-head.ensures.answer _).0 refl)

pub returns-then-asked-self-clause-answered : goal.returns-then-asked-self-clause-answered
returns-then-asked-self-clause-answered c = λ s0 n0 heads places front t ss z b u.
    subst (λ (o : Option ℕ). IsSeen n0.now heads s0.edges s0.place o s0.lines c.in_ok-told.told.items) u.1
    (subst (λ (l : ℕ). IsSeen n0.now heads s0.edges s0.place c.args.self.now.question l c.in_ok-told.told.items) u.2
    (seen_now c.args.net.now.now c.args.self.now.edges c.args.self.now.place c.args.values.now
    c.args.asked.now.frames.now.items c.args.asked.now.at c.index-frame.result.now c.args.self.now.question
    c.args.self.now.lines c.in_ok-told.told.items c.requires.asked.last c.if-asked-self.true
    (frame_is c.args.values.now c.args.asked.now.frames.now.items c.args.asked.now.at c.index-frame.result.now
    (last_below c.args.asked.now.at (length c.args.asked.now.frames.now.items) c.requires.asked.last)
    c.index-frame.ensures) c.in_ok-told.ensures.lines n0.now s0.edges s0.place heads places front t ss z b u.0))
