use Rattle.ol_net.specs.Numbered.{net_of}
use Rattle.ol_readback.specs.Frames.{frames_of}
use Rattle.ol_readback.specs.Heads.{answer_of}
use Rattle.ol_readback.proofs.Skips.{no_skips}
use Rattle.ol_readback.proofs.One.{answer_exactly}
use Rattle.ol_readback.proofs.Sources.{asked_found, asked_lost, asked_ring}
use Rattle.ol_readback.proofs.asking.head_counted.Goals as goal

pub ask_and_drop-requires-clause-skips : goal.ask_and_drop-requires-clause-skips
ask_and_drop-requires-clause-skips g c = no_skips c.args.frames.now.items c.new-skips.result.items
    c.new-skips.ensures.items

pub returns-clause-answer : goal.returns-clause-answer
returns-clause-answer g c =
    answer_exactly (net_of c.args.net.now) c.is_net.ensures.net
    (frames_of c.args.values.now c.args.frames.now.items) c.args.at c.args.edges
    (answer_of c.ask_and_drop.new.values c.in_ok-answer.answer) c.in_ok-answer.ensures.answer

pub returns-clause-found : goal.returns-clause-found
returns-clause-found g c = asked_found (net_of c.args.net.now) c.is_net.ensures.net
    (frames_of c.args.values.now c.args.frames.now.items) c.args.at c.args.edges
    c.ask_and_drop.new.values c.in_ok-answer.answer c.in_ok-answer.ensures.answer

pub returns-clause-lost : goal.returns-clause-lost
returns-clause-lost g c = asked_lost (net_of c.args.net.now) c.is_net.ensures.net
    (frames_of c.args.values.now c.args.frames.now.items) c.args.at c.args.edges
    c.ask_and_drop.new.values c.in_ok-answer.answer c.in_ok-answer.ensures.answer

pub returns-clause-ring : goal.returns-clause-ring
returns-clause-ring g c = asked_ring (net_of c.args.net.now) c.is_net.ensures.net
    (frames_of c.args.values.now c.args.frames.now.items) c.args.at c.args.edges
    c.ask_and_drop.new.values c.in_ok-answer.answer c.in_ok-answer.ensures.answer
