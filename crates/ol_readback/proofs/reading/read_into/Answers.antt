use Rattle.ol_readback.proofs.reading.read_into.Goals as goal

pub read_on-requires-clause-heads : goal.read_on-requires-clause-heads
read_on-requires-clause-heads g c = c.requires.heads

pub read_on-requires-clause-root : goal.read_on-requires-clause-root
read_on-requires-clause-root g c = c.requires.root

pub read_on-requires-clause-ready : goal.read_on-requires-clause-ready
read_on-requires-clause-ready g c = c.requires.ready

pub read_on-requires-clause-begins : goal.read_on-requires-clause-begins
read_on-requires-clause-begins g c = c.requires.begins

pub read_on-requires-clause-frames : goal.read_on-requires-clause-frames
read_on-requires-clause-frames g c = c.new-reader.ensures.frames

pub read_on-requires-clause-skips : goal.read_on-requires-clause-skips
read_on-requires-clause-skips g c = c.new-reader.ensures.skips

pub read_on-requires-clause-nodes : goal.read_on-requires-clause-nodes
read_on-requires-clause-nodes g c = c.requires.nodes

pub read_on-requires-clause-pending : goal.read_on-requires-clause-pending
read_on-requires-clause-pending g c = c.new-pending.ensures.items

pub returns-clause-read : goal.returns-clause-read
returns-clause-read g c = c.read_on.ensures.read

pub returns-clause-ends : goal.returns-clause-ends
returns-clause-ends g c = c.read_on.ensures.ends

pub returns-clause-few : goal.returns-clause-few
returns-clause-few g c = c.read_on.ensures.few

pub returns-clause-free : goal.returns-clause-free
returns-clause-free g c = c.read_on.ensures.free

pub returns-clause-stopped : goal.returns-clause-stopped
returns-clause-stopped g c = c.read_on.ensures.stopped
