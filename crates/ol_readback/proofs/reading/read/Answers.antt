use Rattle.ol_law_edges.proofs.Options.{on_err}
use Rattle.ol_readback.proofs.reading.read.Goals as goal

pub read_into-requires-clause-heads : goal.read_into-requires-clause-heads
read_into-requires-clause-heads g c = c.requires.heads

pub read_into-requires-clause-root : goal.read_into-requires-clause-root
read_into-requires-clause-root g c = c.requires.root

pub read_into-requires-clause-ready : goal.read_into-requires-clause-ready
read_into-requires-clause-ready g c = c.requires.ready

pub read_into-requires-clause-begins : goal.read_into-requires-clause-begins
read_into-requires-clause-begins g c = c.requires.begins

pub read_into-requires-clause-nodes : goal.read_into-requires-clause-nodes
read_into-requires-clause-nodes g c = c.new-nodes.ensures.items

pub returns-in_err-is_read-clause-stopped : goal.returns-in_err-is_read-clause-stopped
returns-in_err-is_read-clause-stopped g c = on_err c.from_residual.result c.in_err-is_read.ensures.stopped

pub returns-then-is_read-clause-read : goal.returns-then-is_read-clause-read
returns-then-is_read-clause-read g c = c.in_ok-is_read.ensures.read c.if-is_read.true

pub returns-then-is_read-clause-few : goal.returns-then-is_read-clause-few
returns-then-is_read-clause-few g c = c.in_ok-is_read.ensures.few

pub returns-then-is_read-clause-free : goal.returns-then-is_read-clause-free
returns-then-is_read-clause-free g c = c.in_ok-is_read.ensures.free

pub returns-clause-read : goal.returns-clause-read
returns-clause-read g c = c.in_ok-is_read.ensures.ends c.if-is_read.false
