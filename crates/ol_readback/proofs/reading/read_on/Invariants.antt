use Rattle.std.proofs.Common.{◌≡◌, ◌-◌, length}
use Rattle.ol_readback.proofs.Onward.{Before}
use Rattle.ol_readback.proofs.reading.read_on.Given as goal

abbrev pub invariant-places : goal.invariant-places
invariant-places g l = record {
  before : Before (g.A.Asks.reads l.initial.asker l.initial.net l.asker l.net l.heads) l.heads
      (g.A.Asks.free l.initial.net) l.reader.values l.reader.frames.items l.reader.skips.items
      l.frame l.nodes.items l.pending.items;
  ready : g.A.Asks.ready l.asker l.net;
  free : g.A.Asks.free l.net ≡ g.A.Asks.free l.initial.net;
}

abbrev pub decreases-places : goal.decreases-places
decreases-places g l = l.heads - length l.reader.frames.items
