use Rattle.std.proofs.Common.{◌≡◌, ◌+◌, ◌-◌, ◌≤◌, true, length, vec_len}
use Rattle.ol_io.specs.Outside.{Consumed}
use Rattle.ol_io.specs.Readings.{gave}
use Rattle.ol_io.proofs.calls.read_on.Given as goal

abbrev pub invariant-reading : goal.invariant-reading
invariant-reading g l = record {
  within : vec_len l.bytes ≤ l.most;
  ready : g.S.Source.ready l.src ≡ true;
  given : g.S.Source.given l.src ≡ length l.bytes.items;
  bytes : Consumed (g.S.Source.left l.fn.src) l.bytes.items (g.S.Source.left l.src);
  cause : g.S.Source.faults l.src ≡ g.S.Source.faults l.fn.src;
  begins : g.S.Source.begins l.src ≡ g.S.Source.begins l.fn.src;
  knows : g.S.Source.knows l.src ≡ g.S.Source.knows l.fn.src;
  contents : g.S.Source.contents l.src ≡ g.S.Source.contents l.fn.src;
  readings : g.S.Source.readings l.src ≡ gave l.bytes.items (g.S.Source.readings l.fn.src);
}

abbrev pub decreases-reading : goal.decreases-reading
decreases-reading g l = l.most + 1 - vec_len l.bytes
