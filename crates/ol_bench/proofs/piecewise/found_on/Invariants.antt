use Rattle.std.proofs.Common.{◌≡◌, ◌+◌, ◌-◌, ◌≤◌, true}
use Rattle.ol_bench.proofs.Judging.{GivenSoFar}
use Rattle.ol_bench.proofs.piecewise.found_on.Given as goal

abbrev pub invariant-reading : goal.invariant-reading
invariant-reading g l = record {
  within : l.given ≤ 402653184;
  ready : g.S.Source.ready l.src ≡ true;
  given : g.S.Source.given l.src ≡ l.given;
  cause : g.S.Source.faults l.src ≡ g.S.Source.faults l.fn.src;
  read : GivenSoFar l.net (g.S.Source.left l.fn.src) (g.S.Source.left l.src)
      (g.S.Source.readings l.fn.src) (g.S.Source.readings l.src) l.given l.checker;
}

abbrev pub decreases-reading : goal.decreases-reading
decreases-reading g l = 402653184 + 1 - l.given
