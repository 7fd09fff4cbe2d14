use Rattle.std.proofs.Common.{◌≡◌, ◌+◌, ◌≤◌, length, drop}
use Rattle.ol_derivations.specs.PlacesOfPaths.{reached}
use Rattle.ol_derivations.proofs.placing.place_of.Given as goal

abbrev pub invariant-loop-i : goal.invariant-loop-i
invariant-loop-i l = record {
  near : l.place ≤ length l.tree + l.i;
  same : reached l.tree (drop l.i l.path) l.place ≡ reached l.tree l.path 0;
}
