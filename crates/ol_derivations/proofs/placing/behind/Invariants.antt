use Rattle.std.proofs.Common.{◌≡◌, ◌+◌, ◌*◌, ◌≤◌, drop}
use Rattle.ol_derivations.specs.PlacesOfPaths.{taken}
use Rattle.ol_derivations.proofs.placing.behind.Given as goal

abbrev pub invariant-loop-place : goal.invariant-loop-place
invariant-loop-place l = record {
  after : l.from ≤ l.place;
  few : l.left + l.from * 4294967295 ≤ l.trees + l.place * 4294967295;
  same : l.place + taken (drop l.place l.tree) l.left ≡ l.from + taken (drop l.from l.tree) l.trees;
}
