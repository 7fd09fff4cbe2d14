use Rattle.std.proofs.Common.{◌≤◌, ◌-◌, length}
use Rattle.std.specs.List.{slice_range}
use Rattle.ol_explain.specs.Fields.{Begins}
use Rattle.ol_explain.proofs.wanting.beginning.Given as goal

-- the bytes so far begin a field
abbrev pub invariant-loop-to : goal.invariant-loop-to
invariant-loop-to l = record {
  from : l.start ≤ l.to;
  within : l.to ≤ length l.text;
  begins : Begins l.field (slice_range l.text l.start l.to);
}

abbrev pub decreases-loop-to : goal.decreases-loop-to
decreases-loop-to l = length l.text - l.to
