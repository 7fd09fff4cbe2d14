-- A run from a net is a run from the same net.
use Rattle.std.proofs.Common.{[], ◌∷◌}
use Rattle.ol_rules.specs.Runs.{IsRun}
use Rattle.ol_rules.proofs.Relation.{same_refl}
use Rattle.ol_rules.proofs.Same.{step_same}
use Rattle.ol_diamond.specs.OneThread.{RunFromSame}

pub run_from_same : RunFromSame
run_from_same M N P ticket [] same IsRun.end = (N, IsRun.end, same)
run_from_same M N P ticket (e ∷ es) same (IsRun.then {M = Q} step run) = (
  P,
  IsRun.then (record {
    f = step.f;
    g = step.g;
    named = step.named;
    step = step_same M N same _ step.f step.g e.rule Q step.step;
  }) run,
  same_refl P,
)
