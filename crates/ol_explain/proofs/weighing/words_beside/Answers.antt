use Rattle.std.proofs.Common.{Bool, refl, sym, subst}
use Rattle.ol_explain.specs.Besides.{IsBeside}
use Rattle.ol_explain.specs.declared.naming.Beside.TheVariants.{Weights}
use Rattle.ol_orders.proofs.KeptRuns.{run_named}
use Rattle.ol_orders.specs.Replays.{net_here}
use Rattle.ol_explain.proofs.weighing.words_beside.Goals as goal

pub weigh-requires-clause-run : goal.weigh-requires-clause-run
weigh-requires-clause-run c =
    (net_here c.args.replay.now, run_named c.args.net.now c.args.replay.now c.requires.replay)

pub returns-then-weights : goal.returns-then-weights
returns-then-weights c = subst (λ (b : Bool). IsBeside b c.args.net.now c.args.replay.now.run.journal
    (Weights c.in_ok-weighing.weighing)) (sym c.if-weights.true)
    (c.in_ok-weighing.weighing, refl, c.in_ok-weighing.ensures)
