use Rattle.std.proofs.Common.{subst}
use Rattle.ol_net.specs.Graph.{Graph}
use Rattle.ol_rules.specs.Runs.{RunsTo}
use Rattle.ol_counts.specs.WaveAnswers.{ended, goes_on}
use Rattle.ol_counts.proofs.Traced.{leads_run}
use Rattle.ol_counts.proofs.tabling.of_net.Goals as goal

pub waves-requires-clause-run : goal.waves-requires-clause-run
waves-requires-clause-run c =
    leads_run c.args.net.now c.run.new.net c.args.fuel c.in_ok-ran.ran.journal
    (subst (λ (g : Graph). RunsTo g c.args.fuel c.in_ok-ran.ran.journal c.run.new.net)
    c.in_ok-last.ensures.copy c.in_ok-ran.ensures.runs)

pub returns-in-Done : goal.returns-in-Done
returns-in-Done c =
    ended (subst (λ (g : Graph). RunsTo g c.args.fuel c.in_ok-ran.ran.journal c.run.new.net)
    c.in_ok-last.ensures.copy c.in_ok-ran.ensures.runs)
    (c.in_ok-ran.ensures.done.0 c.in-Done.is) c.in_ok-waves.ensures.waves c.in_ok-text.ensures

pub returns : goal.returns
returns c =
    goes_on (subst (λ (g : Graph). RunsTo g c.args.fuel c.in_ok-ran.ran.journal c.run.new.net)
    c.in_ok-last.ensures.copy c.in_ok-ran.ensures.runs)
    (c.in_ok-ran.ensures.spent.0 c.in-Spent.is) c.in_ok-waves.ensures.waves c.in_ok-text.ensures
    c.in_ok-put_left-in-Spent.ensures
