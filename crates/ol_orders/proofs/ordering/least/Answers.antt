use Rattle.std.proofs.Common.{length, subst}
use Rattle.ol_net.specs.Graph.{Graph}
use Rattle.ol_rules.specs.Runs.{RunsTo}
use Rattle.ol_orders.specs.Orders.{least_ended, least_goes_on}
use Rattle.ol_orders.proofs.Traced.{leads_run, few_entries}
use Rattle.ol_orders.proofs.ordering.least.Goals as goal

pub traced-requires-clause-few : goal.traced-requires-clause-few
traced-requires-clause-few c = few_entries (length c.args.net.now.nodes)
    (length c.in_ok-ran.ran.journal) c.args.fuel.most c.requires.few c.args.fuel.within
    c.in_ok-ran.ensures.runs.one_thread.within

pub traced-requires-clause-run : goal.traced-requires-clause-run
traced-requires-clause-run c =
    leads_run c.args.net.now c.run.new.net c.args.fuel.most c.in_ok-ran.ran.journal
    (subst (λ (g : Graph). RunsTo g c.args.fuel.most c.in_ok-ran.ran.journal c.run.new.net)
    c.in_ok-last.ensures.copy c.in_ok-ran.ensures.runs)

pub returns-in-Done : goal.returns-in-Done
returns-in-Done c = λ heads.
    least_ended (subst (λ (g : Graph). RunsTo g c.args.fuel.most c.in_ok-ran.ran.journal c.run.new.net)
    c.in_ok-last.ensures.copy c.in_ok-ran.ensures.runs)
    (c.in_ok-ran.ensures.done.0 c.in-Done.is) c.in_ok-text.ensures

pub returns : goal.returns
returns c = λ heads.
    least_goes_on (subst (λ (g : Graph).
    RunsTo g c.args.fuel.most c.in_ok-ran.ran.journal c.run.new.net) c.in_ok-last.ensures.copy c.in_ok-ran.ensures.runs)
    (c.in_ok-ran.ensures.spent.0 c.in-Spent.is) c.in_ok-text.ensures
