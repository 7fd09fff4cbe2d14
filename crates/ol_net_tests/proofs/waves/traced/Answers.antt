use Rattle.std.proofs.Common.{subst}
use Rattle.ol_net.specs.Graph.{Graph}
use Rattle.ol_net.specs.Nets.{net_under}
use Rattle.ol_net.specs.Numbered.{net_of}
use Rattle.ol_rules.specs.declared.journal.NodeName.TheVariants.{Init}
use Rattle.ol_rules.specs.Runs.{RunsTo}
use Rattle.ol_rules.proofs.LeadRuns.{as_run}
use Rattle.ol_net_tests.proofs.waves.traced.Goals as goal

-- a run of leads is a run
pub trace_text_2-requires-clause-run : goal.trace_text_2-requires-clause-run
trace_text_2-requires-clause-run c =
    let runs = subst (λ (h : Graph). RunsTo h 100 c.in_ok-ran.ran.journal c.run.new.net)
    c.in_ok-last.ensures.copy c.in_ok-ran.ensures.runs in
    let last = net_under runs.leads.names (net_of c.run.new.net) in
    (last, as_run (net_under Init (net_of c.in_ok-net.net)) last 0 c.in_ok-ran.ran.journal runs.one_thread.leads)
