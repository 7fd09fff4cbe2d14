-- A one-thread run is a run.
use Rattle.std.proofs.Common.{ℕ, ◌+◌, ◌*◌, ◌≤◌, List, arith}
use Rattle.ol_net.specs.Graph.{Graph}
use Rattle.ol_net.specs.Nets.{NamedNet, net_under}
use Rattle.ol_net.specs.Numbered.{net_of}
use Rattle.ol_rules.specs.declared.journal.NodeName.{NodeName}
use Rattle.ol_rules.specs.declared.journal.Entry.{Entry}
use Rattle.ol_rules.specs.Runs.{RunsTo, IsRun}
use Rattle.ol_rules.proofs.LeadRuns.{as_run}
use Rattle.ol_view.specs.Checks.{start_net_of_graph}

pub leads_run : (g new : Graph) (fuel : ℕ) (journal : List Entry) → RunsTo g fuel journal new →
    (M : NamedNet NodeName) × IsRun (start_net_of_graph g) 0 journal M
leads_run g new fuel journal r = (
  net_under r.leads.names (net_of new),
  as_run (start_net_of_graph g) (net_under r.leads.names (net_of new)) 0 journal r.leads.run,
)

pub few_entries : (nodes entries fuel : ℕ) → nodes ≤ 200000 → fuel ≤ 8000000 → entries ≤ fuel →
    nodes + 4 * entries ≤ 2000000000
few_entries nodes entries fuel h k l = omega arith
