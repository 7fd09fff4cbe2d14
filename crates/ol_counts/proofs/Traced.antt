-- A one-thread run is a run.
use Rattle.std.proofs.Common.{ℕ, List}
use Rattle.ol_net.specs.Graph.{Graph}
use Rattle.ol_net.specs.Nets.{NamedNet, net_under}
use Rattle.ol_net.specs.Numbered.{net_of}
use Rattle.ol_rules.specs.declared.journal.NodeName.{NodeName}
use Rattle.ol_rules.specs.declared.journal.NodeName.TheVariants.{Init}
use Rattle.ol_rules.specs.declared.journal.Entry.{Entry}
use Rattle.ol_rules.specs.Runs.{RunsTo, IsRun}
use Rattle.ol_rules.proofs.LeadRuns.{as_run}

pub leads_run : (g new : Graph) (fuel : ℕ) (journal : List Entry) → RunsTo g fuel journal new →
    (M : NamedNet NodeName) × IsRun (net_under Init (net_of g)) 0 journal M
leads_run g new fuel journal r = (
  net_under r.leads.names (net_of new),
  as_run (net_under Init (net_of g)) (net_under r.leads.names (net_of new)) 0 journal r.leads.run,
)
