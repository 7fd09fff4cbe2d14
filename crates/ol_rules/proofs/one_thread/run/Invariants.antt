use Rattle.std.proofs.Common.{◌-◌, ◌≤◌, length}
use Rattle.ol_net.specs.Nets.{IsNet}
use Rattle.ol_net.specs.Numbered.{net_of}
use Rattle.ol_rules.specs.Running.{AllWait}
use Rattle.ol_rules.proofs.OnTheWay.{IsUnderWay}
use Rattle.ol_rules.proofs.one_thread.run.Given as goal

abbrev pub invariant-loop-lead : goal.invariant-loop-lead
invariant-loop-lead l = record {
  under_way : IsUnderWay l.fn.net l.net l.running.under_way.names.start l.running.under_way.names.born.items l.running.under_way.journal;
  waits : AllWait l.net l.running.waiting;
  is_net : IsNet (net_of l.net);
  within : length l.running.under_way.journal ≤ l.fuel;
}

abbrev pub decreases-loop-lead : goal.decreases-loop-lead
decreases-loop-lead l = l.fuel - length l.running.under_way.journal
