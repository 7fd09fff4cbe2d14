use Rattle.std.specs.BTreeSet.{btree_set_len}
use Rattle.ol_rules.specs.Running.{AllWait}
use Rattle.ol_rules.proofs.one_thread.next_lead.Given as goal

abbrev pub invariant-loop-n : goal.invariant-loop-n
invariant-loop-n l = AllWait l.net l.waiting

abbrev pub decreases-loop-n : goal.decreases-loop-n
decreases-loop-n l = btree_set_len l.waiting
