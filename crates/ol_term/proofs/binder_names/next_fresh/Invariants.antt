use Rattle.std.proofs.Common.{◌≡◌, ◌-◌, length}
use Rattle.ol_term.specs.BinderNames.{fresh_from}
use Rattle.ol_term.proofs.binder_names.next_fresh.Given as goal

abbrev pub invariant-loop-passed : goal.invariant-loop-passed
invariant-loop-passed l = fresh_from l.names (length l.names) l.fn.number ≡ fresh_from l.names
    (length l.names - l.passed) l.m
