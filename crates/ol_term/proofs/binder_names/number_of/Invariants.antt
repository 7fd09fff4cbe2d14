use Rattle.std.proofs.Common.{◌+◌, ◌-◌, length}
use Rattle.ol_term.specs.BinderNumbers.{AreNumbers}
use Rattle.ol_term.proofs.binder_names.number_of.Given as goal

abbrev pub invariant-fill : goal.invariant-fill
invariant-fill l = AreNumbers l.names l.numbers.items

abbrev pub decreases-fill : goal.decreases-fill
decreases-fill l = l.t + 1 - length l.numbers.items
