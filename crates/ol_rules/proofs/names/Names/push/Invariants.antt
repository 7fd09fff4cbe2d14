use Rattle.std.proofs.Common.{◌≡◌, ◌++◌}
use Rattle.ol_rules.specs.Runs.{names_born}
use Rattle.ol_rules.proofs.names.Names.push.Given as goal

abbrev pub invariant-loop-place : goal.invariant-loop-place
invariant-loop-place l = (l.self.start ≡ l.initial.self.start)
    × (l.self.born.items ≡ l.initial.self.born.items ++ names_born l.ticket l.place)
