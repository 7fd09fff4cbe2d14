use Rattle.std.proofs.Common.{◌-◌, map}
use Rattle.ol_context.specs.Shapes.{value}
use Rattle.ol_context.proofs.OpenWalked.{OpenWalking}
use Rattle.ol_context.proofs.open_walking.walk_open.Given as goal

abbrev pub invariant-loop-next : goal.invariant-loop-next
invariant-loop-next g l = OpenWalking l.net l.from
    (map (value l.initial.values) l.fn.levels.items) l.initial.values l.values l.context l.at l.made
    l.edges l.initial.steps l.steps

abbrev pub decreases-loop-next : goal.decreases-loop-next
decreases-loop-next g l = l.edges - l.made
