use Rattle.std.proofs.Common.{◌≡◌, ◌+◌, ◌-◌, ◌^◌, ◌<◌, ◌≤◌, ◌∷◌, length}
use Rattle.ol_context.specs.Asked.{os}
use Rattle.ol_context.specs.Contexts.{empty}
use Rattle.ol_context.specs.Shapes.{Extends, IsNumberOf}
use Rattle.ol_readback.specs.Frames.{frames_of}
use Rattle.ol_demand.specs.Demands.{asks}
use Rattle.ol_demand.specs.Asking.{IsRunning, IsUnderWay, Whatever}
use Rattle.ol_demand.proofs.Resuming.{IsWalked}
use Rattle.ol_demand.proofs.asking.ask.Given as goal

abbrev pub invariant-loop-end : goal.invariant-loop-end
invariant-loop-end l = record {
  extends : Extends l.initial.values l.values;
  mark : IsNumberOf l.values l.mark (os l.lams empty);
  marked : l.mark < l.count;
  kept : length l.initial.values ≤ l.count;
  counted : l.count ≤ length l.values;
  walked : IsWalked l.net l.frame.port l.frame.levels l.values l.mark l.walker;
  running : IsRunning l.net l.run l.fuel;
  free : l.net.free ≡ l.initial.net.free;
  under : Whatever l.initial.net l.initial.run (frames_of l.initial.values l.asked.frames.now.items)
      (λ old heads places front s ss. IsUnderWay old l.net l.run heads places (asks front (s ∷ ss) l.lams));
}

abbrev pub decreases-loop-end : goal.decreases-loop-end
decreases-loop-end l = (l.fuel - length l.run.journal) + (2 ^ 32 - l.lams)
