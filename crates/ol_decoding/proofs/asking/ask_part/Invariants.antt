use Rattle.std.proofs.Common.{◌≡◌, ◌+◌, ◌-◌, ◌*◌, ◌^◌, ◌≤◌, length}
use Rattle.ol_readback.specs.Frames.{frames_of}
use Rattle.ol_decoding.proofs.Asked.{Onward}
use Rattle.ol_decoding.proofs.asking.ask_part.Given as goal

abbrev pub invariant-loop-reply : goal.invariant-loop-reply
invariant-loop-reply l = record {
  same : l.values ≡ l.initial.values;
  within : l.made ≤ l.fuel;
  few : length l.net.nodes ≤ length l.initial.net.nodes + 4 * l.made;
  free : l.net.free ≡ l.initial.net.free;
  onward : Onward l.initial.net (frames_of l.initial.values l.asked.frames.now.items) l.fuel l.made l.lams l.net;
}

abbrev pub decreases-loop-reply : goal.decreases-loop-reply
decreases-loop-reply l = (l.fuel - l.made) + (2 ^ 32 - l.lams)
