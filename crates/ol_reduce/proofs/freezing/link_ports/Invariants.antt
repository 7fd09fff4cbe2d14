use Rattle.std.proofs.Common.{◌≡◌, length}
use Rattle.ol_reduce.specs.Found.{IsPartly, AreMetTo, KeepsPartners}
use Rattle.ol_reduce.proofs.freezing.link_ports.Given as goal

abbrev pub invariant-loop-port : goal.invariant-loop-port
invariant-loop-port l = record {
  free : l.draft.free ≡ l.initial.draft.free;
  met : length l.met.items ≡ length l.initial.met.items;
  keeps : KeepsPartners l.initial.draft.partners.items l.draft.partners.items;
  long : length l.draft.partners.items ≡ length l.initial.draft.partners.items;
  partly : IsPartly l.words l.live.places.items l.draft.kinds.items l.draft.partners.items;
  walked : AreMetTo l.words l.live.places.items l.draft.partners.items l.met.items l.port;
}
