use Rattle.std.proofs.Common.{◌≡◌, ◌+◌, ◌*◌, length}
use Rattle.ol_reduce.specs.Found.{IsPartly, AreMetTo, KeepsPartners}
use Rattle.ol_reduce.proofs.freezing.link_nodes.Given as goal

abbrev pub invariant-loop-node : goal.invariant-loop-node
invariant-loop-node l = record {
  free : l.draft.free ≡ l.initial.draft.free;
  met : length l.met.items ≡ length l.initial.met.items;
  keeps : KeepsPartners l.initial.draft.partners.items l.draft.partners.items;
  long : length l.draft.partners.items ≡ length l.initial.draft.partners.items;
  partly : IsPartly l.words l.live.places.items l.draft.kinds.items l.draft.partners.items;
  walked : AreMetTo l.words l.live.places.items l.draft.partners.items l.met.items
      (l.words.plan.parts.free + 3 * l.node);
}
