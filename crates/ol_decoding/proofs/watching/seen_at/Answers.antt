use Rattle.std.proofs.Common.{refl, arith}
use Rattle.std.proofs.lemmas.Option.{MatchOption-at_some}
use Rattle.ol_decoding.specs.Reached.{start}
use Rattle.ol_decoding.proofs.Seen.{never_over}
use Rattle.ol_decoding.proofs.watching.seen_at.Goals as goal

pub read-requires-clause-begins : goal.read-requires-clause-begins
read-requires-clause-begins c = (
  record { graph = refl; edges_stay = refl; place_stays = refl; reached = start; before = omega arith },
  refl,
  refl,
)

pub unreachable-requires : goal.unreachable-requires
unreachable-requires c =
    let w = MatchOption-at_some _ _ c.in-Some.nodes c.in-Some.is c.in_ok-places.ensures.read in
    never_over c.args.net.now c.is_net.ensures.net c.read.new.net.now c.args.heads c.args.watch.edges
    c.read.new.asker.edges c.args.watch.place c.read.new.asker.place w.0 c.args.tree.now c.in-Some.nodes.items w.1.0 w.2
    c.requires.tree c.requires.there c.requires.asked
