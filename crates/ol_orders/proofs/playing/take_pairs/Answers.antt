use Rattle.std.proofs.Common.{ℕ, List, sym, subst}
use Rattle.std.specs.BTreeSet.{btree_set_len}
use Rattle.ol_rules.proofs.OneThread.{none_of}
use Rattle.ol_orders.proofs.ActivePairs.{AreTaken, none_yet, one_more, no_more, all_pairs}
use Rattle.ol_orders.proofs.playing.take_pairs.Goals as goal

pub loop-n-init : goal.loop-n-init
loop-n-init c = none_yet c.args.net.now c.args.waiting.now c.new-pairs.result.items
    c.new-pairs.ensures.items c.requires.waits

pub loop-n-preserved-in-Continue-1 : goal.loop-n-preserved-in-Continue-1
loop-n-preserved-in-Continue-1 c =
    let e = c.in-Some.ensures in
    let p = c.in-Some-greater.ensures.some in
    subst (λ (ps : List (ℕ × ℕ)). AreTaken c.args.net.now c.pop_first.new.self ps) (sym c.in_ok-push.ensures.items)
    (one_more c.args.net.now c.loop-n.waiting c.pop_first.new.self c.in-Some.n c.loop-n.pairs.items
    c.loop-n.invariant e.member e.least e.updates c.is_net.ensures.net c.in-Some-greater.other.0 p.0 p.1)

pub loop-n-preserved : goal.loop-n-preserved
loop-n-preserved c =
    let e = c.in-Some.ensures in
    no_more c.args.net.now c.loop-n.waiting c.pop_first.new.self c.in-Some.n c.loop-n.pairs.items
    c.loop-n.invariant e.member e.least e.updates c.in_default-greater.ensures.none

pub returns : goal.returns
returns c = record {
  pairs = all_pairs c.args.net.now c.loop-n.waiting c.loop-n.pairs.items
      (none_of c.pop_first.result (btree_set_len c.loop-n.waiting) c.in_default.is c.pop_first.ensures.variant)
      c.loop-n.invariant;
}
