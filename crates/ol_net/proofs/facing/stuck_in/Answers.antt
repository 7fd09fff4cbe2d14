use Rattle.std.proofs.Common.{arith, sym, ◌∙◌}
use Rattle.std.proofs.lemmas.Bool.{false≢true}
use Rattle.ol_net.proofs.Reading.{StuckBelow-none, StuckBelow-same, StuckBelow-more, HasStuck-all}
use Rattle.ol_net.proofs.facing.stuck_in.Goals as goal
use Rattle.ol_net.proofs.facing.stuck_in.Goals.{then-is_lesser_of_stuck, else-is_lesser_of_stuck}

pub overflow_add-pairs : goal.overflow_add-pairs
overflow_add-pairs c = omega (arith, c.loop-n.invariant.few)

pub loop-n-init : goal.loop-n-init
loop-n-init c = StuckBelow-none _

pub loop-n-preserved : goal.loop-n-preserved
loop-n-preserved c = elim c.if-is_lesser_of_stuck.branch [
  | then-is_lesser_of_stuck w ↦
      rw w.pairs-is
      (StuckBelow-more (record {
        free = c.args.free;
        nodes = c.args.nodes.now;
        partners = c.args.partners.now;
      }) c.loop-n.n c.loop-n.pairs c.requires.net
      (c.is_lesser_of_stuck.ensures.0 w.if-is_lesser_of_stuck.true) c.loop-n.invariant)
  | else-is_lesser_of_stuck w ↦
      rw w.pairs-is
      (StuckBelow-same (record {
        free = c.args.free;
        nodes = c.args.nodes.now;
        partners = c.args.partners.now;
      }) c.loop-n.n c.loop-n.pairs c.requires.net
      (λ h. false≢true (sym w.if-is_lesser_of_stuck.false ∙ c.is_lesser_of_stuck.ensures.1 h)) c.loop-n.invariant)
]

pub returns : goal.returns
returns c =
    HasStuck-all (record {
      free = c.args.free;
      nodes = c.args.nodes.now;
      partners = c.args.partners.now;
    }) c.loop-n.n c.loop-n.pairs c.loop-n-test.false c.loop-n.invariant
