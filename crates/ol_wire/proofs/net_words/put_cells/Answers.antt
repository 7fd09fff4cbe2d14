use Rattle.std.proofs.Common.{arith, ◌+◌, suc, ◌≡◌}
use Rattle.ol_wire.specs.Starts.{pair_at}
use Rattle.ol_wire.proofs.Opening.Words.{cells_more, count_more}
use Rattle.ol_wire.proofs.net_words.put_cells.Goals as goal

pub loop-node-preserved : goal.loop-node-preserved
loop-node-preserved c =
    let up : c.loop-node.node + 1 ≡ suc c.loop-node.node = omega arith in (
      cells_more c.args.net.now c.args.parts
          (pair_at c.args.net.now) c.args.words.now.items c.loop-node.words.items
          c.put_cell.new.words.items c.loop-node.node
          (c.loop-node.node + 1) up c.loop-node.invariant.0 c.in_ok-cells.ensures.added,
      count_more (pair_at c.args.net.now) c.loop-node.node
          (c.loop-node.node + 1) c.loop-node.cells c.in_ok-cells.field-0 up c.loop-node.invariant.1
          c.in_ok-cells.ensures.cells,
      omega (arith, c.loop-node.invariant.2, c.in_ok-cells.ensures.few),
    )
