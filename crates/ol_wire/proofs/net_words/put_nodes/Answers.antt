use Rattle.std.proofs.Common.{arith, ◌+◌, suc, ◌≡◌}
use Rattle.ol_wire.specs.LaidWords.{field_row}
use Rattle.ol_wire.proofs.Opening.Words.{added_more, fields_step, wires_step}
use Rattle.ol_wire.proofs.net_words.put_nodes.Goals as goal

pub loop-node-preserved : goal.loop-node-preserved
loop-node-preserved c =
    let up : c.loop-node.node + 1 ≡ suc c.loop-node.node = omega arith in (
      added_more (field_row c.args.net.now c.args.parts) c.args.words.now.items
          c.loop-node.words.items c.put_node.new.words.items c.loop-node.node
          (c.loop-node.node + 1) up c.loop-node.invariant.0 c.in_ok-wires.ensures.added,
      wires_step c.args.net.now c.loop-node.node
          (c.loop-node.node + 1) c.in_ok-wires.wires up c.in_ok-wires.ensures.wires,
      fields_step c.args.net.now c.args.parts c.put_node.new.words.items c.loop-node.node
          (c.loop-node.node + 1) up c.in_ok-wires.ensures.before,
    )
