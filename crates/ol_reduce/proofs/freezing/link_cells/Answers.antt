use Rattle.std.proofs.Common.{◌≤◌, length, arith}
use Rattle.ol_reduce.proofs.Arriving.{all_celled}
use Rattle.ol_reduce.proofs.Bounded.{events_few}
use Rattle.ol_reduce.proofs.Filled.{are_cells}
use Rattle.ol_reduce.proofs.freezing.link_cells.Goals as goal

pub link_cell-requires-clause-cells : goal.link_cell-requires-clause-cells
link_cell-requires-clause-cells c = are_cells c.args.words.now c.args.cells.now.items
    c.requires.cells (events_few c.args.words.now.plan.parts c.args.words.now.words)

pub returns-clause-after : goal.returns-clause-after
returns-clause-after c =
    let all : length c.args.cells.now.items ≤ c.loop-k.k = omega
    (arith, c.loop-k-test.false, c.len-k-end.ensures, c.args.cells.now.ok) in (
      c.loop-k.invariant.1,
      all_celled c.args.words.now c.args.live.now.places.items c.args.live.now.numbers.items
          c.requires.live c.stands.ensures.stands c.loop-k.draft.partners.items
          c.args.cells.now.items c.loop-k.k c.requires.cells all c.undrawn.ensures.empty
          c.loop-k.invariant.2,
    )
