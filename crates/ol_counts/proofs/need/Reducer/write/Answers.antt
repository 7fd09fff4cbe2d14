use Rattle.std.proofs.Common.{List, ap}
use Rattle.std.proofs.lemmas.List.{map-set}
use Rattle.ol_counts.specs.declared.need.Cell.TheVariants as cell
use Rattle.ol_counts.specs.Machines.{Cell}
use Rattle.ol_counts.specs.HeldMachines.{cell_of, machine_of}
use Rattle.ol_counts.proofs.need.Reducer.write.Goals as goal

pub returns-then-at-len : goal.returns-then-at-len
returns-then-at-len c = ap (λ (cells : List Cell). record (machine_of c.args.self.now) { cells = cells })
    (map-set cell_of c.args.self.now.cells.items c.args.at (cell.Has c.args.weak))
