-- Private: the machine that the code's tables hold.
use Rattle.std.specs.Prelude.{◌<◌, map, reverse, length}
use Rattle.ol_term.specs.Trees.{tree_of}
use Rattle.ol_counts.specs.declared.need.Link as links
use Rattle.ol_counts.specs.declared.need.Weak as weaks
use Rattle.ol_counts.specs.declared.need.Weak.TheVariants as weak
use Rattle.ol_counts.specs.declared.need.Cell as cells
use Rattle.ol_counts.specs.declared.need.Cell.TheVariants as cell
use Rattle.ol_counts.specs.declared.need.Frame as frames
use Rattle.ol_counts.specs.declared.need.Frame.TheVariants as frame
use Rattle.ol_counts.specs.declared.need.Control as controls
use Rattle.ol_counts.specs.declared.need.Control.TheVariants as control
use Rattle.ol_counts.specs.declared.need.Reducer as reducers
use Rattle.ol_counts.specs.Machines as machine
use Rattle.ol_counts.specs.Machines.{Machine}

abbrev pub link_of : links.Link → machine.Link
link_of link = record { cell = link.cell; behind = link.behind }

abbrev pub weak_of : weaks.Weak → machine.Weak
weak_of (weak.Function body environment) = machine.function (tree_of body.now) environment
weak_of (weak.Name arguments) = machine.name arguments

abbrev pub cell_of : cells.Cell → machine.Cell
cell_of (cell.Waits t environment) = machine.waits (tree_of t.now) environment
cell_of (cell.Has w) = machine.has (weak_of w)

abbrev pub frame_of : frames.Frame → machine.Frame
frame_of (frame.Argument at) = machine.argument at
frame_of (frame.Write at) = machine.write at

abbrev pub control_of : controls.Control → machine.Control
control_of (control.Goes t environment) = machine.goes (tree_of t.now) environment
control_of (control.Came w) = machine.came (weak_of w)

abbrev pub machine_of : reducers.Reducer → Machine
machine_of r = record {
  control = control_of r.control;
  stack = reverse (map frame_of r.stack.items);
  left = reverse r.left.items;
  cells = map cell_of r.cells.items;
  links = map link_of r.links.items;
  steps = r.steps;
}

-- there is room for one more cell, link and step
abbrev pub HasRoom : Machine → Type 0
HasRoom m = (length m.cells < 4294967295) × (length m.links < 4294967295) × (m.steps < 4294967295)
