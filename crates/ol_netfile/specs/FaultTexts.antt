-- The words of what is wrong with a text: lines are counted from 1, nodes and links from 0.
use Rattle.std.specs.Prelude.{ℕ, List, [], ◌++◌, codes}
use Rattle.std.specs.Fmt.{decimal}
use Rattle.ol_net.specs.declared.parts.BuildFault.{BuildFault}
use Rattle.ol_net.specs.declared.parts.BuildFault.TheVariants as build
use Rattle.ol_net.specs.PartTexts.{port_text}
use Rattle.ol_netfile.specs.declared.faults.NetFault.{NetFault}
use Rattle.ol_netfile.specs.declared.faults.NetFault.TheVariants as fault

abbrev pub build_text : BuildFault → List ℕ
build_text (build.BadIndex node) = codes "bad index at node " ++ decimal node
build_text (build.BadPort link) = codes "bad port at link " ++ decimal link
build_text (build.Twice link) = codes "port twice at link " ++ decimal link
build_text (build.Loose port) = codes "loose port " ++ port_text port
build_text build.NoMemory = []

-- want of memory is no fault of the text, and has no words
abbrev pub fault_text : NetFault → List ℕ
fault_text (fault.BadText line) = codes "bad net at line " ++ decimal line
fault_text (fault.Build f) = build_text f
fault_text fault.NoMemory = []
