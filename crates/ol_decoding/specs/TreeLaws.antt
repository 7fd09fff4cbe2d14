-- What holds of these trees.
use Rattle.std.specs.Prelude.{ℕ, false, List}
use Rattle.ol_net.specs.Graph.{Graph}
use Rattle.ol_net.specs.Nets.{IsNet}
use Rattle.ol_net.specs.Numbered.{net_of}
use Rattle.ol_readback.specs.Sources.{HasHeadsOf}
use Rattle.ol_readback.specs.declared.answers.ReadNode.{ReadNode}
use Rattle.ol_decoding.specs.Parts.{IsBoehmTree}

-- Each head is that of its part in the net before any step, by paths of any length.
abbrev pub PartsHaveSourceHeads : Type 0
PartsHaveSourceHeads = (g : Graph) (depth heads fuel : ℕ) (ns : List ReadNode) → IsNet (net_of g) →
    IsBoehmTree g depth heads fuel ns → HasHeadsOf (net_of g) false ns
