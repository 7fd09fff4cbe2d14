-- Private: what is made of a net.
use Rattle.std.specs.Prelude.{ℕ, false, List}
use Rattle.ol_net.specs.Graph.{Graph}
use Rattle.ol_net.specs.Numbered.{net_of}
use Rattle.ol_readback.specs.Sources.{HasHeadsOf}
use Rattle.ol_readback.specs.declared.answers.ReadNode.{ReadNode}
use Rattle.ol_subjects.specs.declared.answers.End.{End}
use Rattle.ol_decoding.specs.ToldTrees.{TellsParts}

-- the answer for a net whose free ports have these names, and heads of this net
pub record TellsNet (net : Graph) (names : List (List ℕ)) (depth heads fuel : ℕ) (text : List ℕ) (e : End)
    : Type 0 where
  pub places : List ReadNode
  pub tells : TellsParts net names depth heads fuel places text e
  pub right : HasHeadsOf (net_of net) false places
