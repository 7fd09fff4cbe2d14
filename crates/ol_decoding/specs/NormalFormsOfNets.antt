-- Private: what is made of a net, and of a tree whose term is too deep.
use Rattle.std.specs.Prelude.{◌≡◌, ℕ, Bool, true, false, List, [], ◌++◌, codes, Option, Some, None}
use Rattle.std.specs.Fmt.{decimal}
use Rattle.ol_net.specs.Graph.{Graph}
use Rattle.ol_net.specs.Numbered.{net_of}
use Rattle.ol_readback.specs.Sources.{HasHeadsOf}
use Rattle.ol_readback.specs.declared.answers.ReadNode.{ReadNode}
use Rattle.ol_demand.specs.Answers.{start_of}
use Rattle.ol_demand.specs.Demands.{HasMoreSteps}
use Rattle.ol_subjects.specs.declared.answers.End.{End}
use Rattle.ol_subjects.specs.declared.answers.End.TheVariants.{No}
use Rattle.ol_beta.specs.TreeTerms.{IsTermOf}
use Rattle.ol_decoding.specs.Values.{church_term}
use Rattle.ol_decoding.specs.Told.{line}
use Rattle.ol_decoding.specs.Numerals.{IsNumeralOf}
use Rattle.ol_decoding.specs.Shown.{IsDemanded, TellsTree, fuel_line, deep_line}

-- the answer for a net whose free ports have these names
pub data TellsNet (net : Graph) (names : List (List ℕ)) (fuel heads : ℕ) (text : List ℕ) : End → Type 0 where
  goes_on : HasMoreSteps (start_of net) heads fuel → text ≡ fuel_line fuel → TellsNet net names fuel heads text No
  ends : {ns : List ReadNode} {e : End} → IsDemanded net heads fuel ns → HasHeadsOf (net_of net) false ns →
      TellsTree names ns text e → TellsNet net names fuel heads text e

-- the line of a term that is too deep to be built, by its number if it is a Church numeral
abbrev pub deep_text : ℕ → Option ℕ → List ℕ
deep_text d (Some n) = line [] (codes "Church numeral " ++ decimal n)
deep_text d None = deep_line d

-- what is told of a tree whose term is too deep, and whether it fits
pub data TellsDeep (ns : List ReadNode) (d : ℕ) (text : List ℕ) : Bool → Type 0 where
  numeral : (n : ℕ) → IsTermOf ns (church_term n) → text ≡ deep_text d (Some n) → TellsDeep ns d text true
  other : IsNumeralOf ns None → text ≡ deep_text d None → TellsDeep ns d text false
