-- The answer of `tree`.
use Rattle.std.specs.Prelude.{◌≡◌, ℕ, ◌<◌, ◌≤◌, ◌⊎◌, false, true, List, [], ◌++◌, length, codes}
use Rattle.ol_term.specs.declared.translations.Translation.{Translation}
use Rattle.ol_term.specs.Trees.{Tree}
use Rattle.ol_net.specs.Graph.{Graph}
use Rattle.ol_readback.specs.Texts.{IsTextOf}
use Rattle.ol_readback.specs.Whole.{Part, preorder}
use Rattle.ol_readback.specs.declared.answers.ReadNode.{ReadNode}
use Rattle.ol_law_meaning.specs.Shows.{LacksHead, Shows}
use Rattle.ol_subjects.specs.declared.answers.End.{End}
use Rattle.ol_subjects.specs.declared.answers.End.TheVariants.{Yes, No, Refused}
use Rattle.ol_subjects.specs.Subjects.{IsTerm, IsNetOfTerm, RefusesTerm}
use Rattle.ol_decoding.specs.Parts.{IsBoehmTree}

-- The places show the term: head reduction leads from it to the head at its place, and from the arguments there to the
-- heads below.
abbrev pub ShowTerm : List ReadNode → Tree → Type 0
ShowTerm ns t = (T : Part true) → preorder T ≡ ns → Shows false [] 0 T t

-- No place lacks a head, and there are no more places than this, where those that are too deep count too. So each part
-- that is less deep was asked, and has a head.
abbrev pub AreAllTold : ℕ → List ReadNode → Type 0
AreAllTold heads ns = (LacksHead ns → ⊥) × (length ns ≤ heads)

-- whether they are
pub data TellsAll (heads : ℕ) (ns : List ReadNode) : End → Type 0 where
  all : AreAllTold heads ns → TellsAll heads ns Yes
  lacking : LacksHead ns ⊎ (heads < length ns) → TellsAll heads ns No

-- the tree of this net, whose free ports have these names, as a line
pub record TellsParts (net : Graph) (names : List (List ℕ)) (depth heads fuel : ℕ) (ns : List ReadNode) (text : List ℕ)
    (e : End) : Type 0 where
  pub tree : IsBoehmTree net depth heads fuel ns
  pub printed : List ℕ
  pub spelled : IsTextOf names ns printed
  pub line : text ≡ printed ++ codes "\n"
  pub end : TellsAll heads ns e

-- the answer to a file
pub data IsTreeAnswer (bytes : List ℕ) (translation : Translation) (depth heads fuel : ℕ) (text : List ℕ) : End → Type 0 where
  refused : RefusesTerm translation bytes text → IsTreeAnswer bytes translation depth heads fuel text Refused
  told : {t : Tree} {names : List (List ℕ)} {net : Graph} {ns : List ReadNode} {e : End} →
      IsTerm translation bytes t names → IsNetOfTerm translation t names net →
      TellsParts net names depth heads fuel ns text e → ShowTerm ns t →
      IsTreeAnswer bytes translation depth heads fuel text e
