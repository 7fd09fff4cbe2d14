-- The laws of the line on which a tree is printed.
use Rattle.std.specs.Prelude.{◌≡◌, ℕ, List, ◌∷◌, ◌++◌}
use Rattle.ol_parse.specs.Grammar.{Named}
use Rattle.ol_parse.specs.Texts.{IsLine, IsText}
use Rattle.ol_parse.specs.Parsed.{AreNames}
use Rattle.ol_readback.specs.Terms.{HasAllHeads}
use Rattle.ol_readback.specs.Texts.{IsTextOf}
use Rattle.ol_readback.specs.declared.answers.ReadNode.{ReadNode}
use Rattle.ol_law_meaning.specs.Shows.{LacksHead}

-- the text of a tree is one line
abbrev pub TextIsOneLine : Type 0
TextIsOneLine = (names : List (List ℕ)) (ns : List ReadNode) (text : List ℕ) →
    AreNames names → IsTextOf names ns text → IsLine text

-- where it is a text of the grammar, each place has a head
abbrev pub HolesAreNoText : Type 0
HolesAreNoText = (names : List (List ℕ)) (ns : List ReadNode) (text : List ℕ) →
    AreNames names → IsTextOf names ns text → (t : Named) → IsText text t → HasAllHeads ns

-- where the byte `?` stands in it, some place has no head
abbrev pub QuestionIsLost : Type 0
QuestionIsLost = (names : List (List ℕ)) (ns : List ReadNode) (text : List ℕ) →
    AreNames names → IsTextOf names ns text →
    (before after : List ℕ) → text ≡ before ++ 63 ∷ after → LacksHead ns
