-- The laws of printed texts.
use Rattle.std.specs.Prelude.{◌≡◌, ℕ, ◌<◌, ◌^◌, List, length, true}
use Rattle.ol_term.specs.NameLists.{NoNameTwice}
use Rattle.ol_term.specs.BinderNames.{binder_name}
use Rattle.ol_parse.specs.Texts.{IsName}
use Rattle.ol_parse.specs.Parsed.{AreNames}
use Rattle.ol_readback.specs.Whole.{Part, preorder, IsWholeTree}
use Rattle.ol_readback.specs.Texts.{AreNamed, IsTextOf}
use Rattle.ol_readback.specs.Terms.{HasAllHeads, IsReadBack}
use Rattle.ol_readback.specs.declared.answers.ReadNode.{ReadNode}

-- a list is that of one tree at most
abbrev pub ListIsOfOneTree : Type 0
ListIsOfOneTree = (s t : Part true) → preorder s ≡ preorder t → s ≡ t

-- the name of a binder is a name of the grammar
abbrev pub BinderIsName : Type 0
BinderIsName = (names : List (List ℕ)) (t : ℕ) → length names < 2 ^ 32 → t < 2 ^ 64 → IsName (binder_name names t)

-- The text of a tree without NoHead and Cut, whose free names are names of the grammar and differ,
-- is a text of the tree's term.
-- The names are fewer than 2 ^ 32, and the text has fewer than 2 ^ 64 bytes.
abbrev pub PrintedIsRead : Type 0
PrintedIsRead = (names : List (List ℕ)) (ns : List ReadNode) (text : List ℕ) → AreNames names →
    NoNameTwice names → length names < 2 ^ 32 → length text < 2 ^ 64 →
    AreNamed (length names) ns → IsWholeTree ns → HasAllHeads ns → IsTextOf names ns text → IsReadBack names ns text
