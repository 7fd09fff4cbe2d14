-- `walk`: a term's untouched translation, read back.
use Rattle.std.specs.Prelude.{List, length, ℕ, ◌≡◌}
use Rattle.ol_readback.specs.ReadTrees.{IsTree}
use Rattle.ol_readback.specs.Texts.{IsTextOf}
use Rattle.ol_readback.specs.declared.answers.ReadNode.{ReadNode}
use Rattle.ol_term.specs.Trees.{Tree}
use Rattle.ol_term.specs.declared.translations.Translation.{Translation}
use Rattle.ol_translate.specs.Translation.{translation_of}
use Rattle.ol_cli.specs.Texts.{line}

-- The untouched translation is read back, each try by at most `edges` crossings, and this is its line.
pub record Walks (translation : Translation) (t : Tree) (names : List (List ℕ)) (edges heads : ℕ)
    (text : List ℕ) : Type 0 where
  pub tree : List ReadNode
  pub term : List ℕ
  pub read : IsTree (translation_of translation t (length names)) heads edges tree
  pub shown : IsTextOf names tree term
  pub written : text ≡ line term
