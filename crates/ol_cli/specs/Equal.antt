-- `equal`: the trees that are read back of two files, compared.
use Rattle.std.specs.Prelude.{List, ℕ, ◌≡◌}
use Rattle.ol_equal.specs.Comparing.{IsComparison}
use Rattle.ol_equal.specs.Texts.{compared_text}
use Rattle.ol_equal.specs.declared.answers.Compared.{Compared}
use Rattle.ol_readback.specs.declared.answers.ReadNode.{ReadNode}
use Rattle.ol_term.specs.Trees.{Tree}
use Rattle.ol_term.specs.declared.translations.Translation.{Translation}
use Rattle.ol_cli.specs.Run.{ReadsLast}
use Rattle.ol_cli.specs.TermFiles.{IsTermFile}
use Rattle.ol_cli.specs.Texts.{line}

-- The file's term is read back: its one-thread run ends within `fuel` steps, and this tree is read from its last net.
pub record HasTree (translation : Translation) (bytes : List ℕ) (fuel heads : ℕ) : Type 0 where
  pub term : Tree
  pub names : List (List ℕ)
  pub tree : List ReadNode
  pub file : IsTermFile translation bytes term names
  pub read : ReadsLast translation term names fuel heads tree

-- the line of the comparison of two such trees
abbrev pub Compares : {translation : Translation} {bytes bytes' : List ℕ} {fuel heads : ℕ} →
    HasTree translation bytes fuel heads → HasTree translation bytes' fuel heads → List ℕ → Type 0
Compares a b text = (compared : Compared) × IsComparison (record { a = a.names; b = b.names }) a.tree b.tree compared
    × (text ≡ line (compared_text compared))
