-- Private: words of private contracts alone: what comes of one of two files that are compared, and
-- of the second once the first is read back.
use Rattle.std.specs.Prelude.{◌≡◌, ◌≢◌, ℕ, List, length, None}
use Rattle.ol_term.specs.Trees.{Tree}
use Rattle.ol_readback.specs.Texts.{AreNamed}
use Rattle.ol_readback.specs.declared.answers.ReadNode.{ReadNode}
use Rattle.ol_equal.specs.Comparing.{IsComparison}
use Rattle.ol_equal.specs.Texts.{compared_text}
use Rattle.ol_equal.specs.declared.answers.Compared.{Compared}
use Rattle.ol_words.specs.Texts.{Text}
use Rattle.ol_cli.specs.declared.commands.equal.Side.{Side}
use Rattle.ol_cli.specs.declared.commands.equal.Side.TheVariants.{Refused, Read}
use Rattle.ol_cli.specs.declared.numbers.RunNumbers.{RunNumbers}
use Rattle.ol_cli.specs.declared.status.Status.{Status}
use Rattle.ol_cli.specs.declared.status.Status.TheVariants as status
use Rattle.ol_cli.specs.Texts.{line}
use Rattle.ol_cli.specs.Run.{ReadsLast}
use Rattle.ol_cli.specs.Inside.{run_on}
use Rattle.ol_cli.specs.TermFiles.{IsTermFile}
use Rattle.ol_cli.specs.Answers.{Seen}
use Rattle.ol_cli.specs.Cases.{GaveAll, FileCause}

-- the bytes are a text of a term with these free names, and this tree is read of it
pub record IsReadOf (n : RunNumbers) (bytes : List ℕ) (names : List (List ℕ)) (tree : List ReadNode) : Type 0 where
  pub term : Tree
  pub file : IsTermFile n.translation bytes term names
  pub read : ReadsLast n.translation term names n.fuel.most n.heads.most tree

-- what comes of a file
abbrev pub ComesOfSide : RunNumbers → Seen → Text → Side → Type 0
ComesOfSide n s name (Refused answer) =
    (answer.status ≢ status.Done) × FileCause (run_on n name) s answer.status answer.text.items × (answer.closed ≡ None)
ComesOfSide n s name (Read tree names) =
    (s.faults' ≡ s.faults) × ((bytes : List ℕ) × GaveAll s name bytes × IsReadOf n bytes names tree)
    × AreNamed (length names) tree

-- what comes of the second file, against the tree and the names of the first
pub data EndsSecond (n : RunNumbers) (tree : List ReadNode) (names : List (List ℕ)) (s : Seen)
    (name : Text) (st : Status) (text : List ℕ) : Type 0 where
  refused : st ≢ status.Done → FileCause (run_on n name) s st text → EndsSecond n tree names s name st text
  compared : s.faults' ≡ s.faults → {bytes : List ℕ} → GaveAll s name bytes →
      {others : List (List ℕ)} → {other : List ReadNode} → IsReadOf n bytes others other → (c : Compared) →
      IsComparison (record { a = names; b = others }) tree other c → st ≡ status.Done →
      text ≡ line (compared_text c) → EndsSecond n tree names s name st text
