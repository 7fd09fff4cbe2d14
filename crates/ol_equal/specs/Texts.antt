-- The words of a comparison, and of a path.
use Rattle.std.specs.Prelude.{ℕ, List, [], ◌∷◌, ◌++◌, codes}
use Rattle.std.specs.Fmt.{decimal}
use Rattle.std.specs.List.{join_by}
use Rattle.ol_equal.specs.declared.answers.Compared.{Compared}
use Rattle.ol_equal.specs.declared.answers.Compared.TheVariants as answer

-- `root`, or the numbers with one dot between two
abbrev pub path_text : List ℕ → List ℕ
path_text [] = codes "root"
path_text (n ∷ ns) = join_by decimal (codes ".") (n ∷ ns)

abbrev pub compared_text : Compared → List ℕ
compared_text answer.Equal = codes "equal"
compared_text (answer.Different path) = codes "different at " ++ path_text path
compared_text (answer.Cut path) = codes "cut at " ++ path_text path
