-- Private: how a walk of leftmost steps ends, and how its end is compared with a tree's term.
use Rattle.std.specs.Prelude.{ℕ, ◌≤◌, List}
use Rattle.ol_term.specs.Trees.{Tree, tree_of, depth}
use Rattle.ol_readback.specs.declared.answers.ReadNode.{ReadNode}
use Rattle.ol_beta.specs.TreeTerms.{IsTermOf}
use Rattle.ol_beta.specs.declared.certifying.Verdict.{Verdict}
use Rattle.ol_beta.specs.declared.walking.End as walking
use Rattle.ol_beta.specs.declared.walking.End.TheVariants as end
use Rattle.ol_beta.specs.Verdicts.{IsNormalForm, IsPastAt, IsShort, IsVerdict}
use Rattle.ol_limits.specs.Limits.{most_depth}

-- where leftmost reduction ends
abbrev pub IsEnd : Tree → ℕ → walking.End → Type 0
IsEnd t most (end.Past step size deep) = IsPastAt t most step size deep
IsEnd t most end.Short = IsShort t most
IsEnd t most (end.Normal road term) = IsNormalForm t most road (tree_of term)

-- what an end says of the tree's term
abbrev pub IsCompared : walking.End → Tree → Verdict → Type 0
IsCompared e u v = (t : Tree) (ns : List ReadNode) (most : ℕ) → IsEnd t most e → IsTermOf ns u →
    depth u ≤ most_depth → IsVerdict t ns most v
