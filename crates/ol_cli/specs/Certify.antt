-- `certify`: what leftmost reduction of a term says of the tree that `run` reads of it, and the texts of verdicts.
use Rattle.std.specs.Prelude.{List, [], codes, length, ℕ, ◌++◌, ◌∷◌, ◌≡◌, ◌<◌, ◌≤◌, None, IsSome}
use Rattle.ol_beta.specs.Beta.{IsWithin}
use Rattle.ol_beta.specs.Leftmost.{leftmost}
use Rattle.ol_beta.specs.Roads.{RoadLeads}
use Rattle.ol_beta.specs.TreeTerms.{IsFirstHole, IsTermOf}
use Rattle.ol_beta.specs.declared.certifying.Verdict.{Verdict}
use Rattle.ol_readback.specs.declared.answers.ReadNode.{ReadNode}
use Rattle.ol_limits.specs.Limits.{most_depth}
use Rattle.ol_term.specs.Trees.{Tree, depth}
use Rattle.ol_term.specs.declared.translations.Translation.{Translation}
use Rattle.ol_cli.specs.Run.{ReadsLast}
use Rattle.ol_cli.specs.Texts.{count_line, line}
use Rattle.ol_beta.specs.declared.certifying.Verdict.TheVariants as verdict
use Rattle.ol_beta.specs.AddressTexts.{address_text}

-- a line for each address
abbrev pub addresses_text : List (List ℕ) → List ℕ
addresses_text [] = []
addresses_text (at ∷ road) = line (address_text at) ++ addresses_text road

-- a word, how many steps a road has, and where they are made
abbrev pub road_text : List ℕ → List (List ℕ) → List ℕ
road_text word road = line word ++ count_line (codes "steps") (length road) ++ addresses_text road

-- a verdict by at most `steps` steps
abbrev pub verdict_text : (steps : ℕ) → Verdict → List ℕ
verdict_text steps (verdict.NotWhole place) = line (codes "incomplete")
verdict_text steps (verdict.Deep depth) = count_line (codes "deep") depth
verdict_text steps (verdict.Past step size depth) = count_line (codes "past at step") step
verdict_text steps verdict.Short = count_line (codes "beta steps") steps
verdict_text steps (verdict.Differs road) = road_text (codes "differs") road
verdict_text steps (verdict.Agreed road) = road_text (codes "agreed") road

-- What is written of leftmost reduction of t, by at most `steps` steps, and of the tree that `run` prints: the
-- tree has a part without a head; its term is too deep; the reduction leads to a term that is too large, or isn't
-- at its end after so many steps; or its normal form is the tree's term. No two of these fit at once.
pub data IsVerdictText (t : Tree) (tree : List ReadNode) (steps : ℕ) (text : List ℕ) : Type 0 where
  incomplete : (place : ℕ) → IsFirstHole tree place → text ≡ line (codes "incomplete") → IsVerdictText t tree steps text
  deep : {u : Tree} → IsTermOf tree u → most_depth < depth u → text ≡ count_line (codes "deep") (depth u) →
      IsVerdictText t tree steps text
  past : {u : Tree} (v : Tree) (road : List (List ℕ)) → IsTermOf tree u → depth u ≤ most_depth →
      RoadLeads t road v → length road ≤ steps → (IsWithin v → ⊥) →
      text ≡ count_line (codes "past at step") (length road) → IsVerdictText t tree steps text
  short : {u : Tree} (v : Tree) (road : List (List ℕ)) → IsTermOf tree u → depth u ≤ most_depth →
      RoadLeads t road v → steps ≡ length road → IsWithin v → IsSome (leftmost v) →
      text ≡ count_line (codes "beta steps") steps → IsVerdictText t tree steps text
  agreed : {u : Tree} (road : List (List ℕ)) → IsTermOf tree u → depth u ≤ most_depth →
      RoadLeads t road u → length road ≤ steps → IsWithin u → leftmost u ≡ None →
      text ≡ road_text (codes "agreed") road → IsVerdictText t tree steps text

-- The one-thread run ends within `fuel` steps, and the text is the verdict of leftmost reduction of the term, by
-- at most `steps` steps, on the tree that is read from its last net.
pub record Certifies (translation : Translation) (t : Tree) (names : List (List ℕ))
    (steps fuel heads : ℕ) (text : List ℕ) : Type 0 where
  pub tree : List ReadNode
  pub last : ReadsLast translation t names fuel heads tree
  pub written : IsVerdictText t tree steps text
