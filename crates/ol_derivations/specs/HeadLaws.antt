-- What holds of the texts of heads.
use Rattle.std.specs.Prelude.{◌≡◌, true, ℕ, ◌+◌, ◌<◌, ◌≤◌, ◌^◌, List, [], ◌∷◌, length, slice_index}
use Rattle.ol_parse.specs.Parsed.{AreNames}
use Rattle.ol_readback.specs.Terms.{HasAllHeads}
use Rattle.ol_readback.specs.Texts.{AreNamed, rounds}
use Rattle.ol_readback.specs.Whole.{Part, preorder, IsWholeTree}
use Rattle.ol_readback.specs.declared.answers.ReadNode.{ReadNode}
use Rattle.ol_equal.specs.Comparing.{TreeWithNames, Agree, place_at}
use Rattle.ol_derivations.specs.Heads.{all_names, lams_of, IsHeadText}

-- A whole tree whose free names are names of the grammar, and the text of its place k. So few binders stand round the
-- place and at it that each has a name: so it is where each head has fewer than 2 ^ 32 of them, in a tree of fewer than
-- 2 ^ 32 places.
pub record IsToldHead (all names : List (List ℕ)) (ns : List ReadNode) (k : ℕ) (text : List ℕ) : Type 0 where
  pub names_are : AreNames names
  pub named : AreNamed (length names) ns
  pub whole : IsWholeTree ns
  pub few : (tree : Part true) → preorder tree ≡ ns → slice_index (rounds 0 tree) k + lams_of (place_at ns k) ≤ 2 ^ 64
  pub is : IsHeadText all names ns k text

-- Two trees agree at each place before place k, and there both have a head. If the two heads have one text, they agree:
-- they have as many binders, the same variable, and as many arguments.
abbrev pub OneTextIsOneHead : Type 0
OneTextIsOneHead = (names : TreeWithNames) (a b : List ReadNode) (k : ℕ) (text : List ℕ) →
    length (all_names names) < 2 ^ 32 → ((j : ℕ) → j < k → Agree names (place_at a j) (place_at b j)) →
    HasAllHeads (place_at a k ∷ place_at b k ∷ []) → IsToldHead (all_names names) names.a a k text →
    IsToldHead (all_names names) names.b b k text → Agree names (place_at a k) (place_at b k)
