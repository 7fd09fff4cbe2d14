-- What a text is parsed to.
use Rattle.std.specs.Prelude.{◌≡◌, ℕ, ◌<◌, List, [], ◌∷◌}
use Rattle.ol_limits.specs.Limits.{most_depth}
use Rattle.ol_term.specs.Trees.{Tree, depth}
use Rattle.ol_parse.specs.Grammar.{Named}
use Rattle.ol_parse.specs.Texts.{IsName, IsText}
use Rattle.ol_parse.specs.Numbered.{names_of, number}

-- the bytes are a text of a term with names, and this is its tree with its free names
pub record IsFileOf (bytes : List ℕ) (t : Tree) (names : List (List ℕ)) : Type 0 where
  pub named : Named
  pub text : IsText bytes named
  pub tree : t ≡ number named
  pub free_names : names ≡ names_of named

-- the bytes are a text of a term of this depth, which is above 1,000
pub record IsTooDeep (bytes : List ℕ) (d : ℕ) : Type 0 where
  pub tree : Tree
  pub names : List (List ℕ)
  pub file : IsFileOf bytes tree names
  pub is : d ≡ depth tree
  pub above : most_depth < d

abbrev pub AreNames : List (List ℕ) → Type 0
AreNames [] = Unit {0}
AreNames (x ∷ xs) = IsName x × AreNames xs

-- a text has one tree and one list of names
abbrev pub OneFile : Type 0
OneFile = (bytes : List ℕ) (t u : Tree) (names others : List (List ℕ)) →
    IsFileOf bytes t names → IsFileOf bytes u others → (t ≡ u) × (names ≡ others)
