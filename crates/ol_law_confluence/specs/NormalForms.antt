-- Which term with names is the normal form of another.
use Rattle.std.specs.Prelude.{◌≡◌, ℕ, List, [], ◌∷◌, ◌++◌}
use Rattle.ol_term.specs.Trees.{Tree}
use Rattle.ol_parse.specs.Grammar.{Named}
use Rattle.ol_parse.specs.Numbered.{names_of, numbered}
use Rattle.ol_parse.specs.Texts.{IsLine, IsText}
use Rattle.ol_beta.specs.Leftmost.{IsNormal}
use Rattle.ol_readback.specs.Terms.{AreAmong}
use Rattle.ol_law_meaning.specs.Shows.{BetaReduces, LeftmostReduces}
use Rattle.ol_law_confluence.specs.Reductions.{Convertible}
use Rattle.ol_law_confluence.specs.Compared.{by_bytes}

-- v is the normal form of t: leftmost reduction leads there, each reduct of t reduces to it, and no
-- other reduct of t is normal.
pub record IsNormalForm (t v : Tree) : Type 0 where
  pub leftmost : LeftmostReduces t v
  pub is_normal : IsNormal v
  pub every_reduct : (u : Tree) → BetaReduces t u → BetaReduces u v
  pub only : (u : Tree) → BetaReduces t u → IsNormal u → u ≡ v

-- a term with names as a tree, in which a free name is its place among the source's
abbrev pub by_names_of : Named → Named → Tree
by_names_of source t = numbered (names_of source) [] t

-- Beta reduction leads from the source to the result, in which nothing is left to reduce: so this is
-- a normal form of the source, of which there is one at most (law `normal_form_is_one`). Its free
-- names are among the source's.
abbrev pub IsReducedTo : Named → Named → Type 0
IsReducedTo source result = AreAmong (names_of source) (names_of result)
    × BetaReduces (by_names_of source source) (by_names_of source result)
    × IsNormal (by_names_of source result)

-- The text begins with a line; and where this line is a text of a term, the source is reduced to it.
abbrev pub BeginsReduced : Named → List ℕ → Type 0
BeginsReduced source text = (line rest : List ℕ) × IsLine line × (text ≡ line ++ 10 ∷ rest)
    × ((result : Named) → IsText line result → IsReducedTo source result)

-- The result is the normal form of the source. Its free names are among the source's.
abbrev pub IsNormalFormOf : Named → Named → Type 0
IsNormalFormOf source result = AreAmong (names_of source) (names_of result)
    × IsNormalForm (by_names_of source source) (by_names_of source result)

-- no reduct of the source is normal
abbrev pub HasNoNormalForm : Named → Type 0
HasNoNormalForm source = (u : Tree) → BetaReduces (by_names_of source source) u → IsNormal u → ⊥

-- the two are convertible, where each free name has the number of its bytes
abbrev pub AreConvertible : Named → Named → Type 0
AreConvertible t u = Convertible (by_bytes (names_of t) (by_names_of t t))
    (by_bytes (names_of u) (by_names_of u u))
