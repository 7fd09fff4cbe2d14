-- What is told of a term: the values that fit it, and those that fit the parts of these values, and so on.
use Rattle.std.specs.Prelude.{◌≡◌, ℕ, ◌+◌, true, false, List, [], ◌∷◌, ◌++◌, length, codes}
use Rattle.std.specs.Fmt.{decimal}
use Rattle.std.specs.List.{flat_map}
use Rattle.ol_term.specs.Trees.{Tree}
use Rattle.ol_decoding.specs.Values.{Value, AreAllOf, parts_of}
use Rattle.ol_decoding.specs.Values as value

-- the words for a value
abbrev pub words_of : Value → List ℕ
words_of (value.boolean true) = codes "true"
words_of (value.boolean false) = codes "false"
words_of (value.church n) = codes "Church numeral " ++ decimal n
words_of (value.list ts) = codes "list of " ++ decimal (length ts)
words_of (value.pair a b) = codes "pair"
words_of (value.scott n) = codes "Scott numeral " ++ decimal n

-- a line, behind the number of the part of which it is told
abbrev pub line : List ℕ → List ℕ → List ℕ
line number words = number ++ words ++ codes "\n"

-- a line for each value that fits, or that there is none
abbrev pub lines : List ℕ → List Value → List ℕ
lines number [] = line number (codes "no encoding fits")
lines number (v ∷ vs) = flat_map (λ v. line number (words_of v)) (v ∷ vs)

-- The number of part k within a part of this number. Parts are counted from 1: the second part of the first one has
-- the number `1: 2: `, and the whole term has none.
abbrev pub within : List ℕ → ℕ → List ℕ
within number k = number ++ decimal k ++ codes ": "

-- What is told of the parts, from part k on, of a part of this number: of each the values that fit it, and then the
-- same of the parts in these values.
pub data AreTold : List ℕ → ℕ → List Tree → List ℕ → Type 0 where
  none : {number : List ℕ} {k : ℕ} → AreTold number k [] []
  more : {number : List ℕ} {k : ℕ} {t : Tree} {ts : List Tree} {vs : List Value} {inside rest : List ℕ} →
      AreAllOf t vs → AreTold (within number k) 1 (flat_map parts_of vs) inside → AreTold number (k + 1) ts rest →
      AreTold number k (t ∷ ts) (lines (within number k) vs ++ inside ++ rest)

-- the same of a term that has this number
pub record IsTold (number : List ℕ) (t : Tree) (text : List ℕ) : Type 0 where
  pub values : List Value
  pub all : AreAllOf t values
  pub inside : List ℕ
  pub parts : AreTold number 1 (flat_map parts_of values) inside
  pub is : text ≡ lines number values ++ inside

-- some value fits a term
abbrev pub SomeFits : Tree → Type 0
SomeFits t = (v : Value) × value.Fits t v
