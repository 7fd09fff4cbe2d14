-- What holds of encodings.
use Rattle.std.specs.Prelude.{◌≡◌, ℕ, List}
use Rattle.ol_term.specs.Trees.{Tree}
use Rattle.ol_decoding.specs.Values.{Value, Fits, rank, church_term, scott_term}
use Rattle.ol_decoding.specs.Told.{IsTold}

-- a term is the Church numeral of one number at most, and so is it with Scott numerals
abbrev pub NumeralIsOne : Type 0
NumeralIsOne = (m n : ℕ) → (church_term m ≡ church_term n → m ≡ n) × (scott_term m ≡ scott_term n → m ≡ n)

-- a term has one value of each encoding at most
abbrev pub ValueIsOne : Type 0
ValueIsOne = (t : Tree) (v w : Value) → Fits t v → Fits t w → rank v ≡ rank w → v ≡ w

-- and so what is told of it is one text
abbrev pub ToldIsOne : Type 0
ToldIsOne = (t : Tree) (number x y : List ℕ) → IsTold number t x → IsTold number t y → x ≡ y
