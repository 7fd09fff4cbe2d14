-- What a source handed over: the readings of the names that were begun, the last one first.
use Rattle.std.specs.Prelude.{◌≡◌, ℕ, Bool, true, false, List, [], ◌∷◌, ◌++◌, length, take, ◌==◌}
use Rattle.std.specs.Prelude.{◌&&◌, if◌then◌else◌, Option, None, Some, ⊤, Result, IfOk}
use Rattle.std.specs.Str.{bytes_eq}
use Rattle.std.specs.declared.vec.Vec.{Vec}
use Rattle.std.specs.declared.alloc.Global.{Global}
use Rattle.ol_io.specs.declared.outside.Got.{Got}
use Rattle.ol_io.specs.declared.outside.Got.TheVariants.{Bytes as GotBytes, End as GotEnd, Failed as GotFailed}

-- One reading: the name that was begun, the bytes that reads gave of it since, in order, and whether its end was seen.
pub record Reading : Type 0 where
  pub name : List ℕ
  pub bytes : List ℕ
  pub ended : Bool

abbrev pub reading : (name bytes : List ℕ) → Bool → Reading
reading name bytes ended = record { name = name; bytes = bytes; ended = ended }

-- a name that was just begun
abbrev pub begun : List ℕ → Reading
begun name = reading name [] false

-- The last reading grows by these bytes.
abbrev pub gave : List ℕ → List Reading → List Reading
gave bytes [] = []
gave bytes (r ∷ rs) = reading r.name (r.bytes ++ bytes) r.ended ∷ rs

-- The end of the last reading is seen, where this says so.
abbrev pub closed : Bool → List Reading → List Reading
closed false rs = rs
closed true [] = []
closed true (r ∷ rs) = reading r.name r.bytes true ∷ rs

-- what a read makes of the readings: the bytes that it put into the front of the buffer are the last reading's next
abbrev pub after_got : Got → List ℕ → List Reading → List Reading
after_got (GotBytes n) buf rs = gave (take n buf) rs
after_got GotEnd buf rs = closed true rs
after_got GotFailed buf rs = rs

-- ---- readings of files with these bytes

-- These bytes were read of a file: all of its bytes where its end was seen, else its first.
abbrev pub IsFrontOf : Bool → (bytes all : List ℕ) → Type 0
IsFrontOf true bytes all = bytes ≡ all
IsFrontOf false bytes all = (rest : List ℕ) × (all ≡ bytes ++ rest)

-- the same, where the bytes of the file are told
abbrev pub IsReadOf : Option (List ℕ) → Bool → List ℕ → Type 0
IsReadOf None ended bytes = ⊤
IsReadOf (Some all) ended bytes = IsFrontOf ended bytes all

-- Each reading is of the file of its name, as that was at this reading. The first reading has the number 0.
abbrev pub AreOf : (files : ℕ → List ℕ → Option (List ℕ)) → List Reading → Type 0
AreOf files [] = ⊤
AreOf files (r ∷ rs) = IsReadOf (files (length rs) r.name) r.ended r.bytes × AreOf files rs

-- Each reading that was made between is, the first of these having the number 0.
abbrev pub AreOfSince : (files : ℕ → List ℕ → Option (List ℕ)) → (old new : List Reading) → Type 0
AreOfSince files old new = (rs : List Reading) × (new ≡ rs ++ old) × AreOf files rs

-- The files that these readings make: at each reading the file of its name has the bytes that it
-- gave. Nothing else has any.
abbrev pub handed : List Reading → ℕ → List ℕ → Option (List ℕ)
handed [] n name = Some []
handed (r ∷ rs) n name = if (n == length rs) && bytes_eq r.name name then Some r.bytes else handed rs n name

-- One reading was made: of this name, of so many bytes, to its end or not; and these bytes are answered, if any are.
pub record HandsOver {E : Type 0} (name : List ℕ) (given : ℕ) (ended : Bool)
    (old new : List Reading) (result : Result (Vec ℕ Global) E) : Type 0 where
  pub bytes : List ℕ
  pub grown : new ≡ reading name bytes ended ∷ old
  pub counted : length bytes ≡ given
  pub answered : IfOk result (λ v. v.items ≡ bytes)
