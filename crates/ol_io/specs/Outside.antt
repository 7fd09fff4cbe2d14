-- What the calls of a source and of a sink do, and what they leave.
use Rattle.std.specs.Prelude.{◌≡◌, ℕ, ◌+◌, ◌-◌, ◌^◌, ◌≤◌, ◌<◌, min, Bool, true, false, List, []}
use Rattle.std.specs.Prelude.{◌++◌, length, take, Option, None, Some, ⊤}
use Rattle.ol_io.specs.declared.outside.Begun.{Begun}
use Rattle.ol_io.specs.declared.outside.Begun.TheVariants.{Ready as BeginReady, Failed as BeginFailed}
use Rattle.ol_io.specs.declared.outside.Got.{Got}
use Rattle.ol_io.specs.declared.outside.Got.TheVariants.{Bytes as GotBytes, End as GotEnd, Failed as GotFailed}
use Rattle.ol_io.specs.declared.outside.Put.{Put}
use Rattle.ol_io.specs.declared.outside.Put.TheVariants.{Bytes as PutBytes, Failed as PutFailed}

-- The count of faults rose, or it stands at its last value.
pub record Rose (before now : ℕ) : Type 0 where
  pub no_fall : before ≤ now
  pub risen : min (before + 1) (2 ^ 64 - 1) ≤ now

-- a count that stops at its last value, after one more
abbrev pub next_count : ℕ → ℕ
next_count n = min (n + 1) (2 ^ 64 - 1)

abbrev pub begin_failed : Begun → Bool
begin_failed BeginReady = false
begin_failed BeginFailed = true

abbrev pub begin_ready : Begun → Bool
begin_ready BeginReady = true
begin_ready BeginFailed = false

abbrev pub read_failed : Got → Bool
read_failed (GotBytes n) = false
read_failed GotEnd = false
read_failed GotFailed = true

abbrev pub gave_bytes : Got → Bool
gave_bytes (GotBytes n) = true
gave_bytes GotEnd = false
gave_bytes GotFailed = false

abbrev pub at_end : Got → Bool
at_end (GotBytes n) = false
at_end GotEnd = true
at_end GotFailed = false

abbrev pub byte_count : Got → ℕ
byte_count (GotBytes n) = n
byte_count GotEnd = 0
byte_count GotFailed = 0

abbrev pub write_failed : Put → Bool
write_failed (PutBytes n) = false
write_failed PutFailed = true

-- A failed call has raised the count. In every other case the count stays.
abbrev pub Counts : Bool → ℕ → ℕ → Type 0
Counts true before now = Rose before now
Counts false before now = now ≡ before

-- `Ready` makes the bytes of the name the bytes left, and `Failed` leaves them.
abbrev pub Begins : Begun → Option (List ℕ) → Option (List ℕ) → Option (List ℕ) → Type 0
Begins BeginReady of_name old new = new ≡ of_name
Begins BeginFailed of_name old new = new ≡ old

-- The bytes left, where they are told, begin with this piece and lose it.
abbrev pub Consumed : Option (List ℕ) → List ℕ → Option (List ℕ) → Type 0
Consumed None piece new = new ≡ None
Consumed (Some xs) piece new = (rest : List ℕ) × (new ≡ Some rest) × (xs ≡ piece ++ rest)

-- nothing is left, where that is told
abbrev pub IsUsedUp : Option (List ℕ) → Type 0
IsUsedUp None = ⊤
IsUsedUp (Some xs) = xs ≡ []

-- A read puts the first bytes left into the front of the buffer and takes them away.
abbrev pub Reads : Got → List ℕ → Option (List ℕ) → Option (List ℕ) → Type 0
Reads (GotBytes n) buf old new = Consumed old (take n buf) new
Reads GotEnd buf old new = (new ≡ old) × IsUsedUp old
Reads GotFailed buf old new = new ≡ old

-- A read or a write of some bytes is of at least one, and of no more than there is room for.
abbrev pub ReadsWithin : Got → ℕ → Type 0
ReadsWithin (GotBytes n) room = (1 ≤ n) × (n ≤ room)
ReadsWithin GotEnd room = ⊤
ReadsWithin GotFailed room = ⊤

abbrev pub WritesWithin : Put → ℕ → Type 0
WritesWithin (PutBytes n) room = (1 ≤ n) × (n ≤ room)
WritesWithin PutFailed room = ⊤

-- The bytes taken grow by this piece. A sink may stop telling them, and then never tells them again.
abbrev pub Appended : Option (List ℕ) → List ℕ → Option (List ℕ) → Type 0
Appended None piece new = new ≡ None
Appended (Some xs) piece None = ⊤
Appended (Some xs) piece (Some ys) = ys ≡ xs ++ piece

abbrev pub Writes : Put → List ℕ → Option (List ℕ) → Option (List ℕ) → Type 0
Writes (PutBytes n) piece old new = Appended old (take n piece) new
Writes PutFailed piece old new = new ≡ old

-- what a name has, where that is told
abbrev pub IsAllOf : Option (List ℕ) → List ℕ → Type 0
IsAllOf None bytes = ⊤
IsAllOf (Some all) bytes = bytes ≡ all

abbrev pub IsLonger : Option (List ℕ) → ℕ → Type 0
IsLonger None n = ⊤
IsLonger (Some all) n = n < length all
