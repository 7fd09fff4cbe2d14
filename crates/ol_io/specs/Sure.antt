-- A source and a sink in memory that never fail: their states, what each call answers, and the state that it leaves.
use Rattle.std.specs.Prelude.{ℕ, ◌+◌, ◌-◌, ◌==◌, nat_le, ◌&&◌, min, Bool, true, false, Some, unwrap_or}
use Rattle.std.specs.Prelude.{if◌then◌else◌, List, [], ◌∷◌, ◌++◌, length, take, drop, Option, None}
use Rattle.ol_io.specs.Files.{File, contents_of}
use Rattle.ol_io.specs.Outside.{next_count, gave_bytes, at_end, byte_count}
use Rattle.ol_io.specs.Readings.{Reading, begun, after_got}
use Rattle.ol_io.specs.declared.outside.Begun.{Begun}
use Rattle.ol_io.specs.declared.outside.Begun.TheVariants.{Ready as BeginReady}
use Rattle.ol_io.specs.declared.outside.Got.{Got}
use Rattle.ol_io.specs.declared.outside.Got.TheVariants.{Bytes as GotBytes, End as GotEnd}
use Rattle.ol_io.specs.declared.outside.Put.{Put}
use Rattle.ol_io.specs.declared.outside.Put.TheVariants.{Bytes as PutBytes}

-- the bytes of a name: those of its file, and none where no file has it
abbrev pub bytes_of : List File → List ℕ → List ℕ
bytes_of files name = unwrap_or (contents_of files name) []

-- `left` are the bytes left of the name begun last
pub record SureSourceState : Type 0 where
  pub files : List File
  pub left : List ℕ
  pub begins : ℕ
  pub given : ℕ
  pub ready : Bool
  pub ended : Bool
  pub readings : List Reading

-- a source of which no call was made
abbrev pub fresh_sure_source : List File → SureSourceState
fresh_sure_source files = record {
  files = files;
  left = [];
  begins = 0;
  given = 0;
  ready = false;
  ended = false;
  readings = [];
}

-- `begin` begins every name
abbrev pub sure_begin_answer : Begun
sure_begin_answer = BeginReady

-- the state that `begin` leaves: the bytes of the name are the bytes left
abbrev pub after_sure_begin : List ℕ → SureSourceState → SureSourceState
after_sure_begin name s = record s {
  left = bytes_of s.files name;
  begins = next_count s.begins;
  given = 0;
  ready = true;
  ended = false;
  readings = begun name ∷ s.readings;
}

-- `read` gives all bytes that are left and that there is room for, and ends where nothing is left
abbrev pub sure_read_answer : SureSourceState → ℕ → Got
sure_read_answer s room = if length s.left == 0 then GotEnd else GotBytes (min (length s.left) room)

-- the state that `read` leaves: the bytes given are taken away
abbrev pub after_sure_read : Got → SureSourceState → SureSourceState
after_sure_read got s = record s {
  left = drop (byte_count got) s.left;
  given = s.given + byte_count got;
  ready = gave_bytes got;
  ended = at_end got;
  readings = after_got got s.left s.readings;
}

-- `bytes` are the bytes kept, of at most `room`. They are `whole` as long as no byte was taken without being kept.
pub record SureSinkState : Type 0 where
  pub bytes : List ℕ
  pub room : ℕ
  pub whole : Bool

-- a sink to which nothing was written
abbrev pub fresh_sure_sink : ℕ → SureSinkState
fresh_sure_sink room = record { bytes = []; room = room; whole = true }

-- how many bytes it still keeps
abbrev pub keeps : SureSinkState → ℕ
keeps s = s.room - length s.bytes

-- `write` takes the whole piece
abbrev pub sure_write_answer : ℕ → Put
sure_write_answer size = PutBytes size

-- the state that `write` leaves: the whole piece is taken, of which so many bytes are kept as there is room for
abbrev pub after_sure_write : List ℕ → SureSinkState → SureSinkState
after_sure_write piece s = record s {
  bytes = s.bytes ++ take (keeps s) piece;
  whole = s.whole && nat_le (length piece) (keeps s);
}

-- the bytes taken, which are told as long as all of them are kept
abbrev pub told_by : SureSinkState → Option (List ℕ)
told_by s = if s.whole then Some s.bytes else None
