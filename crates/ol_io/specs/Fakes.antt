-- A source and a sink in memory: their states, what each call answers, and the state that it leaves.
use Rattle.std.specs.Prelude.{ℕ, ◌+◌, ◌-◌, ◌==◌, ◌||◌, min, Bool, true, false, if◌then◌else◌, List}
use Rattle.std.specs.Prelude.{[], ◌∷◌, ◌++◌, length, take, drop, is_none, unwrap_or}
use Rattle.std.specs.List.{list_any}
use Rattle.ol_io.specs.Files.{File, contents_of}
use Rattle.ol_io.specs.Outside.{next_count, byte_count}
use Rattle.ol_io.specs.Readings.{Reading, begun, gave, closed}
use Rattle.ol_io.specs.declared.outside.Begun.{Begun}
use Rattle.ol_io.specs.declared.outside.Begun.TheVariants.{Ready as BeginReady, Failed as BeginFailed}
use Rattle.ol_io.specs.declared.outside.Got.{Got}
use Rattle.ol_io.specs.declared.outside.Got.TheVariants.{Bytes as GotBytes, End as GotEnd, Failed as GotFailed}
use Rattle.ol_io.specs.declared.outside.Put.{Put}
use Rattle.ol_io.specs.declared.outside.Put.TheVariants.{Bytes as PutBytes, Failed as PutFailed}

-- whether the call of this number is to fail
abbrev pub fails_at : List ℕ → ℕ → Bool
fails_at failing call = list_any (λ k. k == call) failing

-- `calls` is the number of the next call, and `left` are the bytes left of the name begun last
pub record SourceState : Type 0 where
  pub files : List File
  pub most : ℕ
  pub failing : List ℕ
  pub calls : ℕ
  pub left : List ℕ
  pub faults : ℕ
  pub begins : ℕ
  pub given : ℕ
  pub ready : Bool
  pub ended : Bool
  pub readings : List Reading

-- a source of which no call was made
abbrev pub fresh_source : List File → ℕ → List ℕ → SourceState
fresh_source files most failing = record {
  files = files;
  most = most;
  failing = failing;
  calls = 0;
  left = [];
  faults = 0;
  begins = 0;
  given = 0;
  ready = false;
  ended = false;
  readings = [];
}

-- `begin` fails at a number in `failing`, and where no file has the name
abbrev pub begin_answer : SourceState → List ℕ → Begun
begin_answer s name =
    if fails_at s.failing s.calls || is_none (contents_of s.files name) then BeginFailed else BeginReady

-- the state that `begin` leaves: `Ready` makes the bytes of the name the bytes left, and `Failed` is counted
abbrev pub after_begin : Begun → List ℕ → SourceState → SourceState
after_begin BeginReady name s = record s {
  calls = next_count s.calls;
  left = unwrap_or (contents_of s.files name) [];
  begins = next_count s.begins;
  given = 0;
  ready = true;
  ended = false;
  readings = begun name ∷ s.readings;
}
after_begin BeginFailed name s = record s {
  calls = next_count s.calls;
  faults = next_count s.faults;
  begins = next_count s.begins;
  given = 0;
  ready = false;
  ended = false;
  readings = begun name ∷ s.readings;
}

-- `read` fails at a number in `failing`, and ends where nothing is left. Else it gives as many bytes as are left,
-- but no more than the source gives at most and than there is room for.
abbrev pub read_answer : SourceState → ℕ → Got
read_answer s room =
    if fails_at s.failing s.calls then GotFailed
    else (if length s.left == 0 then GotEnd else GotBytes (min (length s.left) (min s.most room)))

-- the state that `read` leaves: the bytes given are taken away, and a failure is counted
abbrev pub after_read : Got → SourceState → SourceState
after_read (GotBytes n) s = record s {
  calls = next_count s.calls;
  left = drop n s.left;
  given = s.given + n;
  ready = true;
  ended = false;
  readings = gave (take n s.left) s.readings;
}
after_read GotEnd s = record s {
  calls = next_count s.calls;
  ready = false;
  ended = true;
  readings = closed true s.readings;
}
after_read GotFailed s = record s {
  calls = next_count s.calls;
  faults = next_count s.faults;
  ready = false;
  ended = false;
}

-- the buffer after a read: the bytes given in front, and the rest as it was
abbrev pub buffer_after : Got → List ℕ → List ℕ → List ℕ
buffer_after got left buf = take (byte_count got) left ++ drop (byte_count got) buf

-- `bytes` are the bytes taken, of at most `room`, and `calls` is the number of the next write
pub record SinkState : Type 0 where
  pub bytes : List ℕ
  pub room : ℕ
  pub most : ℕ
  pub failing : List ℕ
  pub calls : ℕ
  pub faults : ℕ

-- a sink to which nothing was written
abbrev pub fresh_sink : ℕ → ℕ → List ℕ → SinkState
fresh_sink room most failing = record {
  bytes = [];
  room = room;
  most = most;
  failing = failing;
  calls = 0;
  faults = 0;
}

abbrev pub room_left : SinkState → ℕ
room_left s = s.room - length s.bytes

-- `write` fails at a number in `failing`, and where no room is left. Else it takes as many bytes as the piece has,
-- but no more than the sink takes at most and than there is room for.
abbrev pub write_answer : SinkState → ℕ → Put
write_answer s size =
    if fails_at s.failing s.calls || (room_left s == 0) then PutFailed
    else PutBytes (min size (min s.most (room_left s)))

-- the state that `write` leaves: the bytes taken are appended, and a failure is counted
abbrev pub after_write : Put → List ℕ → SinkState → SinkState
after_write (PutBytes n) piece s = record s { bytes = s.bytes ++ take n piece; calls = next_count s.calls }
after_write PutFailed piece s = record s { calls = next_count s.calls; faults = next_count s.faults }
