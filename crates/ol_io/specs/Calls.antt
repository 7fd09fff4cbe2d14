-- What a whole read and a whole write answer.
use Rattle.std.specs.Prelude.{ℕ, ◌<◌, Bool, true, false, List, take, Result, Ok, Err, ⊤}
use Rattle.std.specs.declared.vec.Vec.{Vec}
use Rattle.std.specs.declared.alloc.Global.{Global}
use Rattle.ol_io.specs.declared.calls.ReadAll.{ReadAll}
use Rattle.ol_io.specs.declared.calls.ReadAll.TheVariants.{Fault as ReadFault, TooLong, NoMemory}
use Rattle.ol_io.specs.declared.calls.Written.{Written}
use Rattle.ol_io.specs.declared.calls.Written.TheVariants.{All as WrittenAll, Fault as WriteFault}

abbrev pub read_all_failed : Result (Vec ℕ Global) ReadAll → Bool
read_all_failed (Ok bytes) = false
read_all_failed (Err ReadFault) = true
read_all_failed (Err TooLong) = false
read_all_failed (Err NoMemory) = false

abbrev pub write_all_failed : Written → Bool
write_all_failed WrittenAll = false
write_all_failed (WriteFault taken) = true

-- what was written of a text: the whole of it, or its first bytes
abbrev pub written : Written → List ℕ → List ℕ
written WrittenAll text = text
written (WriteFault taken) text = take taken text

-- a fault comes before all of a text of this length was taken
abbrev pub FaultsWithin : Written → ℕ → Type 0
FaultsWithin WrittenAll size = ⊤
FaultsWithin (WriteFault taken) size = taken < size
