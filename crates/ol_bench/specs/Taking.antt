-- Private: words of private contracts alone: bytes that are taken of a file or of a text, or why there are none.
use Rattle.std.specs.Prelude.{◌≡◌, ℕ, List, ◌∷◌, codes, Result, Ok, Err}
use Rattle.std.specs.declared.vec.Vec.{Vec}
use Rattle.std.specs.declared.alloc.Global.{Global}
use Rattle.ol_io.specs.Readings.{Reading}
use Rattle.ol_io.specs.declared.calls.ReadAll.{ReadAll}
use Rattle.ol_io.specs.declared.calls.ReadAll.TheVariants as read
use Rattle.ol_derivations.specs.declared.grading.Work.{Work}
use Rattle.ol_derivations.specs.declared.grading.Work.TheVariants as work
use Rattle.ol_bench.specs.declared.asked.Given.{Given}
use Rattle.ol_bench.specs.declared.asked.Given.TheVariants as given
use Rattle.ol_bench.specs.declared.asked.Content.{Content}
use Rattle.ol_bench.specs.Inputs.{limit_line}

-- a file is read once, and a text isn't
abbrev pub IsReadOnce : Given → List Reading → List Reading → Type 0
IsReadOnce (given.Name file) old new = (r : Reading) × (new ≡ r ∷ old)
IsReadOnce (given.Text text) old new = new ≡ old

-- the line that says why there are no bytes
abbrev pub IsRefusal : ReadAll → Content → List ℕ → Type 0
IsRefusal read.Fault c text = text ≡ codes "read fault\n"
IsRefusal read.TooLong c text = text ≡ limit_line c
IsRefusal read.NoMemory c text = ⊥

-- what there is of a student's file, by what came of reading it
abbrev pub IsWorkOf : Result (Vec ℕ Global) ReadAll → Work → Type 0
IsWorkOf (Ok bytes) w = w ≡ work.Text bytes
IsWorkOf (Err read.Fault) w = w ≡ work.Unread
IsWorkOf (Err read.TooLong) w = w ≡ work.TooLong
IsWorkOf (Err read.NoMemory) w = ⊥
