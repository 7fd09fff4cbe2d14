-- What is written of an answer, to which sink, and with which status.
use Rattle.std.specs.Prelude.{◌≡◌, ℕ, ◌<◌, Bool, true, false, List, [], length, take, Option, Some, ◌⊎◌}
use Rattle.ol_io.specs.Outside.{Rose, Appended}
use Rattle.ol_subjects.specs.declared.answers.End.{End}
use Rattle.ol_subjects.specs.declared.answers.End.TheVariants as end
use Rattle.ol_bench.specs.declared.top.Status.{Status}
use Rattle.ol_bench.specs.declared.top.Status.TheVariants as status

-- A sink before a call and after: how many of its calls had failed and now have, and which bytes it
-- had taken and now has, where it tells them.
pub record Change : Type 0 where
  pub faults : ℕ
  pub faults' : ℕ
  pub taken : Option (List ℕ)
  pub taken' : Option (List ℕ)

-- the same, by what a sink tells of itself
abbrev pub change_of : {S : Type 0} → (faults : S → ℕ) → (taken : S → Option (List ℕ)) →
    (old new : S) → Change
change_of faults taken old new = record {
  faults = faults old;
  faults' = faults new;
  taken = taken old;
  taken' = taken new;
}

-- the same of a sink that was never written to before
abbrev pub first_change : (faults' : ℕ) → (taken' : Option (List ℕ)) → Change
first_change faults' taken' = record { faults = 0; faults' = faults'; taken = Some []; taken' = taken' }

-- it was left alone
abbrev pub IsLeft : Change → Type 0
IsLeft s = (s.faults' ≡ s.faults) × (s.taken' ≡ s.taken)

-- it took all of the text
abbrev pub TookAll : List ℕ → Change → Type 0
TookAll text s = (s.faults' ≡ s.faults) × Appended s.taken text s.taken'

-- it took the first bytes of the text, not all of them and maybe none, and failed
abbrev pub TookFront : List ℕ → Change → Type 0
TookFront text s = Rose s.faults s.faults'
    × ((n : ℕ) × (n < length text) × Appended s.taken (take n text) s.taken')

-- The text was told to the sink: all of it, and the result is this status; or a front of it.
abbrev pub Told : List ℕ → (st result : Status) → Change → Type 0
Told text st result s = ((result ≡ st) × TookAll text s)
    ⊎ ((result ≡ status.WriteFault) × TookFront text s)

-- the status of an answer that was written whole
abbrev pub status_of : End → Status
status_of end.Yes = status.Yes
status_of end.No = status.No
status_of end.Nothing = status.No
status_of end.Refused = status.Refused
status_of end.Run = status.Run
status_of end.NotARun = status.NotARun
status_of end.BadText = status.BadText

-- there is something to show, and no file is refused
abbrev pub is_shown : End → Bool
is_shown end.Nothing = false
is_shown end.Refused = false
is_shown _ = true

-- What is shown goes to the sink of answers, and else to that of errors: this holds of the one, and
-- the other was left alone.
abbrev pub GoesTo : Bool → (out errors : Change) → (Change → Type 0) → Type 0
GoesTo true out errors P = P out × IsLeft errors
GoesTo false out errors P = P errors × IsLeft out

-- What is written, and with which status: an answer that has a cause, to the sink to which it goes;
-- or nothing, where memory ran out.
pub data WritesAnswer (Cause : List ℕ → End → Type 0) (out errors : Change) (result : Status)
    : Type 0 where
  told : (text : List ℕ) (e : End) → Cause text e →
      GoesTo (is_shown e) out errors (Told text (status_of e) result) →
      WritesAnswer Cause out errors result
  no_memory : result ≡ status.NoMemory → IsLeft out → IsLeft errors →
      WritesAnswer Cause out errors result
